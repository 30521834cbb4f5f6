-- What is said of posts and envelopes on a floor.
use Rattle.std.specs.Prelude.{ℕ, List, length}
use Rattle.hx_types.specs.declared.messages.Post.{Post}
use Rattle.hx_types.specs.Posts.{IsSoundPost}
use Rattle.hx_mail.specs.declared.envelopes.Envelope.{Envelope}
use Rattle.hx_outbox.specs.declared.floors.Floor.{Floor}
use Rattle.hx_outbox.specs.Outboxes.{AreGood, IsGood}

-- the post of an entry is sound for the floor's script
abbrev pub IsSoundOn : {R G : Type 0} → Floor R G → ℕ → Post → Type 0
IsSoundOn floor entry post = IsSoundPost floor.script.now.space (length floor.script.now.sessions) entry post

-- the envelope's pass is of the floor's clock, and its post is sound for the floor's script
abbrev pub IsGoodOn : {R G : Type 0} → Floor R G → Envelope → Type 0
IsGoodOn floor e = IsGood floor.script.now floor.clock.now e

abbrev pub AreGoodOn : {R G : Type 0} → Floor R G → List Envelope → Type 0
AreGoodOn floor kept = AreGood floor.script.now floor.clock.now kept
