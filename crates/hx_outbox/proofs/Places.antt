-- The boxes of actors.
use Rattle.std.proofs.Common.{◌≡◌, ℕ, ◌+◌, ◌<◌, List, length, slice_index_or, refl, sym, subst, arith}
use Rattle.atomic_table.specs.Seated.{TableId}
use Rattle.hx_types.specs.declared.ids.Actor.{Actor}
use Rattle.hx_types.specs.declared.ids.Actor.TheVariants.{Coordinator, Server, Session}
use Rattle.hx_types.specs.declared.spaces.Space.{Space}
use Rattle.hx_types.specs.declared.traces.Script.{Script}
use Rattle.hx_types.specs.Posts.{ActorExists}
use Rattle.hx_mail.specs.declared.envelopes.Envelope.{Envelope}
use Rattle.hx_mail.specs.declared.views.BoxNames.{BoxNames}
use Rattle.hx_mail.specs.Boxes.{Boxed, IsAddressed}
use Rattle.hx_outbox.specs.Places.{place_of, AreBoxes, Exists}
use Rattle.hx_outbox.specs.Outboxes.{IsGood}

-- whether an actor exists doesn't depend on a bound of numbers
pub exists-any : (space : Space) (sessions m n : ℕ) (a : Actor)
    → ActorExists (record { space = space; sessions = sessions; most = m }) a
    → ActorExists (record { space = space; sessions = sessions; most = n }) a
exists-any space sessions m n Coordinator h = tt
exists-any space sessions m n (Server s) h = h
exists-any space sessions m n (Session u) h = h

pub place-below : (script : Script) (a : Actor) → Exists script a → place_of script.space a < 1 + script.space.servers + length script.sessions
place-below script Coordinator h = omega arith
place-below script (Server s) h = let a = h.1 in omega (arith, a)
place-below script (Session u) h = let a = h.1 in omega (arith, a)

pub good-exists : (script : Script) (clock : TableId) (e : Envelope) → IsGood script clock e → Exists script e.post.to
good-exists script clock e h = exists-any script.space (length script.sessions) (e.id.entry + 1) 0 e.post.to h.1.to

pub good-below : (script : Script) (clock : TableId) (boxes : List Boxed) (e : Envelope) → AreBoxes script clock boxes
    → IsGood script clock e → place_of script.space e.post.to < length boxes
good-below script clock boxes e h g = let a = place-below script e.post.to (good-exists script clock e g) in let b = h.count in omega (arith, a, b)

pub good-addressed : (script : Script) (clock : TableId) (boxes : List Boxed) (e : Envelope) (box : Boxed)
    → AreBoxes script clock boxes → IsGood script clock e
    → box ≡ slice_index_or boxes (place_of script.space e.post.to) box → IsAddressed box.names e
good-addressed script clock boxes e box h g at =
    subst (λ (n : BoxNames). IsAddressed n e) (sym (h.each e.post.to (good-exists script clock e g) box at)) (record { clock = g.0; owner = refl; sound = g.1 })
