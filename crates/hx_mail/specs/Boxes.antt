-- How contracts see boxes and ports.
use Rattle.std.specs.Prelude.{ℕ, ◌≡◌, Some}
use Rattle.atomic_table.specs.Seated.{TableId}
use Rattle.hx_types.specs.Posts.{IsSoundPost}
use Rattle.hx_mail.specs.declared.envelopes.Envelope.{Envelope}
use Rattle.hx_mail.specs.declared.envelopes.Letter.{Letter}
use Rattle.hx_mail.specs.declared.views.BoxNames.{BoxNames}
use Rattle.hx_mail.specs.declared.views.PortView.{PortView}

-- a box: its name, which no other box has, how much it holds at most, and whose it is
pub record Boxed : Type 0 where
  pub queue : TableId
  pub capacity : ℕ
  pub names : BoxNames

-- a port: the name of its box, and what it knows
pub record Ported : Type 0 where
  pub queue : TableId
  pub view : PortView

-- it is a port of this box
abbrev pub IsPortOf : Boxed → Ported → Type 0
IsPortOf box p = (p.queue ≡ box.queue) × (p.view.of_box ≡ Some box.names)

-- the envelope's pass is of the box's clock, and its post is addressed to the owner and sound
pub record IsAddressed (n : BoxNames) (e : Envelope) : Type 0 where
  pub clock : e.pass.clock ≡ n.clock
  pub owner : e.post.to ≡ n.owner
  pub sound : IsSoundPost n.space n.sessions e.id.entry e.post

abbrev pub IsFor : BoxNames → Letter → Type 0
IsFor n l = IsAddressed n l.envelope
