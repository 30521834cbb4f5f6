-- The ports of a driver, what was put under them, and the envelopes that are kept.
use Rattle.std.specs.Prelude.{ℕ, ◌≡◌, ◌+◌, ◌^◌, ◌<◌, List, [], ◌∷◌, map, length, Some, None}
use Rattle.std.specs.List.{AllByRecursion}
use mathlib.Core.List.{IsPrefix}
use Rattle.atomic_table.specs.Seated.{TableId}
use Rattle.hx_types.specs.declared.traces.Script.{Script}
use Rattle.hx_types.specs.Posts.{IsSoundPost}
use Rattle.hx_clock.specs.Views.{total}
use Rattle.hx_mail.specs.declared.envelopes.Envelope.{Envelope}
use Rattle.hx_mail.specs.declared.views.Mailed.{Mailed}
use Rattle.hx_mail.specs.declared.views.PortLists.{PortLists}
use Rattle.hx_mail.specs.Boxes.{Boxed, Ported, IsPortOf}
use Rattle.hx_mail.specs.Ports.{lists_of, mailed_of, port}
use Rattle.hx_outbox.specs.declared.outboxes.Outbox.{Outbox}
use Rattle.hx_outbox.specs.Zipped.{Both}

abbrev pub put_first : List PortLists → List Mailed
put_first [] = []
put_first (b ∷ rest) = b.put

-- what was put under the name of a port that carries one name
abbrev pub outs_of : Ported → List Mailed
outs_of p = put_first p.view.lists

-- the port of driver j at this box, under which nothing was taken
pub record IsOutPort (j : ℕ) (box : Boxed) (p : Ported) : Type 0 where
  pub of : IsPortOf box p
  pub view : p.view ≡ port (j + 1) (Some box.names) (lists_of (j + 1) (outs_of p) [] ∷ []) None
  pub addressed : AllByRecursion (λ m. m.post.to ≡ box.names.owner) (outs_of p)

-- h of all that was put
abbrev pub out_weight : (Mailed → ℕ) → List Ported → ℕ
out_weight h ports = total (λ p. total h (outs_of p)) ports

-- h of all that is kept
abbrev pub kept_weight : (Mailed → ℕ) → List Envelope → ℕ
kept_weight h kept = total (λ e. h (mailed_of e)) kept

abbrev pub counts_of : List Ported → List ℕ
counts_of ports = map (λ p. length (outs_of p)) ports

-- a port for each box, and how many envelopes were put under each
pub record IsOutbox (boxes : List Boxed) (o : Outbox) : Type 0 where
  pub ports : Both (IsOutPort o.index) boxes o.ports.items
  pub counted : o.sent.items ≡ counts_of o.ports.items

-- the envelope's pass is of the clock, and its post is sound for the script
abbrev pub IsGood : Script → TableId → Envelope → Type 0
IsGood script clock e = (e.pass.clock ≡ clock) × IsSoundPost script.space (length script.sessions) e.id.entry e.post

abbrev pub AreGood : Script → TableId → List Envelope → Type 0
AreGood script clock kept = AllByRecursion (IsGood script clock) kept

-- the same ports later: what was put is a prefix of what is put now
abbrev pub MorePut : List Ported → List Ported → Type 0
MorePut old new = Both (λ p q. IsPrefix (outs_of p) (outs_of q)) old new

-- so few envelopes were put that they can be counted
abbrev pub AreFew : List Ported → Type 0
AreFew ports = out_weight (λ m. 1) ports < 2 ^ 63
