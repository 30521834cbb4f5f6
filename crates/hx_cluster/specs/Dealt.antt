-- The outboxes and the desks of drivers while they are dealt out, box by box.
use Rattle.std.specs.Prelude.{ℕ, ◌≡◌, List, [], map, slice_get, Some}
use Rattle.std.specs.List.{AllByRecursion}
use Rattle.atomic_table.specs.Seated.{TableId}
use Rattle.hx_types.specs.declared.traces.Script.{Script}
use Rattle.hx_mail.specs.Boxes.{Boxed, Ported}
use Rattle.hx_outbox.specs.declared.outboxes.Outbox.{Outbox}
use Rattle.hx_outbox.specs.Outboxes.{IsOutbox, outs_of}
use Rattle.hx_driver.specs.declared.desks.Desk.{Desk}
use Rattle.hx_driver.specs.Desks.{IsWholeDesk}
use Rattle.hx_cluster.specs.Actors.{first_dealt}

-- what holds of each item with its place
abbrev pub AtEach : {A : Type 0} → (ℕ → A → Type 0) → List A → Type 0
AtEach {A} P xs = (i : ℕ) (x : A) → slice_get xs i ≡ Some x → P i x

-- the ports of driver i at these boxes, under which nothing was put
pub record IsNewOutbox (boxes : List Boxed) (i : ℕ) (o : Outbox) : Type 0 where
  pub index : o.index ≡ i
  pub outbox : IsOutbox boxes o
  pub new : AllByRecursion (λ (p : Ported). outs_of p ≡ []) o.ports.items

-- an actor that has made no entry
pub record IsNewDesk (script : Script) (clock : TableId) (boxes : List Boxed) (w : ℕ) (d : Desk) : Type 0 where
  pub whole : IsWholeDesk script clock boxes w d
  pub part : d.part.items ≡ []
  pub kept : d.kept.items ≡ []

-- the desks of those of the first k actors that belong to driver i
pub record AreNewDesks (script : Script) (clock : TableId) (boxes : List Boxed) (w k i : ℕ) (desks : List Desk) : Type 0 where
  pub each : AllByRecursion (IsNewDesk script clock boxes w) desks
  pub actors : map (λ (d : Desk). d.actor) desks ≡ first_dealt script.space w i k
