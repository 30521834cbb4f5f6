-- The pending updates that are marked are those of the acknowledged versions.
use Rattle.std.proofs.Common.{ℕ, List, ◌∙◌, ap, drop, eqb}
use Rattle.std.specs.List.{list_any}
use Rattle.hx_slot.specs.declared.updates.AcceptedUpdate.{AcceptedUpdate}
use Rattle.hx_slot.specs.Acks.{is_acknowledged_as}
use Rattle.hx_slot.specs.Invariant.{pending_in}
use Rattle.hx_slot.specs.States.{SlotState}
use Rattle.hx_slot.proofs.Acking.{acknowledged-any}
use Rattle.hx_slot.proofs.slots.Slot.is_acknowledged.Goals as goal

pub returns : goal.returns
returns c =
    let a = c.self.inside in
    let v = c.args.version.0 in
    c.is_acknowledged.ensures
    ∙ ap (λ (ts : List AcceptedUpdate). list_any (is_acknowledged_as v) ts) (c.rest_of-pending.ensures ∙ ap (drop a.committed) c.as_slice.ensures.value)
    ∙ acknowledged-any v (pending_in a) a.acked.versions c.self.invariant.acked
    ∙ ap (λ (s : SlotState). list_any (λ (w : ℕ). eqb w v) s.state.acked) c.self.view_is
