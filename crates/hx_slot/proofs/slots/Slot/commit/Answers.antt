-- The lowest acknowledged updates are committed.
use Rattle.std.proofs.Common.{◌≤◌, List, ◌∙◌, ap, arith, drop, length, sym, take}
use Rattle.std.proofs.lemmas.List.{length-drop, length-take}
use Rattle.hx_model.specs.Slots.{moved_all, settled}
use Rattle.hx_law_folds.specs.Folding.{folded}
use Rattle.hx_slot.specs.declared.updates.AcceptedUpdate.{AcceptedUpdate}
use Rattle.hx_slot.specs.Invariant.{pending_in}
use Rattle.hx_slot.specs.Updates.{last_version}
use Rattle.hx_slot.specs.States.{SlotState}
use Rattle.hx_slot.proofs.Lean.{settled-count, settled-state}
use Rattle.hx_slot.proofs.Settling.{front-within, settled-slot}
use Rattle.hx_slot.proofs.slots.Slot.commit.Goals as goal

pub invariant_of-self : goal.invariant_of-self
invariant_of-self c =
    let a = c.self.inside in
    let n = c.args.count in
    let rest = c.rest_of-pending.ensures ∙ ap (drop a.committed) c.as_slice.ensures.value in
    settled-slot a n c.last_version-self-inside.result c.above-self-inside.result c.self.invariant
    (let l = front-within (pending_in a) in let e =
    c.requires ∙ ap (λ (s : SlotState). length (settled s.state)) (sym c.self.view_is)
    ∙ settled-count a c.self.invariant in omega (arith, l, e))
    (c.last_version-self-inside.ensures ∙ ap (λ (ts : List AcceptedUpdate). last_version a.floor.0 (take n ts)) rest)
    c.above-self-inside.ensures

pub slice_bounds-last_version-end : goal.slice_bounds-last_version-end
slice_bounds-last_version-end c =
    let a = c.self.inside in
    let rest = ap length (c.rest_of-pending.ensures ∙ ap (drop a.committed) c.as_slice.ensures.value) in
    let l = front-within (pending_in a) in
    let e = c.requires ∙ ap (λ (s : SlotState). length (settled s.state)) (sym c.self.view_is) ∙ settled-count a c.self.invariant in
    let within : c.args.count ≤ length c.rest_of-pending.result.now = omega (arith, rest, l, e) in
    omega (arith, within, length-take c.args.count c.rest_of-pending.result.now)

pub overflow_add-self : goal.overflow_add-self
overflow_add-self c =
    let a = c.self.inside in
    let size = length-drop a.committed a.accepted.items in
    let within = c.self.invariant.line.within in
    let ok = a.accepted.ok in
    let few = c.self.invariant.room.few in
    let l = front-within (pending_in a) in
    let e = c.requires ∙ ap (λ (s : SlotState). length (settled s.state)) (sym c.self.view_is) ∙ settled-count a c.self.invariant in
    omega (arith, size, within, ok.0, few, l, e)

pub returns-clause-state : goal.returns-clause-state
returns-clause-state c =
    let a = c.self.inside in
    let n = c.args.count in
    let rest = c.rest_of-pending.ensures ∙ ap (drop a.committed) c.as_slice.ensures.value in
    c.fold.ensures.state
    ∙ settled-state a n c.last_version-self-inside.result c.above-self-inside.result c.self.invariant
    (c.requires ∙ ap (λ (s : SlotState). length (settled s.state)) (sym c.self.view_is) ∙ settled-count a c.self.invariant)
    (c.last_version-self-inside.ensures ∙ ap (λ (ts : List AcceptedUpdate). last_version a.floor.0 (take n ts)) rest)
    c.above-self-inside.ensures
    ∙ ap (λ (s : SlotState). folded s.region (moved_all (settled s.state) s.state)) c.self.view_is
