-- The pending update of the version is marked, and the version is the newest acknowledged one.
use Rattle.std.proofs.Common.{◌+◌, ◌∙◌, ap, drop, refl, sym, true}
use Rattle.std.specs.List.{position}
use Rattle.std.specs.Vec.{with_item}
use Rattle.std.proofs.lemmas.Bool.{false≢true}
use Rattle.hx_model.specs.Slots.{Acknowledge, is_pending, moved}
use Rattle.hx_slot.specs.Acks.{is_of_version}
use Rattle.hx_slot.specs.Invariant.{seen}
use Rattle.hx_slot.specs.States.{SlotState}
use Rattle.hx_slot.proofs.Lean.{acknowledged-state, pending-version}
use Rattle.hx_slot.proofs.Acking.{none-pending, with_ack}
use Rattle.hx_slot.proofs.Settling.{acknowledged-slot, read-at}
use Rattle.hx_slot.proofs.Standing.{stands-mark}
use Rattle.hx_slot.proofs.slots.Slot.acknowledge.Goals as goal

pub unreachable-requires : goal.unreachable-requires
unreachable-requires c =
    let a = c.self.inside in
    let v = c.args.version.0 in
    let rest = c.rest_of-pending.ensures ∙ ap (drop a.committed) c.as_slice.ensures.value in
    let none = none-pending v (drop a.committed a.accepted.items) (sym (c.in_default.ensures ∙ ap (position (is_of_version v)) rest)) in
    let is = pending-version a c.self.invariant v ∙ ap (λ (s : SlotState). is_pending v s.state) c.self.view_is in
    false≢true (sym none ∙ is ∙ c.requires.pending)

pub invariant_of-self : goal.invariant_of-self
invariant_of-self c =
    let a = c.self.inside in
    let v = c.args.version.0 in
    let t = c.index_mut.result.now in
    let rest = c.rest_of-pending.ensures ∙ ap (drop a.committed) c.as_slice.ensures.value in
    let at = read-at a v c.in-Some.place t (sym (c.in-Some.ensures ∙ ap (position (is_of_version v)) rest)) c.index_mut.ensures.value in
    acknowledged-slot a c.in-Some.place t _ c.with-self-inside.result c.self.invariant at.within at.read refl refl refl
    (c.with-self-inside.ensures ∙ ap (λ k. with_ack k a.acked.versions) (sym at.version))

pub returns-clause-state : goal.returns-clause-state
returns-clause-state c =
    let a = c.self.inside in
    let v = c.args.version.0 in
    let t = c.index_mut.result.now in
    let rest = c.rest_of-pending.ensures ∙ ap (drop a.committed) c.as_slice.ensures.value in
    let at = read-at a v c.in-Some.place t (sym (c.in-Some.ensures ∙ ap (position (is_of_version v)) rest)) c.index_mut.ensures.value in
    acknowledged-state a c.in-Some.place t (with_item a.accepted (a.committed + c.in-Some.place)
    (record t { acknowledged = true })) c.with-self-inside.result at.within at.read refl
    (c.with-self-inside.ensures ∙ ap (λ k. with_ack k a.acked.versions) (sym at.version))
    ∙ ap (λ k. moved (Acknowledge k) (seen a).state) at.version
    ∙ ap (λ (s : SlotState). moved (Acknowledge v) s.state) c.self.view_is

pub returns-clause-stands : goal.returns-clause-stands
returns-clause-stands c = λ s h. stands-mark c.args.self.now.region _ c.args.self.now.state _ s c.args.version.0
    (returns-clause-state c) (ap (λ (x : SlotState). x.region) c.self.view_is) h
