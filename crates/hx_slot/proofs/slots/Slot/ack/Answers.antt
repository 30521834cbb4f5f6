-- What isn't pending changes nothing; else what is acknowledged from the lowest on is committed.
use Rattle.std.proofs.Common.{◌≡◌, ℕ, List, false, ◌∙◌, ap, drop, length, refl, subst, sym}
use Rattle.std.specs.List.{list_any}
use Rattle.hx_law_folds.specs.Folding.{folded}
use Rattle.hx_model.specs.Slots.{KeyState, is_pending, pending_of, settled, waits_below}
use Rattle.hx_slot.specs.declared.updates.AcceptedUpdate.{AcceptedUpdate}
use Rattle.hx_slot.specs.declared.slots.Slot.TheInside.{Inside}
use Rattle.hx_slot.specs.Acks.{is_of_version, is_waiting_below}
use Rattle.hx_slot.specs.Invariant.{IsSlot, pending_in, seen}
use Rattle.hx_slot.specs.States.{SlotState}
use Rattle.hx_slot.proofs.Lean.{ack-none, ack-settling, ack-waiting, pending-version, seen-bare, waits-seen}
use Rattle.hx_slot.proofs.Settling.{ack-commits, ack-kept, ack-unknown}
use Rattle.hx_slot.proofs.Standing.{stands-ack}
use Rattle.hx_slot.proofs.slots.Slot.ack.Goals as goal

-- what the lists that are read say of the slot
module _ (a : Inside) (h : IsSlot a) (s : SlotState) (view : seen a ≡ s) (pending : List AcceptedUpdate) (read : pending ≡ pending_in a) (v : ℕ) where
  pub pends : is_pending v s.state ≡ list_any (is_of_version v) pending
  pends = sym (ap (λ (x : SlotState). is_pending v x.state) view) ∙ sym (pending-version a h v)
      ∙ sym (ap (λ (ts : List AcceptedUpdate). list_any (is_of_version v) ts) read)

  pub waits : waits_below s.state.acked v (pending_of s.state) ≡ list_any (is_waiting_below v) pending
  waits = sym (ap (λ (x : SlotState). waits_below x.state.acked v (pending_of x.state)) view) ∙ sym (waits-seen a h v)
      ∙ sym (ap (λ (ts : List AcceptedUpdate). list_any (is_waiting_below v) ts) read)

  pub bare : folded s.region s.state ≡ s.state
  bare = subst (λ (x : SlotState). folded x.region x.state ≡ x.state) view (seen-bare a)

none : (c : goal.Then-not-has_update) → is_pending c.args.version.0 c.args.self.now.state ≡ false
none c = pends c.self.inside c.self.invariant c.args.self.now c.self.view_is c.rest_of-pending.result.now
    (c.rest_of-pending.ensures ∙ ap (drop c.self.inside.committed) c.as_slice.ensures.value) c.args.version.0
    ∙ sym c.has_update.ensures ∙ c.if-not-has_update.true

pub returns-then-not-has_update-clause-answer : goal.returns-then-not-has_update-clause-answer
returns-then-not-has_update-clause-answer c = ack-unknown c.args.self.now.state c.args.version.0 (none c)

pub returns-then-not-has_update-clause-state : goal.returns-then-not-has_update-clause-state
returns-then-not-has_update-clause-state c =
    ack-none c.args.self.now.region c.args.self.now.state c.args.version.0
    (bare c.self.inside c.self.invariant c.args.self.now c.self.view_is c.rest_of-pending.result.now
    (c.rest_of-pending.ensures ∙ ap (drop c.self.inside.committed) c.as_slice.ensures.value) c.args.version.0) (none c)

pub returns-then-not-has_update-clause-stands : goal.returns-then-not-has_update-clause-stands
returns-then-not-has_update-clause-stands c = λ s h. stands-ack c.args.self.now.region c.args.self.now.region
    c.args.self.now.state c.args.self.now.state s c.args.version.0 (returns-then-not-has_update-clause-state c) refl h

pub acknowledge-requires : goal.acknowledge-requires
acknowledge-requires c = record {
  pending = pends c.self.inside c.self.invariant c.args.self.now c.self.view_is
      c.rest_of-pending.result.now (c.rest_of-pending.ensures
      ∙ ap (drop c.self.inside.committed) c.as_slice.ensures.value) c.args.version.0 ∙ sym c.has_update.ensures
      ∙ c.if-not-has_update.false;
}

pub returns-then-waits-clause-answer : goal.returns-then-waits-clause-answer
returns-then-waits-clause-answer c = ack-kept c.args.self.now.state c.args.version.0
    (pends c.self.inside c.self.invariant c.args.self.now c.self.view_is c.rest_of-pending.result.now
    (c.rest_of-pending.ensures ∙ ap (drop c.self.inside.committed) c.as_slice.ensures.value) c.args.version.0
    ∙ sym c.has_update.ensures ∙ c.if-not-has_update.false)
    (waits c.self.inside c.self.invariant c.args.self.now c.self.view_is c.rest_of-pending.result.now
    (c.rest_of-pending.ensures ∙ ap (drop c.self.inside.committed) c.as_slice.ensures.value) c.args.version.0
    ∙ sym c.waits_below-waits.ensures ∙ c.if-waits.true)

pub returns-then-waits-clause-state : goal.returns-then-waits-clause-state
returns-then-waits-clause-state c =
    ack-waiting c.args.self.now.region c.args.self.now.state c.acknowledge.new.self.state c.args.version.0
    (bare c.self.inside c.self.invariant c.args.self.now c.self.view_is c.rest_of-pending.result.now
    (c.rest_of-pending.ensures ∙ ap (drop c.self.inside.committed) c.as_slice.ensures.value) c.args.version.0)
    (pends c.self.inside c.self.invariant c.args.self.now c.self.view_is c.rest_of-pending.result.now
    (c.rest_of-pending.ensures ∙ ap (drop c.self.inside.committed) c.as_slice.ensures.value) c.args.version.0
    ∙ sym c.has_update.ensures ∙ c.if-not-has_update.false)
    (waits c.self.inside c.self.invariant c.args.self.now c.self.view_is c.rest_of-pending.result.now
    (c.rest_of-pending.ensures ∙ ap (drop c.self.inside.committed) c.as_slice.ensures.value) c.args.version.0
    ∙ sym c.waits_below-waits.ensures ∙ c.if-waits.true) c.acknowledge.ensures.state

pub returns-then-waits-clause-stands : goal.returns-then-waits-clause-stands
returns-then-waits-clause-stands c = λ s h. stands-ack c.args.self.now.region c.acknowledge.new.self.region
    c.args.self.now.state c.acknowledge.new.self.state s c.args.version.0
    (returns-then-waits-clause-state c) c.acknowledge.ensures.region h

pub returns-clause-answer : goal.returns-clause-answer
returns-clause-answer c =
    ack-commits c.args.self.now.state c.args.version.0 c.settle.result
    (pends c.self.inside c.self.invariant c.args.self.now c.self.view_is c.rest_of-pending.result.now
    (c.rest_of-pending.ensures ∙ ap (drop c.self.inside.committed) c.as_slice.ensures.value) c.args.version.0
    ∙ sym c.has_update.ensures ∙ c.if-not-has_update.false)
    (waits c.self.inside c.self.invariant c.args.self.now c.self.view_is c.rest_of-pending.result.now
    (c.rest_of-pending.ensures ∙ ap (drop c.self.inside.committed) c.as_slice.ensures.value) c.args.version.0
    ∙ sym c.waits_below-waits.ensures ∙ c.if-waits.false)
    (c.settle.ensures.count ∙ ap (λ (x : KeyState). length (settled x)) c.acknowledge.ensures.state)

pub returns-clause-state : goal.returns-clause-state
returns-clause-state c =
    ack-settling c.args.self.now.region c.acknowledge.new.self.region c.args.self.now.state
    c.acknowledge.new.self.state c.settle.new.self.state c.args.version.0
    (pends c.self.inside c.self.invariant c.args.self.now c.self.view_is c.rest_of-pending.result.now
    (c.rest_of-pending.ensures ∙ ap (drop c.self.inside.committed) c.as_slice.ensures.value) c.args.version.0
    ∙ sym c.has_update.ensures ∙ c.if-not-has_update.false)
    (waits c.self.inside c.self.invariant c.args.self.now c.self.view_is c.rest_of-pending.result.now
    (c.rest_of-pending.ensures ∙ ap (drop c.self.inside.committed) c.as_slice.ensures.value) c.args.version.0
    ∙ sym c.waits_below-waits.ensures ∙ c.if-waits.false) c.acknowledge.ensures.state c.acknowledge.ensures.region
    c.settle.ensures.state

pub returns-clause-stands : goal.returns-clause-stands
returns-clause-stands c = λ s h. stands-ack c.args.self.now.region c.settle.new.self.region c.args.self.now.state
    c.settle.new.self.state s c.args.version.0 (returns-clause-state c) (c.settle.ensures.region ∙ c.acknowledge.ensures.region) h
