-- The lowest acknowledged updates are committed, if there are any.
use Rattle.std.proofs.Common.{◌≡◌, ◌∙◌, ap, arith, drop, length, refl, subst, sym}
use Rattle.hx_model.specs.Slots.{settled}
use Rattle.hx_law_folds.specs.Folding.{folded}
use Rattle.hx_slot.specs.Acks.{front_acked}
use Rattle.hx_slot.specs.States.{SlotState}
use Rattle.hx_slot.proofs.Lean.{nothing-settled, seen-bare, settled-count}
use Rattle.hx_slot.proofs.Standing.{stands-settle}
use Rattle.hx_slot.proofs.slots.Slot.settle.Goals as goal

pub returns-then-self-count-eq0-clause-count : goal.returns-then-self-count-eq0-clause-count
returns-then-self-count-eq0-clause-count c =
    let a = c.self.inside in
    let rest = c.rest_of-pending.ensures ∙ ap (drop a.committed) c.as_slice.ensures.value in
    let is = c.acknowledged_front-count.ensures.front ∙ ap front_acked rest ∙ sym (settled-count a c.self.invariant)
    ∙ ap (λ (s : SlotState). length (settled s.state)) c.self.view_is in
    let none = c.if-self-count-eq0.true in
    omega (arith, is, none)

pub returns-then-self-count-eq0-clause-state : goal.returns-then-self-count-eq0-clause-state
returns-then-self-count-eq0-clause-state c =
    let a = c.self.inside in
    let rest = c.rest_of-pending.ensures ∙ ap (drop a.committed) c.as_slice.ensures.value in
    let is = c.acknowledged_front-count.ensures.front ∙ ap front_acked rest ∙ sym (settled-count a c.self.invariant)
    ∙ ap (λ (s : SlotState). length (settled s.state)) c.self.view_is in
    let none = c.if-self-count-eq0.true in
    nothing-settled c.args.self.now.region c.args.self.now.state
    (subst (λ (s : SlotState). folded s.region s.state ≡ s.state) c.self.view_is (seen-bare a)) (omega (arith, is, none))

pub returns-then-self-count-eq0-clause-stands : goal.returns-then-self-count-eq0-clause-stands
returns-then-self-count-eq0-clause-stands c = λ s h. stands-settle c.args.self.now.region _ c.args.self.now.state _ s
    (returns-then-self-count-eq0-clause-state c) refl h

pub commit-requires : goal.commit-requires
commit-requires c =
    let a = c.self.inside in
    let rest = c.rest_of-pending.ensures ∙ ap (drop a.committed) c.as_slice.ensures.value in
    c.acknowledged_front-count.ensures.front ∙ ap front_acked rest ∙ sym (settled-count a c.self.invariant)
    ∙ ap (λ (s : SlotState). length (settled s.state)) c.self.view_is

pub returns-clause-count : goal.returns-clause-count
returns-clause-count c =
    let a = c.self.inside in
    let rest = c.rest_of-pending.ensures ∙ ap (drop a.committed) c.as_slice.ensures.value in
    c.acknowledged_front-count.ensures.front ∙ ap front_acked rest ∙ sym (settled-count a c.self.invariant)
    ∙ ap (λ (s : SlotState). length (settled s.state)) c.self.view_is

pub returns-clause-stands : goal.returns-clause-stands
returns-clause-stands c = λ s h. stands-settle c.args.self.now.region _ c.args.self.now.state _ s c.commit.ensures.state c.commit.ensures.region h
