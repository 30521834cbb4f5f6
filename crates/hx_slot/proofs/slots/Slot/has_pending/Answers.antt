use Rattle.std.proofs.Common.{◌≡◌, ◌-◌, ℕ, ◌∙◌, ap, arith, length, nat_lt, subst}
use Rattle.std.proofs.lemmas.Bool.Decides.{nat_tests}
use Rattle.hx_law_folds.specs.Folding.{IsSlotOf}
use Rattle.hx_law_folds.proofs.Lemmas.{slot-folded}
use Rattle.hx_model.specs.Slots.{pending_of}
use Rattle.hx_slot.specs.States.{SlotState}
use Rattle.hx_slot.proofs.Lean.{count-seen, slot-whole}
use Rattle.hx_slot.proofs.slots.Slot.has_pending.Goals as goal

more : (a b : ℕ) → nat_lt a b ≡ nat_lt 0 (b - a)
more a b = grind (arith, nat_tests)

pub returns-clause-pending : goal.returns-clause-pending
returns-clause-pending c =
    let is = count-seen c.self.inside c.self.invariant in
    subst (λ (s : SlotState). nat_lt c.self.inside.committed c.len.result ≡ nat_lt 0 (length (pending_of s.state))) c.self.view_is
    (more c.self.inside.committed c.len.result ∙ ap (nat_lt 0) (omega (arith, is)))

pub returns-clause-slot : goal.returns-clause-slot
returns-clause-slot c =
    subst (λ (s : SlotState). IsSlotOf s.region s.state) c.self.view_is
    (slot-folded c.self.inside.region _ (slot-whole c.self.inside c.self.invariant))
