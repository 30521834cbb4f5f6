-- The last update of those that are left decides, or leaves it to those before it.
use Rattle.std.proofs.Common.{◌∙◌, ap, sym}
use Rattle.hx_model.specs.Types.{Update}
use Rattle.hx_slot.proofs.Rows.{removed, is_set, is_left}
use Rattle.hx_slot.proofs.line.row_over.Goals as goal

pub returns-then-not-taken : goal.returns-then-not-taken
returns-then-not-taken c = removed _ _ _ _ c.in-Some.ensures.cases.0 c.if-not-taken.true ∙ c.loop-taken.invariant

pub returns-then-deref : goal.returns-then-deref
returns-then-deref c = c.row_of.ensures ∙ is_set _ _ _ _ c.in-Some.ensures.cases.0 c.if-not-taken.false
    (sym (ap (λ (u : Update). u.changes) c.deref.ensures) ∙ c.if-deref.true) ∙ c.loop-taken.invariant

pub loop-taken-preserved : goal.loop-taken-preserved
loop-taken-preserved c = is_left _ _ _ _ c.in-Some.ensures.cases.0 c.if-not-taken.false
    (sym (ap (λ (u : Update). u.changes) c.deref.ensures) ∙ c.if-deref.false) ∙ c.loop-taken.invariant
