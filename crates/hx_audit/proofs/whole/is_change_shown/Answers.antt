use Rattle.std.proofs.Common.{not, ap, sym, ◌∙◌}
use Rattle.std.proofs.lemmas.Bool.{false≢true}
use Rattle.hx_audit.proofs.whole.is_change_shown.Goals as goal

pub returns-then-not-is_before : goal.returns-then-not-is_before
returns-then-not-is_before c = (
  λ t late. absurd (false≢true (sym c.if-not-is_before.true ∙ c.is_before.ensures ∙ late)),
  λ h. ap not c.if-not-is_before.true,
)

pub returns-else-not-is_before : goal.returns-else-not-is_before
returns-else-not-is_before c = (
  λ t late. c.is_shown.ensures.0 t,
  λ h. c.is_shown.ensures.1 (h (sym c.is_before.ensures ∙ c.if-not-is_before.false)),
)
