use Rattle.std.proofs.Common.{sym, ◌∙◌}
use Rattle.std.proofs.lemmas.Bool.{false≢true}
use Rattle.hx_audit.specs.Finished.{finished_view}
use Rattle.hx_audit.proofs.Unique.{row_cut, true_row}
use Rattle.hx_audit.proofs.rows.is_true_row.Goals as goal

pub returns-then-not-matches : goal.returns-then-not-matches
returns-then-not-matches c = (
  λ t. absurd (false≢true t),
  λ h. absurd (false≢true (sym (sym c.matches.ensures ∙ c.if-not-matches.true) ∙ h.match)),
)

pub returns : goal.returns
returns c = (
  λ t. true_row c.args.block.now (finished_view c.args.search.now) c.args.row.now (sym c.matches.ensures ∙ c.if-not-matches.false) (c.has_change.ensures.0 t),
  λ h. c.has_change.ensures.1 (row_cut c.args.block.now (finished_view c.args.search.now) c.args.row.now h),
)
