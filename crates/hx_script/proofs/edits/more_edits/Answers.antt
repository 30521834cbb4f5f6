use Rattle.std.proofs.Common.{sym, ◌∙◌}
use Rattle.std.proofs.lemmas.Result.{err_from_is_err_and}
use Rattle.hx_script.specs.declared.line.Until.TheVariants as until
use Rattle.hx_script.specs.Readers.{repeat}
use Rattle.hx_script.specs.Edits.{one_more_edit}
use Rattle.hx_script.proofs.Editing.{edits_stop}
use Rattle.hx_script.proofs.edits.more_edits.Goals as goal

pub returns-in_err-edit : goal.returns-in_err-edit
returns-in_err-edit c =
    let p = err_from_is_err_and c.from_residual.result c.from_residual.ensures.1 in
    rw (p.1, p.2)
    (edits_stop
    c.in_err-edit.field-0.0
    c.args.space.now
    c.edits.edits
    c.edits.line
    (repeat until.End (one_more_edit c.args.space.now) c.args.edits.now c.args.line.now)
    (sym c.is_at.ensures ∙ c.edits-test.true)
    c.in_err-edit.ensures
    c.edits.invariant)
