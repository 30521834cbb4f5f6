use Rattle.std.proofs.Common.{sym, ◌∙◌}
use Rattle.std.proofs.lemmas.Result.{err_from_is_err_and}
use Rattle.hx_script.specs.Axes.{more_axes}
use Rattle.hx_script.proofs.MoreAxes.{axes_stop}
use Rattle.hx_script.proofs.axes.more_axes.Goals as goal

pub returns-in_err-next_axis-clause-reads : goal.returns-in_err-next_axis-clause-reads
returns-in_err-next_axis-clause-reads c =
    let p = err_from_is_err_and c.from_residual.result c.from_residual.ensures.1 in
    rw (p.1, p.2) (axes_stop c.in_err-next_axis.field-0.0 c.args.space.now c.args.regions c.axes.draft c.axes.line
    (more_axes c.args.space.now c.args.regions c.args.draft.now c.args.line.now)
    (sym c.is_at.ensures ∙ c.axes-test.true) c.in_err-next_axis.ensures.reads c.axes.invariant.so_far)
