use Rattle.std.proofs.Common.{sym, ◌∙◌}
use Rattle.std.proofs.lemmas.Result.{err_from_is_err_and}
use Rattle.hx_script.specs.Values.{more_assigns}
use Rattle.hx_script.proofs.Assigning.{assigns_stop}
use Rattle.hx_script.proofs.values.more_assigns.Goals as goal

pub returns-in_err-assign : goal.returns-in_err-assign
returns-in_err-assign c =
    let p = err_from_is_err_and c.from_residual.result c.from_residual.ensures.1 in
    rw (p.1, p.2) (assigns_stop c.in_err-assign.field-0.0 c.args.space.now c.args.until c.assigns.assigns
    c.assigns.line (more_assigns c.args.space.now c.args.until c.args.assigns.now c.args.line.now)
    (sym c.is_at.ensures ∙ c.assigns-test.true) c.in_err-assign.ensures c.assigns.invariant)
