use Rattle.std.proofs.Common.{sym, ◌∙◌}
use Rattle.std.proofs.lemmas.Result.{err_from_is_err_and}
use Rattle.hx_script.specs.Values.{all_terms}
use Rattle.hx_script.proofs.Asking.{terms_stop}
use Rattle.hx_script.proofs.values.all_terms.Goals as goal

pub returns-in_err-term : goal.returns-in_err-term
returns-in_err-term c =
    let p = err_from_is_err_and c.from_residual.result c.from_residual.ensures.1 in
    rw (p.1, p.2) (terms_stop c.in_err-term.field-0.0 c.args.space.now c.terms.terms c.terms.line
    (all_terms c.args.space.now c.args.line.now) (sym c.is_at.ensures ∙ c.terms-test.true) c.in_err-term.ensures
    c.terms.invariant)
