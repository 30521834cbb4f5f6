use Rattle.std.proofs.Common.{ℕ, Result, Err, sym, ◌∙◌, subst, arith}
use Rattle.std.proofs.lemmas.Result.{err_from_is_err_and}
use Rattle.hx_script.specs.declared.errors.ScriptError.{ScriptError}
use Rattle.hx_script.specs.BundleTexts.{TextAnswers}
use Rattle.hx_script.proofs.BundleLines.{version_found, version_passed, version_stop}
use Rattle.hx_script.proofs.bundle_reading.version.Goals as goal

pub returns-in_err-version : goal.returns-in_err-version
returns-in_err-version c =
    let p = err_from_is_err_and c.from_residual.result c.from_residual.ensures.1 in
    rw (p.1, p.2) (subst (λ (r : Result ℕ ScriptError). TextAnswers {A = ℕ} (Err c.in_err-version.field-0.0) r)
    c.lines.invariant.so_far (version_stop c.lines.number c.lines.rest.now c.first_line.result.0.now
    c.first_line.result.1.now c.in_err-version.field-0.0 c.first_line.ensures.lines c.in_err-version.ensures))

pub returns-in-Some : goal.returns-in-Some
returns-in-Some c = sym c.lines.invariant.so_far
    ∙ version_found c.lines.number c.lines.rest.now c.first_line.result.0.now c.first_line.result.1.now
    c.in_ok-version.field-0 c.in-Some.version c.first_line.ensures.lines c.in_ok-version.ensures c.in-Some.is

pub lines-preserved : goal.lines-preserved
lines-preserved c = record {
  room = omega (arith, c.lines.invariant.room, c.first_line.ensures.shorter);
  so_far = sym (version_passed c.lines.number c.lines.rest.now c.first_line.result.0.now c.first_line.result.1.now
      c.in_ok-version.field-0 c.first_line.ensures.lines c.in_ok-version.ensures c.in_default.is) ∙ c.lines.invariant.so_far;
}
