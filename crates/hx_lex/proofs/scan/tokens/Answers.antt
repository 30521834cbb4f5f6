use Rattle.std.proofs.Common.{◌≡◌, length, sym, ◌∙◌, rules}
use Rattle.std.proofs.lemmas.Result.{err_from_is_err_and}
use Rattle.hx_lex.proofs.Steps.{ends, is_done}
use Rattle.hx_lex.proofs.Parts.{tokens_spelled}
use Rattle.hx_lex.proofs.scan.tokens.Goals as goal

pub returns-in_err-kind-clause-gives : goal.returns-in_err-kind-clause-gives
returns-in_err-kind-clause-gives c =
    let p = err_from_is_err_and c.from_residual.result c.from_residual.ensures.1 in
    rw (p.1, p.2) (ends c.in_err-kind.field-0.0 c.pieces.tokens c.pieces.rest.now c.args.line.now c.pieces.start
    c.in_err-kind.ensures c.pieces.invariant.so_far)

pub returns-clause-spelled : goal.returns-clause-spelled
returns-clause-spelled c =
    let none : length c.pieces.rest.now ≡ 0 = search rules in
    tokens_spelled c.args.line.now c.pieces.tokens (sym c.pieces.invariant.so_far ∙ is_done c.pieces.tokens c.pieces.rest.now c.pieces.start none)
