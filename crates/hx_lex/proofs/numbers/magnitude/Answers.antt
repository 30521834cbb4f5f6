use Rattle.std.proofs.Common.{◌≡◌, sym, ◌∙◌, arith}
use Rattle.hx_lex.specs.Numbers.{value}
use Rattle.hx_lex.proofs.Digits.{value_from_end}
use Rattle.hx_lex.proofs.numbers.magnitude.Goals as goal

pub returns : goal.returns
returns c =
    let e : c.loop-b.sum ≡ value c.args.digits.now =
    sym (value_from_end c.loop-b.sum c.args.digits.now c.loop-b.b-index c.loop-b-test.false) ∙ c.loop-b.invariant.so_far in
    (omega (arith, e), e)
