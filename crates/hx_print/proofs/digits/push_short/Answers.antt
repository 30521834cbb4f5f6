use Rattle.std.proofs.Common.{arith, append_assoc}
use Rattle.hx_print.proofs.Decimals.{last_pair}
use Rattle.hx_print.proofs.digits.push_short.Goals as goal

pub returns-else-number-lt100-clause-items : goal.returns-else-number-lt100-clause-items
returns-else-number-lt100-clause-items c =
    rw (c.push_pair.ensures.items, c.push_first-else-number-lt100.ensures.items, last_pair c.args.number c.if-number-lt100.false (omega arith))
    (append_assoc c.args.out.now.items _ _)
