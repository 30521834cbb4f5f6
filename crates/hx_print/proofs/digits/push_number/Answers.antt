use Rattle.std.proofs.Common.{arith, append_assoc}
use Rattle.hx_print.proofs.Decimals.{last_four}
use Rattle.hx_print.proofs.digits.push_number.Goals as goal

pub returns-else-number-lt10000 : goal.returns-else-number-lt10000
returns-else-number-lt10000 c =
    record {
      items = rw (
        c.push_pair-else-number-lt10000.ensures.items,
        c.push_pair.ensures.items,
        c.push_short-else-number-lt10000.ensures.items,
        last_four c.args.number c.if-number-lt10000.false (omega arith),
        append_assoc,
        append_assoc,
      );
    }
