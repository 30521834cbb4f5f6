use Rattle.std.proofs.Common.{◌-◌, length, sym, arith}
use Rattle.hx_audit.proofs.Begun.{in_at}
use Rattle.hx_audit.proofs.latest.is_lowest.Goals as goal

pub returns-in-Some-clause-other : goal.returns-in-Some-clause-other
returns-in-Some-clause-other c =
    λ f. record {
      item = c.in-Some.last.now;
      stands = in_at c.args.changes.now (length c.args.changes.now - 1) c.in-Some.last.now (sym c.in-Some.ensures.value);
      is = grind (arith, f);
    }
