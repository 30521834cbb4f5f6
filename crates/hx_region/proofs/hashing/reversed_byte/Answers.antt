-- The table has the byte.
use Rattle.std.proofs.Common.{arith}
use Rattle.hx_region.proofs.Reversed.{table_at}
use Rattle.hx_region.proofs.hashing.reversed_byte.Goals as goal

pub returns : goal.returns
returns c = rw c.from.ensures (table_at c.args.bits (omega arith))
