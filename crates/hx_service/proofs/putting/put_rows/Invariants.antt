use Rattle.std.proofs.Common.{length}
use Rattle.hx_service.proofs.Puts.{IsUpTo}
use Rattle.hx_service.proofs.putting.put_rows.Given as goal

abbrev pub invariant-rows : goal.invariant-rows
invariant-rows l = IsUpTo l.fn.service l.session l.sets l.rows l.rest l.service l.grouped

abbrev pub decreases-rows : goal.decreases-rows
decreases-rows l = length l.rest
