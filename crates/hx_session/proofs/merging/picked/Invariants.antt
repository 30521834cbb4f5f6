use Rattle.std.proofs.Common.{drop}
use Rattle.hx_session.proofs.Joining.{IsPassed}
use Rattle.hx_session.proofs.merging.picked.Given as goal

abbrev pub invariant-loop-next : goal.invariant-loop-next
invariant-loop-next l = IsPassed l.rows.items l.kept (drop l.next-index l.rest) l.sorted
