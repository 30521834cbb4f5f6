use Rattle.std.proofs.Common.{drop}
use Rattle.hx_store.proofs.Acknowledging.{IsSoFar}
use Rattle.hx_store.proofs.stepping.acknowledge_all.Given as goal

abbrev pub invariant-loop-version : goal.invariant-loop-version
invariant-loop-version l = IsSoFar (drop l.version-index l.versions) l.fn.versions l.fn.slot l.slot
