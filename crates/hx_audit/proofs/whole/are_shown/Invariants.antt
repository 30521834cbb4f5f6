use Rattle.std.specs.List.{AllWithin}
use Rattle.hx_audit.specs.Finished.{finished_view}
use Rattle.hx_audit.specs.Latest.{ShowsLatest}
use Rattle.hx_audit.proofs.whole.are_shown.Given as goal

abbrev pub invariant-loop-latest : goal.invariant-loop-latest
invariant-loop-latest l = AllWithin (ShowsLatest (finished_view l.search)) l.histories 0 l.latest-index
