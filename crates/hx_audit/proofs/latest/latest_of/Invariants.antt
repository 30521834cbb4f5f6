use Rattle.std.proofs.Common.{◌≡◌, map, take}
use Rattle.std.specs.List.{All}
use Rattle.hx_audit.specs.declared.latest.LatestChanges.{LatestChanges}
use Rattle.hx_audit.specs.Latest.{IsLatestIn}
use Rattle.hx_audit.proofs.latest.latest_of.Given as goal

abbrev pub invariant-loop-history : goal.invariant-loop-history
invariant-loop-history l = record {
  histories_are : map (λ (latest : LatestChanges). latest.history.now) l.latest.items ≡ take l.history-index l.block.histories;
  each : All (IsLatestIn l.block) l.latest.items;
}
