use Rattle.std.proofs.Common.{◌≡◌}
use Rattle.hx_report.proofs.LostRegions.{lost_below}
use Rattle.hx_report.proofs.epochs.lost_numbers.Given as goal

abbrev pub invariant-loop-region : goal.invariant-loop-region
invariant-loop-region l = l.numbers.items ≡ lost_below l.config l.region
