use Rattle.std.proofs.Common.{◌≡◌, ◌≤◌, ◌+◌, ◌++◌, length}
use Rattle.hx_report.specs.Driving.{drivers_text}
use Rattle.hx_report.proofs.drivers.put_drivers.Given as goal

abbrev pub invariant-drivers : goal.invariant-drivers
invariant-drivers l = record {
  room : l.number + length l.rest ≤ length l.totals + 1;
  so_far : l.out.items ++ drivers_text l.number l.rest ≡ l.fn.out.items ++ drivers_text 1 l.totals;
}

abbrev pub decreases-drivers : goal.decreases-drivers
decreases-drivers l = length l.rest
