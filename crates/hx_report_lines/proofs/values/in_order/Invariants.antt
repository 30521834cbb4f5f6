use Rattle.std.proofs.Common.{◌≡◌, ◌+◌, ◌<◌, ◌^◌, length}
use Rattle.hx_report_lines.specs.Parts.{in_order}
use Rattle.hx_report_lines.proofs.values.in_order.Given as goal

abbrev pub invariant-sets : goal.invariant-sets
invariant-sets l = record {
  fits : l.number + length l.left < 2 ^ 64;
  so_far : in_order l.number l.left ≡ in_order l.first l.sets;
}

abbrev pub decreases-sets : goal.decreases-sets
decreases-sets l = length l.left
