use Rattle.std.proofs.Common.{◌≡◌, map, take}
use Rattle.hx_model.specs.Types.{RegionId}
use Rattle.hx_report_lines.proofs.tails.regions.Given as goal

abbrev pub invariant-loop-number : goal.invariant-loop-number
invariant-loop-number l = l.regions.items ≡ map (λ n. let g : RegionId = record { 0 = n } in g) (take l.number-index l.numbers)
