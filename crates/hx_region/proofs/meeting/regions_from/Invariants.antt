use Rattle.std.proofs.Common.{◌≡◌, ◌+◌, map, take}
use Rattle.hx_model.specs.Types.{RegionId}
use Rattle.hx_region.proofs.meeting.regions_from.Given as goal

abbrev pub invariant-loop-row : goal.invariant-loop-row
invariant-loop-row l = l.regions ≡ map (λ row. let g : RegionId = record { 0 = l.first + row } in g) (take l.row-index l.rows.items)
