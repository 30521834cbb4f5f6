use Rattle.std.proofs.Common.{◌≡◌, ◌-◌, ◌≤◌, drop}
use Rattle.hx_types.specs.Subspaces.{first_region, subspaces_of}
use Rattle.hx_model.specs.Regions.{meets, meets_among}
use Rattle.hx_region.proofs.map.RegionMap.meets.Given as goal

abbrev pub invariant-loop-subspace : goal.invariant-loop-subspace
invariant-loop-subspace l =
    (first_region l.self-inside.space l.subspace-index ≤ l.region.0)
    × (meets_among l.self-inside.space l.terms (drop l.subspace-index (subspaces_of l.self-inside.space))
    (l.region.0 - first_region l.self-inside.space l.subspace-index) ≡ meets l.self-inside.space l.region l.terms)
