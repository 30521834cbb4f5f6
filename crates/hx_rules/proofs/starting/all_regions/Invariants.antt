use Rattle.std.proofs.Common.{◌≡◌, ◌+◌, map}
use Rattle.hx_types.specs.Configs.{first_member}
use Rattle.hx_types.specs.Words.{below}
use Rattle.hx_rules.proofs.starting.all_regions.Given as goal

abbrev pub invariant-loop-region : goal.invariant-loop-region
invariant-loop-region l = l.regions ≡ map (λ g. map (first_member l.space g) (below (l.space.tolerate + 1))) (below l.region)
