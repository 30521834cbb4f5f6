use Rattle.std.proofs.Common.{◌≡◌, map}
use Rattle.hx_types.specs.Configs.{first_member}
use Rattle.hx_types.specs.Words.{below}
use Rattle.hx_rules.proofs.starting.first_members.Given as goal

abbrev pub invariant-loop-place : goal.invariant-loop-place
invariant-loop-place l = l.members ≡ map (first_member l.space l.region) (below l.place)
