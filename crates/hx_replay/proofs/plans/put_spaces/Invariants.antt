use Rattle.std.proofs.Common.{◌≡◌, ◌++◌, take}
use Rattle.std.specs.List.{flat_map}
use Rattle.hx_replay.specs.Plans.{space_lines}
use Rattle.hx_replay.proofs.plans.put_spaces.Given as goal

abbrev pub invariant-loop-script : goal.invariant-loop-script
invariant-loop-script l = l.out.items ≡ l.fn.out.items ++ flat_map space_lines (take l.script-index l.scripts)
