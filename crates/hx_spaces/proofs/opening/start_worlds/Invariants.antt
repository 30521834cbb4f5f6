use Rattle.std.proofs.Common.{◌≡◌, ◌++◌, map, drop}
use Rattle.hx_spaces.specs.Courses.{newest, run_at_start}
use Rattle.hx_spaces.proofs.opening.start_worlds.Given as goal

abbrev pub invariant-loop-script : goal.invariant-loop-script
invariant-loop-script l = map newest l.worlds.items ++ map run_at_start (drop l.script-index l.scripts) ≡ map run_at_start l.scripts
