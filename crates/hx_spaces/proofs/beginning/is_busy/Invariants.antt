use Rattle.std.proofs.Common.{◌≡◌, map, drop}
use Rattle.hx_spaces.specs.Courses.{is_busy_in, newest}
use Rattle.hx_spaces.proofs.beginning.is_busy.Given as goal

abbrev pub invariant-loop-world : goal.invariant-loop-world
invariant-loop-world l = is_busy_in l.session (map newest l.worlds) ≡ is_busy_in l.session (map newest (drop l.world-index l.worlds))
