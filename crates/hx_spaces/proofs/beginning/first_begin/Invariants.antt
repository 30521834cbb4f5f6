use Rattle.std.proofs.Common.{◌≡◌, map, drop}
use Rattle.hx_spaces.specs.Courses.{first_begin, first_begin_from, newest}
use Rattle.hx_spaces.proofs.beginning.first_begin.Given as goal

abbrev pub invariant-loop-place : goal.invariant-loop-place
invariant-loop-place l = first_begin l.bundle (map newest l.worlds) ≡ first_begin_from l.bundle (map newest l.worlds) l.place (drop l.place l.bundle.turns)
