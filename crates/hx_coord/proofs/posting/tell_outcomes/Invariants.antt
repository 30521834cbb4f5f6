use Rattle.std.proofs.Common.{◌≡◌, ◌++◌, take}
use Rattle.hx_coord.specs.Outcomes.{outcomes}
use Rattle.hx_coord.proofs.posting.tell_outcomes.Given as goal

abbrev pub invariant-loop-each : goal.invariant-loop-each
invariant-loop-each l = l.posts ≡ l.initial.posts ++ outcomes (take l.each-index l.answered)
