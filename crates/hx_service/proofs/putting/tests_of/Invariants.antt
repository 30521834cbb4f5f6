use Rattle.std.proofs.Common.{◌≡◌, ◌+◌, ◌++◌, length}
use Rattle.hx_service.specs.Groups.{tests_from}
use Rattle.hx_service.proofs.putting.tests_of.Given as goal

-- so many tests were made
abbrev pub invariant-values : goal.invariant-values
invariant-values l = (l.attribute + length l.rest ≡ length l.object) × (l.tests.items ++ tests_from l.attribute l.rest ≡ tests_from 0 l.object)

abbrev pub decreases-values : goal.decreases-values
decreases-values l = length l.rest
