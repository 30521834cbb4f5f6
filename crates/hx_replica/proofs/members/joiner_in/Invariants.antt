use Rattle.std.proofs.Common.{◌≡◌, length}
use Rattle.hx_types.specs.Configs.{joiner_in}
use Rattle.hx_replica.proofs.members.joiner_in.Given as goal

abbrev pub invariant-members : goal.invariant-members
invariant-members l = joiner_in l.server l.rest ≡ joiner_in l.server l.members

abbrev pub decreases-members : goal.decreases-members
decreases-members l = length l.rest
