use Rattle.std.proofs.Common.{◌≡◌, drop}
use Rattle.hx_model.specs.Neighbours.{member_after}
use Rattle.hx_chain.proofs.neighbours.member_after.Given as goal

abbrev pub invariant-loop-at : goal.invariant-loop-at
invariant-loop-at l = member_after l.server (drop l.at l.members) ≡ member_after l.server l.members
