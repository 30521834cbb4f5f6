use Rattle.std.proofs.Common.{◌≡◌, drop, None}
use Rattle.hx_model.specs.Neighbours.{member_before}
use Rattle.hx_chain.proofs.neighbours.member_before.Given as goal

abbrev pub invariant-loop-member : goal.invariant-loop-member
invariant-loop-member l = member_before l.before l.server (drop l.member-index l.members) ≡ member_before None l.server l.members
