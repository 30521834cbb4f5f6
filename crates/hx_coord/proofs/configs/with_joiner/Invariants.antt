use Rattle.std.proofs.Common.{◌≡◌, take}
use Rattle.hx_coord.proofs.configs.with_joiner.Given as goal

abbrev pub invariant-loop-member : goal.invariant-loop-member
invariant-loop-member l = l.after ≡ take l.member-index l.members
