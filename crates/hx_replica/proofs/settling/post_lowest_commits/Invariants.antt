use Rattle.std.proofs.Common.{◌≡◌, ◌++◌, take}
use Rattle.std.specs.List.{flat_map}
use Rattle.hx_model.specs.Slots.{pending_of}
use Rattle.hx_replica.specs.Outputs.{context_seen, told_of}
use Rattle.hx_replica.proofs.settling.post_lowest_commits.Given as goal

abbrev pub invariant-loop-i : goal.invariant-loop-i
invariant-loop-i l = l.posts ≡ l.fn.posts ++ flat_map (told_of (context_seen l.context)) (take l.i (pending_of l.slot.state))
