use Rattle.std.proofs.Common.{◌≡◌, ◌++◌, take}
use Rattle.std.specs.Borrow.{Bor}
use Rattle.std.specs.List.{flat_map}
use Rattle.hx_model.specs.Types.{Update}
use Rattle.hx_replica.specs.Outputs.{context_seen, told_of}
use Rattle.hx_replica.proofs.settling.post_each_commit.Given as goal

abbrev pub invariant-loop-update : goal.invariant-loop-update
invariant-loop-update l = l.posts ≡ l.fn.posts ++ flat_map (λ (b : Bor Update). told_of (context_seen l.context) b.now) (take l.update-index l.updates)
