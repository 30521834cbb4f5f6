use Rattle.std.proofs.Common.{◌≡◌, ◌++◌, take}
use Rattle.std.specs.List.{flat_map}
use Rattle.hx_model.specs.ServerSteps.{resumed_posts}
use Rattle.hx_replica.specs.Outputs.{context_seen}
use Rattle.hx_replica.proofs.adopting.post_slots.Given as goal

abbrev pub invariant-loop-i : goal.invariant-loop-i
invariant-loop-i l = l.posts ≡ l.fn.posts ++ flat_map (resumed_posts (context_seen l.context)) (take l.i l.store.states)
