use Rattle.std.proofs.Common.{◌≡◌, ◌++◌, take}
use Rattle.hx_model.specs.ServerSteps.{pending_posts}
use Rattle.hx_replica.specs.Outputs.{context_seen}
use Rattle.hx_replica.proofs.ticking.send_pending.Given as goal

abbrev pub invariant-loop-i : goal.invariant-loop-i
invariant-loop-i l = l.posts ≡ l.fn.posts ++ pending_posts (context_seen l.context) (take l.i l.store.states)
