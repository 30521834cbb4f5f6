use Rattle.std.proofs.Common.{◌≡◌, ◌++◌, drop}
use Rattle.std.specs.List.{flat_map}
use Rattle.hx_model.specs.Slots.{pending_of}
use Rattle.hx_replica.specs.Adopting.{doubt_of}
use Rattle.hx_replica.specs.Outputs.{context_seen}
use Rattle.hx_replica.proofs.doubting.doubt_from.Given as goal

abbrev pub invariant-loop-i : goal.invariant-loop-i
invariant-loop-i l = l.posts ++ flat_map (doubt_of (context_seen l.context) l.first l.region)
    (drop l.i (pending_of l.slot.state)) ≡ l.fn.posts
    ++ flat_map (doubt_of (context_seen l.context) l.first l.region) (drop l.committed (pending_of l.slot.state))
