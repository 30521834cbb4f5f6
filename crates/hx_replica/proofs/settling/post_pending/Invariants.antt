use Rattle.std.proofs.Common.{◌≡◌, ◌++◌, take}
use Rattle.std.specs.List.{flat_map}
use Rattle.hx_model.specs.ServerSteps.{passed_on}
use Rattle.hx_model.specs.Slots.{pending_of}
use Rattle.hx_replica.specs.Outputs.{tail_version, context_seen}
use Rattle.hx_replica.proofs.settling.post_pending.Given as goal

abbrev pub invariant-loop-i : goal.invariant-loop-i
invariant-loop-i l = record {
  posts : l.posts ≡ l.fn.posts ++ flat_map (passed_on (context_seen l.context)) (take l.i (pending_of l.slot.state));
  tail_versions : l.tail_versions.items ≡ l.fn.tail_versions.items ++ flat_map (tail_version (context_seen l.context)) (take l.i (pending_of l.slot.state));
}
