use Rattle.std.proofs.Common.{◌≡◌, ◌++◌, take}
use Rattle.std.specs.Borrow.{Bor}
use Rattle.std.specs.List.{flat_map}
use Rattle.hx_model.specs.Types.{Update}
use Rattle.hx_model.specs.ServerSteps.{passed_on}
use Rattle.hx_replica.specs.Outputs.{tail_version, context_seen}
use Rattle.hx_replica.proofs.accepting.post_updates.Given as goal

abbrev pub invariant-loop-update : goal.invariant-loop-update
invariant-loop-update l =
    (l.posts ≡ l.fn.posts ++ flat_map (λ (b : Bor Update). passed_on (context_seen l.context) b.now) (take l.update-index l.updates))
    × (l.tail_versions.items ≡ l.fn.tail_versions.items
    ++ flat_map (λ (b : Bor Update). tail_version (context_seen l.context) b.now) (take l.update-index l.updates))
