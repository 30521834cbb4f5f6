use Rattle.std.proofs.Common.{◌≡◌, length, []}
use Rattle.hx_cluster.specs.Dealt.{AtEach, IsNewOutbox}
use Rattle.hx_cluster.proofs.outboxes.new_outboxes.Given as goal

abbrev pub invariant-loop-index : goal.invariant-loop-index
invariant-loop-index l = AtEach (IsNewOutbox []) l.outs.items × (length l.outs.items ≡ l.index)
