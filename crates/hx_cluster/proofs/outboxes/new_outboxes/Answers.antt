use Rattle.std.proofs.Common.{arith, sym, subst, []}
use Rattle.hx_cluster.specs.Dealt.{AtEach, IsNewOutbox}
use Rattle.hx_cluster.proofs.AtEach.{at_each_snoc, snoc-long}
use Rattle.hx_cluster.proofs.Deals.{no-outbox}
use Rattle.hx_cluster.proofs.outboxes.new_outboxes.Goals as goal

pub loop-index-preserved : goal.loop-index-preserved
loop-index-preserved c =
    let i = c.loop-index.invariant in (
      subst (AtEach (IsNewOutbox [])) (sym c.in_ok-push.ensures.items)
          (at_each_snoc (IsNewOutbox []) c.loop-index.outs.items _ i.0
          (no-outbox _ _ (sym i.1) c.new.ensures.items c.new-in-loop-index.ensures.items)),
      omega (arith, snoc-long _ _ _ c.in_ok-push.ensures.items, i.1),
    )
