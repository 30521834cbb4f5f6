use Rattle.std.proofs.Common.{refl, ◌∙◌}
use Rattle.hx_outbox.proofs.Outs.{more-refl, more-trans}
use Rattle.hx_outbox.proofs.outboxes.put_kept.Goals as goal

pub loop-round-init : goal.loop-round-init
loop-round-init g c = (c.requires.out, refl, more-refl _, λ h. refl, c.requires.good)

pub loop-round-preserved : goal.loop-round-preserved
loop-round-preserved g c =
    let i = c.loop-round.invariant in
    let n = c.put_next.ensures in
    (n.out.0, n.out.1 ∙ i.1, more-trans _ _ _ i.2 n.more, λ h. n.weight h ∙ i.3 h, n.good)
