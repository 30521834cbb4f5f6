use Rattle.std.proofs.Common.{arith, sym, subst}
use Rattle.hx_cluster.specs.Dealt.{AtEach, AreNewDesks}
use Rattle.hx_cluster.proofs.AtEach.{at_each_snoc, snoc-long}
use Rattle.hx_cluster.proofs.Deals.{no-desks}
use Rattle.hx_cluster.proofs.seating.new_desks.Goals as goal

pub loop-driver-preserved : goal.loop-driver-preserved
loop-driver-preserved c =
    let i = c.loop-driver.invariant in
    let script = c.args.setup.now.script.now in
    let clock = c.args.setup.now.clock.now in
    let boxes = c.args.setup.now.boxes.now in
    let w = c.args.setup.now.workers in (
      subst (AtEach (λ i d. AreNewDesks script clock boxes w 0 i d.items)) (sym c.in_ok-push.ensures.items)
          (at_each_snoc (λ i d. AreNewDesks script clock boxes w 0 i d.items) c.loop-driver.desks.items c.new.result
          i.0 (no-desks script clock boxes w _ c.new.result.items c.new.ensures.items)),
      omega (arith, snoc-long _ _ _ c.in_ok-push.ensures.items, i.1),
    )
