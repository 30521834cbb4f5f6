-- Each entry that is made is one more of the schedule.
use Rattle.std.proofs.Common.{◌∙◌}
use Rattle.hx_service.proofs.Settled.{kept}
use Rattle.hx_service.proofs.advancing.settle.Goals as goal

pub loop-made-preserved : goal.loop-made-preserved
loop-made-preserved c =
    let k = kept c.args.world.now c.loop-made.world c.advance.new.world c.loop-made._made c.in_ok-advance.field-0 c.loop-made.invariant.script
    c.loop-made.invariant.drained c.loop-made.invariant.long c.in_ok-advance.ensures.advances c.if-not-branch.false in
    record {
      serving = c.in_ok-advance.ensures.serving;
      script = c.in_ok-advance.ensures.script ∙ c.loop-made.invariant.script;
      drained = k.0;
      long = k.1;
      most = λ lt. c.in_ok-advance.ensures.most;
    }
