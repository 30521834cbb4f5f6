use Rattle.std.proofs.Common.{arith}
use Rattle.std.specs.Prelude.{reverse}
use Rattle.hx_world.proofs.Spending.{quiet_drains}
use Rattle.hx_world.proofs.worlds.World.drain.Goals as goal

pub returns-then-not-branch-clause-drained : goal.returns-then-not-branch-clause-drained
returns-then-not-branch-clause-drained c =
    quiet_drains c.args.self.now.script (reverse c.args.self.now.trace) _ _ c.args.n c.loop-made._made (omega arith) c.loop-made.invariant.trace
    (rw (c.if-not-branch.true, c.loop-made.invariant.script) at c.in_ok-advance.ensures.advances)
