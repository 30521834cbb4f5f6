use Rattle.std.proofs.Common.{arith}
use Rattle.hx_spaces.proofs.Spending.{quiet_drains}
use Rattle.hx_spaces.proofs.clusters.Cluster.make_entries.Goals as goal

pub returns-then-not-branch-clause-drained : goal.returns-then-not-branch-clause-drained
returns-then-not-branch-clause-drained c =
    quiet_drains c.args.self.now c.loop-made.self c.advance.new.self c.args.n c.loop-made._made (omega arith) c.loop-made.invariant.course
    (rw c.if-not-branch.true at c.in_ok-advance.ensures.takes)
