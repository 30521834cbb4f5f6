use Rattle.hx_spaces.proofs.Openings.{left_shown}
use Rattle.hx_spaces.proofs.clusters.Cluster.leave.Goals as goal

pub returns-clause-traces : goal.returns-clause-traces
returns-clause-traces c =
    left_shown c.self.inside.bundle.now c.self.inside.worlds.items c.self.inside.order.items c.args.self
    c.leave_worlds.result c.self.view_is c.leave_worlds.ensures.traces
