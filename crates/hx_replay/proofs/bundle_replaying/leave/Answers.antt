-- What a cluster hands back are the traces of its course.
use Rattle.hx_replay.proofs.Coursing.{left_course}
use Rattle.hx_replay.proofs.bundle_replaying.leave.Goals as goal

pub returns : goal.returns
returns c = left_course c.args.bundle.now c.args.cluster c.leave.result c.requires c.leave.ensures.course c.leave.ensures.runs c.leave.ensures.traces
