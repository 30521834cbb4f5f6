-- So many entries a world never makes; and when it is quiet, its trace is the whole run.
use Rattle.std.proofs.Common.{lit<, reverse}
use Rattle.hx_replay.proofs.Scheduling.{never_spent, quietly, whole_run}
use Rattle.hx_replay.proofs.Stopping.{stopped_after_steps}
use Rattle.hx_replay.proofs.replaying.finish.Goals as goal

pub answered-requires-clause-whole : goal.answered-requires-clause-whole
answered-requires-clause-whole c =
    whole_run c.args.script.now c.args.world c.drain.new.self c.leave.result 18446744073709551615
    c.requires.taken c.requires.script c.requires.stepped
    (quietly c.args.world.script 18446744073709551615 (reverse c.args.world.trace)
    (reverse c.drain.new.self.trace) c.in-Ok-Quiet.field-0 c.in-Ok-Quiet.ensures.drained c.in-Ok-Quiet.field-0-is)
    c.leave.ensures.trace c.in-Ok-Quiet.ensures.script c.leave.ensures.run c.leave.ensures.few

pub unreachable-requires : goal.unreachable-requires
unreachable-requires c =
    never_spent c.args.world.script 18446744073709551615 (reverse c.args.world.trace) c.drain.new.self.trace c.in-Ok-Spent.field-0
    c.in-Ok-Spent.ensures.drained c.in-Ok-Spent.field-0-is c.in-Ok-Spent.ensures.most (lit< tt)

pub returns-in-Err : goal.returns-in-Err
returns-in-Err c =
    stopped_after_steps c.args.with_trace c.args.script.now c.args.world c.drain.new.self c.leave-in-Err.result c.into.result c.ended_alone.result
    c.ended_alone.ensures c.in-Err.ensures.script c.leave-in-Err.ensures.trace c.leave-in-Err.ensures.run c.leave-in-Err.ensures.few
    18446744073709551615 c.in-Err.error c.requires.script c.requires.taken c.requires.stepped c.into.ensures c.in-Err.ensures.fails c.in-Err.ensures.part
