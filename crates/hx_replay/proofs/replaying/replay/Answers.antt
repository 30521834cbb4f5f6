-- Where a step was not taken, the trace of the world that is left is that before it.
use Rattle.hx_replay.proofs.Stopping.{stopped_at_step}
use Rattle.hx_replay.proofs.replaying.replay.Goals as goal

pub returns-in-Err : goal.returns-in-Err
returns-in-Err c =
    stopped_at_step c.args.with_trace c.args.script.now c.in_ok-world.world c.take_steps.new.world c.leave.result c.in-Err.stopped c.ended_alone.result
    c.ended_alone.ensures c.take_steps.ensures.script c.leave.ensures.trace c.leave.ensures.run c.leave.ensures.few c.in_ok-world.ensures c.in-Err.ensures.stops
