-- What the steps of a bundle come to that weren't all taken.
use Rattle.hx_replay.specs.Courses.{BundleEnds}
use Rattle.hx_replay.specs.Steps.{ended_by}
use Rattle.hx_replay.proofs.Coursing.{ends_so, stops_end}
use Rattle.hx_replay.proofs.bundle_replaying.replay_bundle.Goals as goal

pub returns-in_ok-traces-in-Err : goal.returns-in_ok-traces-in-Err
returns-in_ok-traces-in-Err c =
    let traces = c.in_ok-traces-in-Err.traces in
    ends_so (ended_by c.in-Err.stopped traces) c.ended_by.result (BundleEnds c.args.with_trace c.args.bundle.now) c.ended_by.ensures
    (stops_end c.args.with_trace c.args.bundle.now c.take_steps.new.cluster traces c.in-Err.stopped c.in_ok-traces-in-Err.ensures c.in-Err.ensures.stops)
