-- So many entries a cluster never makes; and when it is quiet, its course is whole.
use Rattle.std.proofs.Common.{◌∙◌, ap, lit<}
use Rattle.hx_replay.specs.Courses.{BundleEnds}
use Rattle.hx_replay.specs.Steps.{ended_by, stopped_drain}
use Rattle.hx_replay.specs.declared.steps.Stopped.{Stopped}
use Rattle.hx_replay.proofs.Coursing.{drained_end, ends_so, is_whole, never_all_spent}
use Rattle.hx_replay.proofs.bundle_replaying.finish.Goals as goal

pub answered-requires-clause-whole : goal.answered-requires-clause-whole
answered-requires-clause-whole c = (
  c.drain.new.self,
  is_whole c.args.bundle.now _ c.args.cluster c.drain.new.self c.in_ok-traces-in-Ok-Quiet.traces c.in-Ok-Quiet.field-0 c.requires.taken c.requires.stepped
      c.in-Ok-Quiet.ensures.drained c.in-Ok-Quiet.field-0-is c.in_ok-traces-in-Ok-Quiet.ensures,
)

pub unreachable-requires : goal.unreachable-requires
unreachable-requires c =
    never_all_spent _ c.args.cluster c.drain.new.self c.in-Ok-Spent.field-0
    c.in-Ok-Spent.ensures.drained c.in-Ok-Spent.field-0-is c.in-Ok-Spent.ensures.most (lit< tt)

pub returns-in_ok-traces-in-Err : goal.returns-in_ok-traces-in-Err
returns-in_ok-traces-in-Err c =
    let traces = c.in_ok-traces-in-Err.traces in
    let same = c.ended_by.ensures ∙ ap (λ (s : Stopped). ended_by s traces) c.into.ensures in
    ends_so (ended_by (stopped_drain c.in-Err.error) traces) c.ended_by.result (BundleEnds c.args.with_trace c.args.bundle.now) same
    (drained_end c.args.with_trace c.args.bundle.now _ c.args.cluster c.drain.new.self traces c.in-Err.error c.requires.taken c.requires.stepped
    c.in-Err.ensures.fails c.in-Err.ensures.part c.in_ok-traces-in-Err.ensures)
