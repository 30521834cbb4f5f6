-- The report of the run was written, or there was no memory for it.
use Rattle.std.proofs.Common.{List, subst}
use Rattle.std.specs.Prelude.{reverse}
use Rattle.hx_types.specs.declared.totals.Totals.{Totals}
use Rattle.hx_report.specs.Reporting.{IsReport}
use Rattle.hx_command.specs.Threads.{IsReported, IsWornOnThreads, SpaceRun, TellsOfRun, handed_by}
use Rattle.hx_command.specs.HandedBack.{space_run}
use Rattle.hx_command.proofs.Handing.{none_handed, of_one_run, written_handed}
use Rattle.hx_command.proofs.reporting.write_report.Goals as goal

pub returns-in-Ok-clause-ends : goal.returns-in-Ok-clause-ends
returns-in-Ok-clause-ends g c =
    let ran = c.args.ran in
    let r : SpaceRun = space_run ran in
    let s = c.args.script.now in
    written_handed (IsReported c.args.command s) (IsWornOnThreads s c.args.command.workers) _
    (handed_by r) _ c.in-Ok.bytes.items c.write_run.result.done.outcome
    (of_one_run (TellsOfRun c.args.command s c.in-Ok.bytes.items) r (record {
      threaded = c.requires.threaded;
      report_is = subst (λ (totals : List Totals). IsReport s
          (reverse ran.trace) totals c.in-Ok.bytes.items c.args.command.with_trace) c.as_slice.ensures.value c.in-Ok.ensures;
    }))
    (rw c.as_slice-in-Ok.ensures.value at c.write_run.ensures.handed)

pub returns-in-Err-clause-ends : goal.returns-in-Err-clause-ends
returns-in-Err-clause-ends g c =
    none_handed (IsReported c.args.command c.args.script.now)
    (IsWornOnThreads c.args.script.now c.args.command.workers) _ _ c.without_trace.result.done.outcome
    c.without_trace.ensures.outcome c.without_trace.ensures.nothing
