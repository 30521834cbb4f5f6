-- The report of all spaces was written, or there was no memory for it.
use Rattle.std.proofs.Common.{◌∙◌, inl, inr, ap, map, refl, sym}
use Rattle.hx_report.specs.BundleReporting.{IsBundleReport}
use Rattle.hx_command.specs.Threads.{AreReported, AreWornOnThreads, handed_from}
use Rattle.hx_command.specs.HandedBack.{space_run}
use Rattle.hx_command.proofs.Handing.{none_handed, written_handed}
use Rattle.hx_command.proofs.Spaced.{all_ran, length_seen, report_seen}
use Rattle.hx_command.proofs.space_reports.write_report.Goals as goal

pub reported-requires-clause-all : goal.reported-requires-clause-all
reported-requires-clause-all g c = sym (length_seen space_run c.args.runs.items)
    ∙ all_ran _ c.args.bundle.now.spaces (map space_run c.args.runs.items) c.requires.ran

pub returns-in-Ok-clause-ends : goal.returns-in-Ok-clause-ends
returns-in-Ok-clause-ends g c =
    let b = c.args.bundle.now in
    written_handed (AreReported c.args.command b) (AreWornOnThreads b c.args.command.workers) _
    (handed_from b.spaces (map space_run c.args.runs.items)) _ c.in-Ok.bytes.items c.write_answer.result.done.outcome
    (record {
      runs = map space_run c.args.runs.items;
      handed = refl;
      ran = c.requires.ran;
      report_is = report_seen space_run c.args.runs.items
          (λ a d. IsBundleReport b a d c.in-Ok.bytes.items c.args.command.with_trace) c.in-Ok.ensures.report;
    })
    (inl (c.write_answer.ensures.handed ∙ c.in-Ok.ensures.handed, rw c.as_slice.ensures.value at c.write_answer.ensures.written))

pub returns-in-Err-clause-ends : goal.returns-in-Err-clause-ends
returns-in-Err-clause-ends g c =
    none_handed (AreReported c.args.command c.args.bundle.now)
    (AreWornOnThreads c.args.bundle.now c.args.command.workers) _ _ c.without_trace.result.done.outcome
    c.without_trace.ensures.outcome c.without_trace.ensures.nothing

pub returns-in-Ok-clause-kept : goal.returns-in-Ok-clause-kept
returns-in-Ok-clause-kept g c = inl (
  c.write_answer.ensures.handed ∙ c.in-Ok.ensures.handed,
  ap (λ v. v.items) c.write_answer.ensures.fates ∙ c.in-Ok.ensures.fates,
)

pub returns-in-Err-clause-kept : goal.returns-in-Err-clause-kept
returns-in-Err-clause-kept g c = inr c.without_trace.ensures.fates
