-- A worn actor ended the runs, or none did.
use Rattle.std.proofs.Common.{map, refl, subst}
use Rattle.hx_command.specs.Threads.{AreRan, AreReported, AreWornOnThreads, handed_from, workers_of}
use Rattle.hx_command.specs.HandedBack.{space_run}
use Rattle.hx_command.proofs.Handing.{worn_handed}
use Rattle.hx_command.proofs.space_reports.report_spaces.Goals as goal

pub hand_worn-requires : goal.hand_worn-requires
hand_worn-requires g c = subst (λ o. AreRan (workers_of c.args.bundle.now c.args.command.workers)
    c.args.bundle.now.spaces (map space_run c.args.ran.runs.items) o) c.in-Some.is c.requires.ran

pub write_report-requires-clause-ran : goal.write_report-requires-clause-ran
write_report-requires-clause-ran g c = subst (λ o. AreRan
    (workers_of c.args.bundle.now c.args.command.workers) c.args.bundle.now.spaces
    (map space_run c.args.ran.runs.items) o) c.in-None.is c.requires.ran

pub returns-in-Some-clause-ends : goal.returns-in-Some-clause-ends
returns-in-Some-clause-ends g c =
    let b = c.args.bundle.now in
    let w = workers_of b c.args.command.workers in
    worn_handed (AreReported c.args.command b) (AreWornOnThreads b c.args.command.workers) _
    (handed_from b.spaces (map space_run c.args.ran.runs.items)) _ c.in-Some.actor c.hand_worn.result.done.outcome
    (record {
      runs = map space_run c.args.ran.runs.items;
      handed = refl;
      ran = subst (λ o. AreRan w b.spaces (map space_run c.args.ran.runs.items) o) c.in-Some.is c.requires.ran;
    })
    c.hand_worn.ensures.handed
