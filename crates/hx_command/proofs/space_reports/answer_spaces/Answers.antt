-- The fates are those of the runs, or none.
use Rattle.std.proofs.Common.{inl, inr, length, refl}
use Rattle.hx_command.specs.Threads.{AreReported, AreWornOnThreads, workers_of}
use Rattle.hx_command.specs.HandedBack.{space_run}
use Rattle.hx_command.proofs.Handing.{none_at, none_handed, risen_trace}
use Rattle.hx_command.proofs.Spaced.{thread_of}
use Rattle.hx_command.proofs.space_reports.answer_spaces.Goals as goal

pub report_spaces-requires-clause-ran : goal.report_spaces-requires-clause-ran
report_spaces-requires-clause-ran g c = rw (c.workers_of.ensures.exact, c.as_slice.ensures) at c.in-Ok.ensures.ran

pub returns-in-Ok-clause-risen : goal.returns-in-Ok-clause-risen
returns-in-Ok-clause-risen g c k j script trace f h t within at first p q r =
    elim c.report_spaces.ensures.kept [
      | inl same ↦
          let w = workers_of c.args.bundle.now c.args.command.workers in
          let ran = rw (c.workers_of.ensures.exact, c.as_slice.ensures) at c.in-Ok.ensures.ran in
          let risen = rw (c.workers_of.ensures.exact, c.as_slice.ensures) at c.in-Ok.ensures.risen in
          let x = thread_of space_run (λ r. r.fates.items)
          (λ r. refl {a = length r.fates.items}) w c.args.bundle.now.spaces c.in-Ok.ran.runs.items
          c.in-Ok.ran.worn k j trace h t _ _ ran same.0 same.1 within first q r in
          risen_trace script w _ trace j t _ _ x.trace_is (risen k j script x.run f h t within at x.stands p x.fate x.total)
      | inr none ↦ absurd (none_at _ _ h none q)
    ]

pub returns-in-Err-clause-ends : goal.returns-in-Err-clause-ends
returns-in-Err-clause-ends g c =
    none_handed (AreReported c.args.command c.args.bundle.now)
    (AreWornOnThreads c.args.bundle.now c.args.command.workers) _ _ c.without_trace.result.done.outcome
    c.without_trace.ensures.outcome c.without_trace.ensures.nothing
