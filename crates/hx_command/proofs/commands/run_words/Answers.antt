-- What decides a call whose script was read, and how a call ends that read none.
use Rattle.hx_command.specs.Threads.{IsRunReported, IsRunWorn, any_version}
use Rattle.hx_command.proofs.Deciding.{any_version_exact, decided_ran, decided_unread, no_scripted, read_with, unread_with}
use Rattle.hx_command.proofs.Handing.{none_at}
use Rattle.hx_command.proofs.commands.run_words.Goals as goal

pub returns-in-Ok-clause-run : goal.returns-in-Ok-clause-run
returns-in-Ok-clause-run g c =
    let x = c.in-Ok.scripted in (
      x,
      read_with any_version (IsRunReported c.args.command x)
          (IsRunWorn c.args.command.workers x) x _ _ _ c.answer_scripted.result.done.outcome c.in-Ok.ensures.scripted
          c.answer_scripted.ensures.ends,
      c.answer_scripted.ensures.risen,
    )

pub returns-in-Ok-clause-decided : goal.returns-in-Ok-clause-decided
returns-in-Ok-clause-decided g c =
    let x = c.in-Ok.scripted in
    decided_ran any_version any_version_exact (IsRunReported c.args.command x)
    (IsRunWorn c.args.command.workers x) x _ _ _ c.answer_scripted.result.done.outcome c.in-Ok.ensures.judged
    c.answer_scripted.ensures.ends

pub returns-in-Err-clause-run : goal.returns-in-Err-clause-run
returns-in-Err-clause-run g c =
    let e = c.without_trace.ensures in (
      no_scripted,
      unread_with any_version (IsRunReported c.args.command no_scripted)
          (IsRunWorn c.args.command.workers no_scripted) no_scripted _ _ _ c.in-Err.outcome
          c.without_trace.result.done.outcome e.nothing
          e.outcome c.in-Err.ensures.cause,
      λ k j script trace f h t within at first p q r. absurd (none_at _ _ h e.fates q),
    )

pub returns-in-Err-clause-decided : goal.returns-in-Err-clause-decided
returns-in-Err-clause-decided g c = decided_unread any_version any_version_exact _ _ c.in-Err.outcome _
    c.without_trace.ensures.outcome c.in-Err.ensures.judged c.in-Err.ensures.cause
