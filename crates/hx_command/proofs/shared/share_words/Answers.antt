-- What decides a call whose script was read, and how a call ends that read none.
use Rattle.hx_command.specs.Threads.{IsSharedReport, IsWornShared, version_1}
use Rattle.hx_command.proofs.Deciding.{decided_ran, decided_unread, no_script, read_with, unread_with, version_1_exact}
use Rattle.hx_command.proofs.shared.share_words.Goals as goal

pub returns-in-Ok-clause-share : goal.returns-in-Ok-clause-share
returns-in-Ok-clause-share g c = (
  c.in-Ok.script,
  read_with version_1 (IsSharedReport c.in-Ok.script)
      (IsWornShared c.in-Ok.script) c.in-Ok.script _ _ _ c.answer_share.result.done.outcome c.in-Ok.ensures.script
      c.answer_share.ensures.ends,
)

pub returns-in-Ok-clause-decided : goal.returns-in-Ok-clause-decided
returns-in-Ok-clause-decided g c =
    decided_ran version_1 version_1_exact (IsSharedReport c.in-Ok.script)
    (IsWornShared c.in-Ok.script) c.in-Ok.script _ _ _ c.answer_share.result.done.outcome c.in-Ok.ensures.judged
    c.answer_share.ensures.ends

pub returns-in-Err-clause-share : goal.returns-in-Err-clause-share
returns-in-Err-clause-share g c =
    let e = c.without_trace.ensures in (
      no_script,
      unread_with version_1 (IsSharedReport no_script)
          (IsWornShared no_script) no_script _ _ _ c.in-Err.outcome c.without_trace.result.done.outcome e.nothing
          e.outcome c.in-Err.ensures.cause,
    )

pub returns-in-Err-clause-decided : goal.returns-in-Err-clause-decided
returns-in-Err-clause-decided g c = decided_unread version_1 version_1_exact _ _ c.in-Err.outcome _
    c.without_trace.ensures.outcome c.in-Err.ensures.judged c.in-Err.ensures.cause
