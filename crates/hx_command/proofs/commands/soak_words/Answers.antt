-- What is said of the drawn script is said of the seed and the number of calls.
use Rattle.hx_command.specs.Threads.{IsSummed, IsWornOnThreads}
use Rattle.hx_command.proofs.Deciding.{ended_well}
use Rattle.hx_command.proofs.Handing.{risen_same}
use Rattle.hx_command.proofs.commands.soak_words.Goals as goal

pub returns-in-Ok-clause-risen : goal.returns-in-Ok-clause-risen
returns-in-Ok-clause-risen g c trace first i f h t p q r =
    risen_same c.in-Ok.script _ c.args.command.workers trace i t _ _ c.in-Ok.ensures.exact (c.answer_soak.ensures.risen trace first i f h t p q r)

pub returns-in-Ok-clause-soaked : goal.returns-in-Ok-clause-soaked
returns-in-Ok-clause-soaked g c still =
    ended_well (IsSummed c.args.command) (IsWornOnThreads c.in-Ok.script c.args.command.workers) _ _
    c.answer_soak.result.done.outcome c.answer_soak.ensures.ends still
