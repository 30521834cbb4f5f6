-- The law on soaks, at the run.
use Rattle.hx_command.specs.Threads.{IsSummed, IsWornOnThreads, SpaceRun, SumsUp, handed_by}
use Rattle.hx_command.specs.HandedBack.{space_run}
use Rattle.hx_command.proofs.Handing.{is_summed, of_one_run, written_handed}
use Rattle.hx_command.proofs.soaking.write_summary.Goals as goal

pub returns-in-Ok-clause-ends : goal.returns-in-Ok-clause-ends
returns-in-Ok-clause-ends g c =
    let ran = c.args.ran in
    let r : SpaceRun = space_run ran in
    let summed =
    is_summed c.args.command c.args.script.now r c.in-Ok.bytes.items c.soaks_sum_up_in_order.ensures c.requires.drawn c.requires.few c.requires.threaded
    c.in-Ok.ensures in
    written_handed (IsSummed c.args.command) (IsWornOnThreads c.args.script.now c.args.command.workers) _
    (handed_by r) _ c.in-Ok.bytes.items c.write_run.result.done.outcome
    (of_one_run (SumsUp c.args.command c.in-Ok.bytes.items) r summed) (rw c.as_slice.ensures.value at c.write_run.ensures.handed)
