-- A worn actor ended the run.
use Rattle.std.proofs.Common.{Some, subst}
use Rattle.hx_command.specs.Threads.{IsSummed, IsThreaded, IsWornOnThreads, SpaceRun, handed_by}
use Rattle.hx_command.specs.HandedBack.{space_run}
use Rattle.hx_command.proofs.Handing.{of_one_run, worn_handed}
use Rattle.hx_command.proofs.soaking.sum_run.Goals as goal

pub returns-in-Some-clause-ends : goal.returns-in-Some-clause-ends
returns-in-Some-clause-ends g c =
    let ran = c.args.ran in
    let r : SpaceRun = space_run ran in
    let s = c.args.script.now in
    let w = c.args.command.workers in
    worn_handed (IsSummed c.args.command) (IsWornOnThreads s w) _ (handed_by r) _ c.in-Some.actor c.hand_worn.result.done.outcome
    (of_one_run (λ (x : SpaceRun). IsThreaded s w x (Some c.in-Some.actor)) r
    (subst (λ o. IsThreaded s w r o) c.in-Some.is c.requires.threaded)) c.hand_worn.ensures.handed
