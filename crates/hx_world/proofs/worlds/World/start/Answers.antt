use Rattle.std.proofs.Common.{subst, sym}
use Rattle.hx_model.specs.Types.{Script}
use Rattle.hx_world.specs.Invariant.{IsWorldOn}
use Rattle.hx_world.proofs.Beginning.{world_starts}
use Rattle.hx_world.proofs.worlds.World.start.Goals as goal

pub invariant_of-result : goal.invariant_of-result
invariant_of-result c =
    subst (λ (script : Script). IsWorldOn script c.in_ok-actors.actors c.empty.result) (sym c.in_ok-script.ensures)
    (
    world_starts c.args.script.now c.in_ok-actors.actors c.empty.result c.requires
    c.posts_of_runs_are_sound.ensures.posts c.posts_of_runs_are_sound.ensures.versions
    c.posts_of_runs_are_sound.ensures.epochs
    c.in_ok-actors.ensures c.empty.ensures.trace c.empty.ensures.waiting
    )
