use Rattle.std.proofs.Common.{◌≡◌, ◌∙◌, ap, subst, sym, true}
use Rattle.std.specs.Prelude.{reverse}
use Rattle.hx_model.specs.Types.{Actor}
use Rattle.hx_model.specs.Runs.{has_halted, is_actor}
use Rattle.hx_world.proofs.Turning.{halted_here}
use Rattle.hx_world.proofs.actors.has_halted.Goals as goal

pub returns-in-Server : goal.returns-in-Server
returns-in-Server c =
    c.halted.ensures
    ∙ halted_here c.args.inside.now.script c.args.inside.now.actors c.args.inside.now.log c.requires.world c.in-Server.server
    (subst (λ (a : Actor). is_actor c.args.inside.now.script a ≡ true) c.in-Server.is c.requires.actor) c.index-counted.result.now c.index-counted.ensures
    ∙ ap (λ (a : Actor). has_halted c.args.inside.now.script (reverse c.args.inside.now.log.trace) a) (sym c.in-Server.is)
