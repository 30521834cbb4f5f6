use Rattle.std.proofs.Common.{◌∙◌, ap}
use Rattle.hx_model.specs.Schedule.{is_idle}
use Rattle.hx_world.proofs.Turning.{session_state}
use Rattle.hx_world.proofs.actors.is_idle.Goals as goal

pub returns : goal.returns
returns c =
    c.idle.ensures
    ∙ ap is_idle (session_state c.args.inside.now.script c.args.inside.now.actors c.args.inside.now.log
    c.requires.world c.args.session c.requires.actor c.index-counted.result.now c.index-counted.ensures)
