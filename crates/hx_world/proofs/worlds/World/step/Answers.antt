use Rattle.hx_world.proofs.Turning.{most_of}
use Rattle.hx_world.proofs.worlds.World.step.Goals as goal

pub returns-clause-most : goal.returns-clause-most
returns-clause-most c = most_of c.take_step.new.inside.script c.take_step.new.inside.actors c.take_step.new.inside.log c.take_step.ensures.world
