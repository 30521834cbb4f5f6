use Rattle.hx_world.proofs.Turning.{most_of}
use Rattle.hx_world.proofs.worlds.World.begin.Goals as goal

pub returns-clause-most : goal.returns-clause-most
returns-clause-most c = most_of c.begin.new.inside.script c.begin.new.inside.actors c.begin.new.inside.log c.begin.ensures.world
