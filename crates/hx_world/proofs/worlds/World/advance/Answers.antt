use Rattle.hx_world.proofs.Turning.{most_of}
use Rattle.hx_world.proofs.worlds.World.advance.Goals as goal

pub returns-clause-most : goal.returns-clause-most
returns-clause-most c = most_of c.make_next.new.inside.script c.make_next.new.inside.actors c.make_next.new.inside.log c.make_next.ensures.world
