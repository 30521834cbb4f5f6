use Rattle.hx_world.proofs.Turning.{most_of}
use Rattle.hx_world.proofs.worlds.World.has_next.Goals as goal

pub returns-clause-most : goal.returns-clause-most
returns-clause-most c = most_of c.has_next.new.inside.script c.has_next.new.inside.actors c.has_next.new.inside.log c.has_next.ensures.world
