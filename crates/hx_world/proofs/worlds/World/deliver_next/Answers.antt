use Rattle.hx_world.proofs.Turning.{most_of}
use Rattle.hx_world.proofs.worlds.World.deliver_next.Goals as goal

pub returns-clause-most : goal.returns-clause-most
returns-clause-most c = most_of c.deliver_first.new.inside.script c.deliver_first.new.inside.actors c.deliver_first.new.inside.log c.deliver_first.ensures.world
