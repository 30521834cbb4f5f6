use Rattle.std.proofs.Common.{map, refl}
use Rattle.hx_spaces.specs.Courses.{newest}
use Rattle.hx_spaces.proofs.Resting.{rests_walk}
use Rattle.hx_spaces.proofs.delivering.has_delivery.Goals as goal

pub loop-place-init : goal.loop-place-init
loop-place-init c = (refl, rests_walk (map newest c.args.worlds.now.items) c.args.first c.requires)
