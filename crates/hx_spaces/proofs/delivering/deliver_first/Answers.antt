use Rattle.std.proofs.Common.{map, refl, subst}
use Rattle.hx_spaces.specs.Walks.{DeliversAt}
use Rattle.hx_spaces.specs.Courses.{newest}
use Rattle.hx_spaces.proofs.Deliveries.{delivers_from}
use Rattle.hx_spaces.proofs.Resting.{rests_walk}
use Rattle.hx_spaces.proofs.delivering.deliver_first.Goals as goal

pub returns-in-Ok-true-clause-delivers : goal.returns-in-Ok-true-clause-delivers
returns-in-Ok-true-clause-delivers c =
    delivers_from c.args.worlds.now.items c.loop-place.worlds.items c.deliver_at.new.worlds.items c.loop-place.place
    c.loop-place.invariant.0 c.deliver_at.ensures.within c.loop-place.invariant.1
    (subst (λ b. DeliversAt c.loop-place.place (map newest c.loop-place.worlds.items)
    (map newest c.deliver_at.new.worlds.items) b) c.in-Ok-true.field-0-test c.in-Ok-true.ensures.delivers)

pub loop-place-init : goal.loop-place-init
loop-place-init c = (refl, rests_walk (map newest c.args.worlds.now.items) c.args.first c.requires)
