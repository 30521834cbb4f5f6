use Rattle.std.proofs.Common.{map, subst, true}
use Rattle.hx_spaces.specs.Courses.{Course, first_delivery_from, newest}
use Rattle.hx_spaces.specs.Draining.{Takes}
use Rattle.hx_spaces.specs.Keeping.{course_of}
use Rattle.hx_spaces.specs.Walks.{DeliversIn}
use Rattle.hx_spaces.proofs.FairTurns.{delivered_kept, delivered_takes, rested_kept}
use Rattle.hx_spaces.proofs.Resting.{rest_delivered, rest_quiet}
use Rattle.hx_spaces.proofs.clusters.Cluster.deliver_next.Goals as goal

pub invariant_of-self-in-Ok-Some : goal.invariant_of-self-in-Ok-Some
invariant_of-self-in-Ok-Some c =
    let delivers = subst (λ o. DeliversIn (map newest c.self.inside.worlds.items)
    (map newest c.deliver_first.new.worlds.items) o) c.in-Ok-Some.field-0-is c.in-Ok-Some.ensures.delivers in
    record {
      kept = delivered_kept c.self.inside.bundle.now c.self.inside.worlds.items c.deliver_first.new.worlds.items
          c.self.inside.order.items c.reserve.new.self.items
          c.push_reserved.new.self.items c.self.inside.begun.items c.in-Ok-Some.space c.self.invariant.kept delivers
          c.deliver_first.ensures.short c.reserve.ensures.items c.push_reserved.ensures.items;
      rest = rest_delivered (map newest c.self.inside.worlds.items) (map newest c.deliver_first.new.worlds.items) c.in-Ok-Some.space delivers;
    }

pub invariant_of-self-in-Ok-None : goal.invariant_of-self-in-Ok-None
invariant_of-self-in-Ok-None c =
    let delivers = subst (λ o. DeliversIn (map newest c.self.inside.worlds.items)
    (map newest c.deliver_first.new.worlds.items) o) c.in-Ok-None.field-0-is c.in-Ok-None.ensures.delivers in
    record {
      kept = rested_kept c.self.inside.bundle.now c.self.inside.worlds.items c.deliver_first.new.worlds.items
          c.self.inside.order.items c.reserve.new.self.items c.self.inside.begun.items
          c.self.invariant.kept delivers c.reserve.ensures.items;
      rest = rest_quiet (map newest c.self.inside.worlds.items) (map newest c.deliver_first.new.worlds.items) c.len-self-inside.result delivers;
    }

pub returns-in-Ok-Some-clause-takes : goal.returns-in-Ok-Some-clause-takes
returns-in-Ok-Some-clause-takes c =
    subst (λ (o : Course). Takes (first_delivery_from 0 o.runs) o
    (course_of c.self.inside.bundle.now c.deliver_first.new.worlds.items c.push_reserved.new.self.items) true) c.self.view_is
    (delivered_takes c.self.inside.bundle.now c.self.inside.worlds.items c.deliver_first.new.worlds.items c.self.inside.order.items c.reserve.new.self.items
    c.push_reserved.new.self.items c.in-Ok-Some.space
    (subst (λ o. DeliversIn (map newest c.self.inside.worlds.items) (map newest c.deliver_first.new.worlds.items) o)
    c.in-Ok-Some.field-0-is c.in-Ok-Some.ensures.delivers)
    c.reserve.ensures.items c.push_reserved.ensures.items)
