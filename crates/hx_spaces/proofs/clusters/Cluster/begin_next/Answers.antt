use Rattle.std.proofs.Common.{List, Some, map, subst, sym, ◌≡◌}
use Rattle.hx_world.specs.Worlds.{WorldState}
use Rattle.hx_spaces.specs.Courses.{first_begin, newest}
use Rattle.hx_spaces.specs.Walks.{IsSeated, begin_turn}
use Rattle.hx_spaces.proofs.FairTurns.{begun_kept, found_next, next_counts, next_few}
use Rattle.hx_spaces.proofs.Resting.{rest_with}
use Rattle.hx_spaces.proofs.Seats.{can_begin, seated}
use Rattle.hx_spaces.proofs.clusters.Cluster.begin_next.Goals as goal

pub first_begin-first-requires-clause-seated : goal.first_begin-first-requires-clause-seated
first_begin-first-requires-clause-seated c =
    subst (λ (l : List WorldState). IsSeated c.self.inside.bundle.now l) (sym c.as_slice.ensures.value)
    (seated c.self.inside.bundle.now c.self.inside.worlds.items c.self.inside.order.items c.self.invariant.kept.course)

pub begin_at-requires-clause-few : goal.begin_at-requires-clause-few
begin_at-requires-clause-few c =
    let found =
    subst (λ (l : List WorldState). Some (begin_turn c.in-Some.field-0.place c.in-Some.field-0.space)
    ≡ first_begin c.self.inside.bundle.now (map newest l)) c.as_slice.ensures.value c.in-Some.ensures in
    next_few c.self.inside.bundle.now c.self.inside.worlds.items c.self.inside.order.items c.self.inside.begun.items
    c.self.invariant.kept c.in-Some.field-0.place c.in-Some.field-0.space
    (found_next c.self.inside.bundle.now c.self.inside.worlds.items c.in-Some.field-0.place c.in-Some.field-0.space found)

pub begin_at-requires-clause-can : goal.begin_at-requires-clause-can
begin_at-requires-clause-can c =
    let found =
    subst (λ (l : List WorldState). Some (begin_turn c.in-Some.field-0.place c.in-Some.field-0.space)
    ≡ first_begin c.self.inside.bundle.now (map newest l)) c.as_slice.ensures.value c.in-Some.ensures in
    can_begin c.self.inside.bundle.now c.self.inside.worlds.items c.self.inside.order.items c.in-Some.field-0.place
    c.in-Some.field-0.space c.self.invariant.kept.course
    (found_next c.self.inside.bundle.now c.self.inside.worlds.items c.in-Some.field-0.place c.in-Some.field-0.space found)

pub count_begin-requires : goal.count_begin-requires
count_begin-requires c =
    let found =
    subst (λ (l : List WorldState). Some (begin_turn c.in-Some.field-0.place c.in-Some.field-0.space)
    ≡ first_begin c.self.inside.bundle.now (map newest l)) c.as_slice.ensures.value c.in-Some.ensures in
    next_counts c.self.inside.bundle.now c.self.inside.worlds.items c.self.inside.order.items
    c.self.inside.begun.items c.self.invariant.kept c.in-Some.field-0.place c.in-Some.field-0.space
    (found_next c.self.inside.bundle.now c.self.inside.worlds.items c.in-Some.field-0.place c.in-Some.field-0.space found)

pub invariant_of-self-2 : goal.invariant_of-self-2
invariant_of-self-2 c =
    let found =
    subst (λ (l : List WorldState). Some (begin_turn c.in-Some.field-0.place c.in-Some.field-0.space)
    ≡ first_begin c.self.inside.bundle.now (map newest l)) c.as_slice.ensures.value c.in-Some.ensures in
    record {
      kept =
          begun_kept c.self.inside.bundle.now c.self.inside.worlds.items c.self.inside.order.items
          c.self.inside.begun.items c.self.invariant.kept c.in-Some.field-0.place c.in-Some.field-0.space
          (found_next c.self.inside.bundle.now c.self.inside.worlds.items c.in-Some.field-0.place c.in-Some.field-0.space found)
          c.begin_at.new.worlds.items c.reserve.new.self.items c.push_reserved.new.self.items
          c.in_ok-begin_at.ensures.begins c.begin_at.ensures.short c.reserve.ensures.items c.push_reserved.ensures.items
          c.count_begin.new.begun.items c.count_begin.ensures;
      rest =
          rest_with (map newest c.self.inside.worlds.items) (map newest c.begin_at.new.worlds.items)
          (begin_turn c.in-Some.field-0.place c.in-Some.field-0.space)
          c.self.inside.first c.look_from.new.first c.self.invariant.rest c.in_ok-begin_at.ensures.begins c.look_from.ensures;
    }
