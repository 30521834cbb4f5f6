use Rattle.std.proofs.Common.{List, map, rules, subst, sym}
use Rattle.hx_world.specs.Worlds.{WorldState}
use Rattle.hx_spaces.specs.Courses.{newest}
use Rattle.hx_spaces.specs.Walks.{IsSeated}
use Rattle.hx_spaces.proofs.OwnSteps.{can_take, not_in_turn, not_taken, place_counts, place_within, taken_by, taken_kept, taken_shown}
use Rattle.hx_spaces.proofs.Resting.{rest_with}
use Rattle.hx_spaces.proofs.Seats.{seated}
use Rattle.hx_spaces.proofs.clusters.Cluster.step.Goals as goal

pub beginner-beginner-requires : goal.beginner-beginner-requires
beginner-beginner-requires c =
    taken_by c.self.inside.bundle.now c.self.inside.worlds.items c.self.inside.order.items c.self.inside.begun.items
    c.self.invariant.kept c.args.self.now c.self.view_is
    c.args.space c.args.step.now c.requires c.index.result.now c.index.ensures

pub is_in_turn-requires-clause-seated : goal.is_in_turn-requires-clause-seated
is_in_turn-requires-clause-seated c =
    subst (λ (l : List WorldState). IsSeated c.self.inside.bundle.now l) (sym c.as_slice.ensures.value)
    (seated c.self.inside.bundle.now c.self.inside.worlds.items c.self.inside.order.items c.self.invariant.kept.course)

pub is_in_turn-requires-clause-place : goal.is_in_turn-requires-clause-place
is_in_turn-requires-clause-place c =
    place_within c.self.inside.bundle.now c.self.inside.worlds.items c.self.inside.order.items
    c.self.inside.begun.items c.self.invariant.kept c.args.self.now c.self.view_is
    c.args.space c.args.step.now c.requires c.index.result.now c.index.ensures c.beginner-beginner.result
    c.beginner-beginner.ensures c.as_slice-2.result.now c.as_slice-2.ensures.value

pub returns-then-not-is_in_turn-clause-refused : goal.returns-then-not-is_in_turn-clause-refused
returns-then-not-is_in_turn-clause-refused c =
    not_in_turn c.self.inside.bundle.now c.self.inside.worlds.items c.self.inside.order.items
    c.self.inside.begun.items c.self.invariant.kept c.args.self.now c.self.view_is
    c.args.space c.args.step.now c.requires c.index.result.now c.index.ensures c.beginner-beginner.result c.beginner-beginner.ensures
    c.as_slice.result.now c.as_slice.ensures.value c.is_in_turn.result c.is_in_turn.ensures c.if-not-is_in_turn.true

pub step_at-requires : goal.step_at-requires
step_at-requires c =
    can_take c.self.inside.bundle.now c.self.inside.worlds.items c.self.inside.order.items c.self.inside.begun.items
    c.self.invariant.kept c.args.self.now c.self.view_is
    c.args.space c.args.step.now c.requires c.index.result.now c.index.ensures

pub returns-in_err-step_at-clause-refused : goal.returns-in_err-step_at-clause-refused
returns-in_err-step_at-clause-refused c =
    let why =
    not_taken c.self.inside.bundle.now c.self.inside.worlds.items c.self.inside.order.items c.self.inside.begun.items
    c.self.invariant.kept c.args.self.now c.self.view_is
    c.args.space c.args.step.now c.requires c.index.result.now c.index.ensures c.beginner-beginner.result c.beginner-beginner.ensures
    c.as_slice.result.now c.as_slice.ensures.value c.is_in_turn.result c.is_in_turn.ensures c.if-not-is_in_turn.false
    c.in_err-step_at.field-0.0 c.in_err-step_at.ensures.refused in
    search (rules, why)

pub count_begin-requires : goal.count_begin-requires
count_begin-requires c =
    place_counts c.self.inside.bundle.now c.self.inside.worlds.items c.self.inside.order.items
    c.self.inside.begun.items c.self.invariant.kept c.args.self.now c.self.view_is
    c.args.space c.args.step.now c.requires c.index.result.now c.index.ensures c.beginner-beginner.result c.beginner-beginner.ensures
    c.as_slice.result.now c.as_slice.ensures.value c.is_in_turn.result c.is_in_turn.ensures c.if-not-is_in_turn.false

pub invariant_of-self-2 : goal.invariant_of-self-2
invariant_of-self-2 c = record {
  kept =
      taken_kept c.self.inside.bundle.now c.self.inside.worlds.items c.self.inside.order.items
      c.self.inside.begun.items c.self.invariant.kept c.args.self.now c.self.view_is
      c.args.space c.args.step.now c.requires c.index.result.now c.index.ensures c.beginner-beginner.result c.beginner-beginner.ensures
      c.as_slice.result.now c.as_slice.ensures.value c.is_in_turn.result c.is_in_turn.ensures c.if-not-is_in_turn.false
      c.step_at.new.worlds.items c.reserve.new.self.items c.push_reserved.new.self.items c.count_begin.new.begun.items
      c.in_ok-step_at.ensures.ok c.reserve.ensures.items c.push_reserved.ensures.items
      c.step_at.ensures.short c.count_begin.ensures;
  rest =
      rest_with (map newest c.self.inside.worlds.items) (map newest c.step_at.new.worlds.items)
      (record { space = c.args.space; next = c.in_ok-step_at.ensures.ok.next })
      c.self.inside.first c.look_from.new.first c.self.invariant.rest c.in_ok-step_at.ensures.ok.made c.look_from.ensures;
}

pub returns-clause-ok : goal.returns-clause-ok
returns-clause-ok c =
    taken_shown c.self.inside.bundle.now c.self.inside.worlds.items c.self.inside.order.items
    c.self.inside.begun.items c.self.invariant.kept c.args.self.now c.self.view_is
    c.args.space c.args.step.now c.requires c.index.result.now c.index.ensures c.beginner-beginner.result c.beginner-beginner.ensures
    c.as_slice.result.now c.as_slice.ensures.value c.is_in_turn.result c.is_in_turn.ensures c.if-not-is_in_turn.false
    c.step_at.new.worlds.items c.reserve.new.self.items c.push_reserved.new.self.items c.count_begin.new.begun.items
    c.in_ok-step_at.ensures.ok c.reserve.ensures.items c.push_reserved.ensures.items
