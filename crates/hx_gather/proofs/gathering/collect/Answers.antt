use Rattle.std.proofs.Common.{◌≡◌, sym, ap, subst, ◌∙◌}
use Rattle.hx_clock.specs.declared.view.View.{View}
use Rattle.hx_clock.specs.Views as a_view
use Rattle.hx_clock.specs.Views.{IsWhole}
use Rattle.hx_gather.specs.Gathered.{parts_of}
use Rattle.hx_gather.proofs.Seated.{drained, whole_parts, whole_view}
use Rattle.hx_gather.proofs.gathering.collect.Goals as goal

pub returns-clause-parts : goal.returns-clause-parts
returns-clause-parts c =
    c.loop-actor.invariant.0 ∙ ap parts_of (sym (drained _ _ _ c.loop-actor.yielded_by c.in-None.ensures.steps.0)
    ∙ c.into_iter-actor-iterator.ensures.into_iter_gives.0)

pub returns-clause-whole : goal.returns-clause-whole
returns-clause-whole c =
    let i = c.loop-actor.invariant in
    let all : c.loop-actor.yielded ≡ c.args.actors.items =
    sym (drained _ _ _ c.loop-actor.yielded_by c.in-None.ensures.steps.0)
    ∙ c.into_iter-actor-iterator.ensures.into_iter_gives.0 in
    whole_parts c.args.clock c.args.seat c.args.actors.items c.loop-actor.yielded c.loop-actor.seat.view
    c.close.result all c.requires.seats c.requires.all i.2 i.3 c.close.ensures.causal c.close.ensures.stamps

pub returns-clause-seat : goal.returns-clause-seat
returns-clause-seat c =
    let i = c.loop-actor.invariant in
    let all : c.loop-actor.yielded ≡ c.args.actors.items =
    sym (drained _ _ _ c.loop-actor.yielded_by c.in-None.ensures.steps.0)
    ∙ c.into_iter-actor-iterator.ensures.into_iter_gives.0 in
    subst (λ (v : View). IsWhole v × (a_view.parts_of v ≡ parts_of c.args.actors.items)) (sym c.close.ensures.seat)
    (whole_view c.args.clock c.args.seat c.args.actors.items c.loop-actor.yielded c.loop-actor.seat.view all c.requires.seats c.requires.all i.2 i.3)
