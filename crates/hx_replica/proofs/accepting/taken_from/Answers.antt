use Rattle.std.proofs.Common.{◌∷◌, ◌-◌, ◌+◌, length, subst, sym, arith, List}
use Rattle.std.specs.Borrow.{Bor}
use Rattle.hx_model.specs.Types.{Update}
use Rattle.hx_model.specs.Slots.{taken, turns}
use Rattle.hx_replica.proofs.Turns.{IsTaking, no_more, one_left, one_more}
use Rattle.hx_replica.proofs.accepting.taken_from.Goals as goal

pub returns-in-None-clause-taken : goal.returns-in-None-clause-taken
returns-in-None-clause-taken c =
    no_more c.args.slot.now.region c.args.slot.now.state.floor
    (length c.args.slot.now.state.early - c.loop-turn._turn) c.loop-turn.top.0 c.args.slot.now.state.early
    (c.args.update.now ∷ taken (turns c.args.slot.now.region
    (length c.args.slot.now.state.early) c.args.update.now.version.0 c.args.slot.now.state.early)) c.loop-turn.taken.items
    c.loop-turn.invariant (sym c.in-None.ensures.turn)

pub loop-turn-preserved : goal.loop-turn-preserved
loop-turn-preserved c =
    let all : List Update = c.args.update.now ∷ taken
    (turns c.args.slot.now.region (length c.args.slot.now.state.early) c.args.update.now.version.0
    c.args.slot.now.state.early) in
    subst (λ (u : Update). IsTaking c.args.slot.now.region c.args.slot.now.state.floor
    (length c.args.slot.now.state.early - (c.loop-turn._turn + 1)) u.version.0 c.args.slot.now.state.early all
    c.push-in-Some.new.self.items) (sym c.deref-in-Some.ensures)
    (
    subst (λ (us : List (Bor Update)). IsTaking c.args.slot.now.region c.args.slot.now.state.floor
    (length c.args.slot.now.state.early - (c.loop-turn._turn + 1)) c.in-Some.next.now.version.0
    c.args.slot.now.state.early all us) (sym c.in_ok-push-in-Some.ensures.items)
    (
    one_more c.args.slot.now.region c.args.slot.now.state.floor
    (length c.args.slot.now.state.early - (c.loop-turn._turn + 1)) c.loop-turn.top.0 c.args.slot.now.state.early
    all c.loop-turn.taken.items c.in-Some.next
    (one_left c.args.slot.now.region c.args.slot.now.state.floor
    (length c.args.slot.now.state.early) c.loop-turn._turn c.loop-turn.top.0 c.args.slot.now.state.early all
    c.loop-turn.taken.items (omega (arith, c.loop-turn-test.true, c.early_count-turn-end.ensures)) c.loop-turn.invariant)
    (sym c.in-Some.ensures.turn)
    (record { placed = c.in-Some.ensures.place; few = c.in-Some.ensures.few; above = omega (arith, c.loop-turn.invariant.above, c.in-Some.ensures.later) })
    )
    )
