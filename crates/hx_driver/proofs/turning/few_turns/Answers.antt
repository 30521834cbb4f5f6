use Rattle.std.proofs.Common.{arith}
use Rattle.hx_driver.specs.Desks.{IsLater}
use Rattle.hx_driver.proofs.Going.{goes-refl, goes-trans}
use Rattle.hx_driver.proofs.Moving.{none-retried-refl, none-retried-trans}
use Rattle.hx_driver.proofs.Places.{both-length}
use Rattle.hx_driver.proofs.turning.few_turns.Goals as goal

pub loop-turn-init : goal.loop-turn-init
loop-turn-init g c = (goes-refl _ _ _ c.args.crew.now _, none-retried-refl c.args.floor.now.script.now c.args.crew.now)

pub turn_did_something-requires-clause-crew : goal.turn_did_something-requires-clause-crew
turn_did_something-requires-clause-crew g c = (c.requires.crew.0, c.loop-turn.invariant.0.crew c.requires.crew.0 c.requires.crew.1)

pub turn_did_something-requires-clause-at : goal.turn_did_something-requires-clause-at
turn_did_something-requires-clause-at g c =
    grind (arith, both-length IsLater c.args.crew.now.desks.items c.loop-turn.crew.desks.items c.loop-turn.invariant.0.later.desks, c.requires.at)

pub loop-turn-preserved : goal.loop-turn-preserved
loop-turn-preserved g c =
    let i = c.loop-turn.invariant in
    let n = c.turn_did_something.ensures in (
      goes-trans _ _ _ c.args.crew.now c.loop-turn.crew c.turn_did_something.new.crew _ _ _ i.0 n.on,
      none-retried-trans c.args.floor.now.script.now c.args.crew.now c.loop-turn.crew c.turn_did_something.new.crew i.1 n.on.later n.retries,
    )

pub returns-then-not-turn_did_something-clause-on : goal.returns-then-not-turn_did_something-clause-on
returns-then-not-turn_did_something-clause-on g c =
    goes-trans _ _ _ c.args.crew.now c.loop-turn.crew c.turn_did_something.new.crew _ _ _ c.loop-turn.invariant.0 c.turn_did_something.ensures.on

pub returns-then-not-turn_did_something-clause-retries : goal.returns-then-not-turn_did_something-clause-retries
returns-then-not-turn_did_something-clause-retries g c =
    let n = c.turn_did_something.ensures in
    none-retried-trans c.args.floor.now.script.now c.args.crew.now c.loop-turn.crew c.turn_did_something.new.crew c.loop-turn.invariant.1 n.on.later n.retries
