use Rattle.hx_driver.proofs.Going.{goes-refl, goes-trans}
use Rattle.hx_driver.proofs.Moving.{none-retried-refl, none-retried-trans}
use Rattle.hx_driver.proofs.turning.rounds.Goals as goal

pub loop-round-init : goal.loop-round-init
loop-round-init g c = (goes-refl _ _ _ c.args.crew.now _, none-retried-refl c.args.floor.now.script.now c.args.crew.now)

pub round-worked-requires : goal.round-worked-requires
round-worked-requires g c = record { crew = (c.requires.crew.0, c.loop-round.invariant.0.crew c.requires.crew.0 c.requires.crew.1) }

pub loop-round-preserved : goal.loop-round-preserved
loop-round-preserved g c =
    let i = c.loop-round.invariant in
    let n = c.round-worked.ensures in (
      goes-trans _ _ _ c.args.crew.now c.loop-round.crew c.round-worked.new.crew _ _ _ i.0 n.on,
      none-retried-trans c.args.floor.now.script.now c.args.crew.now c.loop-round.crew c.round-worked.new.crew i.1 n.on.later n.retries,
    )

pub returns-then-is_over-clause-on : goal.returns-then-is_over-clause-on
returns-then-is_over-clause-on g c = goes-trans _ _ _ c.args.crew.now c.loop-round.crew c.round-worked.new.crew _ _ _
    c.loop-round.invariant.0 c.round-worked.ensures.on

pub returns-then-is_over-clause-retries : goal.returns-then-is_over-clause-retries
returns-then-is_over-clause-retries g c =
    let n = c.round-worked.ensures in
    none-retried-trans c.args.floor.now.script.now c.args.crew.now c.loop-round.crew c.round-worked.new.crew c.loop-round.invariant.1 n.on.later n.retries
