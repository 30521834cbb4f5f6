use Rattle.std.proofs.Common.{arith}
use Rattle.hx_driver.specs.Desks.{IsLater}
use Rattle.hx_driver.proofs.Going.{goes-refl, goes-trans}
use Rattle.hx_driver.proofs.Moving.{none-retried-refl, none-retried-trans}
use Rattle.hx_driver.proofs.Places.{both-length}
use Rattle.hx_driver.proofs.turning.round.Goals as goal

pub loop-at-init : goal.loop-at-init
loop-at-init g c = (goes-refl _ _ _ c.args.crew.now _, none-retried-refl c.args.floor.now.script.now c.args.crew.now)

pub few_turns-worked-requires-clause-crew : goal.few_turns-worked-requires-clause-crew
few_turns-worked-requires-clause-crew g c = (c.requires.crew.0, c.loop-at.invariant.0.crew c.requires.crew.0 c.requires.crew.1)

pub loop-at-preserved : goal.loop-at-preserved
loop-at-preserved g c =
    let i = c.loop-at.invariant in
    let n = c.few_turns-worked.ensures in (
      goes-trans _ _ _ c.args.crew.now c.loop-at.crew c.few_turns-worked.new.crew _ _ _ i.0 n.on,
      none-retried-trans c.args.floor.now.script.now c.args.crew.now c.loop-at.crew c.few_turns-worked.new.crew i.1 n.on.later n.retries,
    )

pub few_turns-worked-requires-clause-at : goal.few_turns-worked-requires-clause-at
few_turns-worked-requires-clause-at g c =
    grind (
      arith,
      both-length IsLater c.args.crew.now.desks.items c.loop-at.crew.desks.items
          c.loop-at.invariant.0.later.desks,
      c.loop-at-test.true,
      c.len-at-end.ensures,
    )
