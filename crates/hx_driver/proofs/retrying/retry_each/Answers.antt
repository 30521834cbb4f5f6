use Rattle.std.proofs.Common.{arith, ◌≡◌, inl, length}
use Rattle.hx_driver.specs.Desks.{HasRetried, IsLater}
use Rattle.hx_driver.specs.Slices.{MayHaveRetried}
use Rattle.hx_driver.proofs.Going.{goes-refl, goes-trans}
use Rattle.hx_driver.proofs.Moving.{done-all, done-none}
use Rattle.hx_driver.proofs.Places.{both-length}
use Rattle.hx_driver.proofs.retrying.retry_each.Goals as goal

pub loop-at-init : goal.loop-at-init
loop-at-init g c = (
  goes-refl _ _ _ c.args.crew.now _,
  (λ e. done-none (HasRetried c.args.floor.now.script.now) c.args.crew.now.desks.items),
  done-none (MayHaveRetried c.args.floor.now.script.now) c.args.crew.now.desks.items,
  (λ e. inl e),
)

pub move_at-requires-clause-crew : goal.move_at-requires-clause-crew
move_at-requires-clause-crew g c = (c.requires.crew.0, c.loop-at.invariant.0.crew c.requires.crew.0 c.requires.crew.1)

pub loop-at-preserved : goal.loop-at-preserved
loop-at-preserved g c =
    let i = c.loop-at.invariant in
    let n = c.move_at.ensures in (
      goes-trans _ _ _ c.args.crew.now c.loop-at.crew c.move_at.new.crew _ _ _ i.0 n.on,
      (λ e. (n.moved.calm e).1 c.args.crew.now.desks.items (i.1 (n.moved.calm e).0)),
      n.moved.some c.args.crew.now.desks.items i.2,
      (λ e. n.moved.fault c.args.crew.now.desks.items i.2 (i.3 e)),
    )

pub move_at-requires-clause-at : goal.move_at-requires-clause-at
move_at-requires-clause-at g c =
    grind (
      arith,
      both-length IsLater c.args.crew.now.desks.items c.loop-at.crew.desks.items
          c.loop-at.invariant.0.later.desks,
      c.loop-at-test.true,
      c.len-at-end.ensures,
    )

pub returns-clause-retried : goal.returns-clause-retried
returns-clause-retried g c =
    let i = c.loop-at.invariant in
    let whole : c.loop-at.at ≡ length c.args.crew.now.desks.items = grind (arith, c.loop-at-test.false, c.loop-at.auto.at-end, c.len-at-end.ensures) in
    record {
      calm = λ e. done-all (HasRetried c.args.floor.now.script.now) c.loop-at.at c.args.crew.now.desks.items c.loop-at.crew.desks.items whole (i.1 e);
      some = done-all (MayHaveRetried c.args.floor.now.script.now) c.loop-at.at c.args.crew.now.desks.items c.loop-at.crew.desks.items whole i.2;
      fault = i.3;
    }
