use Rattle.std.proofs.Common.{◌≡◌, ◌∙◌, [], false}
use Rattle.hx_types.specs.declared.ids.Actor.{Actor}
use Rattle.hx_model.specs.Runs.{has_halted}
use Rattle.hx_law_threads.specs.Cuts.{is_idle_actor}
use Rattle.hx_driver.specs.Desks.{entries_before}
use Rattle.hx_driver.proofs.Results.{match-map}
use Rattle.hx_driver.proofs.Same.{at-same, retried-same, room-same, turn-after, turn-same}
use Rattle.hx_driver.proofs.desk_retries.tick.Goals as goal

pub finish-requires-clause-desk : goal.finish-requires-clause-desk
finish-requires-clause-desk g c = (c.requires.desk.0, c.prepare_step.ensures.desk c.requires.desk.0 [] c.requires.desk.1)

pub finish-requires-clause-running : goal.finish-requires-clause-running
finish-requires-clause-running g c =
    let s = c.prepare_step.ensures.same in
    at-same (λ (a : Actor) xs. has_halted c.args.floor.now.script.now (entries_before xs) a ≡ false)
    c.args.desk.now.actor c.prepare_step.new.desk.actor c.args.desk.now.part.items
    c.prepare_step.new.desk.part.items s.actor s.part c.requires.running

pub finish-requires-clause-waits : goal.finish-requires-clause-waits
finish-requires-clause-waits g c =
    let s = c.prepare_step.ensures.same in
    at-same (λ (a : Actor) xs. is_idle_actor c.args.floor.now.script.now (entries_before xs) a ≡ false)
    c.args.desk.now.actor c.prepare_step.new.desk.actor c.args.desk.now.part.items
    c.prepare_step.new.desk.part.items s.actor s.part c.requires.waits

pub finish-requires-clause-room : goal.finish-requires-clause-room
finish-requires-clause-room g c = room-same c.args.out.now c.args.desk.now c.prepare_step.new.desk c.args.totals.now
    c.prepare_step.ensures.same.kept c.requires.room

pub returns-in-Ok-clause-desk : goal.returns-in-Ok-clause-desk
returns-in-Ok-clause-desk g c w h = c.finish.ensures.desk w (c.prepare_step.ensures.desk w [] h)

pub returns-in-Ok-clause-retried : goal.returns-in-Ok-clause-retried
returns-in-Ok-clause-retried g c =
    let s = c.prepare_step.ensures.same in
    match-map _ _ _ _ c.finish.result (λ _ k. retried-same c.args.floor.now.script.now c.args.desk.now
    c.prepare_step.new.desk c.finish.new.desk s k) (λ _ k. k ∙ s.part) c.finish.ensures.retried

pub returns-in-Ok-clause-turn : goal.returns-in-Ok-clause-turn
returns-in-Ok-clause-turn g c =
    let k = c.finish.ensures.turn in (
      k.0,
      turn-after c.args.floor.now.boxes.now c.args.desk.now c.prepare_step.new.desk c.finish.new.desk
          c.args.out.now c.finish.new.out c.args.totals.now c.finish.new.totals _ _ _ c.prepare_step.ensures.same
          c.requires.out c.requires.room.total k.1,
    )

pub returns-clause-desk : goal.returns-clause-desk
returns-clause-desk g c w h = c.prepare_step.ensures.desk w [] h

pub returns-clause-turn : goal.returns-clause-turn
returns-clause-turn g c = (
  [],
  turn-same c.args.floor.now.boxes.now c.args.desk.now c.prepare_step.new.desk
      c.args.out.now c.args.totals.now _ c.prepare_step.ensures.same c.requires.out c.requires.room.total,
)
