use Rattle.std.proofs.Common.{◌≡◌, ◌<◌, ◌∙◌, true, length, sym, subst, List}
use Rattle.hx_types.specs.declared.ids.Actor.{Actor}
use Rattle.hx_types.specs.declared.limits.TheConstants.{MOST_ENTRIES}
use Rattle.hx_clock.specs.declared.parts.Stamped.{Stamped}
use Rattle.hx_model.specs.Runs.{made_of, does_something}
use Rattle.hx_driver.specs.Desks.{entries_before}
use Rattle.hx_driver.specs.Told.{told_by}
use Rattle.hx_driver.proofs.Results.{match-map}
use Rattle.hx_driver.proofs.Same.{at-same, desk-told, made-same, ready-enough, room-same, turn-after, turn-same}
use Rattle.hx_driver.proofs.entering.step_on.Goals as goal

pub reserve_and_make-requires-clause-desk : goal.reserve_and_make-requires-clause-desk
reserve_and_make-requires-clause-desk g c =
    let w = c.requires.desk.0 in (
      w,
      desk-told _ _ _ w c.args.desk.now c.prepare_step.new.desk c.args.input c.prepare_step.ensures.same
          (c.prepare_step.ensures.desk w (told_by c.args.desk.now.actor c.args.input) c.requires.desk.1),
    )

pub reserve_and_make-requires-clause-step : goal.reserve_and_make-requires-clause-step
reserve_and_make-requires-clause-step g c =
    let s = c.prepare_step.ensures.same in
    let d = c.prepare_step.new.desk in
    let r = c.in-Ok.ensures.ready in
    let i = c.args.input in (
      r,
      ready-enough c.args.floor.now.script.now d i c.in-Ok.change r
          ∙ at-same (λ (a : Actor) xs. does_something i (made_of c.args.floor.now.script.now (entries_before xs) a i)
          ≡ true) c.args.desk.now.actor d.actor c.args.desk.now.part.items d.part.items s.actor s.part c.requires.enough,
    )

pub reserve_and_make-requires-clause-fresh : goal.reserve_and_make-requires-clause-fresh
reserve_and_make-requires-clause-fresh g c = subst (λ (xs : List Stamped). length xs < MOST_ENTRIES) (sym c.prepare_step.ensures.same.part) c.requires.fresh

pub reserve_and_make-requires-clause-room : goal.reserve_and_make-requires-clause-room
reserve_and_make-requires-clause-room g c = room-same c.args.out.now c.args.desk.now c.prepare_step.new.desk
    c.args.totals.now c.prepare_step.ensures.same.kept c.requires.room

pub returns-in-Ok-clause-desk : goal.returns-in-Ok-clause-desk
returns-in-Ok-clause-desk g c =
    let d = c.prepare_step.new.desk in
    match-map _ _ _ _ c.reserve_and_make.result
    (λ _ k w h. k w (desk-told _ _ _ w c.args.desk.now d c.args.input c.prepare_step.ensures.same
    (c.prepare_step.ensures.desk w (told_by c.args.desk.now.actor c.args.input) h)))
    (λ _ k w rest h. k w rest (c.prepare_step.ensures.desk w rest h)) c.reserve_and_make.ensures.desk

pub returns-in-Ok-clause-turn : goal.returns-in-Ok-clause-turn
returns-in-Ok-clause-turn g c =
    let s = c.prepare_step.ensures.same in
    let d = c.prepare_step.new.desk in
    match-map _ _ _ _ c.reserve_and_make.result
    (λ _ k. (
      k.0,
      made-same c.args.floor.now.script.now c.args.desk.now d c.args.input k.0 s k.1,
      turn-after c.args.floor.now.boxes.now c.args.desk.now d c.reserve_and_make.new.desk c.args.out.now
          c.reserve_and_make.new.out c.args.totals.now c.reserve_and_make.new.totals _ _ _ s c.requires.out
          c.requires.room.total k.2,
    ))
    (λ _ k. turn-after c.args.floor.now.boxes.now c.args.desk.now d c.reserve_and_make.new.desk c.args.out.now
    c.reserve_and_make.new.out c.args.totals.now c.reserve_and_make.new.totals _ _ _ s c.requires.out
    c.requires.room.total k) c.reserve_and_make.ensures.turn

pub returns-in-Err-clause-desk : goal.returns-in-Err-clause-desk
returns-in-Err-clause-desk g c w rest h = c.prepare_step.ensures.desk w rest h

pub returns-in-Err-clause-turn : goal.returns-in-Err-clause-turn
returns-in-Err-clause-turn g c = turn-same c.args.floor.now.boxes.now c.args.desk.now c.prepare_step.new.desk
    c.args.out.now c.args.totals.now _ c.prepare_step.ensures.same c.requires.out c.requires.room.total
