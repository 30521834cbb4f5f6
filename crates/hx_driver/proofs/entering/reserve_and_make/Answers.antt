use Rattle.std.proofs.Common.{◌<◌, length, refl, sym, subst, List}
use Rattle.hx_types.specs.declared.limits.TheConstants.{MOST_ENTRIES}
use Rattle.hx_clock.specs.declared.parts.Stamped.{Stamped}
use Rattle.hx_driver.specs.Told.{told_by}
use Rattle.hx_driver.proofs.Same.{desk-kept, desk-told, enough-same, made-same, ready-same, room-same, turn-after, turn-same}
use Rattle.hx_driver.proofs.entering.reserve_and_make.Goals as goal

pub make_entry-requires-clause-desk : goal.make_entry-requires-clause-desk
make_entry-requires-clause-desk g c =
    let s = c.make_room.ensures.same in
    let i = c.args.input in
    let w = c.requires.desk.0 in (
      w,
      desk-told _ _ _ w c.args.desk.now c.make_room.new.desk i s.0
          (desk-kept _ _ _ w (told_by c.args.desk.now.actor i) c.args.desk.now c.make_room.new.desk s.0 s.1.machine c.requires.desk.1),
    )

pub make_entry-requires-clause-step : goal.make_entry-requires-clause-step
make_entry-requires-clause-step g c =
    let s = c.make_room.ensures.same in (
      ready-same c.args.floor.now.script.now c.args.desk.now c.make_room.new.desk c.args.input c.args.change s.0 s.1 c.requires.step.0,
      enough-same c.args.desk.now c.make_room.new.desk c.args.input s.1 c.requires.step.1,
    )

pub make_entry-requires-clause-places : goal.make_entry-requires-clause-places
make_entry-requires-clause-places g c = (
  c.in-Ok.ensures.places,
  subst (λ (xs : List Stamped). length xs < MOST_ENTRIES) (sym c.make_room.ensures.same.0.part) c.requires.fresh,
)

pub make_entry-requires-clause-room : goal.make_entry-requires-clause-room
make_entry-requires-clause-room g c = room-same c.args.out.now c.args.desk.now c.make_room.new.desk c.args.totals.now
    c.make_room.ensures.same.0.kept c.requires.room

pub returns-in-Ok-clause-desk : goal.returns-in-Ok-clause-desk
returns-in-Ok-clause-desk g c w h =
    let s = c.make_room.ensures.same in
    let i = c.args.input in
    c.make_entry.ensures.desk w
    (desk-told _ _ _ w c.args.desk.now c.make_room.new.desk i s.0
    (desk-kept _ _ _ w (told_by c.args.desk.now.actor i) c.args.desk.now c.make_room.new.desk s.0 s.1.machine h))

pub returns-in-Ok-clause-turn : goal.returns-in-Ok-clause-turn
returns-in-Ok-clause-turn g c =
    let t = c.make_entry.ensures.turn in (
      t.0,
      made-same c.args.floor.now.script.now c.args.desk.now c.make_room.new.desk c.args.input t.0
          c.make_room.ensures.same.0 t.1,
      turn-after c.args.floor.now.boxes.now c.args.desk.now c.make_room.new.desk
          c.make_entry.new.desk c.args.out.now c.make_entry.new.out c.args.totals.now c.make_entry.new.totals _ _ _
          c.make_room.ensures.same.0 c.requires.out c.requires.room.total t.2,
    )

pub returns-in-Err-clause-desk : goal.returns-in-Err-clause-desk
returns-in-Err-clause-desk g c w rest h =
    let s = c.make_room.ensures.same in
    desk-kept _ _ _ w rest c.args.desk.now c.make_room.new.desk s.0 s.1.machine h

pub returns-in-Err-clause-turn : goal.returns-in-Err-clause-turn
returns-in-Err-clause-turn g c = turn-same c.args.floor.now.boxes.now c.args.desk.now c.make_room.new.desk
    c.args.out.now c.args.totals.now _ c.make_room.ensures.same.0 c.requires.out c.requires.room.total
