use Rattle.std.proofs.Common.{◌≡◌, ◌∙◌, sym, ap, subst, [], ◌∷◌, append-nil, false}
use Rattle.hx_types.specs.declared.ids.Actor.{Actor}
use Rattle.hx_law_threads.specs.Cuts.{is_retry}
use Rattle.hx_model.specs.Runs.{has_halted, made_of}
use Rattle.hx_driver.specs.Desks.{entries_before}
use Rattle.hx_driver.specs.Floors.{IsDeskOn}
use Rattle.hx_driver.specs.Told.{told_by}
use Rattle.hx_driver.proofs.Heard.{can-count}
use Rattle.hx_driver.proofs.Results.{match-elim, match-map}
use Rattle.hx_driver.specs.Inboxes.{ins_of}
use Rattle.hx_driver.proofs.Same.{at-same, broken-of, no-tick, room-same, taken-enough, turn-taken}
use Rattle.hx_driver.proofs.Turned.{no-retry-both, no-retry-none, no-retry-one}
use Rattle.hx_driver.proofs.desk_turns.take_and_enter.Goals as goal

pub receive-requires-clause-room : goal.receive-requires-clause-room
receive-requires-clause-room g c =
    let h = c.requires.desk.1 in
    can-count c.args.desk.now.part.items (ins_of c.args.desk.now.inbox) c.args.desk.now.heard.items h.told h.few h.heard.1

pub make_unless_worn-requires-clause-desk : goal.make_unless_worn-requires-clause-desk
make_unless_worn-requires-clause-desk g c =
    let w = c.requires.desk.0 in (
      w,
      subst (λ (a : Actor). IsDeskOn c.args.floor.now w (told_by a c.in-Some.input) c.receive.new.desk)
          (sym c.receive.ensures.taken.actor) (c.in-Some.ensures.desk w [] c.requires.desk.1),
    )

pub make_unless_worn-requires-clause-running : goal.make_unless_worn-requires-clause-running
make_unless_worn-requires-clause-running g c =
    let t = c.receive.ensures.taken in
    at-same (λ (a : Actor) xs. has_halted c.args.floor.now.script.now (entries_before xs) a ≡ false)
    c.args.desk.now.actor c.receive.new.desk.actor c.args.desk.now.part.items c.receive.new.desk.part.items
    t.actor t.part c.requires.running

pub make_unless_worn-requires-clause-enough : goal.make_unless_worn-requires-clause-enough
make_unless_worn-requires-clause-enough g c = taken-enough c.in-Some.input _ c.in-Some.ensures.given.1

pub make_unless_worn-requires-clause-turns : goal.make_unless_worn-requires-clause-turns
make_unless_worn-requires-clause-turns g c =
    no-tick c.receive.new.desk.actor c.in-Some.input
    (made_of c.args.floor.now.script.now (entries_before c.receive.new.desk.part.items) c.receive.new.desk.actor
    c.in-Some.input) c.in-Some.ensures.given.1

pub make_unless_worn-requires-clause-room : goal.make_unless_worn-requires-clause-room
make_unless_worn-requires-clause-room g c = room-same c.args.out.now c.args.desk.now c.receive.new.desk
    c.args.totals.now c.receive.ensures.taken.kept c.requires.room

pub returns-in-Some-clause-desk : goal.returns-in-Some-clause-desk
returns-in-Some-clause-desk g c =
    match-map _ _ _ _ c.make_unless_worn.result
    (λ _ k w h. k w (subst (λ (a : Actor). IsDeskOn c.args.floor.now w (told_by a c.in-Some.input) c.receive.new.desk)
    (sym c.receive.ensures.taken.actor) (c.in-Some.ensures.desk w [] h)))
    (λ _ k w h. broken-of _ _ _ w (told_by c.args.desk.now.actor c.in-Some.input) c.make_unless_worn.new.desk
    (k w (told_by c.args.desk.now.actor c.in-Some.input) (c.in-Some.ensures.desk w [] h))) c.make_unless_worn.ensures.desk

pub returns-in-Some-clause-turn : goal.returns-in-Some-clause-turn
returns-in-Some-clause-turn g c =
    match-elim _ _ _ c.make_unless_worn.result
    (λ _ k. (
      k.0 ∷ [],
      turn-taken c.args.floor.now.boxes.now c.args.desk.now c.receive.new.desk
          c.make_unless_worn.new.desk c.args.out.now c.make_unless_worn.new.out c.args.totals.now
          c.make_unless_worn.new.totals _ _ _ c.receive.ensures.taken c.requires.out c.requires.room.total k.2,
    ))
    (λ _ k. (
      [],
      turn-taken c.args.floor.now.boxes.now c.args.desk.now c.receive.new.desk c.make_unless_worn.new.desk
          c.args.out.now c.make_unless_worn.new.out c.args.totals.now c.make_unless_worn.new.totals _ _ _
          c.receive.ensures.taken c.requires.out c.requires.room.total k,
    )) c.make_unless_worn.ensures.turn

pub returns-in-Some-clause-retries : goal.returns-in-Some-clause-retries
returns-in-Some-clause-retries g c =
    no-retry-both c.args.desk.now c.receive.new.desk c.make_unless_worn.new.desk c.receive.ensures.taken.part
    (match-elim _ _ _ c.make_unless_worn.result (λ _ k. no-retry-one c.receive.new.desk c.make_unless_worn.new.desk
    k.0 k.2.part (ap is_retry k.1 ∙ no-tick c.receive.new.desk.actor c.in-Some.input
    (made_of c.args.floor.now.script.now (entries_before c.receive.new.desk.part.items) c.receive.new.desk.actor
    c.in-Some.input) c.in-Some.ensures.given.1))
    (λ _ k. no-retry-none c.receive.new.desk c.make_unless_worn.new.desk (k.part ∙ append-nil _)) c.make_unless_worn.ensures.turn)

pub begin-requires-clause-desk : goal.begin-requires-clause-desk
begin-requires-clause-desk g c = (c.requires.desk.0, c.in-None.ensures.desk c.requires.desk.0 [] c.requires.desk.1)

pub begin-requires-clause-running : goal.begin-requires-clause-running
begin-requires-clause-running g c =
    let t = c.receive.ensures.taken in
    at-same (λ (a : Actor) xs. has_halted c.args.floor.now.script.now (entries_before xs) a ≡ false)
    c.args.desk.now.actor c.receive.new.desk.actor c.args.desk.now.part.items c.receive.new.desk.part.items
    t.actor t.part c.requires.running

pub begin-requires-clause-room : goal.begin-requires-clause-room
begin-requires-clause-room g c = room-same c.args.out.now c.args.desk.now c.receive.new.desk c.args.totals.now c.receive.ensures.taken.kept c.requires.room

pub returns-in-None-clause-desk : goal.returns-in-None-clause-desk
returns-in-None-clause-desk g c = match-map _ _ _ _ c.begin.result (λ _ k w h. k w (c.in-None.ensures.desk w [] h))
    (λ _ k w h. k w (c.in-None.ensures.desk w [] h)) c.begin.ensures.desk

pub returns-in-None-clause-turn : goal.returns-in-None-clause-turn
returns-in-None-clause-turn g c =
    let k = c.begin.ensures.turn in (
      k.0,
      turn-taken c.args.floor.now.boxes.now c.args.desk.now c.receive.new.desk c.begin.new.desk c.args.out.now
          c.begin.new.out c.args.totals.now c.begin.new.totals _ _ _ c.receive.ensures.taken c.requires.out
          c.requires.room.total k.1,
    )

pub returns-in-None-clause-retries : goal.returns-in-None-clause-retries
returns-in-None-clause-retries g c = no-retry-both c.args.desk.now c.receive.new.desk c.begin.new.desk c.receive.ensures.taken.part c.begin.ensures.retries
