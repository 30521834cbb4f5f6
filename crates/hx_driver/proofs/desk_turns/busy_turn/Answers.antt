use Rattle.std.proofs.Common.{◌≡◌, ◌∙◌, sym, subst, [], append-nil, false}
use Rattle.hx_types.specs.declared.ids.Actor.{Actor}
use Rattle.hx_model.specs.Runs.{has_halted}
use Rattle.hx_fate.specs.States.{untouched}
use Rattle.hx_driver.specs.Desks.{entries_before}
use Rattle.hx_driver.specs.Turns.{IsFaultOf}
use Rattle.hx_driver.proofs.Results.{match-map}
use Rattle.hx_driver.proofs.Same.{at-same, whole-halted, whole-of, whole-running}
use Rattle.hx_driver.proofs.Turned.{no-retry-both, no-retry-none, turn-both, turn-none}
use Rattle.hx_driver.proofs.desk_turns.busy_turn.Goals as goal

pub resend-requires-clause-desk : goal.resend-requires-clause-desk
resend-requires-clause-desk g c = (c.requires.desk.0, c.requires.desk.1.rest, c.requires.desk.1.desk)

pub resend-requires-clause-room : goal.resend-requires-clause-room
resend-requires-clause-room g c = (c.args.totals.now, c.requires.room)

pub discard-requires : goal.discard-requires
discard-requires g c =
    let w = c.requires.desk.0 in
    let h = c.requires.desk.1 in
    record { desk = (w, h.rest, c.resend.ensures.desk w h.rest h.desk) }

pub returns-then-halted-clause-desk : goal.returns-then-halted-clause-desk
returns-then-halted-clause-desk g c =
    let d = c.resend.new.desk in
    let t = c.discard.ensures.taken in
    match-map _ _ _ _ c.discard.result
    (λ _ k w h.
    let before = c.resend.ensures.desk w h.rest h.desk in
    whole-halted _ _ _ w d c.discard.new.desk (sym
    (c.halted.ensures c.args.floor.now.script.now d.actor (entries_before d.part.items) before.machine)
    ∙ c.if-halted.true) t.actor t.part (c.discard.ensures.desk w h.rest before))
    (λ _ k w h. c.discard.ensures.desk w h.rest (c.resend.ensures.desk w h.rest h.desk)) c.discard.ensures.fault

pub returns-then-halted-clause-fault : goal.returns-then-halted-clause-fault
returns-then-halted-clause-fault g c = match-map _ _ _ _ c.discard.result (λ x k. k)
    (λ f k. subst (IsFaultOf c.args.floor.now.script.now false c.discard.new.desk) (sym k) tt) c.discard.ensures.fault

pub returns-then-halted-clause-turn : goal.returns-then-halted-clause-turn
returns-then-halted-clause-turn g c =
    let t = c.discard.ensures.taken in
    let r = c.resend.ensures.turn c.args.totals.now _ c.requires.room.total in (
      [],
      turn-both c.args.floor.now.boxes.now c.args.desk.now c.resend.new.desk c.discard.new.desk c.args.out.now
          c.resend.new.out c.resend.new.out c.args.totals.now c.args.totals.now _ _ [] r
          (turn-none c.args.floor.now.boxes.now c.resend.new.desk c.discard.new.desk c.resend.new.out c.args.totals.now
          _ t.actor t.part t.kept t.ins r.out.0 r.total),
    )

pub returns-then-halted-clause-retries : goal.returns-then-halted-clause-retries
returns-then-halted-clause-retries g c =
    no-retry-none c.args.desk.now c.discard.new.desk
    (c.discard.ensures.taken.part ∙ (c.resend.ensures.turn c.args.totals.now untouched c.requires.room.total).part
    ∙ append-nil _)

pub take_and_enter-requires-clause-desk : goal.take_and_enter-requires-clause-desk
take_and_enter-requires-clause-desk g c =
    let w = c.requires.desk.0 in
    let h = c.requires.desk.1 in
    let d = c.resend.new.desk in
    let r = c.resend.ensures.turn c.args.totals.now untouched c.requires.room.total in
    let runs = sym (c.halted.ensures c.args.floor.now.script.now d.actor (entries_before d.part.items)
    (c.resend.ensures.desk w h.rest h.desk).machine) ∙ c.if-halted.false in
    let ran = at-same (λ (a : Actor) xs. has_halted c.args.floor.now.script.now (entries_before xs) a ≡ false) d.actor
    c.args.desk.now.actor d.part.items c.args.desk.now.part.items (sym r.later.actor) (sym (r.part ∙ append-nil _)) runs in
    (w, c.resend.ensures.desk w [] (whole-running _ _ _ w c.args.desk.now h ran))

pub take_and_enter-requires-clause-running : goal.take_and_enter-requires-clause-running
take_and_enter-requires-clause-running g c =
    let w = c.requires.desk.0 in
    let h = c.requires.desk.1 in
    let d = c.resend.new.desk in
    sym (c.halted.ensures c.args.floor.now.script.now d.actor (entries_before d.part.items) (c.resend.ensures.desk w h.rest h.desk).machine) ∙ c.if-halted.false

pub take_and_enter-requires-clause-out : goal.take_and_enter-requires-clause-out
take_and_enter-requires-clause-out g c = (c.resend.ensures.turn c.args.totals.now untouched c.requires.room.total).out.0

pub take_and_enter-requires-clause-room : goal.take_and_enter-requires-clause-room
take_and_enter-requires-clause-room g c = c.resend.ensures.room c.args.totals.now c.requires.room

pub returns-else-halted-clause-desk : goal.returns-else-halted-clause-desk
returns-else-halted-clause-desk g c =
    let d = c.resend.new.desk in
    let r = c.resend.ensures.turn c.args.totals.now untouched c.requires.room.total in
    let s = c.args.floor.now.script.now in
    match-map _ _ _ _ c.take_and_enter.result
    (λ _ k w h.
    let runs = sym (c.halted.ensures s d.actor (entries_before d.part.items) (c.resend.ensures.desk w h.rest h.desk).machine) ∙ c.if-halted.false in
    let ran = at-same (λ (a : Actor) xs. has_halted s (entries_before xs) a ≡ false) d.actor c.args.desk.now.actor
    d.part.items c.args.desk.now.part.items (sym r.later.actor) (sym (r.part ∙ append-nil _)) runs in
    whole-of s c.args.floor.now.clock.now c.args.floor.now.boxes.now w c.take_and_enter.new.desk
    (k w (c.resend.ensures.desk w [] (whole-running s c.args.floor.now.clock.now c.args.floor.now.boxes.now w
    c.args.desk.now h ran))))
    (λ _ k w h.
    let runs = sym (c.halted.ensures s d.actor (entries_before d.part.items) (c.resend.ensures.desk w h.rest h.desk).machine) ∙ c.if-halted.false in
    let ran = at-same (λ (a : Actor) xs. has_halted s (entries_before xs) a ≡ false) d.actor c.args.desk.now.actor
    d.part.items c.args.desk.now.part.items (sym r.later.actor) (sym (r.part ∙ append-nil _)) runs in
    k w (c.resend.ensures.desk w [] (whole-running s c.args.floor.now.clock.now c.args.floor.now.boxes.now w
    c.args.desk.now h ran))) c.take_and_enter.ensures.desk

pub returns-else-halted-clause-turn : goal.returns-else-halted-clause-turn
returns-else-halted-clause-turn g c =
    let k = c.take_and_enter.ensures.turn in (
      k.0,
      turn-both c.args.floor.now.boxes.now c.args.desk.now c.resend.new.desk c.take_and_enter.new.desk
          c.args.out.now c.resend.new.out c.take_and_enter.new.out c.args.totals.now c.take_and_enter.new.totals _ _ _
          (c.resend.ensures.turn c.args.totals.now _ c.requires.room.total) k.1,
    )

pub returns-else-halted-clause-retries : goal.returns-else-halted-clause-retries
returns-else-halted-clause-retries g c =
    no-retry-both c.args.desk.now c.resend.new.desk c.take_and_enter.new.desk
    ((c.resend.ensures.turn c.args.totals.now untouched c.requires.room.total).part ∙ append-nil _)
    c.take_and_enter.ensures.retries
