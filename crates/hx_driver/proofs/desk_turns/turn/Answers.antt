use Rattle.std.proofs.Common.{refl, sym, subst, []}
use Rattle.std.specs.Prelude.{ℕ, MatchResult}
use Rattle.hx_driver.specs.declared.desks.Desk.{Desk}
use Rattle.hx_driver.specs.Desks.{HasNoRetry}
use Rattle.hx_driver.specs.Floors.{IsBrokenDeskOn, IsWholeDeskOn}
use Rattle.hx_driver.specs.Turns.{HasRoom}
use Rattle.hx_driver.proofs.Turned.{no-retry-none, turn-from, turn-still}
use Rattle.hx_driver.proofs.desk_turns.turn.Goals as goal

pub finds_nothing-requires : goal.finds_nothing-requires
finds_nothing-requires g c = record { desk = (c.requires.desk.0, c.requires.desk.1.rest, c.requires.desk.1.desk) }

pub returns-then-finds_nothing-clause-desk : goal.returns-then-finds_nothing-clause-desk
returns-then-finds_nothing-clause-desk g c w h = subst (IsWholeDeskOn c.args.floor.now w) (sym c.finds_nothing.ensures.same) h

pub returns-then-finds_nothing-clause-turn : goal.returns-then-finds_nothing-clause-turn
returns-then-finds_nothing-clause-turn g c = (
  [],
  turn-still c.args.floor.now.boxes.now c.args.desk.now c.finds_nothing.new.desk c.args.out.now c.args.totals.now _
      c.finds_nothing.ensures.same c.requires.out c.requires.room.total,
)

pub returns-then-finds_nothing-clause-retries : goal.returns-then-finds_nothing-clause-retries
returns-then-finds_nothing-clause-retries g c = subst (HasNoRetry c.args.desk.now) (sym c.finds_nothing.ensures.same)
    (no-retry-none c.args.desk.now c.args.desk.now refl)

pub busy_turn-requires-clause-desk : goal.busy_turn-requires-clause-desk
busy_turn-requires-clause-desk g c =
    let w = c.requires.desk.0 in
    (w, subst (IsWholeDeskOn c.args.floor.now w) (sym c.finds_nothing.ensures.same) c.requires.desk.1)

pub busy_turn-requires-clause-room : goal.busy_turn-requires-clause-room
busy_turn-requires-clause-room g c = subst (λ (d : Desk). HasRoom c.args.out.now d c.args.totals.now) (sym c.finds_nothing.ensures.same) c.requires.room

pub returns-else-finds_nothing-clause-desk : goal.returns-else-finds_nothing-clause-desk
returns-else-finds_nothing-clause-desk g c =
    let floor = c.args.floor.now in
    subst (λ (d : Desk). MatchResult c.busy_turn.result (λ _. (w : ℕ) → IsWholeDeskOn floor w d → IsWholeDeskOn floor w c.busy_turn.new.desk)
    (λ _. (w : ℕ) → IsWholeDeskOn floor w d → IsBrokenDeskOn floor w c.busy_turn.new.desk)) c.finds_nothing.ensures.same c.busy_turn.ensures.desk

pub returns-else-finds_nothing-clause-turn : goal.returns-else-finds_nothing-clause-turn
returns-else-finds_nothing-clause-turn g c =
    let k = c.busy_turn.ensures.turn in (
      k.0,
      turn-from c.args.floor.now.boxes.now c.args.desk.now c.finds_nothing.new.desk c.busy_turn.new.desk
          c.args.out.now c.busy_turn.new.out c.args.totals.now c.busy_turn.new.totals _ _ k.0 c.finds_nothing.ensures.same k.1,
    )

pub returns-else-finds_nothing-clause-retries : goal.returns-else-finds_nothing-clause-retries
returns-else-finds_nothing-clause-retries g c = subst (λ (d : Desk). HasNoRetry d c.busy_turn.new.desk) c.finds_nothing.ensures.same c.busy_turn.ensures.retries
