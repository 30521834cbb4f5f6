-- A crew goes on: its actors are moved, one after the other.
use Rattle.std.proofs.Common.{◌≡◌, ◌∙◌, ℕ, ◌<◌, inl, inr, Bool, true, false, List, length, slice_index_or, Some, None, Result, Ok, Err, sym, refl}
use Rattle.std.specs.Prelude.{MatchResult}
use Rattle.std.proofs.lemmas.Option.{none-some}
use Rattle.atomic_table.specs.Seated.{TableId}
use Rattle.hx_types.specs.declared.totals.Totals.{Totals}
use Rattle.hx_types.specs.declared.traces.Script.{Script}
use Rattle.hx_clock.specs.declared.parts.Stamped.{Stamped}
use Rattle.hx_mail.specs.Boxes.{Boxed}
use Rattle.hx_fate.specs.declared.fates.FateState.{FateState}
use Rattle.hx_outbox.specs.declared.outboxes.Outbox.{Outbox}
use Rattle.hx_driver.specs.declared.desks.Desk.{Desk}
use Rattle.hx_driver.specs.declared.faults.Fault.{Fault}
use Rattle.hx_driver.specs.Desks.{HasRetried, IsBrokenDesk, IsWholeDesk}
use Rattle.hx_driver.specs.Turns.{IsFaultOf, IsTurn}
use Rattle.hx_driver.specs.declared.crews.Crew.{Crew}
use Rattle.hx_driver.specs.declared.moves.Move.{Move}
use Rattle.hx_driver.specs.declared.moves.Move.TheVariants.{Turn, Retry}
use Rattle.hx_driver.specs.Moves.{GoesOn, HasFailed, HasMoved, HasMovedAt}
use Rattle.hx_driver.specs.Slices.{MayHaveRetried}
use Rattle.hx_driver.proofs.Booking.{posted-none, posted-trans, posted-turn, turn-in, with_turn}
use Rattle.hx_driver.proofs.Moving.{crew-later, crew-later-refl, crew-later-trans, desk-at, done-turn, fault-of}
use Rattle.hx_driver.proofs.Moving.{fault-since, may-idle, moved-calm, moved-fault, none-retried, none-retried-refl}

pub match-all : {T E : Type 0} (P : T → Type 0) (Q : E → Type 0) (r : Result T E) → ((x : T) → P x) → ((e : E) → Q e) → MatchResult r P Q
match-all P Q (Ok x) p q = p x
match-all P Q (Err e) p q = q e

pub goes-refl : (script : Script) (clock : TableId) (boxes : List Boxed) (c : Crew) (f : FateState) → GoesOn script clock boxes c c f f
goes-refl script clock boxes c f = record { crew = λ w h. h; later = crew-later-refl c; posted = posted-none c f }

pub goes-trans : (script : Script) (clock : TableId) (boxes : List Boxed) (a b c : Crew) (e f g : FateState)
    → GoesOn script clock boxes a b e f → GoesOn script clock boxes b c f g → GoesOn script clock boxes a c e g
goes-trans script clock boxes a b c e f g h k = record {
  crew = λ w x. k.crew w (h.crew w x);
  later = crew-later-trans a b c h.later k.later;
  posted = posted-trans a b c e f g h.posted k.posted;
}

failed-fault : (script : Script) (to : Move) (d d' : Desk) (fault : Fault) → HasFailed script to d d' fault → (retry : Bool) × IsFaultOf script retry d' fault
failed-fault script Turn d d' fault h = (false, h.1)
failed-fault script Retry d d' fault h = (true, h.1)

-- the actor at a place was moved, of a crew that had met no fault
module _ (script : Script) (clock : TableId) (boxes : List Boxed) (c : Crew) (at : ℕ) (d d' : Desk) (out : Outbox) (totals : Totals) (f f' : FateState)
    (xs : List Stamped) (within : at < length c.desks.items) (is : d ≡ slice_index_or c.desks.items at d)
    (turn : IsTurn boxes d d' c.out out c.totals totals f f' xs) (calm : c.fault ≡ None) where
  pub goes-calm : ((w : ℕ) → IsWholeDesk script clock boxes w d → IsWholeDesk script clock boxes w d')
      → GoesOn script clock boxes c (with_turn c at d' out totals c.fault) f f'
  goes-calm whole =
      let c' = with_turn c at d' out totals c.fault in
      let k = turn-in boxes c at d d' out totals c.fault f f' xs within is turn in
      record {
        crew = λ w h. moved-calm script clock boxes w c c' at d d' f f' xs k calm h calm (whole w (desk-at script clock boxes w c at d h calm within is));
        later = crew-later boxes c c' at d d' f f' xs k calm;
        posted = posted-turn boxes c c' at d d' f f' xs k;
      }

  pub moved-at : (to : Move) → HasMoved script to d d' → HasMovedAt script to at c (with_turn c at d' out totals c.fault)
  moved-at Turn h =
      none-retried script boxes c (with_turn c at d' out totals c.fault) at d d' f f' xs
      (turn-in boxes c at d d' out totals c.fault f f' xs within is turn) h (inl calm)
  moved-at Retry h =
      let c' = with_turn c at d' out totals c.fault in
      let k = turn-in boxes c at d d' out totals c.fault f f' xs within is turn in
      record {
        calm = λ e. (calm, done-turn (HasRetried script) boxes c c' at d d' f f' xs k h);
        some = done-turn (MayHaveRetried script) boxes c c' at d d' f f' xs k (inl h);
        fault = λ before done since. inl calm;
      }

  pub goes-failed : (to : Move) (fault : Fault) → HasFailed script to d d' fault
      → ((w : ℕ) → IsWholeDesk script clock boxes w d → IsBrokenDesk script clock boxes w d')
      → GoesOn script clock boxes c (with_turn c at d' out totals (Some fault)) f f'
  goes-failed to fault failed broken =
      let c' = with_turn c at d' out totals (Some fault) in
      let k = turn-in boxes c at d d' out totals (Some fault) f f' xs within is turn in
      let why = failed-fault script to d d' fault failed in
      record {
        crew = λ w h.
            moved-fault script clock boxes w c c' at d d' f f' xs k calm h why.0 fault refl why.1
            (broken w (desk-at script clock boxes w c at d h calm within is));
        later = crew-later boxes c c' at d d' f f' xs k calm;
        posted = posted-turn boxes c c' at d d' f f' xs k;
      }

  pub failed-at : (to : Move) (fault : Fault) → HasFailed script to d d' fault → HasMovedAt script to at c (with_turn c at d' out totals (Some fault))
  failed-at Turn fault h =
      let c' = with_turn c at d' out totals (Some fault) in
      let k = turn-in boxes c at d d' out totals (Some fault) f f' xs within is turn in
      none-retried script boxes c c' at d d' f f' xs k h.0 (fault-of script boxes c c' at d d' f f' xs k false fault refl h.1)
  failed-at Retry fault h =
      let c' = with_turn c at d' out totals (Some fault) in
      let k = turn-in boxes c at d d' out totals (Some fault) f f' xs within is turn in
      record {
        calm = λ e. absurd (none-some fault (sym e));
        some = done-turn (MayHaveRetried script) boxes c c' at d d' f f' xs k (inr h.0);
        fault = λ before done since. fault-since script boxes c c' at d d' f f' xs k fault refl h.1 h.0 before done;
      }

-- after a fault nobody is moved
pub still-at : (script : Script) (to : Move) (at : ℕ) (c : Crew) (fault : Fault) → c.fault ≡ Some fault → HasMovedAt script to at c c
still-at script Turn at c fault is = none-retried-refl script c
still-at script Retry at c fault is = record {
  calm = λ e. absurd (none-some fault (sym e ∙ is));
  some = may-idle script c at;
  fault = λ before done since. since;
}
