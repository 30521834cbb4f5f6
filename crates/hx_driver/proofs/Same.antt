-- Desks that differ by room, or by what was taken, and what was said of them.
use Rattle.std.proofs.Common.{◌≡◌, ℕ, true, false, List, [], ◌∷◌, ◌++◌, refl, ap, sym, subst, ◌∙◌, arith, append-nil}
use Rattle.std.specs.Prelude.{◌&&◌, not, MatchOption, Option, None, Some}
use Rattle.std.specs.List.{list_any}
use Rattle.std.proofs.lemmas.Bool.{true≢false}
use Rattle.atomic_table.specs.Seated.{TableId}
use Rattle.hx_types.specs.declared.ids.Actor.{Actor}
use Rattle.hx_types.specs.declared.totals.Totals.{Totals}
use Rattle.hx_types.specs.declared.traces.Entry.{Entry}
use Rattle.hx_types.specs.declared.traces.Input.{Input}
use Rattle.hx_types.specs.declared.traces.Input.TheVariants.{Tick, Halt, Deliver}
use Rattle.hx_types.specs.declared.traces.Script.{Script}
use Rattle.hx_model.specs.Runs.{entry_of, has_halted, made_of, does_something, Output}
use Rattle.hx_clock.specs.declared.parts.Stamped.{Stamped}
use Rattle.hx_clock.specs.Seats.{Seated}
use Rattle.hx_law_threads.specs.Cuts.{is_began, is_retry, is_tick, is_waiting}
use Rattle.hx_machine.specs.declared.machines.Machine.{Machine}
use Rattle.hx_machine.specs.declared.changes.Change.{Change}
use Rattle.hx_machine.specs.Machines.{CanTake, IsChangeOf, IsMachine}
use Rattle.hx_mail.specs.declared.views.Mailed.{Mailed}
use Rattle.hx_mail.specs.Boxes.{Boxed}
use Rattle.hx_outbox.specs.declared.outboxes.Outbox.{Outbox}
use Rattle.hx_fate.specs.declared.fates.FateState.{FateState}
use Rattle.hx_outbox.specs.Offers.{IsTotal}
use Rattle.hx_outbox.specs.Outboxes.{kept_weight, IsOutbox}
use Rattle.hx_driver.specs.declared.desks.Desk.{Desk}
use Rattle.hx_driver.specs.Desks.{entries_before, past_of, HasRetried, IsBrokenDesk, IsDesk, IsSame, IsWholeDesk}
use Rattle.hx_driver.specs.Told.{told_by}
use Rattle.hx_driver.specs.Givings.{HasTaken, IsMadeOf, IsReady, IsSameStep, MakesEnough}
use Rattle.hx_driver.specs.Inboxes.{ins_of}
use Rattle.hx_driver.specs.Turns.{HasRoom, IsTurn}
use Rattle.hx_driver.proofs.Taken.{desk-same, given-view}
use Rattle.hx_driver.proofs.Turned.{turn-both, turn-none}

-- what is said of an actor and its entries
pub at-same : (P : Actor → List Stamped → Type 0) (a b : Actor) (xs ys : List Stamped) → b ≡ a → ys ≡ xs → P a xs → P b ys
at-same P a b xs ys e f h = subst (λ (c : Actor). P c ys) (sym e) (subst (P a) (sym f) h)

pub ready-same : (script : Script) (d d' : Desk) (input : Input) (c : Change) → IsSame d d' → IsSameStep d d'
    → IsReady script d input c → IsReady script d' input c
ready-same script d d' input c s m r = record {
  change = at-same (λ (a : Actor) xs. IsChangeOf script a (entries_before xs) input d'.machine c) d.actor d'.actor d.part.items d'.part.items s.actor s.part
      (subst (λ (x : Machine). IsChangeOf script d.actor (entries_before d.part.items) input x c) (sym m.machine) r.change);
  posts = m.posts ∙ at-same (λ (a : Actor) xs. d.lent.posts ≡ (made_of script (entries_before xs) a input).posts)
      d.actor d'.actor d.part.items d'.part.items s.actor s.part r.posts;
  notes = m.notes ∙ at-same (λ (a : Actor) xs. d.lent.notes ≡ (made_of script (entries_before xs) a input).notes)
      d.actor d'.actor d.part.items d'.part.items s.actor s.part r.notes;
  takes = at-same (λ (a : Actor) xs. CanTake script a (past_of xs) input) d.actor d'.actor d.part.items d'.part.items s.actor s.part r.takes;
  given = given-view script d d' input s.actor (ap (λ (x : Seated). x.view) s.seat) r.given;
}

pub enough-same : (d d' : Desk) (input : Input) → IsSameStep d d' → MakesEnough input d → MakesEnough input d'
enough-same d d' input m e = (λ i. does_something input (record { posts = m.posts i; notes = m.notes i })) ∙ e

-- the entry is that of the same desk
pub made-same : (script : Script) (d d' : Desk) (input : Input) (x : Stamped) → IsSame d d' → IsMadeOf script d' input x → IsMadeOf script d input x
made-same script d d' input x s h =
    at-same (λ (a : Actor) xs. x.entry ≡ entry_of a input (made_of script (entries_before xs) a input)) d'.actor
    d.actor d'.part.items d.part.items (sym s.actor) (sym s.part) h

pub room-same : (o : Outbox) (d d' : Desk) (t : Totals) → d'.kept.items ≡ d.kept.items → HasRoom o d t → HasRoom o d' t
room-same o d d' t kept h =
    let e = ap (kept_weight (λ (m : Mailed). 1)) kept in
    let l = h.weight in
    record { weight = omega (arith, e, l); posts = h.posts; total = h.total }

-- the same desk, for an actor that is told something
pub desk-told : (script : Script) (clock : TableId) (boxes : List Boxed) (w : ℕ) (d d' : Desk) (input : Input)
    → IsSame d d' → IsDesk script clock boxes w (told_by d.actor input) d'
    → IsDesk script clock boxes w (told_by d'.actor input) d'
desk-told script clock boxes w d d' input s h = subst (λ (a : Actor). IsDesk script clock boxes w (told_by a input) d') (sym s.actor) h

pub desk-kept : (script : Script) (clock : TableId) (boxes : List Boxed) (w : ℕ) (rest : List Mailed) (d d' : Desk)
    → IsSame d d' → d'.machine ≡ d.machine → IsDesk script clock boxes w rest d → IsDesk script clock boxes w rest d'
desk-kept script clock boxes w rest d d' s m h =
    desk-same script clock boxes w rest d d' s (subst (IsMachine script d.actor (entries_before d.part.items))
    (sym m) h.machine) h

pub turn-same : (boxes : List Boxed) (d d' : Desk) (o : Outbox) (t : Totals) (f : FateState) → IsSame d d'
    → IsOutbox boxes o → IsTotal t → IsTurn boxes d d' o o t t f f []
turn-same boxes d d' o t f s out total = turn-none boxes d d' o t f s.actor s.part s.kept ([], append-nil (ins_of d.inbox) ∙ sym (ap ins_of s.inbox)) out total

-- a turn from the same desk
pub turn-after : (boxes : List Boxed) (d d' e : Desk) (o p : Outbox) (t u : Totals) (k l : FateState)
    (xs : List Stamped) → IsSame d d' → IsOutbox boxes o → IsTotal t → IsTurn boxes d' e o p t u k l xs
    → IsTurn boxes d e o p t u k l xs
turn-after boxes d d' e o p t u k l xs s out total h = turn-both boxes d d' e o o p t u k l xs (turn-same boxes d d' o t k s out total) h

pub turn-taken : (boxes : List Boxed) (d d' e : Desk) (o p : Outbox) (t u : Totals) (k l : FateState)
    (xs : List Stamped) → HasTaken d d' → IsOutbox boxes o → IsTotal t → IsTurn boxes d' e o p t u k l xs
    → IsTurn boxes d e o p t u k l xs
turn-taken boxes d d' e o p t u k l xs s out total h =
    turn-both boxes d d' e o o p t u k l xs (turn-none boxes d d' o t k s.actor s.part s.kept s.ins out total) h

-- what is ready on an input is what the input makes
pub ready-enough : (script : Script) (d : Desk) (input : Input) (c : Change) → IsReady script d input c
    → does_something input (record { posts = d.lent.posts; notes = d.lent.notes })
    ≡ does_something input (made_of script (entries_before d.part.items) d.actor input)
ready-enough script d input c r = λ i. does_something input (record { posts = r.posts i; notes = r.notes i })

pub no-tick : (a : Actor) (input : Input) (m : Output) → is_tick input ≡ false → is_retry (entry_of a input m) ≡ false
no-tick a input m e = ap (λ b. b && not (list_any is_began m.notes)) e

pub taken-enough : (input : Input) (m : Output) → is_tick input ≡ false → does_something input m ≡ true
taken-enough Tick m e = absurd (true≢false e)
taken-enough Halt m e = refl
taken-enough (Deliver id from message) m e = refl

-- where a running actor stands, all that it took was delivered
pub whole-running : (script : Script) (clock : TableId) (boxes : List Boxed) (w : ℕ) (d : Desk)
    → IsWholeDesk script clock boxes w d → has_halted script (entries_before d.part.items) d.actor ≡ false
    → IsDesk script clock boxes w [] d
whole-running script clock boxes w d h e = subst (λ r. IsDesk script clock boxes w r d) (h.delivered e) h.desk

pub whole-of : (script : Script) (clock : TableId) (boxes : List Boxed) (w : ℕ) (d : Desk)
    → IsDesk script clock boxes w [] d → IsWholeDesk script clock boxes w d
whole-of script clock boxes w d h = record { rest = []; desk = h; delivered = λ e. refl }

pub broken-of : (script : Script) (clock : TableId) (boxes : List Boxed) (w : ℕ) (rest : List Mailed) (d : Desk)
    → IsDesk script clock boxes w rest d → IsBrokenDesk script clock boxes w d
broken-of script clock boxes w rest d h = record { rest = rest; desk = h }

-- a server that has halted and made no entry since may leave anything undelivered
pub whole-halted : (script : Script) (clock : TableId) (boxes : List Boxed) (w : ℕ) (d d' : Desk)
    → has_halted script (entries_before d.part.items) d.actor ≡ true → d'.actor ≡ d.actor → d'.part.items ≡ d.part.items
    → IsBrokenDesk script clock boxes w d' → IsWholeDesk script clock boxes w d'
whole-halted script clock boxes w d d' e a part h = record {
  rest = h.rest;
  desk = h.desk;
  delivered = λ f. absurd (true≢false (sym (at-same
      (λ (b : Actor) xs. has_halted script (entries_before xs) b ≡ true) d.actor d'.actor d.part.items d'.part.items a
      part e) ∙ f));
}

pub retried-same : (script : Script) (d d' e : Desk) → IsSame d d' → HasRetried script d' e → HasRetried script d e
retried-same script d d' e s h = record {
  waiting = at-same (λ (a : Actor) xs. is_waiting script (entries_before xs) a ≡ true → (x : Stamped)
      × (is_retry x.entry ≡ true) × (e.part.items ≡ xs ++ x ∷ [])) d'.actor d.actor d'.part.items d.part.items
      (sym s.actor) (sym s.part) h.waiting;
  other = at-same (λ (a : Actor) xs. is_waiting script (entries_before xs) a ≡ false → e.part.items ≡ xs) d'.actor
      d.actor d'.part.items d.part.items (sym s.actor) (sym s.part) h.other;
}

-- whatever was taken, nothing else is open
pub taken-broken : (script : Script) (clock : TableId) (boxes : List Boxed) (w : ℕ) (rest : List Mailed) (d d' : Desk)
    (taken : Option Input) → IsDesk script clock boxes w rest d
    → MatchOption taken ((v : ℕ) (r : List Mailed) → IsDesk script clock boxes v r d
    → IsDesk script clock boxes v r d') (λ input. (v : ℕ) (r : List Mailed) → IsDesk script clock boxes v r d
    → IsDesk script clock boxes v (r ++ told_by d.actor input) d')
    → IsBrokenDesk script clock boxes w d'
taken-broken script clock boxes w rest d d' None h k = broken-of script clock boxes w rest d' (k w rest h)
taken-broken script clock boxes w rest d d' (Some input) h k = broken-of script clock boxes w (rest ++ told_by d.actor input) d' (k w rest h)
