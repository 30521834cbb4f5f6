-- What the receipts of a session are after one more call of it was submitted and the world was drained.
use Rattle.std.proofs.Common.{◌≡◌, ℕ, zero, suc, ◌+◌, ◌≤◌, inl, inr, true, false, List, [], ◌∷◌, ◌++◌, length, map}
use Rattle.std.proofs.Common.{Option, Some, None, refl, sym, ap, ◌∙◌, subst, arith}
use Rattle.std.specs.Prelude.{drop, reverse}
use Rattle.std.specs.List.{filter}
use Rattle.std.proofs.lemmas.Bool.{eq-eqb}
use Rattle.std.proofs.lemmas.List.{append-nil, append_assoc, length-append, reverse-append, reverse-reverse}
use Rattle.std.proofs.lemmas.List.Elements.{filter-append}
use mathlib.Core.List.{IsPrefix}
use Rattle.hx_model.specs.Types.{Caller, Entry, Op, Script, Session, SessionId}
use Rattle.hx_types.specs.Fitting.{calls_of}
use Rattle.hx_types.specs.Words.{IsIn, below}
use Rattle.hx_model.specs.Histories.{CallEnd, note_of_end}
use Rattle.hx_model.specs.Runs.{IsRun, session_of, is_actor}
use Rattle.hx_model.specs.Schedule.{next_entry, scheduled, with_entry, IsQuiet}
use Rattle.hx_law_lemmas.proofs.Lemmas.{filter-in, in-append, in_right}
use Rattle.hx_service.specs.declared.receipts.Receipt.{Receipt}
use Rattle.hx_service.specs.Laws.{ended_count, numbers_to}
use Rattle.hx_service.specs.Receipts.{IsFree, caller_of, is_by, receipts_by, receipts_now, receipts_of}
use Rattle.hx_law_growing.specs.Growing.{CallsGrow, with_call_of}
use Rattle.hx_world.specs.Worlds.{WorldState}
use Rattle.hx_service.specs.Services.{IsAnswered, IsDrained, IsUnanswered}
use Rattle.hx_service.proofs.Booked.{few-ended, keeps, number-low, number_of, runs_are_booked}
use Rattle.hx_service.proofs.Free.{free_sessions_rest, within}
use Rattle.hx_service.proofs.Numbers.{ended-is}

-- a drained trace has the older one at its end
pub drained-from : (script : Script) (old : List Entry) (n : ℕ) → (newer : List Entry) × (scheduled script old n ≡ newer ++ old)
drained-from script old zero = ([], refl)
drained-from script old (suc n) = by (drained-from script old n) (next_entry script (scheduled script old n))
  where
    by : (newer : List Entry) × (scheduled script old n ≡ newer ++ old) → (o : Option Entry) → (newer : List Entry)
        × (with_entry (scheduled script old n) o ≡ newer ++ old)
    by p None = p
    by p (Some x) = (x ∷ p.0, ap (λ (t : List Entry). x ∷ t) p.1)

-- so the older is a prefix where the oldest entry stands first
pub prefix-of : (script : Script) (old new : List Entry) → IsDrained script (reverse old) (reverse new) → IsPrefix old new
prefix-of script old new d =
    let p = drained-from script (reverse old) d.0 in (
      reverse p.0,
      sym (sym (reverse-reverse new) ∙ ap reverse (d.1 ∙ p.1) ∙ reverse-append p.0 (reverse old)
          ∙ ap (λ (l : List Entry). l ++ reverse p.0) (reverse-reverse old)),
    )

-- the receipts of the older stand first
pub later-of : (newer old : List Entry) → (later : List Receipt) × (receipts_of (newer ++ old) ≡ receipts_of old ++ later)
later-of [] old = ([], sym (append-nil (receipts_of old)))
later-of (x ∷ newer) old =
    let p = later-of newer old in
    let now = receipts_now (x ∷ newer ++ old) x.actor x.notes in
    (p.0 ++ now, ap (λ l. l ++ now) p.1 ∙ append_assoc (receipts_of old) p.0 now)

pub drop-front : {A : Type 0} (xs ys : List A) → drop (length xs) (xs ++ ys) ≡ ys
drop-front [] ys = refl
drop-front (x ∷ xs) ys = drop-front xs ys

-- a map is as long as its list
pub mapped : {A B : Type 0} (f : A → B) (xs : List A) → length (map f xs) ≡ length xs
mapped f [] = refl
mapped f (x ∷ xs) = ap suc (mapped f xs)

length-below : (n : ℕ) → length (below n) ≡ n
length-below zero = refl
length-below (suc n) = length-append (below n) (n ∷ []) ∙ (let q = length-below n in omega (arith, q))

length-numbers : (n : ℕ) → length (numbers_to n) ≡ n
length-numbers n = mapped (λ (place : ℕ). place + 1) (below n) ∙ length-below n

-- the only item of a list
only : {A : Type 0} (xs : List A) (x : A) → IsIn x xs → length xs ≤ 1 → xs ≡ x ∷ []
only [] x i le = absurd i
only (y ∷ []) x (inl e) le = ap (λ z. z ∷ []) (sym e)
only (y ∷ []) x (inr i) le = absurd i
only (y ∷ z ∷ rest) x i le = absurd (omega (arith, le))

module _ (script more : Script) (u : SessionId) (op : Op) (here : calls_of more u ≡ calls_of script u ++ op ∷ []) (old new : List Entry)
    (run-old : IsRun script old) (run-new : IsRun more new) (free : IsFree script old u) (newer : List Entry) (split : new ≡ newer ++ old) where
  abbrev later : List Receipt
  later = (later-of newer old).0

  -- those of the drain are the others
  pub receipts-split : receipts_of new ≡ receipts_of old ++ later
  receipts-split = ap receipts_of split ∙ (later-of newer old).1

  pub dropped : drop (length (receipts_of old)) (receipts_of new) ≡ later
  dropped = ap (drop (length (receipts_of old))) receipts-split ∙ drop-front (receipts_of old) later

  abbrev next : Caller
  next = caller_of u (length (calls_of script u) + 1)

  -- all calls had ended before
  ended-before : ended_count (session_of script u old) ≡ length (calls_of script u)
  ended-before =
      let r = (free_sessions_rest script old run-old u).0 free in
      ended-is (session_of script u old) false (session_of script u old).begun r.ended refl ∙ r.begun

  -- at most one more has ended
  ended-after : ended_count (session_of more u new) ≤ length (calls_of script u) + 1
  ended-after =
      let w = (within more u new).within in
      let f = (few-ended (session_of more u new) ((keeps more new run-new).of u).low).0 in
      let l : length (calls_of more u) ≡ length (calls_of script u) + 1 = ap length here ∙ length-append (calls_of script u) (op ∷ []) in
      omega (arith, w, f, l)

  split-by : receipts_by u new ≡ receipts_by u old ++ filter (is_by u) later
  split-by = ap (filter (is_by u)) receipts-split ∙ filter-append (is_by u) (receipts_of old) later

  few-later : length (filter (is_by u) later) ≤ 1
  few-later =
      let a : length (receipts_by u new) ≡ ended_count (session_of more u new)
      = sym (mapped number_of (receipts_by u new)) ∙ ap length ((keeps more new run-new).of u).numbers ∙ length-numbers (ended_count (session_of more u new)) in
      let b : length (receipts_by u old) ≡ ended_count (session_of script u old)
      = sym (mapped number_of (receipts_by u old)) ∙ ap length ((keeps script old run-old).of u).numbers
      ∙ length-numbers (ended_count (session_of script u old)) in
      let d : length (receipts_by u new) ≡ length (receipts_by u old) + length (filter (is_by u) later) =
      ap length split-by ∙ length-append (receipts_by u old) (filter (is_by u) later) in
      let e = ended-before in
      let f = ended-after in
      omega (arith, a, b, d, e, f)

  -- a receipt of the session that is new is the one that its receipts have more
  pub one-more : (r : Receipt) → IsIn r later → r.caller ≡ next → receipts_by u new ≡ receipts_by u old ++ r ∷ []
  one-more r i e =
      split-by ∙ ap (λ l. receipts_by u old ++ l)
      (only (filter (is_by u) later) r (filter-in (is_by u) later r i (eq-eqb r.caller.session.0 u.0 (ap (λ (c : Caller). c.session.0) e))) few-later)

  -- the next call had no receipt before
  new-caller : (r : Receipt) → IsIn r (receipts_of old) → r.caller ≡ next → ⊥
  new-caller r i e =
      let h = (number-low old u (session_of script u old) ((keeps script old run-old).of u) r i
      (eq-eqb r.caller.session.0 u.0 (ap (λ (c : Caller). c.session.0) e))).1 in
      let n : number_of r ≡ length (calls_of script u) + 1 = ap (λ (c : Caller). c.number) e in
      let b = ended-before in
      omega (arith, h, n, b)

  -- where no new receipt is of the next call, it hasn't ended
  pub still-open : ((r : Receipt) → IsIn r later → r.caller ≡ next → ⊥) → note_of_end next new ≡ None
  still-open none = by (note_of_end next new) refl
    where
      by : (o : Option CallEnd) → note_of_end next new ≡ o → o ≡ None
      by None e = refl
      by (Some end) e =
          let r = (runs_are_booked more new run-new).all next end e in
          absurd (elim (in-append (receipts_of old) later r.0 (subst (IsIn r.0) receipts-split r.1)) [
            | inl i ↦ new-caller r.0 i r.2
            | inr i ↦ none r.0 i r.2
          ])

-- so many receipts there are at least
pub not-fewer : (script : Script) (old mid new : List Entry) → mid ≡ old → IsDrained script (reverse mid) (reverse new)
    → length (receipts_of (reverse old)) ≤ length (receipts_of (reverse new))
not-fewer script old mid new same drained =
    let p = drained-from script (reverse mid) drained.0 in
    let l = later-of p.0 (reverse mid) in
    let e : length (receipts_of (reverse new)) ≡ length (receipts_of (reverse mid)) + length l.0
    = ap (λ (t : List Entry). length (receipts_of t)) (drained.1 ∙ p.1) ∙ ap length l.1 ∙ length-append (receipts_of (reverse mid)) l.0 in
    let f : length (receipts_of (reverse mid)) ≡ length (receipts_of (reverse old)) = ap (λ (t : List Entry). length (receipts_of (reverse t))) same in
    omega (arith, e, f)

-- the world before the call, with the call submitted, and drained
pub record IsMade (old mid new : WorldState) (u : SessionId) (op : Op) : Type 0 where
  pub actor : is_actor old.script (Session u) ≡ true
  pub free : IsFree old.script (reverse old.trace) u
  pub run_old : IsRun old.script (reverse old.trace)
  pub run_new : IsRun new.script (reverse new.trace)
  pub grow : CallsGrow
  pub submitted : mid.script ≡ with_call_of old.script u op
  pub same : mid.trace ≡ old.trace
  pub script : new.script ≡ mid.script
  pub drained : IsDrained mid.script (reverse mid.trace) (reverse new.trace)

module _ (old mid new : WorldState) (u : SessionId) (op : Op) (m : IsMade old mid new u op) where
  abbrev grown : Script
  grown = with_call_of old.script u op

  pub script-is : new.script ≡ grown
  script-is = m.script ∙ m.submitted

  longer-by : calls_of grown u ≡ calls_of old.script u ++ op ∷ []
  longer-by = (m.grow old.script u op m.actor).here

  newer : (newer : List Entry) × (reverse new.trace ≡ newer ++ reverse old.trace)
  newer =
      let p = drained-from mid.script (reverse mid.trace) m.drained.0 in
      (p.0, m.drained.1 ∙ p.1 ∙ ap (λ (t : List Entry). p.0 ++ reverse t) m.same)

  run : IsRun grown (reverse new.trace)
  run = subst (λ (s : Script). IsRun s (reverse new.trace)) script-is m.run_new

  dropped-is : (n : ℕ) → n ≡ length (receipts_of (reverse old.trace)) → drop n (receipts_of (reverse new.trace)) ≡ (later-of newer.0 (reverse old.trace)).0
  dropped-is n e =
      ap (λ (k : ℕ). drop k (receipts_of (reverse new.trace))) e
      ∙ dropped old.script grown u op longer-by (reverse old.trace) (reverse new.trace) m.run_old run m.free newer.0 newer.1

  -- the number of the call
  abbrev its : ℕ → Type 0
  its number = number ≡ length (calls_of old.script u) + 1

  caller-is : (number : ℕ) → its number → caller_of u number ≡ caller_of u (length (calls_of old.script u) + 1)
  caller-is number e = ap (caller_of u) e

  pub answered : (n number : ℕ) (r : Receipt) → n ≡ length (receipts_of (reverse old.trace)) → its number → IsIn r (drop n (receipts_of (reverse new.trace)))
      → r.caller ≡ caller_of u number → IsQuiet new.script (reverse new.trace) → IsAnswered old u op new r
  answered n number r e k i c quiet =
      let j : IsIn r (later-of newer.0 (reverse old.trace)).0 = subst (IsIn r) (dropped-is n e) i in
      let d : r.caller ≡ caller_of u (length (calls_of old.script u) + 1) = c ∙ caller-is number k in
      record {
        submitted = script-is;
        quiet = quiet;
        receipt = (runs_are_booked grown (reverse new.trace) run).each r
            (subst (IsIn r) (sym (receipts-split old.script grown u op longer-by (reverse old.trace) (reverse new.trace) m.run_old run m.free newer.0 newer.1))
            (in_right (receipts_of (reverse old.trace)) (later-of newer.0 (reverse old.trace)).0 r j));
        caller = d;
        booked = one-more old.script grown u op longer-by (reverse old.trace) (reverse new.trace) m.run_old run m.free newer.0 newer.1 r j d;
      }

  pub unanswered : (n number : ℕ) → n ≡ length (receipts_of (reverse old.trace)) → its number
      → ((r : Receipt) → IsIn r (drop n (receipts_of (reverse new.trace))) → r.caller ≡ caller_of u number → ⊥)
      → IsQuiet new.script (reverse new.trace) → IsUnanswered old u op new number
  unanswered n number e k none quiet = record {
    submitted = script-is;
    quiet = quiet;
    number_is = k;
    open_still = still-open old.script grown u op longer-by (reverse old.trace) (reverse new.trace) m.run_old run m.free newer.0 newer.1
        (λ r i d. none r (subst (IsIn r) (sym (dropped-is n e)) i) (d ∙ sym (caller-is number k)));
  }
