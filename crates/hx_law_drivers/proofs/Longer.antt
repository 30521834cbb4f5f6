-- A trace with one more entry: what is seen of it at a cut of the entries before, and that it is still paced.
use Rattle.std.proofs.Common.{◌≡◌, ℕ, ◌+◌, ◌≤◌, inr, true, false, cond, eqb, List, [], ◌∷◌, length, Option, Some, None}
use Rattle.std.proofs.Common.{slice_get, refl, ap, sym, subst, ◌∙◌, arith}
use Rattle.std.specs.Prelude.{IsSome}
use Rattle.std.specs.List.{AllByRecursion}
use Rattle.std.proofs.lemmas.Bool.{cond_both, eqb-true, le-ltb, lt-ltb}
use Rattle.hx_model.specs.Types.{Actor, Entry, Post, PostId, Script, Session}
use Rattle.hx_types.specs.Words.{same_actor, when_some, IsIn}
use Rattle.hx_model.specs.Histories.{begin_of, note_of_end}
use Rattle.hx_model.specs.Runs.{entry_at, post_named, IsRun}
use Rattle.hx_model.specs.Schedule.{entries_of}
use Rattle.hx_clock.proofs.Lemmas.{each_in, each_map}
use Rattle.hx_law_threads.specs.Own.{own_entries}
use Rattle.hx_law_threads.specs.Counting.{total_at}
use Rattle.hx_law_threads.specs.Cuts.{first_entries, is_in_cut, is_retry, is_waiting, next_at, open_at, own_at, whole_of, Cut, HasCallUnderWay}
use Rattle.hx_law_threads.specs.Pacing.{earlier, retries_at, IsPacedBy, RetriesFollow, WaitersRetry}
use Rattle.hx_law_threads.proofs.Lemmas.{same_actor_is, same_as_itself, first_fewer, retriers_waited, count-own}
use Rattle.hx_driver.specs.declared.desks.Desk.{Desk}
use Rattle.hx_law_drivers.proofs.Lists.{bools_same}
use Rattle.hx_law_drivers.proofs.Seen.{IsSeen}

-- an entry keeps its number
entry_low : (n : ℕ) (xs : List Entry) (y : Entry) → entry_at n xs ≡ Some y → n ≤ length xs
entry_low n [] y e = absurd (cc)
entry_low n (x ∷ xs) y e =
    cond_both (eqb n (length xs + 1)) (Some x) (entry_at n xs) (λ o. o ≡ Some y → n ≤ length (x ∷ xs))
    (λ t k. omega (arith, eqb-true n (length xs + 1) t)) (λ t k. omega (arith, entry_low n xs y k)) e

entry_on : (n : ℕ) (x : Entry) (xs : List Entry) (y : Entry) → entry_at n xs ≡ Some y → entry_at n (x ∷ xs) ≡ Some y
entry_on n x xs y e =
    cond_both (eqb n (length xs + 1)) (Some x) (entry_at n xs) (λ o. o ≡ Some y)
    (λ t. absurd (omega (arith, eqb-true n (length xs + 1) t, entry_low n xs y e))) (λ t. e)

-- whatever two cuts have beside all entries of a trace, the same is added up over it
pub above_all : (f : ℕ → Entry → ℕ) (cut : Cut) (trace : List Entry) → ((a : Actor) → entries_of a trace ≤ cut a)
    → total_at f cut trace ≡ total_at f (whole_of trace) trace
above_all f cut trace le = by cut (whole_of trace) trace le (λ a. omega arith)
  where
    in_both : (x : Entry) (older : List Entry) (k : Cut) → ((a : Actor) → entries_of a (x ∷ older) ≤ k a) → is_in_cut k x.actor older ≡ true
    in_both x older k h =
        let here : entries_of x.actor (x ∷ older) ≡ entries_of x.actor older + 1 =
        ap (λ b. cond b (entries_of x.actor older + 1) (entries_of x.actor older)) (same_as_itself x.actor) in
        lt-ltb (entries_of x.actor older) (k x.actor) (omega (arith, here, h x.actor))

    fewer : (x : Entry) (older : List Entry) (a : Actor) → entries_of a older ≤ entries_of a (x ∷ older)
    fewer x older a = cond_both (same_actor x.actor a) (entries_of a older + 1) (entries_of a older)
        (λ n. entries_of a older ≤ n) (λ t. omega arith) (λ t. omega arith)

    by : (k l : Cut) (xs : List Entry) → ((a : Actor) → entries_of a xs ≤ k a) → ((a : Actor) → entries_of a xs ≤ l a) → total_at f k xs ≡ total_at f l xs
    by k l [] h g = refl
    by k l (x ∷ older) h g =
        let same : is_in_cut k x.actor older ≡ is_in_cut l x.actor older = in_both x older k h ∙ sym (in_both x older l g) in
        let less = by k l older (λ a. omega (arith, fewer x older a, h a)) (λ a. omega (arith, fewer x older a, g a)) in
        omega (arith, less, ap (λ b. cond b (f (length older + 1) x) 0) same)

module _ (x : Entry) (trace : List Entry) where
  -- all entries add up to one more
  pub one_more_added : (f : ℕ → Entry → ℕ) → total_at f (whole_of (x ∷ trace)) (x ∷ trace) ≡ total_at f (whole_of trace) trace + f (length trace + 1) x
  one_more_added f =
      let here : entries_of x.actor (x ∷ trace) ≡ entries_of x.actor trace + 1 =
      ap (λ b. cond b (entries_of x.actor trace + 1) (entries_of x.actor trace)) (same_as_itself x.actor) in
      let has : is_in_cut (whole_of (x ∷ trace)) x.actor trace ≡ true =
      lt-ltb (entries_of x.actor trace) (entries_of x.actor (x ∷ trace)) (omega (arith, here)) in
      omega (arith, above_all f (whole_of (x ∷ trace)) trace more, ap (λ b. cond b (f (length trace + 1) x) 0) has)
    where
      more : (a : Actor) → entries_of a trace ≤ entries_of a (x ∷ trace)
      more a = cond_both (same_actor x.actor a) (entries_of a trace + 1) (entries_of a trace)
          (λ n. entries_of a trace ≤ n) (λ t. omega arith) (λ t. omega arith)

  within_on : (cut : Cut) (a : Actor) → cut a ≤ entries_of a trace → cut a ≤ entries_of a (x ∷ trace)
  within_on cut a le = cond_both (same_actor x.actor a) (entries_of a trace + 1) (entries_of a trace) (λ n. cut a ≤ n) (λ t. omega (arith, le)) (λ t. le)

  own_on : (cut : Cut) (a : Actor) → cut a ≤ entries_of a trace → own_at cut (x ∷ trace) a ≡ own_at cut trace a
  own_on cut a le =
      cond_both (same_actor x.actor a) (x ∷ own_entries a trace) (own_entries a trace) (λ l. first_entries (cut a) l ≡ own_at cut trace a)
      (λ t. first_fewer (cut a) x (own_entries a trace) (omega (arith, le, count-own a trace))) (λ t. refl)

  next_on : (cut : Cut) (a : Actor) (y : Entry) → next_at cut trace a ≡ Some y → next_at cut (x ∷ trace) a ≡ Some y
  next_on cut a y e =
      cond_both (same_actor x.actor a) (x ∷ own_entries a trace) (own_entries a trace) (λ l. entry_at (cut a + 1) l ≡ Some y)
      (λ t. entry_on (cut a + 1) x (own_entries a trace) y e) (λ t. e)

  pub named_on : (id : PostId) (p : Post) → post_named id trace ≡ Some p → post_named id (x ∷ trace) ≡ Some p
  named_on id p = by (entry_at id.entry trace) refl
    where
      by : (o : Option Entry) → entry_at id.entry trace ≡ o
          → when_some o None (λ (y : Entry). slice_get y.outputs id.place) ≡ Some p → post_named id (x ∷ trace) ≡ Some p
      by None f e = absurd (cc)
      by (Some y) f e = ap (λ o. when_some o None (λ (z : Entry). slice_get z.outputs id.place)) (entry_on id.entry x trace y f) ∙ e

  -- what was seen at a cut still is
  pub seen_on : (cut : Cut) (ds : List Desk) → ((a : Actor) → cut a ≤ entries_of a trace) → IsSeen trace cut ds → IsSeen (x ∷ trace) cut ds
  seen_on cut ds le seen = record {
    sums = λ f. omega (arith, ap (λ b. cond b (f (length trace + 1) x) 0) (le-ltb (entries_of x.actor trace) (cut x.actor) (le x.actor)), seen.sums f);
    own = λ d i. own_on cut d.actor (le d.actor) ∙ seen.own d i;
  }

  calls_on : (cut : Cut) → ((a : Actor) → cut a ≤ entries_of a trace) → HasCallUnderWay trace cut → HasCallUnderWay (x ∷ trace) cut
  calls_on cut le k =
      let same = own_on cut (Session k.0.session) (le (Session k.0.session)) in
      (k.0, subst (λ l. IsSome (begin_of k.0 l)) (sym same) k.1, ap (note_of_end k.0) same ∙ k.2)

  module _ (script : Script) (run : IsRun script (x ∷ trace)) where
    waiters_on : (cut : Cut) → ((a : Actor) → cut a ≤ entries_of a trace) → WaitersRetry script trace cut → WaitersRetry script (x ∷ trace) cut
    waiters_on cut le h a known =
        bools_same (retries_at cut (x ∷ trace) a) (is_waiting script (own_at cut (x ∷ trace) a) a) (retriers_waited script (x ∷ trace) run cut a)
        (λ t. by (next_at cut trace a) refl (h a known ∙ ap (λ l. is_waiting script l a) (sym (own_on cut a (le a))) ∙ t))
      where
        by : (o : Option Entry) → next_at cut trace a ≡ o → when_some o false is_retry ≡ true → retries_at cut (x ∷ trace) a ≡ true
        by None f e = absurd (cc)
        by (Some y) f e = ap (λ o. when_some o false is_retry) (next_on cut a y f) ∙ e

    retries_on : (cuts : List Cut) → RetriesFollow trace cuts
        → (is_retry x ≡ true → (cut : Cut) × IsIn cut cuts × (cut x.actor ≡ entries_of x.actor trace))
        → RetriesFollow (x ∷ trace) cuts
    retries_on cuts h due a n y at retry =
        cond_both (same_actor x.actor a) (x ∷ own_entries a trace) (own_entries a trace)
        (λ l. entry_at (n + 1) l ≡ Some y → (cut : Cut) × IsIn cut cuts × (cut a ≡ n))
        (λ t.
        cond_both (eqb (n + 1) (length (own_entries a trace) + 1)) (Some x) (entry_at (n + 1) (own_entries a trace))
        (λ o. o ≡ Some y → (cut : Cut) × IsIn cut cuts × (cut a ≡ n))
        (λ q s.
        let same : x ≡ y = cc in
        let r = due (ap is_retry same ∙ retry) in
        let here : r.0 a ≡ entries_of a trace = subst (λ b. r.0 b ≡ entries_of b trace) (same_actor_is x.actor a t) r.2 in
        (r.0, r.1, omega (arith, here, count-own a trace, eqb-true (n + 1) (length (own_entries a trace) + 1) q)))
        (λ q s. h a n y s retry)) (λ t s. h a n y s retry) at

    earlier_in : (cuts : List Cut) (cut : Cut) → IsIn cut (earlier cuts) → IsIn cut cuts
    earlier_in [] cut i = absurd i
    earlier_in (k ∷ older) cut i = inr i

    -- where one more entry is no retry, or its actor's first after a cut, the trace is still paced by the same cuts
    pub paced_on : (lost : ℕ) (cuts : List Cut) → IsPacedBy script trace lost cuts
        → (is_retry x ≡ true → (cut : Cut) × IsIn cut cuts × (cut x.actor ≡ entries_of x.actor trace))
        → AllByRecursion (λ (cut : Cut). length (open_at script cut (x ∷ trace)) ≤ lost) cuts → IsPacedBy script (x ∷ trace) lost cuts
    paced_on lost cuts p due few =
        let within : (cut : Cut) → IsIn cut cuts → (a : Actor) → cut a ≤ entries_of a trace =
        λ cut i. each_in (λ (k : Cut). (a : Actor) → k a ≤ entries_of a trace) cuts cut p.within i in
        record {
          within = each_map (λ (k : Cut). (a : Actor) → k a ≤ entries_of a trace)
              (λ (k : Cut). (a : Actor) → k a ≤ entries_of a (x ∷ trace)) cuts (λ k i h a. within_on k a (h a)) p.within;
          rising = p.rising;
          retries = retries_on cuts p.retries due;
          waiters = each_map (WaitersRetry script trace) (WaitersRetry script (x ∷ trace)) (earlier cuts)
              (λ k i h. waiters_on k (within k (earlier_in cuts k i)) h) p.waiters;
          calls = each_map (HasCallUnderWay trace) (HasCallUnderWay (x ∷ trace)) cuts (λ k i h. calls_on k (within k i) h) p.calls;
          few_open = few;
        }
