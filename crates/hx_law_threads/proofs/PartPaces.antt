-- The pace of a trace is read in its parts.
use Rattle.hx_law_lemmas.proofs.Lemmas.Vocabulary.{[], Actor, AllByRecursion, ap, arith, Bool, cond, cond_both, entries_of, Entry, entry_at, false, inl, inr}
use Rattle.hx_law_lemmas.proofs.Lemmas.Vocabulary.{IsIn, length, length-reverse, List, nat_lt, refl, reverse, same_actor, Script, Session, session_of, Some}
use Rattle.hx_law_lemmas.proofs.Lemmas.Vocabulary.{subst, sym, take, take-length, true, true≢false, when_some, ℕ, ⊎_elim, ◌+◌, ◌∙◌, ◌∷◌, ◌≡◌, ◌≢◌, ◌≤◌, ◌⊎◌}
use Rattle.hx_clock.specs.declared.parts.Stamped.{Stamped}
use Rattle.hx_clock.proofs.Lemmas.{each_in, each_map}
use Rattle.hx_law_threads.specs.Own.{own_entries, past_of, IsOwn}
use Rattle.hx_law_threads.specs.Merged.{parts_in, ActorPart, AreOwnParts, AreWholeParts, HasOwnParts, IsMerged}
use Rattle.hx_law_threads.specs.Calls.{last_call}
use Rattle.hx_clock.specs.Views.{total}
use Rattle.hx_law_threads.specs.Counting.{total_at, total_over}
use Rattle.hx_law_threads.proofs.Totals.{cuts_add_up, total_same}
use Rattle.hx_law_threads.specs.Cuts.{whole_of, first_entries, is_retry, is_waiting, open_at, own_at, Cut, HasCallUnderWay}
use Rattle.hx_law_threads.specs.Laws.{entry_in, IsReadInPart}
use Rattle.hx_law_threads.specs.Pacing.{earlier, retries_at, IsPacedBy, RetriesFollow, WaitersRetry}
use Rattle.hx_law_threads.specs.PartPacing.{past_at, HasAllActors, ArePacedParts, HasSessionUnderWay, HaveCut, IsSettled, PartsFollow, PartsRetry, TellPace}
use Rattle.hx_law_threads.proofs.Actors.{same_actor_is, same_as_itself}
use Rattle.hx_law_threads.proofs.Lists.{of_filter}
use Rattle.hx_law_threads.proofs.Places.{entries}
use Rattle.hx_law_threads.proofs.Reading.{read_in_parts}
use Rattle.hx_law_threads.proofs.Runs.{all_steps, merged_run, mine, own_mine, past_is}
use Rattle.hx_law_threads.proofs.Offers.{open_lost}
use Rattle.hx_law_threads.proofs.Sessions.{under_way_open}
use Rattle.hx_law_threads.proofs.States.{entries_own}

some_entry : (n : ℕ) (ms : List Stamped) (x : Entry) → entry_at n (entries ms) ≡ Some x → (z : Stamped) × IsIn z ms
some_entry n [] x e = absurd (cc)
some_entry n (z ∷ ms) x e = (z, inl refl)

pub count-own : (a : Actor) (trace : List Entry) → entries_of a trace ≡ length (own_entries a trace)
count-own a [] = refl
count-own a (x ∷ trace) = by (same_actor x.actor a) (count-own a trace)
  where
    by : (b : Bool) → entries_of a trace ≡ length (own_entries a trace)
        → cond b (entries_of a trace + 1) (entries_of a trace) ≡ length (cond b (x ∷ own_entries a trace) (own_entries a trace))
    by true e = omega (arith, e)
    by false e = e

length-past : (part : List Stamped) → length (entries part) ≡ length part
length-past [] = refl
length-past (x ∷ part) = omega (arith, length-past part)

-- the first entries of an actor's own are its own
own_before : (script : Script) (a : Actor) (n : ℕ) (xs : List Entry) → IsOwn script a xs → IsOwn script a (first_entries n xs)
own_before script a n [] o = tt
own_before script a n (x ∷ xs) o =
    cond_both (nat_lt (length xs) n) (x ∷ xs) (first_entries n xs) (IsOwn script a) (λ t. o) (λ t. own_before script a n xs o.1)

-- an actor has a part or it has none
part_or_none : (whole : List ActorPart) (a : Actor) → ((p : ActorPart) × IsIn p whole × (p.actor ≡ a)) ⊎ AllByRecursion (λ (p : ActorPart). p.actor ≢ a) whole
part_or_none [] a = inr tt
part_or_none (p ∷ whole) a = by (same_actor p.actor a) refl (part_or_none whole a)
  where
    by : (b : Bool) → same_actor p.actor a ≡ b → ((q : ActorPart) × IsIn q whole × (q.actor ≡ a)) ⊎ AllByRecursion (λ (q : ActorPart). q.actor ≢ a) whole
        → ((q : ActorPart) × IsIn q (p ∷ whole) × (q.actor ≡ a)) ⊎ AllByRecursion (λ (q : ActorPart). q.actor ≢ a) (p ∷ whole)
    by true e rest = inl (p, inl refl, same_actor_is p.actor a e)
    by false e (inl r) = inl (r.0, inr r.1, r.2)
    by false e (inr r) = inr ((λ q. true≢false (sym (ap (λ z. same_actor z a) q ∙ same_as_itself a) ∙ e)), r)

module _ (script : Script) (whole : List ActorPart) (merged : List Stamped) (o : AreOwnParts script whole)
    (w : AreWholeParts (parts_in whole)) (m : IsMerged (parts_in whole) merged) where
  own_are : HasOwnParts whole (past_of merged)
  own_are = (merged_run script whole merged o w m).own

  reads : (p : ActorPart) → IsIn p whole → IsReadInPart (past_of merged) p
  reads p i = each_in (IsReadInPart (past_of merged)) whole p (read_in_parts whole (past_of merged) own_are) i

  -- whoever has made an entry has a part
  has_part : (a : Actor) (n : ℕ) (x : Entry) → entry_at n (own_entries a (past_of merged)) ≡ Some x → (p : ActorPart) × IsIn p whole × (a ≡ p.actor)
  has_part a n x e =
      let z = some_entry n (mine a (reverse merged)) x (sym (ap (entry_at n) (ap (own_entries a) (past_is merged) ∙ own_mine a (reverse merged))) ∙ e) in
      let f = of_filter (λ (y : Stamped). same_actor y.entry.actor a) (reverse merged) z.0 z.1 in
      let k = (all_steps script whole merged o w m).known z.0 f.0 in
      (k.0, k.1, sym (same_actor_is z.0.entry.actor a f.1) ∙ k.2)

  retries_read : (cuts : List Cut) → PartsFollow whole cuts → RetriesFollow (past_of merged) cuts
  retries_read cuts follow a n x e retry =
      let p = has_part a (n + 1) x e in
      let here : entry_in p.0.part n ≡ Some x = sym ((reads p.0 p.1).next n) ∙ subst (λ b. entry_at (n + 1) (own_entries b (past_of merged)) ≡ Some x) p.2 e in
      let r = each_in (λ (q : ActorPart). (k : ℕ) (y : Entry) → entry_in q.part k ≡ Some y → is_retry y ≡ true
      → (cut : Cut) × IsIn cut cuts × (cut q.actor ≡ k)) whole p.0 follow p.1 n x here retry in
      (r.0, r.1, ap r.0 p.2 ∙ r.2)

  waiters_read : (cut : Cut) → HasAllActors script whole → PartsRetry script whole cut → WaitersRetry script (past_of merged) cut
  waiters_read cut all retry a known =
      let p = all a known in
      let read = reads p.0 p.1 in
      let here = each_in (λ (q : ActorPart). when_some (entry_in q.part (cut q.actor)) false is_retry
      ≡ is_waiting script (past_at cut q) q.actor) whole p.0 retry p.1 in
      subst (λ b. retries_at cut (past_of merged) b ≡ is_waiting script (own_at cut (past_of merged) b) b) (sym p.2)
      (ap (λ r. when_some r false is_retry) (read.next (cut p.0.actor)) ∙ here ∙ ap (λ l. is_waiting script l p.0.actor) (sym (read.own (cut p.0.actor))))

  calls_read : (cut : Cut) → HasSessionUnderWay script whole cut → HasCallUnderWay (past_of merged) cut
  calls_read cut h =
      let p = h.0 in
      let u = h.2.0 in
      let same : own_at cut (past_of merged) (Session u) ≡ past_at cut p =
      ap (own_at cut (past_of merged)) (sym h.2.1) ∙ (reads p h.1).own (cut p.actor) in
      let way : (session_of script u (own_at cut (past_of merged) (Session u))).under_way ≡ true =
      subst (λ l. (session_of script u l).under_way ≡ true) (sym same) h.2.2 in
      let own : IsOwn script (Session u) (own_at cut (past_of merged) (Session u)) =
      own_before script (Session u) (cut (Session u)) (own_entries (Session u) (past_of merged))
      (entries_own script (past_of merged) (merged_run script whole merged o w m).run (Session u)) in
      let c = under_way_open script u (own_at cut (past_of merged) (Session u)) own way in
      (last_call script u (own_at cut (past_of merged) (Session u)), c.0, c.1)

  -- how many entries an actor has made is the length of its part
  count_part : (p : ActorPart) → IsIn p whole → entries_of p.actor (past_of merged) ≡ length p.part
  count_part p i =
      count-own p.actor (past_of merged) ∙ ap length
      (each_in (λ (q : ActorPart). own_entries q.actor (past_of merged) ≡ past_of q.part) whole p own_are i)
      ∙ ap length (past_is p.part)
      ∙ length-past (reverse p.part) ∙ length-reverse p.part

  pub whole_adds_up : (f : ℕ → Entry → ℕ) → total_at f (whole_of (past_of merged)) (past_of merged) ≡ total (λ (p : ActorPart). total_over f p.part) whole
  whole_adds_up f =
      cuts_add_up script whole merged o w m f (whole_of (past_of merged))
      ∙ total_same (λ (p : ActorPart). total_over f (take (entries_of p.actor (past_of merged)) p.part)) (λ (p : ActorPart). total_over f p.part) whole
      (λ p i. ap (λ n. total_over f (take n p.part)) (count_part p i) ∙ ap (total_over f) (take-length p.part))

  within_read : (cut : Cut) → HaveCut whole cut → (a : Actor) → cut a ≤ entries_of a (past_of merged)
  within_read cut have a =
      ⊎_elim
      (λ (p : (q : ActorPart) × IsIn q whole × (q.actor ≡ a)).
      let few = each_in (λ (q : ActorPart). cut q.actor ≤ length q.part) whole p.0 have.within p.1 in
      subst (λ b. cut b ≤ entries_of b (past_of merged)) p.2 (omega (arith, few, count_part p.0 p.1)))
      (λ (none : AllByRecursion (λ (q : ActorPart). q.actor ≢ a) whole). let zero_here = have.others a none in omega (arith, zero_here))
      (part_or_none whole a)

  pub parts_tell : TellPace script whole (past_of merged)
  parts_tell = record { within = within_read; retries = retries_read; waiters = waiters_read; calls = calls_read }

pub paced_parts : (script : Script) (whole : List ActorPart) (merged : List Stamped) → AreOwnParts script whole
    → AreWholeParts (parts_in whole) → IsMerged (parts_in whole) merged → HasAllActors script whole
    → (lost : ℕ) (cuts : List Cut) → ArePacedParts script whole (past_of merged) lost cuts → IsPacedBy script (past_of merged) lost cuts
paced_parts script whole merged o w m all lost cuts p =
    let tell = parts_tell script whole merged o w m in
    record {
      within = each_map (HaveCut whole) (λ (cut : Cut). (a : Actor) → cut a ≤ entries_of a (past_of merged)) cuts (λ cut i h. tell.within cut h) p.have;
      rising = p.rising;
      retries = tell.retries cuts p.follow;
      waiters = each_map (PartsRetry script whole) (WaitersRetry script (past_of merged)) (earlier cuts) (λ cut i h. tell.waiters cut all h) p.retry;
      calls = each_map (HasSessionUnderWay script whole) (HasCallUnderWay (past_of merged)) cuts (λ cut i h. tell.calls cut h) p.calls;
      few_open = each_map (IsSettled script (past_of merged) lost) (λ (cut : Cut). length (open_at script cut (past_of merged)) ≤ lost) cuts
          (λ cut i h. let lost_by = open_lost script cut (past_of merged) h.offers h.came in omega (arith, lost_by, h.never_put)) p.settled;
    }
