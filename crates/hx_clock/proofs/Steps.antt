-- Each kind of step keeps the rule.
use Rattle.std.proofs.Common.{◌≡◌, ◌≢◌, ℕ, ◌+◌, ◌*◌, ◌%◌, ◌^◌, ◌<◌, ◌≤◌, ◌⊎◌, inl, inr, ⊎_elim, true, false, cond, eqb}
use Rattle.std.proofs.Common.{List, [], ◌∷◌, ◌++◌, length, set, Option, Some, None, slice_get, slice_set, refl, ap}
use Rattle.std.proofs.Common.{sym, subst, ◌∙◌, arith, append-nil, length-append}
use mathlib.Core.Option.{some, some-ne-none}
use mathlib.Core.List.{IsPrefix}
use lib.ListN.{get_elem?}
use Rattle.std.specs.Prelude.{nat_lt, slice_index, ⊤}
use Rattle.std.specs.List.{AllByRecursion}
use Rattle.std.proofs.lemmas.Bool.Decides.{eqb_tells, nat_tests}
use Rattle.std.proofs.Math.Nat.{mod-eq_of_lt, mul-le-mul_right}
use Rattle.std.proofs.Math.Logic.{∥∥₁_map}
use Rattle.atomic_table.specs.Table.{State, Act, keeps, stepped, carried_after, Valid, Allows, Splits, Joins, opening}
use Rattle.atomic_table.proofs.Lists.{at_set}
use Rattle.hx_types.specs.declared.traces.Entry.{Entry}
use Rattle.hx_types.specs.declared.messages.Post.{Post}
use Rattle.hx_types.specs.declared.messages.PostId.{PostId}
use Rattle.hx_types.specs.Words.{IsIn}
use Rattle.hx_types.specs.declared.limits.TheConstants.{MOST_ENTRIES}
use Rattle.hx_clock.specs.declared.limits.TheConstants.{MOST_ENROLLED}
use Rattle.hx_clock.specs.declared.parts.Stamped.{Stamped}
use Rattle.hx_clock.specs.declared.view.NumberedPart.{NumberedPart}
use Rattle.hx_clock.specs.declared.view.View.{View}
use Rattle.hx_clock.specs.Parts.{stamped, DeliveryMeets, HasStampsBelow, Posted}
use Rattle.hx_clock.specs.Views.{acted, either_count, front_of, handed, handing, joined, nothing, numbered, one}
use Rattle.hx_clock.specs.Views.{parts_of, rest_of, times, told, total, view_of, IsAfter, IsAmong, IsWhole, Knows}
use Rattle.hx_clock.specs.Views.{Owns}
use Rattle.hx_clock.specs.Rule.{counts, event, part_in, Acts, Enrols, Event, Fits, IsCausalHistory, IsKept, IsPostedIn, Loads}
use Rattle.hx_clock.proofs.Lists.{all_set, all_snoc, each_append, each_in, each_map, get-below, get-front, get-snoc}
use Rattle.hx_clock.proofs.Lists.{prefix_in, prefix_more, prefix_self, total-append, total-at, total-set, total-two}
use Rattle.hx_clock.proofs.Histories.{added, added-other, added-own, history-most, meets_more, one-le, one-lt, part-none, part-snoc, stands, times-in, Stands}
use Rattle.hx_clock.proofs.Carried.{whole-causal, whole-stamps, AreWhole}

-- what a view has stands in the history
has : (history : List Event) (count : ℕ) (v : View) (x : Stamped) → Fits history count v → IsAmong v.carried x
    ⊎ IsAmong v.known x → (k : ℕ) × IsIn x (part_in k history)
has history count v x f h =
    ⊎_elim
    (λ (c : IsAmong v.carried x). (c.0.number, subst (IsIn x) (each_in _ v.carried c.0 f.carried c.1) c.2))
    (λ (c : IsAmong v.known x). (c.0.number, prefix_in x c.0.entries (part_in c.0.number history) (each_in _ v.known c.0 f.known c.1) c.2)) h

was_posted : (history : List Event) (count : ℕ) (v : View) (id : PostId) (p : Post) → Fits history count v
    → Knows v id p → IsPostedIn history (length history) id p
was_posted history count v id p f h =
    ∥∥₁_map h
    (λ (y : (x : Stamped) × (IsAmong v.carried x ⊎ IsAmong v.known x) × Posted x id p).
    let i = has history count v y.0 f y.1 in
    let s : Stands i.0 0 history y.0 = stands i.0 0 history y.0 i.1 in
    let e : y.0 ≡ stamped s.0 s.1.entry = s.3 ∙ ap (λ m. stamped m s.1.entry) (omega arith) in
    (s.0, s.1, get-below history s.0 s.1 s.2, s.2, subst (λ x. Posted x id p) e y.2))

before_more : (history : List Event) (t : Event) (n : ℕ) (id : PostId) (p : Post) → IsPostedIn history n id p → IsPostedIn (history ++ t ∷ []) n id p
before_more history t n id p h =
    ∥∥₁_map h (λ (y : (m : ℕ) × (u : Event) × (m < n) × (slice_get history m ≡ Some u)
    × Posted (stamped m u.entry) id p). (y.0, y.1, y.2, get-front history (t ∷ []) y.0 y.1 y.3, y.4))

causal-snoc : (history : List Event) (t : Event) → IsCausalHistory history
    → DeliveryMeets (IsPostedIn history (length history)) t.entry → IsCausalHistory (history ++ t ∷ [])
causal-snoc history t old new n u e =
    ⊎_elim
    (λ (h : slice_get history n ≡ Some u). meets_more u.entry _ _ (λ id p. before_more history t n id p) (old n u h))
    (λ (h : (n ≡ length history) × (t ≡ u)).
    let P : ℕ × Event → Type 0 = λ y. DeliveryMeets (IsPostedIn (history ++ t ∷ []) y.0) y.1.entry in
    subst P (λ i. (sym h.0 i, h.1 i)) (meets_more t.entry _ _ (λ id p. before_more history t (length history) id p) new))
    (get-snoc history t n u e)

known_more : (history : List Event) (t : Event) (p : NumberedPart) → IsPrefix p.entries (part_in p.number history)
    → IsPrefix p.entries (part_in p.number (history ++ t ∷ []))
known_more history t p h = subst (IsPrefix p.entries) (sym (part-snoc p.number history t)) (prefix_more p.entries (part_in p.number history) _ h)

-- a view that doesn't carry the number of the act
fits_other : (history : List Event) (count : ℕ) (t : Event) (u : View)
    → ((p : NumberedPart) → IsIn p u.carried → p.number ≢ t.by) → Fits history count u → Fits (history ++ t ∷ []) count u
fits_other history count t u apart f = record {
  carried = each_map _ _ u.carried (λ p i e. e ∙ sym
      (part-snoc p.number history t ∙ ap (λ w. part_in p.number history ++ w)
      (added-other p.number (length history) t (apart p i)) ∙ append-nil (part_in p.number history))) f.carried;
  known = each_map _ _ u.known (λ p i h. known_more history t p h) f.known;
  count = f.count;
}

-- what is written is the old part with the new entry
own_part : (history : List Event) (t : Event) (part : List Stamped) → part ≡ part_in t.by history
    → part ++ stamped (length history) t.entry ∷ [] ≡ part_in t.by (history ++ t ∷ [])
own_part history t part e = ap (λ w. w ++ stamped (length history) t.entry ∷ []) e
    ∙ ap (λ w. part_in t.by history ++ w) (sym (added-own (length history) t)) ∙ sym (part-snoc t.by history t)

added-length : (k n : ℕ) (t : Event) → ((k ≡ t.by) × (length (added k n t) ≡ 1)) ⊎ (length (added k n t) ≡ 0)
added-length k n t =
    ⊎_elim (λ (h : (eqb k t.by ≡ true) × (k ≡ t.by)). inl (h.1, ap (λ b. length (cond b (stamped n t.entry ∷ []) [])) h.0))
    (λ (h : (eqb k t.by ≡ false) × (k ≢ t.by)). inr (ap (λ b. length (cond b (stamped n t.entry ∷ []) [])) h.0)) (eqb_tells k t.by)

few-after : (history : List Event) (t : Event) (m : ℕ) → length (part_in t.by history) < m
    → ((k : ℕ) → length (part_in k history) ≤ m) → (k : ℕ) → length (part_in k (history ++ t ∷ [])) ≤ m
few-after history t m own all k =
    let e : length (part_in k (history ++ t ∷ []))
    ≡ length (part_in k history) + length (added k (length history) t) =
    ap length (part-snoc k history t) ∙ length-append (part_in k history) (added k (length history) t) in
    ⊎_elim
    (λ (h : (k ≡ t.by) × (length (added k (length history) t) ≡ 1)). let l : length (part_in k history) < m =
    subst (λ j. length (part_in j history) < m) (sym h.0) own in omega arith)
    (λ (h : length (added k (length history) t) ≡ 0). omega (arith, all k))
    (added-length k (length history) t)

word_next : (n c : ℕ) (history : List Event) → n ≡ length history → c ≤ MOST_ENROLLED
    → AllByRecursion (λ t. t.by < c) history → ((k : ℕ) → length (part_in k history) ≤ MOST_ENTRIES)
    → (n + 1) % 2 ^ 64 ≡ length history + 1
word_next n c history e most within worn =
    let a = history-most c MOST_ENTRIES history within worn in
    let b : c * MOST_ENTRIES ≤ MOST_ENROLLED * MOST_ENTRIES = mul-le-mul_right MOST_ENTRIES most in
    let small : n + 1 < 2 ^ 64 = omega arith in
    mod-eq_of_lt small ∙ omega arith

-- another view doesn't carry the number
apart : (views : List View) (c : ℕ) (id j : ℕ) (v u : View) (k : ℕ)
    → total (λ v. times k v.carried) views ≡ one (nat_lt k c) → get_elem? views id ≡ some v
    → get_elem? views j ≡ some u → j ≢ id → 1 ≤ times k v.carried
    → (p : NumberedPart) → IsIn p u.carried → p.number ≢ k
apart views c id j v u k once at there other mine p i e =
    let a = total-two (λ v. times k v.carried) views id j v u at there other in
    let b = times-in k u.carried p i (sym e) in
    let d = one-le (nat_lt k c) in absurd (omega arith)

-- a seat's only part, and one more entry
act_kept : (s : State ⊤ View) (kept : IsKept s) (id k : ℕ) (part : List Stamped) (known : List NumberedPart) (count : Option ℕ) (e : Entry) (next : ℕ)
    → get_elem? s.views id ≡ some (view_of (numbered k part ∷ []) known count) → length part < MOST_ENTRIES
    → DeliveryMeets (Knows (view_of (numbered k part ∷ []) known count)) e
    → next ≡ length kept.history + 1
    → IsKept record {
      words = slice_set s.words 0 next;
      homes = s.homes;
      views = slice_set s.views id (view_of (numbered k (part ++ stamped (length kept.history) e ∷ []) ∷ []) known count);
    }
act_kept s kept id k part known count e next at few cause is =
    let v : View = view_of (numbered k part ∷ []) known count in
    let history : List Event = kept.history in
    let t : Event = event k e in
    let w : View = view_of (numbered k (part ++ stamped (length history) e ∷ []) ∷ []) known count in
    let f : Fits history kept.actors v = kept.fits id v at in
    let own : part ≡ part_in k history = f.carried.0 in
    let mine : 1 ≤ times k v.carried = times-in k (numbered k part ∷ []) (numbered k part) (inl refl) refl in
    let most = total-at (λ v. times k v.carried) s.views id v at in
    let once = kept.carried_once k in
    let drawn : k < kept.actors = one-lt k kept.actors (omega arith) in
    let few' : length (part_in k history) < MOST_ENTRIES = subst (λ xs. length xs < MOST_ENTRIES) own few in
    record {
      history = history ++ t ∷ [];
      actors = kept.actors;
      words = ap (λ ws. slice_set ws 0 next) kept.words ∙ ap (λ n. n ∷ kept.actors ∷ []) (is ∙ sym (length-append history (t ∷ [])));
      few_actors = kept.few_actors;
      few_entries = few-after history t MOST_ENTRIES few' kept.few_entries;
      by_actors = each_append _ history (t ∷ []) kept.by_actors (drawn, tt);
      causal = causal-snoc history t kept.causal (meets_more e _ _ (λ i p. was_posted history kept.actors v i p f) cause);
      carried_once = λ j. let a = total-set (λ v. times j v.carried) s.views id v w at in let b = kept.carried_once j in omega arith;
      counted_once = let a = total-set (λ v. counts v.count) s.views id v w at in let b = kept.counted_once in omega arith;
      fits = all_set (Fits (history ++ t ∷ []) kept.actors) s.views id w
          (record {
            carried = (own_part history t part own, tt);
            known = each_map _ _ known (λ p i h. known_more history t p h) f.known;
            count = f.count;
          })
          (λ j u other there. fits_other history kept.actors t u (apart s.views kept.actors id j v u k once at there other mine) (kept.fits j u there));
    }

-- the next stamp is above each that the view has
fresh : (history : List Event) (actors : ℕ) (v : View) → Fits history actors v → IsAfter (length history) v
fresh history actors v f x h =
    let i = has history actors v x f h in
    let s : Stands i.0 0 history x = stands i.0 0 history x i.1 in
    let b = get-below history s.0 s.1 s.2 in
    let e : x.stamp.0 ≡ 0 + s.0 = ap (λ (y : Stamped). y.stamp.0) s.3 in omega arith

pub acts : (slots id k : ℕ) (part : List Stamped) (known : List NumberedPart) (count : Option ℕ) (c : List (ℕ × ⊤)) (e : Entry)
    → length part < MOST_ENTRIES → DeliveryMeets (Knows (view_of (numbered k part ∷ []) known count)) e
    → Allows IsKept slots id (view_of (numbered k part ∷ []) known count, c) 0 (λ n. (n + 1) % 2 ^ 64) (Acts e (view_of (numbered k part ∷ []) known count, c))
unfolding act_kept
acts slots id k part known count c e few cause s kept len at small =
    let v : View = view_of (numbered k part ∷ []) known count in
    let f : Fits kept.history kept.actors v = kept.fits id v at in
    let is : slice_index s.words 0 ≡ length kept.history = ap (λ ws. slice_index ws 0) kept.words in
    let P : ℕ → Type 0 = λ n. (w : View) × (a : Act ⊤) × Valid s.homes c a
    × IsKept (stepped s 0 ((n + 1) % 2 ^ 64) id c w a) × Acts e (v, c) n (w, carried_after c a) in
    let next = act_kept s kept id k part known count e ((length kept.history + 1) % 2 ^ 64) at few cause
    (word_next (length kept.history) kept.actors kept.history refl kept.few_actors kept.by_actors kept.few_entries) in
    let most = history-most next.actors MOST_ENTRIES next.history next.by_actors next.few_entries in
    let long : length next.history ≡ length kept.history + 1 = length-append kept.history (event k e ∷ []) in
    let times_most : next.actors * MOST_ENTRIES ≤ MOST_ENROLLED * MOST_ENTRIES = mul-le-mul_right MOST_ENTRIES next.few_actors in
    let small' : length kept.history < MOST_ENROLLED * MOST_ENTRIES = omega arith in
    subst P (sym is) (
      view_of (numbered k (part ++ stamped (length kept.history) e ∷ []) ∷ []) known count,
      keeps,
      tt,
      next,
      (refl, fresh kept.history kept.actors v f, small'),
    )

-- a view whose facts are there for another number of actors
fits_count : (history : List Event) (c d : ℕ) (u : View) → ((n : ℕ) → u.count ≡ Some n → n ≡ d) → Fits history c u → Fits history d u
fits_count history c d u num f = record { carried = f.carried; known = f.known; count = num }

pub counts-some : (c : Option ℕ) (n : ℕ) → c ≡ Some n → counts c ≡ 1
counts-some c n e = ap counts e

-- no other view has a count
uncounted : (views : List View) (id j : ℕ) (v u : View) (m : ℕ) → total (λ v. counts v.count) views ≡ 1
    → get_elem? views id ≡ some v → get_elem? views j ≡ some u → j ≢ id → counts v.count ≡ 1 → ¬ (u.count ≡ Some m)
uncounted views id j v u m once at there other mine e =
    let a = total-two (λ v. counts v.count) views id j v u at there other in
    let b = counts-some u.count m e in
    omega arith

pub one_lt-next : (k n : ℕ) → one (nat_lt k (n + 1)) ≡ one (eqb k n) + one (nat_lt k n)
one_lt-next k n = grind (arith, nat_tests)

some-number : (n d : ℕ) → Some n ≡ Some d → n ≡ d
some-number n d e = cc

enrol_kept : (s : State ⊤ View) (kept : IsKept s) (id n : ℕ) (carried known : List NumberedPart) (next : ℕ)
    → get_elem? s.views id ≡ some (view_of carried known (Some n)) → n < MOST_ENROLLED → next ≡ n + 1
    → IsKept record { words = slice_set s.words 1 next; homes = s.homes; views = slice_set s.views id (view_of (numbered n [] ∷ carried) known (Some (n + 1))) }
enrol_kept s kept id n carried known next at few is =
    let v : View = view_of carried known (Some n) in
    let w : View = view_of (numbered n [] ∷ carried) known (Some (n + 1)) in
    let f : Fits kept.history kept.actors v = kept.fits id v at in
    let same : n ≡ kept.actors = f.count n refl in
    let more : AllByRecursion (λ t. t.by < n + 1) kept.history = each_map _ _ kept.history (λ t i h. omega arith) kept.by_actors in
    record {
      history = kept.history;
      actors = n + 1;
      words = ap (λ ws. slice_set ws 1 next) kept.words ∙ ap (λ m. length kept.history ∷ m ∷ []) is;
      few_actors = omega arith;
      few_entries = kept.few_entries;
      by_actors = more;
      causal = kept.causal;
      carried_once = λ j.
          let a = total-set (λ v. times j v.carried) s.views id v w at in
          let b = kept.carried_once j in
          let d = ap (λ m. one (nat_lt j m)) same in
          omega (arith, one_lt-next j n);
      counted_once = let a = total-set (λ v. counts v.count) s.views id v w at in let b = kept.counted_once in omega arith;
      fits = all_set (Fits kept.history (n + 1)) s.views id w
          (record {
            carried = (
              sym (part-none n n 0 kept.history
                  (subst (λ m. AllByRecursion (λ t. t.by < m) kept.history) (sym same) kept.by_actors) (omega arith)),
              f.carried,
            );
            known = f.known;
            count = λ m e. sym (some-number (n + 1) m e);
          })
          (λ j u other there. fits_count kept.history kept.actors (n + 1) u
          (λ m e. absurd (uncounted s.views id j v u m kept.counted_once at there other refl e)) (kept.fits j u there));
    }

pub enrols : (slots id n : ℕ) (carried known : List NumberedPart) (c : List (ℕ × ⊤))
    → n < MOST_ENROLLED
    → Allows IsKept slots id (view_of carried known (Some n), c) 1 (λ m. (m + 1) % 2 ^ 64) (Enrols (view_of carried known (Some n), c))
enrols slots id n carried known c few s kept len at small =
    let v : View = view_of carried known (Some n) in
    let f : Fits kept.history kept.actors v = kept.fits id v at in
    let is : slice_index s.words 1 ≡ n = ap (λ ws. slice_index ws 1) kept.words ∙ sym (f.count n refl) in
    let P : ℕ → Type 0 = λ m. (w : View) × (a : Act ⊤) × Valid s.homes c a
    × IsKept (stepped s 1 ((m + 1) % 2 ^ 64) id c w a) × Enrols (v, c) m (w, carried_after c a) in
    let next : (n + 1) % 2 ^ 64 ≡ n + 1 = mod-eq_of_lt (omega arith) in
    subst P (sym is) (
      view_of (numbered n [] ∷ carried) known (Some (n + 1)),
      keeps,
      tt,
      enrol_kept s kept id n carried known ((n + 1) % 2 ^ 64) at few next,
      (refl, refl),
    )

-- a seat is cut in two, which carry what it carried and know no more than it had
fork_kept : (s : State ⊤ View) (kept : IsKept s) (id : ℕ) (v a b : View) → get_elem? s.views id ≡ some v
    → ((k : ℕ) → times k a.carried + times k b.carried ≡ times k v.carried) → counts a.count + counts b.count ≡ counts v.count
    → (Fits kept.history kept.actors v → Fits kept.history kept.actors a × Fits kept.history kept.actors b)
    → IsKept record { words = s.words; homes = s.homes; views = slice_set s.views id a ++ b ∷ [] }
fork_kept s kept id v a b at share_out count_out fit =
    let f = fit (kept.fits id v at) in
    record {
      history = kept.history;
      actors = kept.actors;
      words = kept.words;
      few_actors = kept.few_actors;
      few_entries = kept.few_entries;
      by_actors = kept.by_actors;
      causal = kept.causal;
      carried_once = λ k.
          let p = total-set (λ v. times k v.carried) s.views id v a at in
          let q = total-append (λ v. times k v.carried) (set s.views id a) (b ∷ []) in
          let r = kept.carried_once k in omega (arith, share_out k);
      counted_once =
          let p = total-set (λ v. counts v.count) s.views id v a at in
          let q = total-append (λ v. counts v.count) (set s.views id a) (b ∷ []) in
          let r = kept.counted_once in omega arith;
      fits = all_snoc (Fits kept.history kept.actors) (slice_set s.views id a) b f.1
          (all_set (Fits kept.history kept.actors) s.views id a f.0 (λ j u other there. kept.fits j u there));
    }

first-rest : (k : ℕ) (ps : List NumberedPart) → times k (rest_of ps) + times k (front_of ps) ≡ times k ps
first-rest k [] = refl
first-rest k (p ∷ ps) = omega arith

first-each : (P : NumberedPart → Type 0) (ps : List NumberedPart) → AllByRecursion P ps → AllByRecursion P (front_of ps)
first-each P [] h = tt
first-each P (p ∷ ps) h = (h.0, tt)

rest-each : (P : NumberedPart → Type 0) (ps : List NumberedPart) → AllByRecursion P ps → AllByRecursion P (rest_of ps)
rest-each P [] h = tt
rest-each P (p ∷ ps) h = h.1

no-number : (history : List Event) (c n : ℕ) → None ≡ Some n → n ≡ c
no-number history c n e = absurd cc

pub hands : (id : ℕ) (v : View) → Splits IsKept id v (handing v) (handed v)
hands id v s kept at =
    fork_kept s kept id v (handing v) (handed v) at (λ k. first-rest k v.carried) (omega arith)
    (λ f. (
      record { carried = rest-each _ v.carried f.carried; known = f.known; count = f.count },
      record { carried = first-each _ v.carried f.carried; known = f.known; count = no-number kept.history kept.actors },
    ))

whole-prefixes : (history : List Event) (ps : List NumberedPart)
    → AllByRecursion (λ p. p.entries ≡ part_in p.number history) ps
    → AllByRecursion (λ p. IsPrefix p.entries (part_in p.number history)) ps
whole-prefixes history ps h = each_map _ _ ps (λ p i e. subst (IsPrefix p.entries) e (prefix_self p.entries)) h

pub tells : (id : ℕ) (v : View) → Splits IsKept id v v (told v)
tells id v s kept at =
    fork_kept s kept id v v (told v) at (λ k. omega arith) (omega arith)
    (λ f. (
      f,
      record {
        carried = tt;
        known = each_append _ v.carried v.known (whole-prefixes kept.history v.carried f.carried) f.known;
        count = no-number kept.history kept.actors;
      },
    ))

pub counts-either : (c d : Option ℕ) → counts c + counts d ≤ 1 → counts (either_count c d) ≡ counts c + counts d
counts-either None d h = omega arith
counts-either (Some n) d h = omega arith

either-number : (c d : Option ℕ) (n m : ℕ) → ((n : ℕ) → c ≡ Some n → n ≡ m) → ((n : ℕ) → d ≡ Some n → n ≡ m) → either_count c d ≡ Some n → n ≡ m
either-number None d n m f g e = g n e
either-number (Some k) d n m f g e = f n e

times-append : (k : ℕ) (ps qs : List NumberedPart) → times k (ps ++ qs) ≡ times k ps + times k qs
times-append k ps qs = total-append (λ p. one (eqb k p.number)) ps qs

pub joins : (id : ℕ) (v : View) (other : ℕ) (w : View) → Joins IsKept id v other w (joined v w) nothing
joins id v other w s kept at two at' =
    let both : View = joined v w in
    let mid : List View = set s.views id both in
    let was : get_elem? s.views other ≡ some w = ⊎_elim (λ (x : (other ≡ id) × (both ≡ w)). absurd (two x.0))
    (λ (x : (other ≢ id) × (get_elem? s.views other ≡ some w)). x.1) (at_set s.views id other both w at') in
    let f : Fits kept.history kept.actors v = kept.fits id v at in
    let g : Fits kept.history kept.actors w = kept.fits other w was in
    let few = total-two (λ v. counts v.count) s.views id other v w at was two in
    let once = kept.counted_once in
    let e = counts-either v.count w.count (omega arith) in
    record {
      history = kept.history;
      actors = kept.actors;
      words = kept.words;
      few_actors = kept.few_actors;
      few_entries = kept.few_entries;
      by_actors = kept.by_actors;
      causal = kept.causal;
      carried_once = λ k.
          let p = total-set (λ v. times k v.carried) s.views id v both at in
          let q = total-set (λ v. times k v.carried) mid other w nothing at' in
          let r = kept.carried_once k in omega (arith, times-append k v.carried w.carried);
      counted_once =
          let p = total-set (λ v. counts v.count) s.views id v both at in
          let q = total-set (λ v. counts v.count) mid other w nothing at' in omega arith;
      fits = all_set (Fits kept.history kept.actors) mid other nothing
          (record { carried = tt; known = tt; count = no-number kept.history kept.actors })
          (λ j u x there.
          all_set (Fits kept.history kept.actors) s.views id both
          (record {
            carried = each_append _ v.carried w.carried f.carried g.carried;
            known = each_append _ v.known w.known f.known g.known;
            count = λ n. either-number v.count w.count n kept.actors f.count g.count;
          })
          (λ j u other there. kept.fits j u there) j u there);
    }

empty-history : (n : ℕ) (u : Event) → slice_get [] n ≡ Some u → ⊥
empty-history n u e = cc

pub opens : IsKept (opening {S = ⊤} (0 ∷ 0 ∷ []) [] (view_of [] [] (Some 0)))
opens = record {
  history = [];
  actors = 0;
  words = refl;
  few_actors = omega arith;
  few_entries = λ k. omega arith;
  by_actors = tt;
  causal = λ n t e. absurd (empty-history n t e);
  carried_once = λ k. grind (arith, nat_tests);
  counted_once = refl;
  fits = λ j u e. all_snoc (Fits [] 0) [] (view_of [] [] (Some 0))
      (record { carried = tt; known = tt; count = λ n e. sym (some-number 0 n e) })
      (λ j u e. absurd (some-ne-none u (sym e))) j u e;
}

-- the same of a view that owns one part, or that has a count
pub acts_at : (slots id : ℕ) (v w : View) (c : List (ℕ × ⊤)) (e : Entry) → v ≡ w
    → ((k : ℕ) × (part : List Stamped) × Owns w k part × (length part < MOST_ENTRIES)) → DeliveryMeets (Knows w) e
    → Allows IsKept slots id (v, c) 0 (λ n. (n + 1) % 2 ^ 64) (Acts e (v, c))
acts_at slots id v w c e is own cause =
    let as_seen : w ≡ view_of (numbered own.0 own.1 ∷ []) w.known w.count = ap (λ cs. view_of cs w.known w.count) own.2 in
    let P : View → Type 0 = λ u. Allows IsKept slots id (u, c) 0 (λ n. (n + 1) % 2 ^ 64) (Acts e (u, c)) in
    let Q : View → Type 0 = λ u. DeliveryMeets (Knows u) e in
    subst P (sym (is ∙ as_seen))
    (acts slots id own.0 own.1 w.known w.count c e own.3 (subst Q as_seen cause))

-- what an act tells of the view as contracts see it
pub acts_told : (v w : View) (c : List (ℕ × ⊤)) (e : Entry) (n : ℕ) (m : View × List (ℕ × ⊤)) → v ≡ w → Acts e (v, c) n m
    → (m.0 ≡ acted (stamped n e) w) × IsAfter n w × (n < MOST_ENROLLED * MOST_ENTRIES)
acts_told v w c e n m is h =
    (ap (λ m. m.0) h.0 ∙ ap (acted (stamped n e)) is, subst (IsAfter n) is h.1, h.2)

pub enrols_at : (slots id : ℕ) (v w : View) (c : List (ℕ × ⊤)) → v ≡ w → ((n : ℕ) × (w.count ≡ Some n) × (n < MOST_ENROLLED))
    → Allows IsKept slots id (v, c) 1 (λ m. (m + 1) % 2 ^ 64) (Enrols (v, c))
enrols_at slots id v w c is h =
    let as_seen : w ≡ view_of w.carried w.known (Some h.0) = ap (λ n. view_of w.carried w.known n) h.1 in
    let P : View → Type 0 = λ u. Allows IsKept slots id (u, c) 1 (λ m. (m + 1) % 2 ^ 64) (Enrols (u, c)) in
    subst P (sym (is ∙ as_seen)) (enrols slots id h.0 w.carried w.known c h.2)

-- a view with the count and each number has all that is carried
whole_view : (s : State ⊤ View) (kept : IsKept s) (id : ℕ) (v : View) → get_elem? s.views id ≡ some v → IsWhole v → AreWhole kept.history kept.actors v.carried
whole_view s kept id v at whole =
    let f : Fits kept.history kept.actors v = kept.fits id v at in
    let same : whole.0 ≡ kept.actors = f.count whole.0 whole.1 in (
      f.carried,
      kept.by_actors,
      λ k lt.
          let a = total-at (λ v. times k v.carried) s.views id v at in
          let b = kept.carried_once k in
          let c = one-le (nat_lt k kept.actors) in
          let d = whole.2 k (omega arith) in
          omega arith,
    )

load_kept : (s : State ⊤ View) (kept : IsKept s) (id : ℕ) (v : View) (n : ℕ) → get_elem? s.views id ≡ some v → n ≡ length kept.history
    → IsKept record { words = slice_set s.words 0 n; homes = s.homes; views = slice_set s.views id v }
load_kept s kept id v n at is = record {
  history = kept.history;
  actors = kept.actors;
  words = ap (λ ws. slice_set ws 0 n) kept.words ∙ ap (λ m. m ∷ kept.actors ∷ []) is;
  few_actors = kept.few_actors;
  few_entries = kept.few_entries;
  by_actors = kept.by_actors;
  causal = kept.causal;
  carried_once = λ k. let a = total-set (λ v. times k v.carried) s.views id v v at in let b = kept.carried_once k in omega arith;
  counted_once = let a = total-set (λ v. counts v.count) s.views id v v at in let b = kept.counted_once in omega arith;
  fits = all_set (Fits kept.history kept.actors) s.views id v (kept.fits id v at) (λ j u other there. kept.fits j u there);
}

pub loads : (slots id : ℕ) (v : View) (c : List (ℕ × ⊤)) → Allows IsKept slots id (v, c) 0 (λ n. n) (Loads (v, c))
loads slots id v c s kept len at small =
    let is : slice_index s.words 0 ≡ length kept.history = ap (λ ws. slice_index ws 0) kept.words in
    let most = history-most kept.actors MOST_ENTRIES kept.history kept.by_actors kept.few_entries in
    let times_most : kept.actors * MOST_ENTRIES ≤ MOST_ENROLLED * MOST_ENTRIES = mul-le-mul_right MOST_ENTRIES kept.few_actors in
    let few : length kept.history ≤ MOST_ENROLLED * MOST_ENTRIES = omega arith in (
      v,
      keeps,
      tt,
      load_kept s kept id v (slice_index s.words 0) at is,
      (
        refl,
        λ whole.
            let all = whole_view s kept id v at whole in (
              whole-causal kept.history kept.actors v.carried all kept.causal,
              subst (λ n. HasStampsBelow n (parts_of v)) (sym is) (whole-stamps kept.history kept.actors v.carried all),
            ),
        subst (λ n. IsAfter n v) (sym is) (fresh kept.history kept.actors v (kept.fits id v at)),
        subst (λ n. n ≤ MOST_ENROLLED * MOST_ENTRIES) (sym is) few,
      ),
    )
