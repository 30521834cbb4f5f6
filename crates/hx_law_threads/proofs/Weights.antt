-- What the posts of a cut weigh, how many are open, and that no name is of two.
use Rattle.hx_law_lemmas.proofs.Lemmas.Vocabulary.{[], and_from, and_parts, ap, arith, Bool, cond, cond_both, Entry, eq-eqb, eqb, eqb-true, eqb_tells, false}
use Rattle.hx_law_lemmas.proofs.Lemmas.Vocabulary.{filter, IsIn, length, List, names_from, not, Post, PostId, provided, refl, same_name, Script, sym, true}
use Rattle.hx_law_lemmas.proofs.Lemmas.Vocabulary.{true≢false, ℕ, ⊎_elim, ◌&&◌, ◌++◌, ◌+◌, ◌<◌, ◌∙◌, ◌∷◌, ◌≡◌, ◌≢◌, ◌≤◌}
use Rattle.hx_clock.specs.Views.{one, total}
use Rattle.hx_clock.proofs.Lemmas.{total-append}
use Rattle.hx_law_threads.specs.Cuts.{delivered_at, delivered_by, is_in_cut, is_to_halted, open_at, posted_at, times_named, Cut}
use Rattle.hx_law_threads.specs.Counting.{total_at, weight_delivered, weight_made, AtMostUndelivered, PostsWeigh}

weigh_provided : (h : PostId → ℕ) (b : Bool) (ids : List PostId) → total h (provided b ids) ≡ cond b (total h ids) 0
weigh_provided h true ids = refl
weigh_provided h false ids = refl

made_weigh : (h : PostId → ℕ) (cut : Cut) (trace : List Entry) → total h (posted_at cut trace) ≡ total_at (weight_made h) cut trace
made_weigh h cut [] = refl
made_weigh h cut (x ∷ older) =
    let names = names_from (length older + 1) 0 x.outputs in
    let b = is_in_cut cut x.actor older in
    omega (arith, total-append h (posted_at cut older) (provided b names), made_weigh h cut older, weigh_provided h b names)

delivered_weigh : (h : PostId → ℕ) (cut : Cut) (trace : List Entry) → total h (delivered_at cut trace) ≡ total_at (weight_delivered h) cut trace
delivered_weigh h cut [] = refl
delivered_weigh h cut (x ∷ older) =
    let b = is_in_cut cut x.actor older in
    omega (
      arith,
      total-append h (delivered_at cut older) (provided b (delivered_by x.input)),
      delivered_weigh h cut older,
      weigh_provided h b (delivered_by x.input),
    )

pub posts_weigh : (h : PostId → ℕ) (cut : Cut) (trace : List Entry) → PostsWeigh h cut trace
posts_weigh h cut trace = record { made = made_weigh h cut trace; delivered = delivered_weigh h cut trace }

pub length-filter : {A : Type 0} (test : A → Bool) (xs : List A) → length (filter test xs) ≡ total (λ (x : A). one (test x)) xs
length-filter test [] = refl
length-filter test (x ∷ xs) = by (test x) (length-filter test xs)
  where
    by : (b : Bool) → length (filter test xs) ≡ total (λ y. one (test y)) xs
        → length (cond b (x ∷ filter test xs) (filter test xs)) ≡ one b + total (λ y. one (test y)) xs
    by true e = omega (arith, e)
    by false e = omega (arith, e)

pub same_self : (id : PostId) → same_name id id ≡ true
same_self id = and_from (eqb id.entry id.entry) (eqb id.place id.place) (eq-eqb id.entry id.entry refl) (eq-eqb id.place id.place refl)

named_in : (ids : List PostId) (id : PostId) → IsIn id ids → 1 ≤ times_named id ids
named_in [] id i = absurd i
named_in (x ∷ ids) id i =
    cond_both (same_name x id) (times_named id ids + 1) (times_named id ids) (λ n. 1 ≤ n) (λ t. omega arith)
    (λ t. ⊎_elim (λ (e : id ≡ x). absurd (true≢false (sym (ap (λ y. same_name y id) (sym e) ∙ same_self id) ∙ t))) (λ (j : IsIn id ids). named_in ids id j) i)

not_zero : (n : ℕ) (b : Bool) → 1 ≤ n → (eqb n 0 && b) ≡ false
not_zero n b le = by (eqb n 0 && b) refl
  where
    by : (c : Bool) → (eqb n 0 && b) ≡ c → (eqb n 0 && b) ≡ false
    by false e = e
    by true e = absurd (omega (arith, le, eqb-true n 0 (and_parts (eqb n 0) b e).0))

to_halted : (a b : Bool) → b ≡ true → (a && not b) ≡ false
to_halted a b e = by (a && not b) refl
  where
    by : (c : Bool) → (a && not b) ≡ c → (a && not b) ≡ false
    by false q = q
    by true q = absurd (true≢false (sym (and_parts a (not b) q).1 ∙ ap not e))

pub open_counted : (script : Script) (cut : Cut) (trace : List Entry) (lost : ℕ)
    → AtMostUndelivered script cut trace lost → length (open_at script cut trace) ≤ lost
open_counted script cut trace lost few =
    let test : PostId → Bool = λ (id : PostId). eqb (times_named id (delivered_at cut trace)) 0 && not (is_to_halted script cut trace id) in
    let most = few test (λ id i. not_zero (times_named id (delivered_at cut trace))
    (not (is_to_halted script cut trace id)) (named_in (delivered_at cut trace) id i))
    (λ id h. to_halted (eqb (times_named id (delivered_at cut trace)) 0) (is_to_halted script cut trace id) h) in
    omega (arith, length-filter test (posted_at cut trace), most)

times-append : (id : PostId) (xs ys : List PostId) → times_named id (xs ++ ys) ≡ times_named id xs + times_named id ys
times-append id [] ys = omega arith
times-append id (x ∷ xs) ys = by (same_name x id) (times-append id xs ys)
  where
    by : (b : Bool) → times_named id (xs ++ ys) ≡ times_named id xs + times_named id ys
        → cond b (times_named id (xs ++ ys) + 1) (times_named id (xs ++ ys)) ≡ cond b (times_named id xs + 1) (times_named id xs) + times_named id ys
    by true e = omega (arith, e)
    by false e = e

other_entry : (id : PostId) (entry place : ℕ) (posts : List Post) → entry ≢ id.entry → times_named id (names_from entry place posts) ≡ 0
other_entry id entry place [] d = refl
other_entry id entry place (p ∷ posts) d =
    cond_both (same_name (record { entry = entry; place = place }) id)
    (times_named id (names_from entry (place + 1) posts) + 1)
    (times_named id (names_from entry (place + 1) posts)) (λ n. n ≡ 0)
    (λ t. absurd (d (eqb-true entry id.entry (and_parts (eqb entry id.entry) (eqb place id.place) t).0))) (λ t. other_entry id entry (place + 1) posts d)

later_place : (id : PostId) (entry place : ℕ) (posts : List Post) → id.place < place → times_named id (names_from entry place posts) ≡ 0
later_place id entry place [] lt = refl
later_place id entry place (p ∷ posts) lt =
    cond_both (same_name (record { entry = entry; place = place }) id)
    (times_named id (names_from entry (place + 1) posts) + 1)
    (times_named id (names_from entry (place + 1) posts)) (λ n. n ≡ 0)
    (λ t. absurd (omega (
      arith,
      lt,
      eqb-true place id.place
          (and_parts (eqb entry id.entry) (eqb place id.place) t).1,
    )))
    (λ t. later_place id entry (place + 1) posts (omega (arith, lt)))

names_once : (id : PostId) (entry place : ℕ) (posts : List Post) → times_named id (names_from entry place posts) ≤ 1
names_once id entry place [] = omega arith
names_once id entry place (p ∷ posts) =
    cond_both (same_name (record { entry = entry; place = place }) id)
    (times_named id (names_from entry (place + 1) posts) + 1)
    (times_named id (names_from entry (place + 1) posts)) (λ n. n ≤ 1)
    (λ t. let same = eqb-true place id.place (and_parts (eqb entry id.entry) (eqb place id.place) t).1 in
    omega (arith, later_place id entry (place + 1) posts (omega (arith, same))))
    (λ t. names_once id entry (place + 1) posts)

times_provided : (id : PostId) (b : Bool) (ids : List PostId) → times_named id (provided b ids) ≤ times_named id ids
times_provided id true ids = omega arith
times_provided id false ids = omega arith

not_posted_yet : (cut : Cut) (trace : List Entry) (id : PostId) → length trace < id.entry → times_named id (posted_at cut trace) ≡ 0
not_posted_yet cut [] id lt = refl
not_posted_yet cut (x ∷ older) id lt =
    let names = names_from (length older + 1) 0 x.outputs in
    omega (
      arith,
      times-append id (posted_at cut older) (provided (is_in_cut cut x.actor older) names),
      times_provided id (is_in_cut cut x.actor older) names,
      other_entry id (length older + 1) 0 x.outputs (λ e. omega (arith, e, lt)),
      not_posted_yet cut older id (omega (arith, lt)),
    )

pub named_once : (cut : Cut) (trace : List Entry) (id : PostId) → times_named id (posted_at cut trace) ≤ 1
named_once cut [] id = omega arith
named_once cut (x ∷ older) id =
    let names = names_from (length older + 1) 0 x.outputs in
    let both = times-append id (posted_at cut older) (provided (is_in_cut cut x.actor older) names) in
    let some = times_provided id (is_in_cut cut x.actor older) names in
    ⊎_elim
    (λ (h : (eqb (length older + 1) id.entry ≡ true) × (length older + 1 ≡ id.entry)).
    omega (arith, both, some, names_once id (length older + 1) 0 x.outputs, not_posted_yet cut older id (omega (arith, h.1))))
    (λ (h : (eqb (length older + 1) id.entry ≡ false) × (length older + 1 ≢ id.entry)).
    omega (arith, both, some, other_entry id (length older + 1) 0 x.outputs h.1, named_once cut older id))
    (eqb_tells (length older + 1) id.entry)
