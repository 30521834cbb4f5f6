-- What follows from how often each post was put.
use Rattle.hx_law_lemmas.proofs.Lemmas.Vocabulary.{[], ap, arith, Bool, cond, Entry, eq-eqb, eqb, eqb-true, false, inl, inr, IsIn, length, List, PostId, refl}
use Rattle.hx_law_lemmas.proofs.Lemmas.Vocabulary.{same_name, Script, subst, sym, true, ℕ, ◌*◌, ◌+◌, ◌∙◌, ◌∷◌, ◌≡◌, ◌≤◌}
use Rattle.hx_clock.specs.Views.{one, total}
use Rattle.hx_clock.proofs.Lemmas.{each_in}
use Rattle.hx_law_threads.specs.Cuts.{delivered_at, open_at, posted_at, times_named, whole_of, Cut}
use Rattle.hx_law_threads.specs.Offers.{put_times, AllCame, NoMoreCame, Offer}
use Rattle.hx_law_threads.specs.Pacing.{AreRepeatedAtMost}
use Rattle.hx_law_threads.proofs.Weights.{length-filter, named_once, open_counted, same_self}

-- what no item has in common with another weighs nothing
none_weighs : (h : PostId → ℕ) (ids : List PostId) → ((id : PostId) → IsIn id ids → h id ≡ 0) → total h ids ≡ 0
none_weighs h [] f = refl
none_weighs h (x ∷ ids) f = omega (arith, f x (inl refl), none_weighs h ids (λ y i. f y (inr i)))

total_below : {A : Type 0} (g h : A → ℕ) (xs : List A) → ((x : A) → IsIn x xs → g x ≤ h x) → total g xs ≤ total h xs
total_below g h [] f = omega arith
total_below g h (x ∷ xs) f = omega (arith, f x (inl refl), total_below g h xs (λ y i. f y (inr i)))

never_put : (b : Bool) (times : ℕ) → times * one b ≡ 0 → one b ≤ one (eqb times 0)
never_put false times e = omega arith
never_put true times e = let none : times ≡ 0 = omega (arith, e) in omega (arith, ap one (eq-eqb times 0 none))

lost_offers : (test : PostId → Bool) (offers : List Offer) → total (λ (o : Offer). o.times * one (test o.post)) offers ≡ 0
    → total (λ (o : Offer). one (test o.post)) offers ≤ put_times 0 offers
lost_offers test [] e = omega arith
lost_offers test (o ∷ offers) e =
    let product : ℕ = o.times * one (test o.post) in
    let here : o.times * one (test o.post) ≡ 0 = first product (total (λ (p : Offer). p.times * one (test p.post)) offers) e in
    let rest : total (λ (p : Offer). p.times * one (test p.post)) offers ≡ 0 = second product (total (λ (p : Offer). p.times * one (test p.post)) offers) e in
    omega (arith, never_put (test o.post) o.times here, lost_offers test offers rest)
  where
    first : (a b : ℕ) → a + b ≡ 0 → a ≡ 0
    first a b q = omega (arith, q)

    second : (a b : ℕ) → a + b ≡ 0 → b ≡ 0
    second a b q = omega (arith, q)

pub open_lost : (script : Script) (cut : Cut) (trace : List Entry) (offers : List Offer) → AllCame script cut trace offers
    → length (open_at script cut trace) ≤ put_times 0 offers
open_lost script cut trace offers all =
    open_counted script cut trace (put_times 0 offers)
    (λ test none halted.
    let came = all.came (λ (id : PostId). one (test id)) (λ id h. ap one (halted id h)) in
    let nothing : total (λ (o : Offer). o.times * one (test o.post)) offers ≡ 0 =
    sym came ∙ none_weighs (λ (id : PostId). one (test id)) (delivered_at cut trace) (λ id i. ap one (none id i)) in
    subst (λ n. n ≤ put_times 0 offers) (sym (all.offered (λ (id : PostId). one (test id)))) (lost_offers test offers nothing))

pub times_total : (id : PostId) (ids : List PostId) → times_named id ids ≡ total (λ (x : PostId). one (same_name x id)) ids
times_total id [] = refl
times_total id (x ∷ ids) = by (same_name x id) (times_total id ids)
  where
    by : (b : Bool) → times_named id ids ≡ total (λ (y : PostId). one (same_name y id)) ids
        → cond b (times_named id ids + 1) (times_named id ids) ≡ one b + total (λ (y : PostId). one (same_name y id)) ids
    by true e = omega (arith, e)
    by false e = omega (arith, e)

at_most_twice : (b : Bool) (times : ℕ) → times ≤ 2 → times * one b ≤ one b + one b
at_most_twice true times le = omega (arith, le)
at_most_twice false times le = omega arith

double : {A : Type 0} (g : A → ℕ) (xs : List A) → total (λ (x : A). g x + g x) xs ≡ total g xs + total g xs
double g [] = refl
double g (x ∷ xs) = omega (arith, double g xs)

not_thrice : (trace : List Entry) (offers : List Offer) → NoMoreCame trace offers → (id : PostId) → times_named id (delivered_at (whole_of trace) trace) ≤ 2
not_thrice trace offers came id =
    let h : PostId → ℕ = λ (x : PostId). one (same_name x id) in
    let put = total_below (λ (o : Offer). o.times * h o.post) (λ (o : Offer). h o.post + h o.post) offers
    (λ o i. at_most_twice (same_name o.post id) o.times (each_in (λ (p : Offer). p.times ≤ 2) offers o came.twice i)) in
    omega (
      arith,
      times_total id (delivered_at (whole_of trace) trace),
      came.came h,
      put,
      double (λ (o : Offer). h o.post) offers,
      came.offered h,
      times_total id (posted_at (whole_of trace) trace),
      named_once (whole_of trace) trace id,
    )

nothing_put : (id : PostId) (offers : List Offer) → total (λ (o : Offer). one (same_name o.post id)) offers ≤ 0
    → total (λ (o : Offer). o.times * one (same_name o.post id)) offers ≡ 0
nothing_put id [] le = refl
nothing_put id (o ∷ offers) le =
    let none : one (same_name o.post id) ≡ 0 = omega (arith, le) in
    let here : o.times * one (same_name o.post id) ≡ 0 = ap (λ n. o.times * n) none ∙ omega arith in
    omega (arith, here, nothing_put id offers (omega (arith, le)))

some_offer : (id : PostId) (offers : List Offer) (o : Offer) → IsIn o offers → same_name o.post id ≡ true
    → 1 ≤ total (λ (p : Offer). one (same_name p.post id)) offers
some_offer id [] o i e = absurd i
some_offer id (p ∷ offers) o (inl q) e = omega (arith, ap (λ (x : Offer). one (same_name x.post id)) (sym q) ∙ ap one e)
some_offer id (p ∷ offers) o (inr i) e = omega (arith, some_offer id offers o i e)

-- where one offer alone is of the post, it was put as often as that says
one_offer : (id : PostId) (offers : List Offer) (o : Offer) → IsIn o offers → same_name o.post id ≡ true
    → total (λ (p : Offer). one (same_name p.post id)) offers ≤ 1
    → total (λ (p : Offer). p.times * one (same_name p.post id)) offers ≡ o.times
one_offer id [] o i e le = absurd i
one_offer id (p ∷ offers) o (inl q) e le =
    let same : one (same_name p.post id) ≡ 1 = ap (λ (x : Offer). one (same_name x.post id)) (sym q) ∙ ap one e in
    let here : p.times * one (same_name p.post id) ≡ p.times = ap (λ n. p.times * n) same ∙ omega arith in
    let times : p.times ≡ o.times = ap (λ (x : Offer). x.times) (sym q) in
    omega (arith, here, times, nothing_put id offers (omega (arith, le, same)))
one_offer id (p ∷ offers) o (inr i) e le =
    let some = some_offer id offers o i e in
    let none : one (same_name p.post id) ≡ 0 = omega (arith, le, some) in
    let here : p.times * one (same_name p.post id) ≡ 0 = ap (λ n. p.times * n) none ∙ omega arith in
    omega (arith, here, one_offer id offers o i e (omega (arith, le)))

put_twice : (b : Bool) (times : ℕ) → times ≤ 2 → (b ≡ true → 2 ≤ times) → one b ≤ one (eqb times 2)
put_twice false times le f = omega arith
put_twice true times le f = let two : times ≡ 2 = omega (arith, le, f refl) in omega (arith, ap one (eq-eqb times 2 two))

pub repeats_put : (trace : List Entry) (offers : List Offer) → NoMoreCame trace offers → AreRepeatedAtMost trace (put_times 2 offers)
repeats_put trace offers were =
    let came : List PostId = delivered_at (whole_of trace) trace in
    let made : List PostId = posted_at (whole_of trace) trace in
    let test : PostId → Bool = λ (id : PostId). eqb (times_named id came) 2 in
    let few = total_below (λ (o : Offer). one (test o.post)) (λ (o : Offer). one (eqb o.times 2)) offers
    (λ o i.
    put_twice (test o.post) o.times (each_in (λ (p : Offer). p.times ≤ 2) offers o were.twice i)
    (λ t.
    let h : PostId → ℕ = λ (x : PostId). one (same_name x o.post) in
    let once : total (λ (p : Offer). h p.post) offers ≤ 1 =
    omega (arith, were.offered h, times_total o.post made, named_once (whole_of trace) trace o.post) in
    omega (
      arith,
      eqb-true (times_named o.post came) 2 t,
      times_total o.post came,
      were.came h,
      one_offer o.post offers o i (same_self o.post) once,
    ))) in
    record {
      thrice = not_thrice trace offers were;
      twice = omega (arith, length-filter test made, were.offered (λ (id : PostId). one (test id)), few);
    }
