-- Each actor of a script is dealt to one driver.
use Rattle.std.proofs.Common.{◌≡◌, ◌≢◌, ℕ, zero, suc, ◌+◌, ◌<◌, ◌≤◌, ◌%◌, ◌⊎◌, inl, inr, ⊎_elim, Bool, true, false}
use Rattle.std.proofs.Common.{eqb, List, [], ◌∷◌, ◌++◌, map, length, slice_get, Some, refl, ap, sym, subst, ◌∙◌, arith}
use Rattle.std.specs.List.{IsDistinct, filter, flat_map}
use Rattle.std.proofs.Math.Nat.{mod-lt}
use Rattle.std.proofs.lemmas.Bool.{cond_both, false≢true}
use Rattle.std.proofs.lemmas.Bool.Decides.{eqb_tells}
use Rattle.std.proofs.lemmas.List.{map-append}
use Rattle.std.proofs.lemmas.Map.Keys.{IsDistinct-cons, IsDistinct-head, IsDistinct-tail}
use Rattle.hx_types.specs.declared.ids.Actor.{Actor}
use Rattle.hx_types.specs.declared.spaces.Space.{Space}
use Rattle.hx_types.specs.declared.traces.Script.{Script}
use Rattle.hx_types.specs.Words.{below, same_actor, IsIn}
use Rattle.hx_law_lemmas.proofs.Lemmas.{in-below, in-filter, in-flat, in-flat_map, in-map, in-slice_get, in_right, in_left}
use Rattle.hx_law_threads.proofs.Lemmas.{same_actor_is}
use Rattle.hx_clock.proofs.Lemmas.{each_all, each_append, each_in}
use Rattle.hx_outbox.specs.Places.{place_of, Exists}
use Rattle.hx_outbox.proofs.Lemmas.{place-below}
use Rattle.hx_driver.specs.declared.desks.Desk.{Desk}
use Rattle.hx_driver.specs.declared.crews.Crew.{Crew}
use Rattle.hx_law_drivers.specs.Crews.{desks_of, HaveAllActors}
use Rattle.hx_cluster.specs.Clusters.{actors_dealt}
use Rattle.hx_cluster.specs.Everyone.{actors_of}
use Rattle.hx_cluster.specs.Actors.{actor_at, first_actors}
use Rattle.hx_cluster.specs.Dealt.{AtEach}
use Rattle.hx_cluster.proofs.ByPlace.{all-first, at-place, exists-is, place-at}

module _ {A : Type 0} (e : A → A → Bool) where
  distinct-none : IsDistinct e []
  unfolding IsDistinct
  distinct-none = tt

  distinct-append : (xs ys : List A) → IsDistinct e xs → IsDistinct e ys → ((x y : A) → IsIn x xs → IsIn y ys → e x y ≡ false) → IsDistinct e (xs ++ ys)
  distinct-append [] ys p q f = q
  distinct-append (x ∷ xs) ys p q f =
      IsDistinct-cons e x (xs ++ ys) (each_append (λ y. e x y ≡ false) xs ys (IsDistinct-head e x xs p)
      (each_all (λ y. e x y ≡ false) ys (λ y i. f x y (inl refl) i)))
      (distinct-append xs ys (IsDistinct-tail e x xs p) q (λ z y i j. f z y (inr i) j))

  distinct-filter : (test : A → Bool) (xs : List A) → IsDistinct e xs → IsDistinct e (filter test xs)
  distinct-filter test [] p = p
  distinct-filter test (x ∷ xs) p =
      let r = distinct-filter test xs (IsDistinct-tail e x xs p) in
      cond_both (test x) (x ∷ filter test xs) (filter test xs) (IsDistinct e)
      (λ t. IsDistinct-cons e x (filter test xs) (each_all (λ y. e x y ≡ false) (filter test xs)
      (λ y i. each_in (λ y. e x y ≡ false) xs y (IsDistinct-head e x xs p) (in-filter test xs y i).0)) r)
      (λ f. r)

not-same : (a b : Actor) → a ≢ b → same_actor a b ≡ false
not-same a b n = go (same_actor a b) refl
  where
    go : (t : Bool) → same_actor a b ≡ t → same_actor a b ≡ false
    go true e = absurd (n (same_actor_is a b e))
    go false e = e

first-distinct : (space : Space) (n : ℕ) → IsDistinct same_actor (first_actors space n)
first-distinct space zero = distinct-none same_actor
first-distinct space (suc n) =
    subst (IsDistinct same_actor) (sym (map-append (actor_at space) (below n) (n ∷ [])))
    (distinct-append same_actor (first_actors space n) (actor_at space n ∷ []) (first-distinct space n)
    (IsDistinct-cons same_actor (actor_at space n) [] tt (distinct-none same_actor)) cross)
  where
    cross : (x y : Actor) → IsIn x (first_actors space n) → IsIn y (actor_at space n ∷ []) → same_actor x y ≡ false
    cross x y i (inr j) = absurd j
    cross x y i (inl f) =
        let k = in-map (actor_at space) (below n) x i in
        let lt = in-below n k.0 k.1 in
        not-same x y (λ e. let p : k.0 ≡ n = sym (place-at space k.0) ∙ ap (place_of space) (sym k.2 ∙ e ∙ f)
        ∙ place-at space n in absurd (omega (arith, lt, p)))

in-first : (space : Space) (n k : ℕ) → k < n → IsIn (actor_at space k) (first_actors space n)
in-first space zero k lt = absurd (omega (arith, lt))
in-first space (suc n) k lt =
    subst (IsIn (actor_at space k)) (sym (map-append (actor_at space) (below n) (n ∷ [])))
    (⊎_elim (λ (h : k ≡ n). in_right (first_actors space n) (actor_at space n ∷ []) (actor_at space k) (inl (ap (actor_at space) h)))
    (λ (h : k < n). in_left (first_actors space n) (actor_at space n ∷ []) (actor_at space k) (in-first space n k h)) (apart k n lt))
  where
    apart : (k n : ℕ) → k < suc n → (k ≡ n) ⊎ (k < n)
    apart k n lt = ⊎_elim (λ (h : (eqb k n ≡ true) × (k ≡ n)). inl h.1)
        (λ (h : (eqb k n ≡ false) × (k ≢ n)). inr (let d = h.1 in omega (arith, lt, d))) (eqb_tells k n)

is-in-all : (script : Script) (a : Actor) → Exists script a → IsIn a (actors_of script)
is-in-all script a h =
    subst (IsIn a) (all-first script) (subst (λ b. IsIn b (first_actors script.space (1 + script.space.servers + length script.sessions))) (at-place script a h)
    (in-first script.space (1 + script.space.servers + length script.sessions) (place_of script.space a) (place-below script a h)))

all-distinct : (script : Script) → IsDistinct same_actor (actors_of script)
all-distinct script = subst (IsDistinct same_actor) (all-first script) (first-distinct script.space (1 + script.space.servers + length script.sessions))

filter-in : {A : Type 0} (test : A → Bool) (xs : List A) (x : A) → IsIn x xs → test x ≡ true → IsIn x (filter test xs)
filter-in test [] x i t = absurd i
filter-in test (y ∷ xs) x (inl e) t =
    cond_both (test y) (y ∷ filter test xs) (filter test xs) (λ l. IsIn x l) (λ s. inl e) (λ s. absurd (false≢true (sym s ∙ ap test (sym e) ∙ t)))
filter-in test (y ∷ xs) x (inr i) t =
    let r = filter-in test xs x i t in cond_both (test y) (y ∷ filter test xs) (filter test xs) (λ l. IsIn x l) (λ s. inr r) (λ s. r)

at-below : {A : Type 0} (xs : List A) (i : ℕ) → i < length xs → (x : A) × (slice_get xs i ≡ Some x)
at-below [] i lt = absurd (omega (arith, lt))
at-below (x ∷ xs) zero lt = (x, refl)
at-below (x ∷ xs) (suc i) lt = at-below xs i (omega (arith, lt))

in-place : {A : Type 0} (xs : List A) (x : A) → IsIn x xs → (i : ℕ) × (slice_get xs i ≡ Some x)
in-place [] x h = absurd h
in-place (y ∷ xs) x (inl e) = (0, ap Some (sym e))
in-place (y ∷ xs) x (inr h) = let r = in-place xs x h in (suc r.0, r.1)

eqb-is : (j k : ℕ) → eqb j k ≡ true → j ≡ k
eqb-is j k e = ⊎_elim (λ (h : (eqb j k ≡ true) × (j ≡ k)). h.1) (λ (h : (eqb j k ≡ false) × (j ≢ k)). absurd (false≢true (sym h.0 ∙ e))) (eqb_tells j k)

pub eqb-same : (k : ℕ) → eqb k k ≡ true
eqb-same k = ⊎_elim (λ (h : (eqb k k ≡ true) × (k ≡ k)). h.0) (λ (h : (eqb k k ≡ false) × (k ≢ k)). absurd (h.1 refl)) (eqb_tells k k)

actors-flat : (crews : List Crew) → map (λ (d : Desk). d.actor) (desks_of crews) ≡ flat_map (λ (c : Crew). map (λ (d : Desk). d.actor) c.desks.items) crews
actors-flat [] = refl
actors-flat (c ∷ crews) = map-append (λ (d : Desk). d.actor) c.desks.items (desks_of crews)
    ∙ ap (λ l. map (λ (d : Desk). d.actor) c.desks.items ++ l) (actors-flat crews)

-- the crews of the drivers from j on
abbrev AreDealtFrom : Script → ℕ → ℕ → List Crew → Type 0
AreDealtFrom script w j crews = (i : ℕ) (c : Crew) → slice_get crews i ≡ Some c → map (λ (d : Desk). d.actor) c.desks.items ≡ actors_dealt script w (j + i)

module _ (script : Script) (w : ℕ) where
  of-driver : (i : ℕ) (a : Actor) → IsIn a (actors_dealt script w i) → place_of script.space a % w ≡ i
  of-driver i a h = eqb-is (place_of script.space a % w) i (in-filter (λ (a : Actor). eqb (place_of script.space a % w) i) (actors_of script) a h).1

  apart-from : (j : ℕ) (crews : List Crew) → AreDealtFrom script w j crews
      → IsDistinct same_actor (flat_map (λ (c : Crew). map (λ (d : Desk). d.actor) c.desks.items) crews)
  apart-from j [] h = distinct-none same_actor
  apart-from j (c ∷ crews) h =
      let here : map (λ (d : Desk). d.actor) c.desks.items ≡ actors_dealt script w (j + 0) = h 0 c refl in
      let there : AreDealtFrom script w (suc j) crews = λ i d e. h (suc i) d e ∙ ap (actors_dealt script w) (next j i) in
      distinct-append same_actor (map (λ (d : Desk). d.actor) c.desks.items) (flat_map (λ (c : Crew). map (λ (d : Desk). d.actor) c.desks.items) crews)
      (subst (IsDistinct same_actor) (sym here) (distinct-filter same_actor
      (λ (a : Actor). eqb (place_of script.space a % w) (j + 0)) (actors_of script) (all-distinct script)))
      (apart-from (suc j) crews there)
      (λ x y ix iy.
      let f = in-flat_map (λ (c : Crew). map (λ (d : Desk). d.actor) c.desks.items) crews y iy in
      let g = in-place crews f.0 f.1 in
      let px = of-driver (j + 0) x (subst (IsIn x) here ix) in
      let py = of-driver (suc j + g.0) y (subst (IsIn y) (there g.0 f.0 g.1) f.2) in
      not-same x y (λ e. let q : j + 0 ≡ suc j + g.0 = sym px ∙ ap (λ a. place_of script.space a % w) e ∙ py in absurd (omega (arith, q))))
    where
      next : (j i : ℕ) → j + suc i ≡ suc j + i
      next j i = omega arith

  pub everyone : (crews : List Crew) → length crews ≡ w → 1 ≤ w
      → AtEach (λ (i : ℕ) (c : Crew). map (λ (d : Desk). d.actor) c.desks.items ≡ actors_dealt script w i) crews
      → HaveAllActors script crews
  everyone crews many some dealt = record {
    all = λ a is.
        let h = exists-is script a is in
        let i = place_of script.space a % w in
        let lt = mod-lt (place_of script.space a) {m = w} (omega (arith, some)) in
        let c = at-below crews i (omega (arith, lt, many)) in
        let mine = filter-in (λ (a : Actor). eqb (place_of script.space a % w) i) (actors_of script) a (is-in-all script a h) (eqb-same i) in
        let m = in-map (λ (d : Desk). d.actor) c.0.desks.items a (subst (IsIn a) (sym (dealt i c.0 c.1)) mine) in
        (m.0, in-flat (λ (c : Crew). c.desks.items) crews c.0 m.0 (in-slice_get crews i c.0 c.1) m.1, sym m.2);
    apart = subst (IsDistinct same_actor) (sym (actors-flat crews)) (apart-from 0 crews (λ i c e. dealt i c e ∙ ap (actors_dealt script w) (from-0 i)));
  }
    where
      from-0 : (i : ℕ) → i ≡ 0 + i
      from-0 i = omega arith
