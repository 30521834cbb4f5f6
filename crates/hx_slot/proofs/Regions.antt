-- Touches in ascending order of regions: where a region's stands, and a touch more.
use Rattle.std.proofs.Common.{◌≡◌, ℕ, zero, suc, ◌+◌, ◌<◌, ◌≤◌, Bool, true, false, ◌||◌, List, [], ◌∷◌, ◌++◌, map}
use Rattle.std.proofs.Common.{length, drop, set, get_or, Option, Some, None, Ok, Err, Result, refl, ap, sym, ◌∙◌}
use Rattle.std.proofs.Common.{subst, arith, cond, ltb, eqb}
use Rattle.std.specs.List.{All, AllByRecursion, HoldsAt, insert, list_any}
use Rattle.std.specs.Option.{option_map, unwrap_or}
use Rattle.std.specs.List.Sorted.{IsBinarySearchResult, IsNonDecreasingBy, IsPartitionPoint, IsSearchInRange}
use Rattle.std.specs.Ordering.{nat_cmp, ordering_index}
use Rattle.std.specs.Result.{MatchResult}
use Rattle.std.specs.declared.cmp.Ordering.TheVariants as an_order
use Rattle.std.proofs.lemmas.Bool.{cond_both, cond-true, cond-false, ltb-true, ltb-false, le-ltb, lt-ltb, eqb-true, eqb-false, ne_eqb, eq-eqb}
use Rattle.std.proofs.lemmas.Bool.Decides.{nat_tests}
use Rattle.std.proofs.lemmas.Cmp.{ranked}
use Rattle.std.proofs.lemmas.List.{at_drop_more, get_or-map, length-map}
use Rattle.std.proofs.lemmas.List.Elements.{All-cons, All-head, All-nil, All-tail, All-weaker}
use Rattle.hx_model.specs.Types.{Place, RegionId, Touch, Update, Version}
use Rattle.hx_types.specs.Words.{same_region}
use Rattle.hx_model.specs.Places.{touched_in}
use Rattle.hx_model.specs.Slots.{touches_after, with_touch, with_touches}
use Rattle.hx_slot.specs.declared.updates.AcceptedUpdate.{AcceptedUpdate}
use Rattle.hx_slot.specs.MarksAndTouches.{AscendByRegion, IsAt, IsGap, has_touched, touch_among, touched_over}
use Rattle.hx_slot.specs.Updates.{newest_first}

abbrev region_of : Touch → ℕ
region_of t = t.region.0

-- what is above the first region of ascending ones
higher : (t : Touch) (rest : List Touch) (j : ℕ) (d : Touch) → AscendByRegion (t ∷ rest) → j < length rest → t.region.0 < (get_or rest j d).region.0
higher t rest j d h l =
    let e = get_or-map region_of rest j d 0 l in
    let n = length-map rest region_of in
    let b : t.region.0 < get_or (map region_of rest) j 0 = h.0 j 0 (omega (arith, n)) in
    omega (arith, e, b)

-- regions that ascend don't fall
rising : (ts : List Touch) → AscendByRegion ts → IsNonDecreasingBy (λ (t : Touch). t.region.0) ts
rising [] h i j d l m = absurd (omega arith)
rising (t ∷ rest) h zero zero d l m = omega arith
rising (t ∷ rest) h zero (suc j) d l m = let b = higher t rest j d h (omega arith) in omega (arith, b)
rising (t ∷ rest) h (suc i) zero d l m = absurd (omega arith)
rising (t ∷ rest) h (suc i) (suc j) d l m = rising rest h.1 i j d (omega arith) (omega arith)

not_falling : (g a b : ℕ) → a ≤ b → ordering_index (nat_cmp a g) ≤ ordering_index (nat_cmp b g)
not_falling g a b l = grind (arith, nat_tests)

at : (g : ℕ) (ts : List Touch) (i : ℕ) → AscendByRegion ts → i < length ts → HoldsAt (λ (t : Touch). nat_cmp t.region.0 g ≡ an_order.Equal) ts i → IsAt g ts i
at g [] i h l e = absurd (omega arith)
at g (t ∷ rest) zero h l e = ranked t.region.0 g an_order.Equal (sym (e t))
at g (t ∷ rest) (suc i) h l e =
    let within : i < length rest = omega arith in
    let b = higher t rest i t h within in
    let q : (get_or rest i t).region.0 ≡ g = ranked (get_or rest i t).region.0 g an_order.Equal (sym (e t)) in
    (omega (arith, b, q), at g rest i h.1 within e)

gap : (g : ℕ) (ts : List Touch) (i : ℕ) → i ≤ length ts
    → IsPartitionPoint (λ (t : Touch). nat_cmp t.region.0 g ≡ an_order.Less)
    (λ (t : Touch). nat_cmp t.region.0 g ≡ an_order.Greater) ts i → IsGap g ts i
gap g [] zero l p = tt
gap g [] (suc i) l p = absurd (omega arith)
gap g (t ∷ rest) zero l p = (
  ranked t.region.0 g an_order.Greater (sym (p.1 0 t (omega arith) (omega arith))),
  gap g rest zero (omega arith) (λ k d a b. absurd (omega arith), λ k d a b. p.1 (suc k) d (omega arith) (omega arith)),
)
gap g (t ∷ rest) (suc i) l p = (
  ranked t.region.0 g an_order.Less (sym (p.0 0 t (omega arith) (omega arith))),
  gap g rest i (omega arith) (λ k d a b. p.0 (suc k) d (omega arith) (omega arith), λ k d a b. p.1 (suc k) d (omega arith) (omega arith)),
)

-- what a binary search says of the region
pub searched_region : (g : ℕ) (ts : List Touch) (r : Result ℕ ℕ) → AscendByRegion ts → IsSearchInRange r (length ts)
    → IsBinarySearchResult (λ (t : Touch). nat_cmp t.region.0 g) ts r → MatchResult r (IsAt g ts) (IsGap g ts)
searched_region g ts (Ok i) h l p = at g ts i h l p
searched_region g ts (Err i) h l p = gap g ts i l (p (λ a b d le lt. not_falling g _ _ (rising ts h a b d le lt)))

-- no touch of the region is in a gap
none_above : (g : RegionId) (ts : List Touch) → IsGap g.0 ts zero → None ≡ touch_among g ts
none_above g [] p = refl
none_above g (t ∷ rest) p = none_above g rest p.1 ∙ sym (cond-false (same_region t.region g) _ _ (ne_eqb t.region.0 g.0 (λ e. omega arith)))

pub touch-gap : (g : RegionId) (ts : List Touch) (i : ℕ) → IsGap g.0 ts i → None ≡ touch_among g ts
touch-gap g [] zero p = refl
touch-gap g [] (suc i) p = refl
touch-gap g (t ∷ rest) zero p = none_above g (t ∷ rest) p
touch-gap g (t ∷ rest) (suc i) p = touch-gap g rest i p.1 ∙ sym (cond-false (same_region t.region g) _ _ (ne_eqb t.region.0 g.0 (λ e. omega arith)))

-- the touch at the place is the region's
pub touch-at : (g : RegionId) (ts : List Touch) (i : ℕ) (d : Touch) → IsAt g.0 ts i → Some (get_or ts i d).version.0 ≡ touch_among g ts
touch-at g [] i d p = absurd p
touch-at g (t ∷ rest) zero d p = sym (cond-true (same_region t.region g) _ _ (eq-eqb t.region.0 g.0 p))
touch-at g (t ∷ rest) (suc i) d p = touch-at g rest i d p.1 ∙ sym (cond-false (same_region t.region g) _ _ (ne_eqb t.region.0 g.0 (λ e. omega arith)))

-- a touch takes the place of that of its region
pub with_touch-at : (t : Touch) (ts : List Touch) (i : ℕ) → IsAt t.region.0 ts i → set ts i t ≡ with_touch t ts
with_touch-at t [] i p = absurd p
with_touch-at t (x ∷ rest) zero p =
    sym (cond-false (ltb t.region.0 x.region.0) _ _ (le-ltb t.region.0 x.region.0 (omega arith))
    ∙ cond-true (same_region t.region x.region) _ _ (eq-eqb t.region.0 x.region.0 (sym p)))
with_touch-at t (x ∷ rest) (suc i) p =
    ap (λ (l : List Touch). x ∷ l) (with_touch-at t rest i p.1)
    ∙ sym (cond-false (ltb t.region.0 x.region.0) _ _ (le-ltb t.region.0 x.region.0 (omega arith))
    ∙ cond-false (same_region t.region x.region) _ _ (ne_eqb t.region.0 x.region.0 (λ e. omega arith)))

-- or it stands in the gap
pub with_touch-gap : (t : Touch) (ts : List Touch) (i : ℕ) → IsGap t.region.0 ts i → insert ts i t ≡ with_touch t ts
with_touch-gap t [] zero p = refl
with_touch-gap t [] (suc i) p = absurd p
with_touch-gap t (x ∷ rest) zero p = sym (cond-true (ltb t.region.0 x.region.0) _ _ (lt-ltb t.region.0 x.region.0 p.0))
with_touch-gap t (x ∷ rest) (suc i) p =
    ap (λ (l : List Touch). x ∷ l) (with_touch-gap t rest i p.1)
    ∙ sym (cond-false (ltb t.region.0 x.region.0) _ _ (le-ltb t.region.0 x.region.0 (omega arith))
    ∙ cond-false (same_region t.region x.region) _ _ (ne_eqb t.region.0 x.region.0 (λ e. omega arith)))

-- regions ascend with a touch more
above : (n : ℕ) (t : Touch) (ts : List Touch) → n < t.region.0 → All (λ m. n < m) (map region_of ts) → All (λ m. n < m) (map region_of (with_touch t ts))
above n t [] l h = All-cons (λ m. n < m) t.region.0 [] l h
above n t (x ∷ rest) l h =
    let a = All-head (λ m. n < m) x.region.0 (map region_of rest) h in
    let b = All-tail (λ m. n < m) x.region.0 (map region_of rest) h in
    cond_both (ltb t.region.0 x.region.0) (t ∷ x ∷ rest)
    (cond (same_region t.region x.region) (t ∷ rest) (x ∷ with_touch t rest))
    (λ (l : List Touch). All (λ m. n < m) (map region_of l))
    (λ e. All-cons (λ m. n < m) t.region.0 (map region_of (x ∷ rest)) l h)
    (
    λ e. cond_both (same_region t.region x.region) (t ∷ rest) (x ∷ with_touch t rest) (λ (l : List Touch). All (λ m. n < m) (map region_of l))
    (λ s. All-cons (λ m. n < m) t.region.0 (map region_of rest) l b)
    (λ s. All-cons (λ m. n < m) x.region.0 (map region_of (with_touch t rest)) a (above n t rest l b))
    )

pub with_touch-ascends : (t : Touch) (ts : List Touch) → AscendByRegion ts → AscendByRegion (with_touch t ts)
with_touch-ascends t [] h = (All-nil (λ m. t.region.0 < m), tt)
with_touch-ascends t (x ∷ rest) h =
    cond_both (ltb t.region.0 x.region.0) (t ∷ x ∷ rest) (cond (same_region t.region x.region) (t ∷ rest) (x ∷ with_touch t rest)) AscendByRegion
    (
    λ e. let l = ltb-true t.region.0 x.region.0 e in (
      All-cons (λ m. t.region.0 < m) x.region.0 (map region_of rest) l
          (All-weaker (λ m. x.region.0 < m) (λ m. t.region.0 < m) (λ m k. omega arith) (map region_of rest) h.0),
      h,
    )
    )
    (
    λ e. cond_both (same_region t.region x.region) (t ∷ rest) (x ∷ with_touch t rest) AscendByRegion
    (λ s. let q = eqb-true t.region.0 x.region.0 s in (subst (λ (n : ℕ). All (λ m. n < m) (map region_of rest)) (sym q) h.0, h.1))
    (
    λ s. let a = ltb-false t.region.0 x.region.0 e in
    let b = eqb-false t.region.0 x.region.0 s in
    (above x.region.0 t rest (omega (arith, a, b)) h.0, with_touch-ascends t rest h.1)
    )
    )

-- the touches of one place more
pub with_touches-more : (v : Version) (places : List Place) (i : ℕ) (d : Place) (ts more : List Touch)
    → i < length places → more ≡ with_touch (record { region = (get_or places i d).region; version = v }) ts
    → with_touches v (drop (i + 1) places) more ≡ with_touches v (drop i places) ts
with_touches-more v places i d ts more l e = ap (with_touches v (drop (i + 1) places)) e
    ∙ sym (at_drop_more (λ (rest : List Place). with_touches v rest ts) places i d l)

-- regions ascend with the touches of places more
pub with_touches-ascends : (v : Version) (places : List Place) (ts : List Touch) → AscendByRegion ts → AscendByRegion (with_touches v places ts)
with_touches-ascends v [] ts h = h
with_touches-ascends v (p ∷ rest) ts h = with_touches-ascends v rest
    (with_touch (record { region = p.region; version = v }) ts)
    (with_touch-ascends (record { region = p.region; version = v }) ts h)

-- the version of a region's touch is 0 where there is none
pub touched-among : (g : RegionId) (ts : List Touch) → unwrap_or (touch_among g ts) 0 ≡ touched_in g ts
touched-among g [] = refl
touched-among g (t ∷ rest) =
    cond_both (same_region t.region g) (Some t.version.0) (touch_among g rest) (λ (o : Option ℕ). unwrap_or o 0 ≡ touched_in g (t ∷ rest))
    (λ e. sym (cond-true (same_region t.region g) _ _ e))
    (λ e. touched-among g rest ∙ sym (cond-false (same_region t.region g) _ _ e))

-- the version at a region after a touch more
touched-with : (g : RegionId) (t : Touch) (ts : List Touch) → touched_in g (with_touch t ts) ≡ cond (same_region t.region g) t.version.0 (touched_in g ts)
touched-with g t [] = refl
touched-with g t (x ∷ rest) =
    cond_both (ltb t.region.0 x.region.0) (t ∷ x ∷ rest)
    (cond (same_region t.region x.region) (t ∷ rest) (x ∷ with_touch t rest))
    (λ (l : List Touch). touched_in g l ≡ cond (same_region t.region g) t.version.0 (touched_in g (x ∷ rest)))
    (λ e. refl)
    (
    λ e. cond_both (same_region t.region x.region) (t ∷ rest) (x ∷ with_touch t rest)
    (λ (l : List Touch). touched_in g l ≡ cond (same_region t.region g) t.version.0 (touched_in g (x ∷ rest)))
    (
    λ s. let q = eqb-true t.region.0 x.region.0 s in
    cond_both (same_region t.region g) t.version.0 (touched_in g (x ∷ rest)) (λ (n : ℕ). cond (same_region t.region g) t.version.0 (touched_in g rest) ≡ n)
    (λ a. cond-true (same_region t.region g) _ _ a)
    (λ a. cond-false (same_region t.region g) _ _ a ∙ sym (cond-false (same_region x.region g) _ _ (ap (λ (n : ℕ). eqb n g.0) (sym q) ∙ a)))
    )
    (
    λ s. let d = eqb-false t.region.0 x.region.0 s in
    cond_both (same_region x.region g) x.version.0 (touched_in g (with_touch t rest))
    (λ (n : ℕ). n ≡ cond (same_region t.region g) t.version.0 (touched_in g (x ∷ rest)))
    (
    λ a. let b = eqb-true x.region.0 g.0 a in
    sym (cond-true (same_region x.region g) _ _ a) ∙ sym (cond-false (same_region t.region g) _ _ (ne_eqb t.region.0 g.0 (λ k. d (k ∙ sym b))))
    )
    (λ a. touched-with g t rest ∙ ap (λ (n : ℕ). cond (same_region t.region g) t.version.0 n) (sym (cond-false (same_region x.region g) _ _ a)))
    )
    )

either : (b c : Bool) (v x : ℕ) → cond c v (cond b v x) ≡ cond (b || c) v x
either true true v x = refl
either true false v x = refl
either false true v x = refl
either false false v x = refl

-- and after the touches of places
touched-places : (g : RegionId) (v : Version) (places : List Place) (ts : List Touch)
    → touched_in g (with_touches v places ts) ≡ cond (list_any (λ (p : Place). same_region p.region g) places) v.0
    (touched_in g ts)
touched-places g v [] ts = refl
touched-places g v (p ∷ rest) ts =
    touched-places g v rest (with_touch (record { region = p.region; version = v }) ts)
    ∙ ap (λ n. cond (list_any (λ (p : Place). same_region p.region g) rest) v.0 n) (touched-with g (record { region = p.region; version = v }) ts)
    ∙ either (same_region p.region g) (list_any (λ (p : Place). same_region p.region g) rest) v.0 (touched_in g ts)

-- the last version at a region after updates
pub touched-over : (g : RegionId) (base : List Touch) (o : List Update) (ts : List AcceptedUpdate)
    → touched_over g (touched_in g (touches_after base o)) ts ≡ touched_in g (touches_after base (newest_first o ts))
touched-over g base o [] = refl
touched-over g base o (t ∷ rest) =
    ap (λ n. touched_over g n rest) (sym (touched-places g t.update.version t.update.places (touches_after base o))) ∙ touched-over g base (t.update ∷ o) rest

-- with an update more
touched-push : (g : RegionId) (v : ℕ) (ts : List AcceptedUpdate) (t : AcceptedUpdate)
    → touched_over g v (ts ++ t ∷ []) ≡ cond (has_touched g t) t.update.version.0 (touched_over g v ts)
touched-push g v [] t = refl
touched-push g v (x ∷ ts) t = touched-push g (cond (has_touched g x) x.update.version.0 v) ts t

pub touches_after-ascends : (base : List Touch) (us : List Update) → AscendByRegion base → AscendByRegion (touches_after base us)
touches_after-ascends base [] h = h
touches_after-ascends base (u ∷ older) h = with_touches-ascends u.version u.places (touches_after base older) (touches_after-ascends base older h)

-- no touch is above a version
abbrev pub TouchesUpTo : ℕ → List Touch → Type 0
TouchesUpTo v ts = AllByRecursion (λ (t : Touch). t.version.0 ≤ v) ts

with_touch-upto : (v : ℕ) (t : Touch) (ts : List Touch) → t.version.0 ≤ v → TouchesUpTo v ts → TouchesUpTo v (with_touch t ts)
with_touch-upto v t [] l h = (l, tt)
with_touch-upto v t (x ∷ rest) l h =
    cond_both (ltb t.region.0 x.region.0) (t ∷ x ∷ rest) (cond (same_region t.region x.region) (t ∷ rest) (x ∷ with_touch t rest)) (TouchesUpTo v)
    (λ e. (l, h))
    (λ e. cond_both (same_region t.region x.region) (t ∷ rest) (x ∷ with_touch t rest) (TouchesUpTo v) (λ s. (l, h.1))
    (λ s. (h.0, with_touch-upto v t rest l h.1)))

pub with_touches-upto : (v : ℕ) (w : Version) (places : List Place) (ts : List Touch) → w.0 ≤ v → TouchesUpTo v ts → TouchesUpTo v (with_touches w places ts)
with_touches-upto v w [] ts l h = h
with_touches-upto v w (p ∷ rest) ts l h = with_touches-upto v w rest
    (with_touch (record { region = p.region; version = w }) ts) l
    (with_touch-upto v (record { region = p.region; version = w }) ts l h)

abbrev pub UpdatesUpTo : ℕ → List Update → Type 0
UpdatesUpTo v us = AllByRecursion (λ (u : Update). u.version.0 ≤ v) us

pub touches_after-upto : (v : ℕ) (base : List Touch) (us : List Update) → TouchesUpTo v base → UpdatesUpTo v us → TouchesUpTo v (touches_after base us)
touches_after-upto v base [] h l = h
touches_after-upto v base (u ∷ older) h l = with_touches-upto v u.version u.places (touches_after base older) l.0 (touches_after-upto v base older h l.1)

pub touched-upto : (v : ℕ) (g : RegionId) (ts : List Touch) → TouchesUpTo v ts → touched_in g ts ≤ v
touched-upto v g [] h = omega arith
touched-upto v g (t ∷ rest) h = cond_both (same_region t.region g) t.version.0 (touched_in g rest) (λ n. n ≤ v) (λ e. h.0) (λ e. touched-upto v g rest h.1)

-- the number of a version, or 0
pub number-or_zero : (o : Option Version) → (unwrap_or o (record { 0 = 0 })).0 ≡ unwrap_or (option_map (λ (v : Version). v.0) o) 0
number-or_zero None = refl
number-or_zero (Some v) = refl

-- the last of the updates has a place there, or leaves it to those before it
pub touched-here : (g : RegionId) (v : ℕ) (rest older : List AcceptedUpdate) (t : AcceptedUpdate)
    → rest ≡ older ++ t ∷ [] → has_touched g t ≡ true → t.update.version.0 ≡ touched_over g v rest
touched-here g v rest older t e k = sym (ap (touched_over g v) e ∙ touched-push g v older t ∙ cond-true (has_touched g t) _ _ k)

pub touched-earlier : (g : RegionId) (v : ℕ) (rest older : List AcceptedUpdate) (t : AcceptedUpdate)
    → rest ≡ older ++ t ∷ [] → has_touched g t ≡ false → touched_over g v older ≡ touched_over g v rest
touched-earlier g v rest older t e k = sym (ap (touched_over g v) e ∙ touched-push g v older t ∙ cond-false (has_touched g t) _ _ k)

pub touched-none : (g : RegionId) (v : ℕ) (ts : List AcceptedUpdate) → 0 ≡ length ts → v ≡ touched_over g v ts
touched-none g v [] e = refl
touched-none g v (t ∷ rest) e = absurd (omega (arith, e))

pub has-read : (g : RegionId) (t : AcceptedUpdate) (u : Update) (ps : List Place) (b : Bool) → u ≡ t.update
    → ps ≡ u.places → b ≡ list_any (λ (p : Place). same_region p.region g) ps → b ≡ has_touched g t
has-read g t u ps b e f h =
    h ∙ ap (λ (qs : List Place). list_any (λ (p : Place). same_region p.region g) qs) f
    ∙ ap (λ (x : Update). list_any (λ (p : Place). same_region p.region g) x.places) e
