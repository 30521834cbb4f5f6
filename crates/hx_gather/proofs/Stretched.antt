-- The stretches of parts.
use Rattle.std.proofs.Common.{cond, ◌≡◌, ℕ, zero, suc, ◌+◌, ◌-◌, ◌<◌, ◌≤◌, Bool, true, false, List, [], ◌∷◌, ◌++◌, map}
use Rattle.std.proofs.Common.{flat_map, length, get_or, take, drop, eqb, slice_get, Option, Some, None, refl, ap, sym}
use Rattle.std.proofs.Common.{subst, ◌∙◌, arith, rules}
use Rattle.std.specs.Prelude.{nat_lt, slice_range, ⊤}
use Rattle.std.specs.List.{AllByRecursion}
use Rattle.std.proofs.lemmas.Bool.{cond_both, eq-eqb, eqb-true, ne_eqb}
use Rattle.std.proofs.Math.Seq.{drop-nil}
use Rattle.std.proofs.lemmas.List.{append_assoc, length-append}
use Rattle.std.specs.Option.{option_map}
use Rattle.hx_types.specs.declared.ids.Stamp.{Stamp}
use Rattle.hx_clock.proofs.Lemmas.{some_same}
use Rattle.hx_clock.specs.declared.parts.Stamped.{Stamped}
use Rattle.hx_clock.specs.Parts.{all_of}
use Rattle.hx_trace.specs.declared.places.EntryPlace.{EntryPlace}
use Rattle.hx_trace.specs.Places.{IsPlaceIn, no_entry, part_at, placed, stamped_at}
use Rattle.hx_gather.specs.Stretches.{begun_with, following, numbered, place_at, places_in, stretches_from, stretches_of, with_first, StretchSeen}

-- ---- the first stretch

-- so many entries at the front as a stretch, and the stretches of the others
abbrev cut : ℕ → ℕ → Stamped → List Stamped → ℕ → List StretchSeen
cut part at x xs c = record { part = part; at = at; stamp = x.stamp.0; entries = take c (x ∷ xs) } ∷ stretches_from part (at + c) (drop c (x ∷ xs))

grown : (part at : ℕ) (x y : Stamped) (ys : List Stamped)
    → stretches_from part (at + 1) (y ∷ ys) ≡ cut part (at + 1) y ys (suc (following (y.stamp.0 + 1) ys)) → (b : Bool)
    → eqb y.stamp.0 (x.stamp.0 + 1) ≡ b
    → cond b
    (begun_with part at x (take (suc (following (y.stamp.0 + 1) ys)) (y ∷ ys)) ∷ stretches_from part
    (at + 1 + suc (following (y.stamp.0 + 1) ys)) (drop (suc (following (y.stamp.0 + 1) ys)) (y ∷ ys)))
    (begun_with part at x [] ∷ cut part (at + 1) y ys (suc (following (y.stamp.0 + 1) ys)))
    ≡ cut part at x (y ∷ ys) (suc (cond b (suc (following (x.stamp.0 + 1 + 1) ys)) 0))
grown part at x y ys rest true e =
    let f : following (y.stamp.0 + 1) ys ≡ following (x.stamp.0 + 1 + 1) ys = ap (λ n. following (n + 1) ys) (eqb-true y.stamp.0 (x.stamp.0 + 1) e) in
    let a : at + 1 + suc (following (y.stamp.0 + 1) ys) ≡ at + suc (suc (following (x.stamp.0 + 1 + 1) ys)) = omega (arith, f) in
    λ i. begun_with part at x (take (suc (f i)) (y ∷ ys)) ∷ stretches_from part (a i) (drop (suc (f i)) (y ∷ ys))
grown part at x y ys rest false e = ap (λ l. begun_with part at x [] ∷ l) (sym rest)

-- the entries whose stamps follow the first one's are the first stretch
pub first_stretch : (part at : ℕ) (x : Stamped) (xs : List Stamped) → stretches_from part at (x ∷ xs) ≡ cut part at x xs (suc (following (x.stamp.0 + 1) xs))
first_stretch part at x [] = refl
first_stretch part at x (y ∷ ys) =
    let rest = first_stretch part (at + 1) y ys in
    ap (with_first part at x) rest ∙ grown part at x y ys rest (eqb y.stamp.0 (x.stamp.0 + 1)) refl

-- ---- how many stamps follow one another
some_or_none : (b : Bool) (k m : ℕ) → k ≤ m → cond b (suc k) 0 ≤ suc m
some_or_none true k m le = omega (arith, le)
some_or_none false k m le = omega arith

pub following_bound : (n : ℕ) (xs : List Stamped) → following n xs ≤ length xs
following_bound n [] = omega arith
following_bound n (x ∷ xs) = let h = some_or_none (eqb x.stamp.0 n) (following (n + 1) xs) (length xs) (following_bound (n + 1) xs) in omega (arith, h)

-- one stamp more
pub following_told : (m : ℕ) (part : List Stamped) (place : ℕ) (s : Stamp) → Some s ≡ option_map (λ (x : Stamped). x.stamp) (slice_get part place)
    → following m (drop place part) ≡ cond (eqb s.0 m) (suc (following (m + 1) (drop (suc place) part))) 0
following_told m [] place s is = let none : Some s ≡ None = is in absurd (cc)
following_told m (y ∷ ys) zero s is = let same : s ≡ y.stamp = cc in ap (λ (t : Stamp). cond (eqb t.0 m) (suc (following (m + 1) ys)) 0) (sym same)
following_told m (y ∷ ys) (suc place) s is = following_told m ys place s is

-- the count goes on where the stamp follows
pub following_more : (all stamp count at : ℕ) (part : List Stamped) (s : Stamp)
    → Some s ≡ option_map (λ (x : Stamped). x.stamp) (slice_get part (at + count)) → s.0 ≡ stamp + count
    → all ≡ count + following (stamp + count) (drop (at + count) part) → all ≡ count + 1 + following (stamp + (count + 1)) (drop (at + (count + 1)) part)
following_more all stamp count at part s is follows before =
    let m : stamp + count + 1 ≡ stamp + (count + 1) = omega arith in
    let n : suc (at + count) ≡ at + (count + 1) = omega arith in
    let one : following (stamp + count) (drop (at + count) part) ≡ suc (following (stamp + (count + 1)) (drop (at + (count + 1)) part)) =
    following_told (stamp + count) part (at + count) s is
    ∙ ap (λ b. cond b (suc (following (stamp + count + 1) (drop (suc (at + count)) part))) 0) (eq-eqb s.0 (stamp + count) follows)
    ∙ (λ i. suc (following (m i) (drop (n i) part))) in
    omega (arith, before, one)

-- and ends where it doesn't
pub following_ends : (all stamp count at : ℕ) (part : List Stamped) (s : Stamp)
    → Some s ≡ option_map (λ (x : Stamped). x.stamp) (slice_get part (at + count)) → (s.0 ≡ stamp + count → ⊥)
    → all ≡ count + following (stamp + count) (drop (at + count) part) → count ≡ all
following_ends all stamp count at part s is gap before =
    let none : following (stamp + count) (drop (at + count) part) ≡ 0 =
    following_told (stamp + count) part (at + count) s is
    ∙ ap (λ b. cond b (suc (following (stamp + count + 1) (drop (suc (at + count)) part))) 0) (ne_eqb s.0 (stamp + count) gap) in
    omega (arith, before, none)

-- ---- items with their numbers
pub numbered_more : {A B : Type 0} (f : ℕ → A → B) (n : ℕ) (xs : List A) (k : ℕ) (d : A) → k < length xs
    → numbered f n (take (suc k) xs) ≡ numbered f n (take k xs) ++ f (n + k) (get_or xs k d) ∷ []
numbered_more f n [] k d lt = absurd (omega arith)
numbered_more f n (x ∷ xs) zero d lt = let e : n ≡ n + 0 = omega arith in ap (λ m. f m x ∷ []) e
numbered_more f n (x ∷ xs) (suc k) d lt =
    let e : n + 1 + k ≡ n + suc k = omega arith in
    ap (λ l. f n x ∷ l) (numbered_more f (n + 1) xs k d (omega arith)) ∙ ap (λ m. f n x ∷ (numbered f (n + 1) (take k xs) ++ f m (get_or xs k d) ∷ [])) e

-- ---- what holds of each stretch

-- the stamps follow one another from n on
abbrev pub IsFollowing : ℕ → List Stamped → Type 0
IsFollowing n [] = ⊤
IsFollowing n (x ∷ xs) = (x.stamp.0 ≡ n) × IsFollowing (n + 1) xs

-- the places of a stretch are those of its entries, of which there are some, and whose stamps
-- follow one another
pub record IsStretchOf (parts : List (List Stamped)) (s : StretchSeen) : Type 0 where
  pub places : AllByRecursion (IsPlaceIn parts) (places_in s)
  pub found : map (stamped_at parts) (places_in s) ≡ s.entries
  pub some : 0 < length s.entries
  pub follow : IsFollowing s.stamp s.entries

-- the first stretch begins at the place of the part
abbrev StartsAt : ℕ → ℕ → List StretchSeen → Type 0
StartsAt part at [] = ⊤
StartsAt part at (s ∷ ss) = (s.part ≡ part) × (s.at ≡ at)

starts_with : (part at : ℕ) (x : Stamped) (ss : List StretchSeen) → StartsAt part at (with_first part at x ss)
starts_with part at x [] = (refl, refl)
starts_with part at x (s ∷ ss) =
    cond_both (eqb s.stamp (x.stamp.0 + 1)) (begun_with part at x s.entries ∷ ss) (begun_with part at x [] ∷ s ∷ ss)
    (StartsAt part at) (λ t. (refl, refl)) (λ t. (refl, refl))

starts : (part at : ℕ) (xs : List Stamped) → StartsAt part at (stretches_from part at xs)
starts part at [] = tt
starts part at (x ∷ xs) = starts_with part at x (stretches_from part (at + 1) xs)

-- the entry stands at the place of the part
abbrev IsHere : List (List Stamped) → ℕ → ℕ → Stamped → Type 0
IsHere parts part at x = (at < length (part_at parts part)) × (get_or (part_at parts part) at no_entry ≡ x)

abbrev AreHere : List (List Stamped) → ℕ → ℕ → List Stamped → Type 0
AreHere parts part at [] = ⊤
AreHere parts part at (x ∷ xs) = IsHere parts part at x × AreHere parts part (at + 1) xs

are_here : (parts : List (List Stamped)) (part at : ℕ) (xs : List Stamped) → at + length xs ≤ length (part_at parts part)
    → ((k : ℕ) → k < length xs → get_or (part_at parts part) (at + k) no_entry ≡ get_or xs k no_entry) → AreHere parts part at xs
are_here parts part at [] le h = tt
are_here parts part at (x ∷ xs) le h =
    let e : at ≡ at + 0 = omega arith in (
      (omega (arith, le), ap (λ n. get_or (part_at parts part) n no_entry) e ∙ h 0 (omega arith)),
      are_here parts part (at + 1) xs (omega (arith, le))
          (λ k lt. let next : at + 1 + k ≡ at + suc k = omega arith in ap (λ n. get_or (part_at parts part) n no_entry) next ∙ h (suc k) (omega (arith, lt))),
    )

place_here : (parts : List (List Stamped)) (part at : ℕ) (x : Stamped) → IsHere parts part at x → IsPlaceIn parts (place_at part at x)
place_here parts part at x h = record { there = h.0; notes = ap (λ (y : Stamped). nat_lt 0 (length y.entry.notes)) (sym h.1) }

alone : (parts : List (List Stamped)) (part at : ℕ) (x : Stamped) → IsHere parts part at x → IsStretchOf parts (begun_with part at x [])
alone parts part at x h = record { places = (place_here parts part at x h, tt); found = ap (λ y. y ∷ []) h.1; some = omega arith; follow = (refl, tt) }

longer : (parts : List (List Stamped)) (part at : ℕ) (x : Stamped) (s : StretchSeen) → IsHere parts part at x
    → s.part ≡ part → s.at ≡ at + 1 → s.stamp ≡ x.stamp.0 + 1 → IsStretchOf parts s
    → IsStretchOf parts (begun_with part at x s.entries)
longer parts part at x s h p a e w =
    let same : places_in s ≡ numbered (place_at part) (at + 1) s.entries = λ i. numbered (place_at (p i)) (a i) s.entries in
    let found : map (stamped_at parts) (numbered (place_at part) (at + 1) s.entries) ≡ s.entries = ap (map (stamped_at parts)) (sym same) ∙ w.found in
    record {
      places = (place_here parts part at x h, subst (AllByRecursion (IsPlaceIn parts)) same w.places);
      found = λ i. h.1 i ∷ found i;
      some = omega arith;
      follow = (refl, subst (λ n. IsFollowing n s.entries) e w.follow);
    }

with_each : (parts : List (List Stamped)) (part at : ℕ) (x : Stamped) (ss : List StretchSeen) → IsHere parts part at x
    → StartsAt part (at + 1) ss → AllByRecursion (IsStretchOf parts) ss
    → AllByRecursion (IsStretchOf parts) (with_first part at x ss)
with_each parts part at x [] h first w = (alone parts part at x h, tt)
with_each parts part at x (s ∷ ss) h first w =
    cond_both (eqb s.stamp (x.stamp.0 + 1)) (begun_with part at x s.entries ∷ ss) (begun_with part at x [] ∷ s ∷ ss) (AllByRecursion (IsStretchOf parts))
    (λ t. (longer parts part at x s h first.0 first.1 (eqb-true s.stamp (x.stamp.0 + 1) t) w.0, w.1)) (λ t. (alone parts part at x h, w))

each_stretch : (parts : List (List Stamped)) (part at : ℕ) (xs : List Stamped) → AreHere parts part at xs
    → AllByRecursion (IsStretchOf parts) (stretches_from part at xs)
each_stretch parts part at [] h = tt
each_stretch parts part at (x ∷ xs) h = with_each parts part at x (stretches_from part (at + 1) xs) h.0
    (starts part (at + 1) xs) (each_stretch parts part (at + 1) xs h.1)

-- the entries of stretches, one after another
abbrev pub entries_in : List StretchSeen → List Stamped
entries_in ss = flat_map (λ (s : StretchSeen). s.entries) ss

entries_with : (part at : ℕ) (x : Stamped) (ss : List StretchSeen) → entries_in (with_first part at x ss) ≡ x ∷ entries_in ss
entries_with part at x [] = refl
entries_with part at x (s ∷ ss) =
    cond_both (eqb s.stamp (x.stamp.0 + 1)) (begun_with part at x s.entries ∷ ss) (begun_with part at x [] ∷ s ∷ ss)
    (λ l. entries_in l ≡ x ∷ entries_in (s ∷ ss)) (λ t. refl) (λ t. refl)

entries_are : (part at : ℕ) (xs : List Stamped) → entries_in (stretches_from part at xs) ≡ xs
entries_are part at [] = refl
entries_are part at (x ∷ xs) = entries_with part at x (stretches_from part (at + 1) xs) ∙ ap (λ l. x ∷ l) (entries_are part (at + 1) xs)

-- ---- the stretches of all parts

-- the stretches of parts, of which the first has this place
abbrev pub all_from : ℕ → List (List Stamped) → List StretchSeen
all_from n ps = flat_map (λ l. l) (numbered (λ place part. stretches_from place 0 part) n ps)

pub both_all : {A : Type 0} (P : A → Type 0) (xs ys : List A) → AllByRecursion P xs → AllByRecursion P ys → AllByRecursion P (xs ++ ys)
both_all P [] ys h g = g
both_all P (x ∷ xs) ys h g = (h.0, both_all P xs ys h.1 g)

pub all_stretches : (parts : List (List Stamped)) (n : ℕ) (ps : List (List Stamped))
    → ((k : ℕ) → k < length ps → part_at parts (n + k) ≡ get_or ps k []) → AllByRecursion (IsStretchOf parts) (all_from n ps)
all_stretches parts n [] h = tt
all_stretches parts n (p ∷ ps) h =
    let e : n ≡ n + 0 = omega arith in
    let here : part_at parts n ≡ p = ap (part_at parts) e ∙ h 0 (omega arith) in
    let long : length (part_at parts n) ≡ length p = ap length here in
    both_all (IsStretchOf parts) (stretches_from n 0 p) (all_from (n + 1) ps)
    (each_stretch parts n 0 p (are_here parts n 0 p (omega (arith, long)) (λ k lt. let z : 0 + k ≡ k = omega arith in (λ i. get_or (here i) (z i) no_entry))))
    (all_stretches parts (n + 1) ps (λ k lt. let next : n + 1 + k ≡ n + suc k = omega arith in ap (part_at parts) next ∙ h (suc k) (omega (arith, lt))))

flat_append : {A B : Type 0} (f : A → List B) (xs ys : List A) → flat_map f (xs ++ ys) ≡ flat_map f xs ++ flat_map f ys
flat_append f [] ys = refl
flat_append f (x ∷ xs) ys = ap (λ l. f x ++ l) (flat_append f xs ys) ∙ sym (append_assoc (f x) (flat_map f xs) (flat_map f ys))

pub all_entries : (n : ℕ) (ps : List (List Stamped)) → entries_in (all_from n ps) ≡ all_of ps
all_entries n [] = refl
all_entries n (p ∷ ps) =
    let here = entries_are n 0 p in
    let rest = all_entries (n + 1) ps in
    flat_append (λ (s : StretchSeen). s.entries) (stretches_from n 0 p) (all_from (n + 1) ps) ∙ (λ i. here i ++ rest i)

-- what `next` of stretches gives, and what it leaves
pub taken_first : (part at : ℕ) (xs front back : List Stamped) (x : Stamped) (n : ℕ) → slice_get xs 0 ≡ Some x
    → n ≡ following x.stamp.0 xs → front ≡ take n xs → back ≡ drop n xs → length front ≡ n
    → stretches_from part at xs ≡ record { part = part; at = at; stamp = x.stamp.0; entries = front } ∷ stretches_from part (at + length front) back
taken_first part at [] front back x n first count is rest long = absurd (let none : slice_get [] 0 ≡ Some x = first in search rules)
taken_first part at (y ∷ ys) front back x n first count is rest long =
    let same : y ≡ x = (let e : Some y ≡ Some x = first in cc) in
    let all : n ≡ suc (following (y.stamp.0 + 1) ys) =
    count ∙ ap (λ (z : Stamped). following z.stamp.0 (y ∷ ys)) (sym same)
    ∙ ap (λ b. cond b (suc (following (y.stamp.0 + 1) ys)) 0) (eq-eqb y.stamp.0 y.stamp.0 refl) in
    let front_is : take (suc (following (y.stamp.0 + 1) ys)) (y ∷ ys) ≡ front = ap (λ k. take k (y ∷ ys)) (sym all) ∙ sym is in
    let back_is : drop (suc (following (y.stamp.0 + 1) ys)) (y ∷ ys) ≡ back = ap (λ k. drop k (y ∷ ys)) (sym all) ∙ sym rest in
    let end : at + suc (following (y.stamp.0 + 1) ys) ≡ at + length front = omega (arith, all, long) in
    first_stretch part at y ys ∙ (λ i. record {
      part = part;
      at = at;
      stamp = (same i).stamp.0;
      entries = front_is i;
    } ∷ stretches_from part (end i) (back_is i))

-- ---- runs of a part

-- what is told of an item
pub told : {A B : Type 0} (f : A → B) (o : Option A) (b : B) → Some b ≡ option_map f o → (x : A) × (o ≡ Some x) × (b ≡ f x)
told f None b is = let none : Some b ≡ None = is in absurd (cc)
told f (Some x) b is = (x, refl, some_same b (f x) is)

get_first : {A : Type 0} (xs : List A) (n : ℕ) → slice_get (drop n xs) 0 ≡ slice_get xs n
get_first xs zero = refl
get_first [] (suc n) = refl
get_first (x ∷ xs) (suc n) = get_first xs n

drop_more_of : {A : Type 0} (xs : List A) (m n : ℕ) → drop n (drop m xs) ≡ drop (m + n) xs
drop_more_of xs zero n = let e : n ≡ 0 + n = omega arith in ap (λ k. drop k xs) e
drop_more_of [] (suc m) n = drop-nil n ∙ sym (drop-nil (suc m + n))
drop_more_of (x ∷ xs) (suc m) n = let e : suc (m + n) ≡ suc m + n = omega arith in drop_more_of xs m n ∙ ap (λ k. drop k (x ∷ xs)) e

long_take : {A : Type 0} (xs : List A) (n : ℕ) → n ≤ length xs → length (take n xs) ≡ n
long_take xs zero h = refl
long_take [] (suc n) h = absurd (omega (arith, h))
long_take (x ∷ xs) (suc n) h = ap suc (long_take xs n (omega (arith, h)))

-- what `next` of stretches gives, and what it leaves, of a part
pub taken_next : (place at end n : ℕ) (part : List Stamped) (s : Stamp)
    → Some s ≡ option_map (λ (x : Stamped). x.stamp) (slice_get part at) → n ≡ following s.0 (drop at part) → end ≡ at + n
    → stretches_from place at (drop at part) ≡ record {
      part = place;
      at = at;
      stamp = s.0;
      entries = slice_range part at end;
    } ∷ stretches_from place end (drop end part)
taken_next place at end n part s is count ends =
    let x = told (λ (x : Stamped). x.stamp) (slice_get part at) s is in
    let bound = following_bound s.0 (drop at part) in
    let counted : n ≡ following x.0.stamp.0 (drop at part) = count ∙ ap (λ (t : Stamp). following t.0 (drop at part)) x.2 in
    let many : end - at ≡ n = omega (arith, ends) in
    let front : slice_range part at end ≡ take n (drop at part) = ap (λ k. take k (drop at part)) many in
    let back : drop end part ≡ drop n (drop at part) = ap (λ k. drop k part) ends ∙ sym (drop_more_of part at n) in
    let long : length (slice_range part at end) ≡ n = ap length front ∙ long_take (drop at part) n (omega (arith, count, bound)) in
    let last : at + length (slice_range part at end) ≡ end = omega (arith, long, ends) in
    taken_first place at (drop at part) (slice_range part at end) (drop end part) x.0 n (get_first part at ∙ x.1) counted front back long
    ∙ (λ i. record { part = place; at = at; stamp = (sym x.2 i).0; entries = slice_range part at end } ∷ stretches_from place (last i) (drop end part))

-- a run with one item more
run_more : {A : Type 0} (xs : List A) (k : ℕ) (x : A) → slice_get xs k ≡ Some x → take (suc k) xs ≡ take k xs ++ x ∷ []
run_more [] k x is = let none : None ≡ Some x = is in absurd (cc)
run_more (y ∷ xs) zero x is = let same : y ≡ x = cc in ap (λ z. z ∷ []) same
run_more (y ∷ xs) (suc k) x is = ap (λ l. y ∷ l) (run_more xs k x is)

get_on : {A : Type 0} (xs : List A) (m k : ℕ) → slice_get (drop m xs) k ≡ slice_get xs (m + k)
get_on xs zero k = let e : k ≡ 0 + k = omega arith in ap (slice_get xs) e
get_on [] (suc m) k = refl
get_on (x ∷ xs) (suc m) k = let e : suc (m + k) ≡ suc m + k = omega arith in get_on xs m k ∙ ap (slice_get (x ∷ xs)) e

numbered_end : {A B : Type 0} (f : ℕ → A → B) (n : ℕ) (xs : List A) (x : A) → numbered f n (xs ++ x ∷ []) ≡ numbered f n xs ++ f (n + length xs) x ∷ []
numbered_end f n [] x = let e : n ≡ n + 0 = omega arith in ap (λ m. f m x ∷ []) e
numbered_end f n (y ∷ xs) x =
    let e : n + 1 + length xs ≡ n + suc (length xs) = omega arith in
    ap (λ l. f n y ∷ l) (numbered_end f (n + 1) xs x) ∙ ap (λ m. f n y ∷ (numbered f (n + 1) xs ++ f m x ∷ [])) e

long_get : {A : Type 0} (xs : List A) (k : ℕ) (x : A) → slice_get xs k ≡ Some x → k < length xs
long_get [] k x is = let none : None ≡ Some x = is in absurd (cc)
long_get (y ∷ xs) zero x is = omega arith
long_get (y ∷ xs) (suc k) x is = let h = long_get xs k x is in omega (arith, h)

-- one place more of a run of a part
pub place_more : (old places new : List EntryPlace) (place start at : ℕ) (part : List Stamped) (p : EntryPlace)
    (b : Bool) → new ≡ places ++ p ∷ [] → places ≡ old ++ numbered (place_at place) start (slice_range part start at) → start ≤ at
    → Some b ≡ option_map (λ (x : Stamped). nat_lt 0 (length x.entry.notes)) (slice_get part at) → p ≡ record { part = place; at = at; has_notes = b }
    → new ≡ old ++ numbered (place_at place) start (slice_range part start (at + 1))
place_more old places new place start at part p b pushed before from is here =
    let x = told (λ (x : Stamped). nat_lt 0 (length x.entry.notes)) (slice_get part at) b is in
    let k = at - start in
    let place_is : start + k ≡ at = omega (arith, from) in
    let there : slice_get (drop start part) k ≡ Some x.0 = get_on part start k ∙ ap (slice_get part) place_is ∙ x.1 in
    let next : at + 1 - start ≡ suc k = omega (arith, from) in
    let longer : slice_range part start (at + 1) ≡ slice_range part start at ++ x.0 ∷ [] =
    ap (λ n. take n (drop start part)) next ∙ run_more (drop start part) k x.0 there in
    let within = long_get (drop start part) k x.0 there in
    let long : length (slice_range part start at) ≡ k = long_take (drop start part) k (omega (arith, within)) in
    let last : start + length (slice_range part start at) ≡ at = omega (arith, long, from) in
    let is_place : p ≡ place_at place (start + length (slice_range part start at)) x.0 =
    here ∙ (λ i. record { part = place; at = sym last i; has_notes = x.2 i }) in
    pushed ∙ (λ i. before i ++ is_place i ∷ []) ∙ append_assoc old
    (numbered (place_at place) start (slice_range part start at))
    (place_at place (start + length (slice_range part start at)) x.0 ∷ [])
    ∙ ap (λ l. old ++ l) (sym (numbered_end (place_at place) start (slice_range part start at) x.0) ∙ ap (numbered (place_at place) start) (sym longer))

-- ---- what is merged

-- a part has at most as many entries as all have
pub long_part : (parts : List (List Stamped)) (place : ℕ) (part : List Stamped) → place < length parts
    → part ≡ get_or parts place part → length part ≤ length (all_of parts)
long_part [] place part lt is = absurd (omega arith)
long_part (p ∷ ps) zero part lt is = omega (arith, ap length is, length-append p (all_of ps))
long_part (p ∷ ps) (suc place) part lt is = let le = long_part ps place part (omega (arith, lt)) is in omega (arith, le, length-append p (all_of ps))

-- the stretches of one part more
pub sources_more : (parts : List (List Stamped)) (place : ℕ) (part : List Stamped) (old new : List (List StretchSeen))
    (more : List StretchSeen) → new ≡ old ++ more ∷ [] → old ≡ stretches_of (take place parts)
    → place < length parts → part ≡ get_or parts place part → more ≡ stretches_from place 0 part → new ≡ stretches_of (take (place + 1) parts)
sources_more parts place part old new more pushed before lt is stretches =
    let zeroth : place ≡ 0 + place = omega arith in
    let next : suc place ≡ place + 1 = omega arith in
    let here : more ≡ stretches_from (0 + place) 0 (get_or parts place part) = stretches ∙ (λ i. stretches_from (zeroth i) 0 (is i)) in
    pushed ∙ (λ i. before i ++ here i ∷ []) ∙ sym (numbered_more (λ n p. stretches_from n 0 p) 0 parts place part lt)
    ∙ ap (λ k. stretches_of (take k parts)) next

pub placed_entries : (parts : List (List Stamped)) (places : List EntryPlace)
    → map (placed parts) places ≡ map (λ (x : Stamped). x.entry) (map (stamped_at parts) places)
placed_entries parts [] = refl
placed_entries parts (p ∷ ps) = ap (λ es. placed parts p ∷ es) (placed_entries parts ps)
