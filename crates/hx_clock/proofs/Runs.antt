-- Runs of lists that grow at their end.
use Rattle.std.proofs.Common.{◌≡◌, ℕ, zero, suc, ◌+◌, ◌-◌, ◌<◌, ◌≤◌, List, [], ◌∷◌, ◌++◌, length, get_or, Some, None}
use Rattle.std.proofs.Common.{refl, sym, ap, ◌∙◌, subst, arith, length-append}
use Rattle.std.specs.Prelude.{slice_get, slice_range, take, drop}

take_before : {A : Type 0} (n : ℕ) (xs ys : List A) → n ≤ length xs → take n (xs ++ ys) ≡ take n xs
take_before zero xs ys h = refl
take_before (suc n) [] ys h = absurd (omega (arith, h))
take_before (suc n) (x ∷ xs) ys h = ap (λ l. x ∷ l) (take_before n xs ys (omega (arith, h)))

take_whole : {A : Type 0} (xs : List A) → take (length xs) xs ≡ xs
take_whole [] = refl
take_whole (x ∷ xs) = ap (λ l. x ∷ l) (take_whole xs)

drop_before : {A : Type 0} (n : ℕ) (xs ys : List A) → n ≤ length xs → drop n (xs ++ ys) ≡ drop n xs ++ ys
drop_before zero xs ys h = refl
drop_before (suc n) [] ys h = absurd (omega (arith, h))
drop_before (suc n) (x ∷ xs) ys h = drop_before n xs ys (omega (arith, h))

drop_end : {A : Type 0} (xs ys : List A) → drop (length xs) (xs ++ ys) ≡ ys
drop_end [] ys = refl
drop_end (x ∷ xs) ys = drop_end xs ys

dropped : {A : Type 0} (n : ℕ) (xs : List A) → n ≤ length xs → n + length (drop n xs) ≡ length xs
dropped zero xs h = omega arith
dropped (suc n) [] h = absurd (omega (arith, h))
dropped (suc n) (x ∷ xs) h = let e = dropped n xs (omega (arith, h)) in omega (arith, e)

-- a run within a list stays where the list grows
pub range_before : {A : Type 0} (xs ys : List A) (start end : ℕ) → start ≤ end → end ≤ length xs → slice_range (xs ++ ys) start end ≡ slice_range xs start end
range_before xs ys start end order within =
    let rest = dropped start xs (omega (arith, order, within)) in
    rw (drop_before start xs ys (omega (arith, order, within))) (take_before (end - start) (drop start xs) ys (omega (arith, order, within, rest)))

-- the run of what was added
pub range_end : {A : Type 0} (xs ys : List A) → slice_range (xs ++ ys) (length xs) (length (xs ++ ys)) ≡ ys
range_end xs ys =
    let n : length (xs ++ ys) - length xs ≡ length ys = omega (arith, length-append xs ys) in
    rw (n, drop_end xs ys) (take_whole ys)

get_take : {A : Type 0} (n : ℕ) (xs : List A) (i : ℕ) (x : A) → slice_get (take n xs) i ≡ Some x → slice_get xs i ≡ Some x
get_take zero xs i x h = let none : None ≡ Some x = h in absurd (cc)
get_take (suc n) [] i x h = h
get_take (suc n) (y ∷ xs) zero x h = h
get_take (suc n) (y ∷ xs) (suc i) x h = get_take n xs i x h

get_drop : {A : Type 0} (n : ℕ) (xs : List A) (i : ℕ) → slice_get (drop n xs) i ≡ slice_get xs (n + i)
get_drop zero xs i = let n : 0 + i ≡ i = omega arith in rw n refl
get_drop (suc n) [] i = refl
get_drop (suc n) (x ∷ xs) i =
    let k : suc (n + i) ≡ suc n + i = omega arith in
    subst (λ m. slice_get (drop (suc n) (x ∷ xs)) i ≡ slice_get (x ∷ xs) m) k (get_drop n xs i)

-- an item of a run is an item of the list
pub get_range : {A : Type 0} (xs : List A) (start end i : ℕ) (x : A) → slice_get (slice_range xs start end) i ≡ Some x → slice_get xs (start + i) ≡ Some x
get_range xs start end i x h = sym (get_drop start xs i) ∙ get_take (end - start) (drop start xs) i x h

get_take_before : {A : Type 0} (n : ℕ) (xs : List A) (i : ℕ) → i < n → slice_get (take n xs) i ≡ slice_get xs i
get_take_before zero xs i h = absurd (omega (arith, h))
get_take_before (suc n) [] i h = refl
get_take_before (suc n) (x ∷ xs) zero h = refl
get_take_before (suc n) (x ∷ xs) (suc i) h = get_take_before n xs i (omega (arith, h))

-- an item within a run is an item of the list
pub get_within_range : {A : Type 0} (xs : List A) (start end i : ℕ) → start + i < end → slice_get (slice_range xs start end) i ≡ slice_get xs (start + i)
get_within_range xs start end i h = get_take_before (end - start) (drop start xs) i (omega (arith, h)) ∙ get_drop start xs i

pub get_before : {A : Type 0} (xs ys : List A) (i : ℕ) → i < length xs → slice_get (xs ++ ys) i ≡ slice_get xs i
get_before [] ys i h = absurd (omega (arith, h))
get_before (x ∷ xs) ys zero h = refl
get_before (x ∷ xs) ys (suc i) h = get_before xs ys i (omega (arith, h))

pub get_end : {A : Type 0} (xs : List A) (x : A) → slice_get (xs ++ x ∷ []) (length xs) ≡ Some x
get_end [] x = refl
get_end (y ∷ xs) x = get_end xs x

-- an item that is told by its place
pub get_told : {A : Type 0} (xs : List A) (i : ℕ) (x : A) → i < length xs → x ≡ get_or xs i x → slice_get xs i ≡ Some x
get_told [] i x h is = absurd (omega (arith, h))
get_told (y ∷ xs) zero x h is = ap (λ z. Some z) (sym is)
get_told (y ∷ xs) (suc i) x h is = get_told xs i x (omega (arith, h)) is
