-- Lists of one length that were put behind each other, and the items of each.
use Rattle.std.proofs.Common.{◌≡◌, ◌∙◌, ◌+◌, ◌*◌, ◌<◌, ℕ, zero, suc, List, [], ◌∷◌, ◌++◌, length, Some, refl, sym, ap, arith}
use Rattle.std.proofs.lemmas.Option.{none-some}
use Rattle.std.specs.Prelude.{slice_get}
use Rattle.std.specs.List.{AllByRecursion, flat_map}

pub get_first : {A : Type 0} (xs ys : List A) (i : ℕ) → i < length xs → slice_get (xs ++ ys) i ≡ slice_get xs i
get_first [] ys i within = absurd (omega (arith, within))
get_first (x ∷ xs) ys zero within = refl
get_first (x ∷ xs) ys (suc i) within = get_first xs ys i (omega (arith, within))

get_later : {A : Type 0} (xs ys : List A) (i : ℕ) → slice_get (xs ++ ys) (length xs + i) ≡ slice_get ys i
get_later [] ys i = let e : 0 + i ≡ i = omega arith in ap (slice_get ys) e
get_later (x ∷ xs) ys i =
    let e : length (x ∷ xs) + i ≡ suc (length xs + i) = omega arith in
    ap (slice_get (x ∷ (xs ++ ys))) e ∙ get_later xs ys i

times_more : (k long j n : ℕ) → n ≡ long → suc k * long + j ≡ n + (k * long + j)
times_more k long j n e = omega (arith, e)

-- an item of one of the lists
pub record IsItemOf {A B : Type 0} (of : A → List B) (xs : List A) (k j : ℕ) (y : B) : Type 0 where
  pub list : A
  pub stands : slice_get xs k ≡ Some list
  pub item : slice_get (of list) j ≡ Some y

module _ {A B : Type 0} (of : A → List B) (long : ℕ) where
  abbrev pub AreLong : List A → Type 0
  AreLong xs = AllByRecursion (λ (x : A). length (of x) ≡ long) xs

  pub item_of : (xs : List A) (k j : ℕ) (y : B) → AreLong xs → j < long → slice_get (flat_map of xs) (k * long + j) ≡ Some y → IsItemOf of xs k j y
  item_of [] k j y all within at = absurd (none-some y at)
  item_of (x ∷ xs) zero j y all within at =
      let e : 0 * long + j ≡ j = omega arith in
      record {
        list = x;
        stands = refl;
        item = sym (get_first (of x) (flat_map of xs) j
            (omega (arith, within, all.0))) ∙ ap (slice_get (of x ++ flat_map of xs)) (sym e) ∙ at;
      }
  item_of (x ∷ xs) (suc k) j y all within at =
      let e : suc k * long + j ≡ length (of x) + (k * long + j) = times_more k long j (length (of x)) all.0 in
      let later = item_of xs k j y all.1 within (sym (get_later (of x) (flat_map of xs) (k * long + j))
      ∙ ap (slice_get (of x ++ flat_map of xs)) (sym e) ∙ at) in
      record { list = later.list; stands = later.stands; item = later.item }
