-- How many calls a script has, and one that it grows to.
use Rattle.std.proofs.Common.{◌≡◌, refl, ℕ, zero, suc, ◌+◌, ◌-◌, ◌<◌, ◌≤◌, List, [], ◌∷◌, length, ap, subst, ◌∙◌, arith, get_or, sum_by}
use Rattle.std.proofs.lemmas.List.{length-append}
use Rattle.std.proofs.lemmas.List.Sums.{sum_by-cons}
use mathlib.Core.List.{IsPrefix}
use Rattle.hx_types.specs.declared.calls.Op.{Op}
use Rattle.hx_types.specs.declared.ids.SessionId.{SessionId}
use Rattle.hx_types.specs.declared.traces.Script.{Script}
use Rattle.hx_types.specs.Fitting.{calls_of, numbered}
use Rattle.hx_types.specs.Words.{when_some}
use Rattle.hx_law_growing.specs.Growing.{GrowsTo, calls_in}
use Rattle.hx_law_growing.proofs.Lemmas.{get-or}
use Rattle.hx_service.specs.Services.{ServiceState}

prefix-length : {A : Type 0} (xs ys : List A) → IsPrefix xs ys → length xs ≤ length ys
prefix-length xs ys (rest, e) = let n = length-append xs rest in let m = ap (λ l. length l) e in omega (arith, n, m)

abbrev count : List (List Op) → ℕ
count xs = sum_by (λ (calls : List Op). length calls) xs

one : (x : List Op) (xs : List (List Op)) → count (x ∷ xs) ≡ length x + count xs
one x xs = sum_by-cons (λ (calls : List Op). length calls) x xs

sums : (xs ys : List (List Op)) → length ys ≡ length xs → ((i : ℕ) → length (get_or xs i []) ≤ length (get_or ys i [])) → count xs ≤ count ys
sums [] ys e h = omega arith
sums (x ∷ xs) [] e h = absurd (omega (arith, e))
sums (x ∷ xs) (y ∷ ys) e h =
    let first : length x ≤ length y = h 0 in
    let rest : count xs ≤ count ys = sums xs ys (omega (arith, e)) (λ i. h (suc i)) in
    omega (arith, first, rest, one x xs, one y ys)

sums_less : (xs ys : List (List Op)) (k : ℕ) → length ys ≡ length xs
    → ((i : ℕ) → length (get_or xs i []) ≤ length (get_or ys i []))
    → length (get_or xs k []) < length (get_or ys k []) → count xs < count ys
sums_less [] [] k e h less = absurd (omega (arith, less))
sums_less [] (y ∷ ys) k e h less = absurd (omega (arith, e))
sums_less (x ∷ xs) [] k e h less = absurd (omega (arith, e))
sums_less (x ∷ xs) (y ∷ ys) zero e h less =
    let first : length x < length y = less in
    let rest : count xs ≤ count ys = sums xs ys (omega (arith, e)) (λ i. h (suc i)) in
    omega (arith, first, rest, one x xs, one y ys)
sums_less (x ∷ xs) (y ∷ ys) (suc k) e h less =
    let first : length x ≤ length y = h 0 in
    let rest : count xs < count ys = sums_less xs ys k (omega (arith, e)) (λ i. h (suc i)) less in
    omega (arith, first, rest, one x xs, one y ys)

module _ (script more : Script) (g : GrowsTo script more) where
  longer : (i : ℕ) → length (get_or script.sessions i []) ≤ length (get_or more.sessions i [])
  longer i =
      let u : SessionId = record { 0 = suc i } in
      let le = prefix-length (calls_of script u) (calls_of more u) (g.calls u) in
      let a = ap (λ (l : List Op). length l) (get-or script.sessions i []) in
      let b = ap (λ (l : List Op). length l) (get-or more.sessions i []) in
      omega (arith, le, a, b)

  -- it has no fewer
  pub grows_count : calls_in script ≤ calls_in more
  grows_count = sums script.sessions more.sessions g.sessions longer

  -- and more, where one of its sessions has more
  pub grows_further : (u : SessionId) → length (calls_of more u) ≡ length (calls_of script u) + 1 → calls_in script < calls_in more
  grows_further u further = by u.0 refl
    where
      calls_at : Script → ℕ → ℕ
      calls_at s n = length (when_some (numbered s.sessions n) [] (λ (calls : List Op). calls))

      by : (n : ℕ) → u.0 ≡ n → calls_in script < calls_in more
      by zero e = absurd (omega (arith, further, ap (calls_at script) e, ap (calls_at more) e))
      by (suc n) e =
          let a : length (calls_of script u) ≡ length (get_or script.sessions n []) =
          ap (calls_at script) e ∙ ap (λ (l : List Op). length l) (get-or script.sessions n []) in
          let b : length (calls_of more u) ≡ length (get_or more.sessions n []) =
          ap (calls_at more) e ∙ ap (λ (l : List Op). length l) (get-or more.sessions n []) in
          sums_less script.sessions more.sessions n g.sessions longer (omega (arith, further, a, b))

-- a call of a session was made
pub made_more : (old now new : ServiceState) (u : SessionId) → now ≡ old → GrowsTo now.script new.script
    → length (calls_of new.script u) ≡ length (calls_of now.script u) + 1
    → calls_in old.script < calls_in new.script
made_more old now new u same g further =
    subst (λ (s : ServiceState). calls_in s.script < calls_in new.script) same (grows_further now.script new.script g u further)

-- fewer are left where more were made
pub fewer : (all before after now : ℕ) → before < after → now ≡ after → now ≤ all → all - now < all - before
fewer all before after now more same most = omega (arith, more, same, most)
