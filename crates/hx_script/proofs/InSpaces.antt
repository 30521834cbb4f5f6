-- Lines of one space among several, and all drafts together.
use Rattle.std.proofs.Common.{◌≡◌, ℕ, zero, suc, ◌+◌, ◌<◌, ◌≤◌, List, [], ◌∷◌, length, map, get_or, set, refl, sym, ap, ◌∙◌, arith, add-one}
use Rattle.hx_script.specs.declared.draft.Draft.{Draft}
use Rattle.hx_script.specs.BundleGrammar.{with_session}

-- one more session in the first drafts
abbrev pub begun : ℕ → List Draft → List Draft
begun zero xs = xs
begun (suc k) [] = []
begun (suc k) (x ∷ xs) = with_session x ∷ begun k xs

pub begun_long : (k : ℕ) (xs : List Draft) → length (begun k xs) ≡ length xs
begun_long zero xs = refl
begun_long (suc k) [] = refl
begun_long (suc k) (x ∷ xs) = ap suc (begun_long k xs)

begun_one : (k : ℕ) (xs : List Draft) (d : Draft) → k < length xs → set (begun k xs) k (with_session (get_or (begun k xs) k d)) ≡ begun (suc k) xs
begun_one k [] d lt = absurd (omega arith)
begun_one zero (x ∷ xs) d lt = refl
begun_one (suc k) (x ∷ xs) d lt = ap (λ (l : List Draft). with_session x ∷ l) (begun_one k xs d (omega (arith, lt)))

pub begun_more : (k : ℕ) (xs ys : List Draft) (d e : Draft) → ys ≡ begun k xs → k < length ys → e ≡ with_session (get_or ys k d) → set ys k e ≡ begun (k + 1) xs
begun_more k xs ys d e are lt is =
    let short : k < length xs = omega (arith, lt, ap (λ (l : List Draft). length l) are, begun_long k xs) in
    let next : set (begun k xs) k (with_session (get_or (begun k xs) k d)) ≡ begun (suc k) xs = begun_one k xs d short in
    let here : e ≡ with_session (get_or (begun k xs) k d) = is ∙ ap (λ (l : List Draft). with_session (get_or l k d)) are in
    ap (λ (x : Draft). set ys k x) here ∙ ap (λ (l : List Draft). set l k (with_session (get_or (begun k xs) k d)))
    are ∙ next ∙ ap (λ (n : ℕ). begun n xs) (sym (add-one k))

pub begun_all : (k : ℕ) (xs : List Draft) → length xs ≤ k → begun k xs ≡ map with_session xs
begun_all zero [] le = refl
begun_all zero (x ∷ xs) le = absurd (omega (arith, le))
begun_all (suc k) [] le = refl
begun_all (suc k) (x ∷ xs) le = ap (λ (l : List Draft). with_session x ∷ l) (begun_all k xs (omega (arith, le)))
