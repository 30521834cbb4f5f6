-- The numbers from 1 up to n.
use Rattle.std.proofs.Common.{◌≡◌, ℕ, ◌+◌, ◌-◌, ◌<◌, ◌≤◌, ◌⊎◌, inl, inr, zero, suc, Bool, List, [], ◌∷◌, ◌++◌, cond, sym, ap, ◌∙◌, subst, arith}
use Rattle.std.proofs.lemmas.List.{map-append}
use Rattle.hx_types.specs.Words.{IsIn, below}
use Rattle.hx_model.specs.SessionSteps.{SessionState}
use Rattle.hx_law_lemmas.proofs.Lemmas.{in-append, in_left, in_right}
use Rattle.hx_service.specs.Laws.{ended_count, numbers_to}

-- one more
pub numbers-next : (n : ℕ) → numbers_to (n + 1) ≡ numbers_to n ++ (n + 1) ∷ []
numbers-next n = ap numbers_to (let e : n + 1 ≡ suc n = omega arith in e) ∙ map-append (λ (place : ℕ). place + 1) (below n) (n ∷ [])

-- the last
pub numbers-last : (n : ℕ) → 0 < n → numbers_to n ≡ numbers_to (n - 1) ++ n ∷ []
numbers-last n low =
    let e : n - 1 + 1 ≡ n = omega (arith, low) in
    ap numbers_to (sym e) ∙ numbers-next (n - 1) ∙ ap (λ (k : ℕ). numbers_to (n - 1) ++ k ∷ []) e

-- what stands among them
pub in-numbers : (n k : ℕ) → IsIn k (numbers_to n) → (0 < k) × (k ≤ n)
in-numbers zero k i = absurd i
in-numbers (suc n) k i = elim (in-append (numbers_to n) ((n + 1) ∷ []) k
    (subst (λ (l : List ℕ). IsIn k l) (map-append (λ (place : ℕ). place + 1) (below n) (n ∷ [])) i)) [
      | inl j ↦ (let r = in-numbers n k j in (r.0, (let h : k ≤ n = r.1 in omega (arith, h))))
      | inr (inl e) ↦ (omega (arith, e), omega (arith, e))
      | inr (inr j) ↦ absurd j
    ]

-- and stands among them
pub numbers-in : (n k : ℕ) → 0 < k → k ≤ n → IsIn k (numbers_to n)
numbers-in zero k low high = absurd (omega (arith, low, high))
numbers-in (suc n) k low high =
    subst (λ (l : List ℕ). IsIn k l) (sym (map-append (λ (place : ℕ). place + 1) (below n) (n ∷ []))) (by (nat-cases k n high) (λ q. numbers-in n k low q))
  where
    nat-cases : (k n : ℕ) → k ≤ suc n → (k ≤ n) ⊎ (k ≡ n + 1)
    nat-cases zero n h = inl (omega arith)
    nat-cases (suc k) zero h = inr (omega (arith, h))
    nat-cases (suc k) (suc n) h = elim (nat-cases k n (omega (arith, h))) [ inl q ↦ inl (omega (arith, q)) | inr q ↦ inr (omega (arith, q)) ]

    by : (k ≤ n) ⊎ (k ≡ n + 1) → (k ≤ n → IsIn k (numbers_to n)) → IsIn k (numbers_to n ++ (n + 1) ∷ [])
    by (inl q) f = in_left (numbers_to n) ((n + 1) ∷ []) k (f q)
    by (inr q) f = in_right (numbers_to n) ((n + 1) ∷ []) k (inl q)

-- how many have ended, by the two parts of a session's state that tell
pub ended-is : (s : SessionState) (b : Bool) (n : ℕ) → s.under_way ≡ b → s.begun ≡ n → ended_count s ≡ cond b (n - 1) n
ended-is s b n e f = ap (λ (k : Bool). cond k (s.begun - 1) s.begun) e ∙ ap (λ (m : ℕ). cond b (m - 1) m) f
