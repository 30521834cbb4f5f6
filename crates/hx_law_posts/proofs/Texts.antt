-- Slots that stand in the order of their keys when one is put in.
use Rattle.hx_law_lemmas.proofs.Lemmas.Vocabulary.{[], ap, cond, cond_both, eq_of_same_text, inl, inr, IsIn, KeyState, List, same_text}
use Rattle.hx_law_lemmas.proofs.Lemmas.Vocabulary.{subst, sym, text_below, true, with_state, ℕ, ◌∙◌, ◌∷◌, ◌≡◌}
use Rattle.hx_law_lemmas.proofs.Lemmas.{Ascend, state_key}
use Rattle.hx_types.proofs.Lemmas.{same_text-symm, text_below-other, text_below-trans}

-- what stands in a list with a slot put in
in-state : (t : KeyState) (states : List KeyState) (P : KeyState → Type 0) → P t
    → ((y : KeyState) → IsIn y states → P y) → (y : KeyState) → IsIn y (with_state t states) → P y
in-state t [] P p f y = λ i. elim i [ inl e ↦ subst P (sym e) p | inr j ↦ absurd j ]
in-state t (x ∷ rest) P p f y =
    cond_both (same_text x.base.key t.base.key) (t ∷ rest)
    (cond (text_below t.base.key x.base.key) (t ∷ x ∷ rest) (x ∷ with_state t rest)) (λ (l : List KeyState). IsIn y l → P y)
    (λ e i. elim i [ inl q ↦ subst P (sym q) p | inr j ↦ f y (inr j) ])
    (
    λ e. cond_both (text_below t.base.key x.base.key) (t ∷ x ∷ rest) (x ∷ with_state t rest) (λ (l : List KeyState). IsIn y l → P y)
    (λ b i. elim i [ inl q ↦ subst P (sym q) p | inr j ↦ f y j ])
    (λ b i. elim i [ inl q ↦ f y (inl q) | inr j ↦ in-state t rest P p (λ z k. f z (inr k)) y j ])
    )

-- slots stay in order when one is put in
pub with_state-ascends : (t : KeyState) (states : List KeyState) → Ascend state_key states → Ascend state_key (with_state t states)
with_state-ascends t [] h = ((λ y i. absurd i), tt)
with_state-ascends t (x ∷ rest) h =
    cond_both (same_text x.base.key t.base.key) (t ∷ rest) (cond (text_below t.base.key x.base.key) (t ∷ x ∷ rest) (x ∷ with_state t rest)) (Ascend state_key)
    (λ e. ((λ y i. ap (λ (k : List ℕ). text_below k y.base.key) (sym (eq_of_same_text x.base.key t.base.key e)) ∙ h.0 y i), h.1))
    (
    λ e. cond_both (text_below t.base.key x.base.key) (t ∷ x ∷ rest) (x ∷ with_state t rest) (Ascend state_key)
    (
    λ b. (
      (λ y i. elim i [
        | inl q ↦ ap (λ (z : KeyState). text_below t.base.key z.base.key) q ∙ b
        | inr j ↦ text_below-trans t.base.key x.base.key y.base.key b (h.0 y j)
      ]),
      h,
    )
    )
    (λ b. (
      in-state t rest (λ (y : KeyState). text_below x.base.key y.base.key ≡ true)
          (text_below-other t.base.key x.base.key (same_text-symm t.base.key x.base.key ∙ e) b) h.0,
      with_state-ascends t rest h.1,
    ))
    )
