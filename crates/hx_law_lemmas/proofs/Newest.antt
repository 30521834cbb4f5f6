-- The newest calls that a coordinator knows.
use Rattle.hx_law_lemmas.proofs.Lemmas.Vocabulary.{[], ap, cond_both, eqb-true, inl, inr, IsIn, List, Newest, newest_of, same_session, SessionId, Some}
use Rattle.hx_law_lemmas.proofs.Lemmas.Vocabulary.{with_newest, ◌∙◌, ◌∷◌, ◌≡◌, ◌⊎◌}

-- a newest call of a changed list is the new one or an old one
pub in-with_newest : (n : Newest) (ns : List Newest) (x : Newest) → IsIn x (with_newest n ns) → (x ≡ n) ⊎ IsIn x ns
in-with_newest n [] x = λ i. elim i [ inl e ↦ inl e | inr j ↦ absurd j ]
in-with_newest n (y ∷ ns) x =
    cond_both (same_session y.session n.session) (n ∷ ns) (y ∷ with_newest n ns) (λ (l : List Newest). IsIn x l → (x ≡ n) ⊎ IsIn x (y ∷ ns))
    (λ t i. elim i [ inl e ↦ inl e | inr j ↦ inr (inr j) ])
    (λ t i. elim i [ inl e ↦ inr (inl e) | inr j ↦ elim (in-with_newest n ns x j) [ inl e ↦ inl e | inr k ↦ inr (inr k) ] ])

-- the newest call of a session stands in the list, with the session
pub newest-in : (u : SessionId) (ns : List Newest) (x : Newest) → newest_of u ns ≡ Some x → IsIn x ns × (x.session ≡ u)
newest-in u [] x = λ e. absurd (cc)
newest-in u (y ∷ ns) x =
    cond_both (same_session y.session u) (Some y) (newest_of u ns) (λ o. o ≡ Some x → IsIn x (y ∷ ns) × (x.session ≡ u))
    (λ t e. let q : x ≡ y = cc in (inl q, ap (λ (z : Newest). z.session) q ∙ (let e = eqb-true y.session.0 u.0 t in λ j. record { 0 = e j })))
    (λ t e. let r = newest-in u ns x e in (inr r.0, r.1))
