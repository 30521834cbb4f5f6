-- Histories whose items descend by the turns of their callers, cut below a turn.
use Rattle.hx_law_lemmas.proofs.Lemmas.Vocabulary.{[], ap, arith, Bool, cases_Bool, cases_order, cond, cond-false, cond-true, EachOnce, false}
use Rattle.hx_law_lemmas.proofs.Lemmas.Vocabulary.{false_from_ne_true, false≢true, filter, inl, inr, IsBefore, IsEffect, IsIn, IsLegal, Item, List, lt-ltb}
use Rattle.hx_law_lemmas.proofs.Lemmas.Vocabulary.{ltb-true, nat_lt, object_now, refl, Space, subst, sym, true, ℕ, ⊤, ◌+◌, ◌<◌, ◌∙◌, ◌∷◌, ◌≡◌, ◌≢◌, ◌≤◌, ◌⊎◌}
use Rattle.hx_law_soak.proofs.Turns.{rank}

-- each item is of a later turn than those below it
abbrev pub Descends : List Item → Type 0
Descends [] = ⊤
Descends (x ∷ older) = ((y : Item) → IsIn y older → rank y.caller < rank x.caller) × Descends older

-- who stands after another stands there
before-last : (xs : List Item) (y x : Item) → IsBefore y x xs → IsIn x xs
before-last [] y x b = absurd b
before-last (z ∷ xs) y x (inl h) = inr h.1
before-last (z ∷ xs) y x (inr h) = inr (before-last xs y x h)

-- items of which each stands once, one of two always after the other by their turns
pub descending : (xs : List Item) → EachOnce xs
    → ((x y : Item) → IsIn x xs → IsIn y xs → rank x.caller ≡ rank y.caller → x.caller ≡ y.caller)
    → ((x y : Item) → IsIn x xs → IsIn y xs → rank x.caller < rank y.caller → IsBefore y x xs)
    → Descends xs
descending [] once same ordered = tt
descending (x ∷ older) once same ordered = (
  λ y i. elim (cases_order (rank y.caller) (rank x.caller)) [
    | inl e ↦ absurd (once.0 y i (same y x (inr i) (inl refl) e))
    | inr (inl l) ↦ l
    | inr (inr l) ↦ absurd (elim (ordered x y (inl refl) (inr i) l) [
      | inl h ↦ once.0 x h.1 refl
      | inr h ↦ once.0 x (before-last older y x h) refl
    ])
  ],
  descending older once.1 (λ y z i j. same y z (inr i) (inr j)) (λ y z i j l. elim (ordered y z (inr i) (inr j) l) [
    | inl h ↦ absurd (once.0 z j (ap (λ (w : Item). w.caller) h.0))
    | inr h ↦ h
  ]),
)

-- the items below a turn
abbrev pub is_below : ℕ → Item → Bool
is_below turn x = nat_lt (rank x.caller) (turn + 5)

abbrev pub cut_below : ℕ → List Item → List Item
cut_below turn xs = filter (is_below turn) xs

-- all of them, where all are below
pub cut-all : (turn : ℕ) (xs : List Item) → ((x : Item) → IsIn x xs → rank x.caller < turn + 5) → cut_below turn xs ≡ xs
cut-all turn [] f = refl
cut-all turn (x ∷ xs) f = cond-true (is_below turn x) (x ∷ cut_below turn xs) (cut_below turn xs)
    (lt-ltb (rank x.caller) (turn + 5) (f x (inl refl))) ∙ ap (λ (l : List Item). x ∷ l) (cut-all turn xs (λ y i. f y (inr i)))

-- none, where none is
pub cut-none : (turn : ℕ) (xs : List Item) → ((x : Item) → IsIn x xs → turn + 5 ≤ rank x.caller) → cut_below turn xs ≡ []
cut-none turn [] f = refl
cut-none turn (x ∷ xs) f = cond-false (is_below turn x) (x ∷ cut_below turn xs) (cut_below turn xs)
    (not-below turn x (f x (inl refl))) ∙ cut-none turn xs (λ y i. f y (inr i))
  where
    not-below : (turn : ℕ) (x : Item) → turn + 5 ≤ rank x.caller → is_below turn x ≡ false
    not-below turn x l = false_from_ne_true (is_below turn x) (λ t. let m = ltb-true (rank x.caller) (turn + 5) t in omega (arith, l, m))

-- a turn that no item is of changes nothing
pub cut-other : (turn : ℕ) (xs : List Item) → ((x : Item) → IsIn x xs → rank x.caller ≢ turn + 5) → cut_below (turn + 1) xs ≡ cut_below turn xs
cut-other turn [] f = refl
cut-other turn (x ∷ xs) f =
    ap (λ (b : Bool). cond b (x ∷ cut_below (turn + 1) xs) (cut_below (turn + 1) xs)) (same-test (cases_Bool (is_below turn x)))
    ∙ ap (λ (l : List Item). cond (is_below turn x) (x ∷ l) l) (cut-other turn xs (λ y i. f y (inr i)))
  where
    same-test : (is_below turn x ≡ true) ⊎ (is_below turn x ≡ false) → is_below (turn + 1) x ≡ is_below turn x
    same-test (inl t) = (let l = ltb-true (rank x.caller) (turn + 5) t in lt-ltb (rank x.caller) (turn + 1 + 5) (omega (arith, l)) ∙ sym t)
    same-test (inr t) =
        false_from_ne_true (is_below (turn + 1) x)
        (λ u. (let l = ltb-true (rank x.caller) (turn + 1 + 5) u in let n = f x (inl refl) in
        false≢true (sym t ∙ lt-ltb (rank x.caller) (turn + 5) (omega (arith, l, n)))))
        ∙ sym t

-- a turn that an item is of adds it: it is the effect on the object after those below
pub cut-more : (space : Space) (turn : ℕ) (xs : List Item) → Descends xs → IsLegal space xs → (x : Item) → IsIn x xs → rank x.caller ≡ turn + 5
    → (cut_below (turn + 1) xs ≡ x ∷ cut_below turn xs) × IsEffect space (object_now (cut_below turn xs)) x
cut-more space turn [] d l x i e = absurd i
cut-more space turn (y ∷ older) d l x (inl q) e =
    let own : rank y.caller ≡ turn + 5 = ap (λ (z : Item). rank z.caller) (sym q) ∙ e in
    let rest : cut_below turn older ≡ older = cut-all turn older (λ z i. let m = d.0 z i in omega (arith, m, own)) in
    let more : cut_below (turn + 1) older ≡ older = cut-all (turn + 1) older (λ z i. let m = d.0 z i in omega (arith, m, own)) in
    let here : cut_below turn (y ∷ older) ≡ older =
    cond-false (is_below turn y) (y ∷ cut_below turn older) (cut_below turn older)
    (false_from_ne_true (is_below turn y) (λ t. let m = ltb-true (rank y.caller) (turn + 5) t in
    omega (arith, m, own))) ∙ rest in
    let next : cut_below (turn + 1) (y ∷ older) ≡ y ∷ older =
    cond-true (is_below (turn + 1) y) (y ∷ cut_below (turn + 1) older) (cut_below (turn + 1) older)
    (lt-ltb (rank y.caller) (turn + 1 + 5) (omega (arith, own))) ∙ ap (λ (z : List Item). y ∷ z) more in (
      next ∙ ap (λ (z : Item). z ∷ older) (sym q) ∙ ap (λ (z : List Item). x ∷ z) (sym here),
      subst (λ (z : List Item). IsEffect space (object_now z) x) (sym here) (subst (IsEffect space (object_now older)) (sym q) l.0),
    )
cut-more space turn (y ∷ older) d l x (inr i) e =
    let r = cut-more space turn older d.1 l.1 x i e in
    let high = d.0 x i in
    let here : cut_below turn (y ∷ older) ≡ cut_below turn older =
    cond-false (is_below turn y) (y ∷ cut_below turn older) (cut_below turn older)
    (false_from_ne_true (is_below turn y) (λ t. let m = ltb-true (rank y.caller) (turn + 5) t in
    omega (arith, m, high, e))) in
    let next : cut_below (turn + 1) (y ∷ older) ≡ cut_below (turn + 1) older =
    cond-false (is_below (turn + 1) y) (y ∷ cut_below (turn + 1) older) (cut_below (turn + 1) older)
    (false_from_ne_true (is_below (turn + 1) y) (λ t. let m = ltb-true (rank y.caller) (turn + 1 + 5) t in
    omega (arith, m, high, e))) in (
      next ∙ r.0 ∙ ap (λ (z : List Item). x ∷ z) (sym here),
      subst (λ (z : List Item). IsEffect space (object_now z) x) (sym here) r.1,
    )
