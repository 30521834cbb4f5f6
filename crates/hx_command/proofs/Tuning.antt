-- Items of a list that are changed one after the other.
use Rattle.std.proofs.Common.{◌≡◌, ◌∙◌, ◌+◌, ◌<◌, ◌≤◌, ◌⊎◌, ⊎_elim, inl, inr, ℕ, zero, suc, List, [], ◌∷◌, length}
use Rattle.std.proofs.Common.{get_or, set, slice_get, Some, refl, ap, sym, arith, rules}
use Rattle.std.specs.Prelude.{◌≢◌}
use Rattle.std.proofs.lemmas.Option.{slice_get_within, slice_get-get_or}

some_inj : {A : Type 0} (x y : A) → Some x ≡ Some y → x ≡ y
some_inj x y e = cc

module _ {A B : Type 0} (of : A → B) (change : B → B) where
  -- the item at the place is changed
  abbrev pub ChangesAt : ℕ → List A → List A → Type 0
  ChangesAt at xs ys = (f h : A) → slice_get xs at ≡ Some f → slice_get ys at ≡ Some h → of h ≡ change (of f)

  -- the items at all other places stay
  abbrev pub StaysBeside : ℕ → List A → List A → Type 0
  StaysBeside at xs ys = (i : ℕ) (f h : A) → i ≢ at → slice_get xs i ≡ Some f → slice_get ys i ≡ Some h → of h ≡ of f

  -- the first n items are changed
  abbrev pub ChangesBelow : ℕ → List A → List A → Type 0
  ChangesBelow n xs ys = (i : ℕ) (f h : A) → i < n → slice_get xs i ≡ Some f → slice_get ys i ≡ Some h → of h ≡ change (of f)

  -- the others stay
  abbrev pub StaysFrom : ℕ → List A → List A → Type 0
  StaysFrom n xs ys = (i : ℕ) (f h : A) → n ≤ i → slice_get xs i ≡ Some f → slice_get ys i ≡ Some h → of h ≡ of f

  pub stays_itself : (n : ℕ) (xs : List A) → StaysFrom n xs xs
  stays_itself n xs i f h le p q = ap of (some_inj h f (sym q ∙ p))

  pub set_changes : (xs : List A) (at : ℕ) (x y : A) → x ≡ get_or xs at x → of y ≡ change (of x) → ChangesAt at xs (set xs at y)
  set_changes [] at x y is made f h p q = absurd (search rules)
  set_changes (z ∷ zs) zero x y is made f h p q =
      let a : of h ≡ of y = ap of (some_inj h y (sym q)) in
      let b : change (of x) ≡ change (of f) = ap (λ w. change (of w)) (is ∙ some_inj z f p) in
      a ∙ made ∙ b
  set_changes (z ∷ zs) (suc at) x y is made f h p q = set_changes zs at x y is made f h p q

  pub set_stays : (xs : List A) (at : ℕ) (y : A) → StaysBeside at xs (set xs at y)
  set_stays [] at y i f h other p q = absurd (search rules)
  set_stays (z ∷ zs) zero y zero f h other p q = absurd (other refl)
  set_stays (z ∷ zs) zero y (suc i) f h other p q = ap of (some_inj h f (sym q ∙ p))
  set_stays (z ∷ zs) (suc at) y zero f h other p q = ap of (some_inj h f (sym q ∙ p))
  set_stays (z ∷ zs) (suc at) y (suc i) f h other p q = set_stays zs at y i f h (λ e. other (ap suc e)) p q

  module _ (n : ℕ) (xs ys zs : List A) (same : length ys ≡ length xs) (below : ChangesBelow n xs ys)
      (from : StaysFrom n xs ys) (here : ChangesAt n ys zs) (beside : StaysBeside n ys zs) where
    between : (i : ℕ) (f : A) → slice_get xs i ≡ Some f → slice_get ys i ≡ Some (get_or ys i f)
    between i f p = slice_get-get_or ys i f (omega (arith, same, slice_get_within xs i f p))

    pub one_more_changes : ChangesBelow (n + 1) xs zs
    one_more_changes i f h lt p q = by (below_or_at i n lt)
      where
        below_or_at : (i n : ℕ) → i < n + 1 → (i < n) ⊎ (i ≡ n)
        below_or_at zero zero lt = inr refl
        below_or_at zero (suc n) lt = inl (omega arith)
        below_or_at (suc i) zero lt = absurd (omega (arith, lt))
        below_or_at (suc i) (suc n) lt = ⊎_elim (λ (h : i < n). inl (omega (arith, h))) (λ (e : i ≡ n). inr (ap suc e)) (below_or_at i n (omega (arith, lt)))

        by : (i < n) ⊎ (i ≡ n) → of h ≡ change (of f)
        by (inl less) = beside i (get_or ys i f) h (λ e. omega (arith, less, e)) (between i f p) q ∙ below i f (get_or ys i f) less p (between i f p)
        by (inr e) =
            here (get_or ys i f) h (ap (slice_get ys) (sym e) ∙ between i f p) (ap (slice_get zs) (sym e) ∙ q)
            ∙ ap change (from i f (get_or ys i f) (omega (arith, e)) p (between i f p))

    pub one_fewer_stays : StaysFrom (n + 1) xs zs
    one_fewer_stays i f h le p q = beside i (get_or ys i f) h (λ e. omega (arith, le, e)) (between i f p) q
        ∙ from i f (get_or ys i f) (omega (arith, le)) p (between i f p)
