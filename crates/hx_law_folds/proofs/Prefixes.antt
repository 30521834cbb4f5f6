-- A base and the list on it are the line up to the top: what a slot shows are the folds of the line, and so it is without its past.
use Rattle.hx_law_folds.proofs.Vocabulary.{[], above, AllByRecursion, ap, append_assoc, arith, Bool, cond-false, cond-true, cond_both, Descends, filter, folded}
use Rattle.hx_law_folds.proofs.Vocabulary.{IsSlotOf, kept_of, kept_row, KeyState, latest_of, le-leb, leb, leb-false, leb-true, List, lt-leb, Mark, marks_after}
use Rattle.hx_law_folds.proofs.Vocabulary.{None, object_in, object_of, Option, provided, refl, RegionId, Row, sym, top_above, top_of, Touch, touches_after}
use Rattle.hx_law_folds.proofs.Vocabulary.{touches_of, true, Update, upto, ℕ, ◌++◌, ◌∙◌, ◌∷◌, ◌≡◌, ◌≤◌}
use Rattle.hx_model.specs.Holders.{IsPrefix, only_in}
use Rattle.hx_model.specs.Slots.{has_place}
use Rattle.hx_law_folds.proofs.Folds.{marks-parts, row-parts, top-folded, touches-parts}
use Rattle.hx_law_folds.proofs.Lists.{marks-append, parted, touches-append}
use Rattle.hx_law_folds.proofs.Lists.{all-filter, all-weaker}

-- no version is above a bound
abbrev pub UpTo : ℕ → List Update → Type 0
UpTo v us = AllByRecursion (λ (u : Update). u.version.0 ≤ v) us

upto-whole : (v : ℕ) (us : List Update) → UpTo v us → upto v us ≡ us
upto-whole v [] h = refl
upto-whole v (u ∷ us) h = cond-true (leb u.version.0 v) _ _ (le-leb u.version.0 v h.0)

-- versions that descend are at most the first
below-top : (b : ℕ) (us : List Update) → Descends b us → UpTo (top_above b us) us
below-top b [] h = tt
below-top b (u ∷ older) h = (
  omega arith,
  all-weaker (λ (w : Update). w.version.0 ≤ top_above b older)
      (λ (w : Update). w.version.0 ≤ u.version.0) (λ w k. (let d = h.0 in omega (arith, d, k))) older (below-top b older h.1),
)

descends-upto : (b v : ℕ) (us : List Update) → Descends b us → Descends b (upto v us)
descends-upto b v [] h = tt
descends-upto b v (u ∷ older) h = cond_both (leb u.version.0 v) (u ∷ older) (upto v older) (Descends b) (λ e. h) (λ e. descends-upto b v older h.1)

upto-below : (b v : ℕ) (us : List Update) → Descends b us → UpTo v (upto v us)
upto-below b v [] h = tt
upto-below b v (u ∷ older) h =
    cond_both (leb u.version.0 v) (u ∷ older) (upto v older) (UpTo v)
    (λ e. let l = leb-true u.version.0 v e in all-weaker (λ (w : Update). w.version.0 ≤ u.version.0)
    (λ (w : Update). w.version.0 ≤ v) (λ w k. omega (arith, l, k)) (u ∷ older) (below-top b (u ∷ older) h))
    (λ e. upto-below b v older h.1)

upto-upto : (v w : ℕ) (us : List Update) → v ≤ w → upto v (upto w us) ≡ upto v us
upto-upto v w [] l = refl
upto-upto v w (u ∷ older) l =
    cond_both (leb u.version.0 w) (u ∷ older) (upto w older) (λ (x : List Update). upto v x ≡ upto v (u ∷ older))
    (λ e. refl)
    (λ e. let b = leb-false u.version.0 w e in upto-upto v w older l ∙ sym (cond-false (leb u.version.0 v) _ _ (lt-leb u.version.0 v (omega arith))))

upto-filter : (b v : ℕ) (test : Update → Bool) (us : List Update) → Descends b us → upto v (filter test us) ≡ filter test (upto v us)
upto-filter b v test [] h = refl
upto-filter b v test (u ∷ older) h =
    cond_both (leb u.version.0 v) (u ∷ older) (upto v older) (λ (x : List Update). upto v (filter test (u ∷ older)) ≡ filter test x)
    (
    λ e. let l = leb-true u.version.0 v e in
    upto-whole v (filter test (u ∷ older))
    (
    all-filter (λ (w : Update). w.version.0 ≤ v) test (u ∷ older)
    (all-weaker (λ (w : Update). w.version.0 ≤ u.version.0) (λ (w : Update). w.version.0 ≤ v)
    (λ w k. omega (arith, l, k)) (u ∷ older) (below-top b (u ∷ older) h))
    )
    )
    (
    λ e. cond_both (test u) (u ∷ filter test older) (filter test older) (λ (x : List Update). upto v x ≡ filter test (upto v older))
    (λ t. cond-false (leb u.version.0 v) _ _ e ∙ upto-filter b v test older h.1)
    (λ t. upto-filter b v test older h.1)
    )

upto-over : (v : ℕ) (us vs : List Update) → UpTo v vs → upto v (us ++ vs) ≡ upto v us ++ vs
upto-over v [] vs h = upto-whole v vs h
upto-over v (u ∷ us) vs h =
    cond_both (leb u.version.0 v) (u ∷ us) (upto v us) (λ (x : List Update). upto v (u ∷ (us ++ vs)) ≡ x ++ vs)
    (λ e. cond-true (leb u.version.0 v) _ _ e)
    (λ e. cond-false (leb u.version.0 v) _ _ e ∙ upto-over v us vs h)

-- a base is no higher than the list on it
pub base-top : (b : ℕ) (us : List Update) → Descends b us → b ≤ top_above b us
base-top b [] h = omega arith
base-top b (u ∷ older) h = let t = base-top b older h.1 in let d = h.0 in omega (arith, t, d)

pub base-floor : (g : RegionId) (s : KeyState) → IsSlotOf g s → s.base.floor.0 ≤ s.floor
base-floor g s h = let t = base-top s.base.floor.0 (upto s.floor s.accepted)
    (descends-upto s.base.floor.0 s.floor s.accepted h.descends) in let e = h.floor in omega (arith, t, e)

module _ (g : RegionId) (line : List Update) (down : Descends 0 line) (s : KeyState) (h : IsSlotOf g s) (p : IsPrefix g line s) where
  -- the line's updates up to the floor are those of the base with the committed ones
  pub committed-line : upto s.floor s.accepted ++ only_in g (upto s.base.floor.0 line) ≡ only_in g (upto s.floor line)
  committed-line =
      let low = base-floor g s h in
      let rest = only_in g (upto s.base.floor.0 line) in
      let few = all-weaker (λ (u : Update). u.version.0 ≤ s.base.floor.0) (λ (u : Update). u.version.0 ≤ s.floor)
      (λ u k. omega (arith, low, k)) rest (all-filter (λ (u : Update). u.version.0 ≤ s.base.floor.0) (has_place g)
      (upto s.base.floor.0 line) (upto-below 0 s.base.floor.0 line down)) in
      sym (upto-over s.floor s.accepted rest few)
      ∙ sym (ap (upto s.floor) p.list)
      ∙ upto-filter 0 s.floor (has_place g) (upto (top_of s) line) (descends-upto 0 (top_of s) line down)
      ∙ ap (only_in g) (upto-upto s.floor (top_of s) line p.floor)

  -- what is shown are the folds of the line
  pub object-line : object_of g s ≡ kept_row g None (only_in g (upto s.floor line))
  object-line = ap (λ (o : Option Row). kept_row g o (upto s.floor s.accepted)) p.object
      ∙ row-parts g None (upto s.floor s.accepted) (only_in g (upto s.base.floor.0 line))
      (only_in g (upto s.floor line)) committed-line

  pub latest-line : latest_of g s ≡ object_in (kept_row g None (only_in g (upto (top_of s) line)))
  latest-line = ap object_in (ap (λ (o : Option Row). kept_row g o s.accepted) p.object
      ∙ row-parts g None s.accepted (only_in g (upto s.base.floor.0 line)) (only_in g (upto (top_of s) line)) (sym p.list))

  pub marks-line : s.marks ≡ true → marks_after s.base.marks s.accepted ≡ marks_after [] (only_in g (upto (top_of s) line))
  marks-line m =
      ap (λ (l : List Mark). marks_after l s.accepted) (p.marks ∙ ap (λ b. provided b (marks_after [] (only_in g (upto s.base.floor.0 line)))) m)
      ∙ sym (marks-append [] s.accepted (only_in g (upto s.base.floor.0 line)))
      ∙ ap (marks_after []) (sym p.list)

  pub touches-line : s.marks ≡ true → touches_of s ≡ touches_after [] (only_in g (upto (top_of s) line))
  touches-line m =
      ap (λ (l : List Touch). touches_after l s.accepted) (p.touches ∙ ap (λ b. provided b (touches_after [] (only_in g (upto s.base.floor.0 line)))) m)
      ∙ sym (touches-append [] s.accepted (only_in g (upto s.base.floor.0 line)))
      ∙ ap (touches_after []) (sym p.list)

  -- the committed marks and touches
  pub kept-marks-line : (kept_of g s).marks ≡ provided s.marks (marks_after [] (only_in g (upto s.floor line)))
  kept-marks-line =
      ap (λ (l : List Mark). provided s.marks (marks_after l (upto s.floor s.accepted))) p.marks
      ∙ marks-parts s.marks [] (upto s.floor s.accepted) (only_in g (upto s.base.floor.0 line)) (only_in g (upto s.floor line)) committed-line

  pub kept-touches-line : (kept_of g s).touches ≡ provided s.marks (touches_after [] (only_in g (upto s.floor line)))
  kept-touches-line =
      ap (λ (l : List Touch). provided s.marks (touches_after l (upto s.floor s.accepted))) p.touches
      ∙ touches-parts s.marks [] (upto s.floor s.accepted) (only_in g (upto s.base.floor.0 line)) (only_in g (upto s.floor line)) committed-line

  -- the slot without its past is such a base with such a list too
  pub prefix-folded : IsPrefix g line (folded g s)
  prefix-folded =
      let top = top-folded g s h.floor in
      record {
        list = ap (λ v. only_in g (upto v line)) top
            ∙ p.list
            ∙ ap (λ (l : List Update). l ++ only_in g (upto s.base.floor.0 line)) (sym (parted s.floor s.accepted))
            ∙ append_assoc (above s.floor s.accepted) (upto s.floor s.accepted) (only_in g (upto s.base.floor.0 line))
            ∙ ap (λ (l : List Update). above s.floor s.accepted ++ l) committed-line;
        object = object-line;
        marks = kept-marks-line;
        touches = kept-touches-line;
        floor = (let l = p.floor in omega (arith, l, top));
      }
