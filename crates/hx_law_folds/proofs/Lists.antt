-- What holds of all of a list; lists of updates parted at a version, and folds over them.
use Rattle.hx_law_folds.proofs.Vocabulary.{[], above, AllByRecursion, ap, append_assoc, arith, Bool, cond, cond-false, cond-true, cond_both, false, filter}
use Rattle.hx_law_folds.proofs.Vocabulary.{find, kept_row, le-leb, leb, leb-true, List, map, Mark, marks_after, None, Option, pending_above, refl, RegionId}
use Rattle.hx_law_folds.proofs.Vocabulary.{Row, Some, subst, sym, top_above, Touch, touches_after, true, Update, upto, when_some, ℕ, ◌++◌, ◌∙◌, ◌∷◌, ◌≡◌, ◌≤◌}
use Rattle.hx_model.specs.Slots.{kept_after, mark_by, with_mark, with_touches}

-- what holds of all of a list
pub all-append : {A : Type 0} (P : A → Type 0) (xs ys : List A) → AllByRecursion P xs → AllByRecursion P ys → AllByRecursion P (xs ++ ys)
all-append P [] ys h k = k
all-append P (x ∷ xs) ys h k = (h.0, all-append P xs ys h.1 k)

pub all-weaker : {A : Type 0} (P Q : A → Type 0) → ((x : A) → P x → Q x) → (xs : List A) → AllByRecursion P xs → AllByRecursion Q xs
all-weaker P Q f [] h = tt
all-weaker P Q f (x ∷ xs) h = (f x h.0, all-weaker P Q f xs h.1)

pub all-filter : {A : Type 0} (P : A → Type 0) (test : A → Bool) (xs : List A) → AllByRecursion P xs → AllByRecursion P (filter test xs)
all-filter P test [] h = tt
all-filter P test (x ∷ xs) h =
    cond_both (test x) (x ∷ filter test xs) (filter test xs) (AllByRecursion P)
    (λ e. (h.0, all-filter P test xs h.1))
    (λ e. all-filter P test xs h.1)

-- the same of what is found
pub all-find : {A : Type 0} (P : A → Type 0) (test : A → Bool) (xs : List A) (x : A) → AllByRecursion P xs → find test xs ≡ Some x → P x × (test x ≡ true)
all-find P test [] x h = λ e. absurd (cc)
all-find P test (y ∷ xs) x h =
    cond_both (test y) (Some y) (find test xs) (λ o. o ≡ Some x → P x × (test x ≡ true))
    (λ b e. let s : y ≡ x = cc in (subst P s h.0, ap test (sym s) ∙ b))
    (λ b e. all-find P test xs x h.1 e)

pub all-map : {A B : Type 0} (P : A → Type 0) (Q : B → Type 0) (f : A → B) → ((x : A) → P x → Q (f x)) → (xs : List A) → AllByRecursion P xs
    → AllByRecursion Q (map f xs)
all-map P Q f k [] h = tt
all-map P Q f k (x ∷ xs) h = (k x h.0, all-map P Q f k xs h.1)

pub all-made : {A B : Type 0} (Q : B → Type 0) (f : A → B) → ((x : A) → Q (f x)) → (xs : List A) → AllByRecursion Q (map f xs)
all-made Q f k [] = tt
all-made Q f k (x ∷ xs) = (k x, all-made Q f k xs)

pub when_some_both : {A B : Type 0} (o : Option A) (d : B) (g : A → B) (P : B → Type 0) → (o ≡ None → P d)
    → ((x : A) → o ≡ Some x → P (g x)) → P (when_some o d g)
when_some_both None d g P n f = n refl
when_some_both (Some x) d g P n f = f x refl

-- what is above a version and what is up to it are the list
pub parted : (v : ℕ) (us : List Update) → above v us ++ upto v us ≡ us
parted v [] = refl
parted v (u ∷ older) =
    cond_both (leb u.version.0 v) [] (u ∷ above v older) (λ (l : List Update). l ++ upto v (u ∷ older) ≡ u ∷ older)
    (λ e. cond-true (leb u.version.0 v) _ _ e)
    (λ e. ap (λ (l : List Update). u ∷ (above v older ++ l)) (cond-false (leb u.version.0 v) _ _ e) ∙ ap (λ (l : List Update). u ∷ l) (parted v older))

-- folds over a joined list
pub top-append : (b : ℕ) (us vs : List Update) → top_above b (us ++ vs) ≡ top_above (top_above b vs) us
top-append b [] vs = refl
top-append b (u ∷ us) vs = refl

pub row-append : (g : RegionId) (b : Option Row) (us vs : List Update) → kept_row g b (us ++ vs) ≡ kept_row g (kept_row g b vs) us
row-append g b [] vs = refl
row-append g b (u ∷ us) vs = ap (kept_after g u) (row-append g b us vs)

pub marks-append : (b : List Mark) (us vs : List Update) → marks_after b (us ++ vs) ≡ marks_after (marks_after b vs) us
marks-append b [] vs = refl
marks-append b (u ∷ us) vs = ap (with_mark (mark_by u)) (marks-append b us vs)

pub touches-append : (b : List Touch) (us vs : List Update) → touches_after b (us ++ vs) ≡ touches_after (touches_after b vs) us
touches-append b [] vs = refl
touches-append b (u ∷ us) vs = ap (with_touches u.version u.places) (touches-append b us vs)

-- nothing of what is above a version is up to it
pub upto-above : (v : ℕ) (us : List Update) → upto v (above v us) ≡ []
upto-above v [] = refl
upto-above v (u ∷ older) =
    cond_both (leb u.version.0 v) [] (u ∷ above v older) (λ (l : List Update). upto v l ≡ [])
    (λ e. refl)
    (λ e. cond-false (leb u.version.0 v) _ _ e ∙ upto-above v older)

-- the same of a version that is no lower, with further updates in front
pub above-later : (v w : ℕ) (ns us : List Update) → v ≤ w → above w (ns ++ above v us) ≡ above w (ns ++ us)
above-later v w [] [] l = refl
above-later v w [] (u ∷ older) l =
    cond_both (leb u.version.0 v) [] (u ∷ above v older) (λ (k : List Update). above w k ≡ above w (u ∷ older))
    (λ e. let b = leb-true u.version.0 v e in sym (cond-true (leb u.version.0 w) _ _ (le-leb u.version.0 w (omega arith))))
    (λ e. ap (λ (k : List Update). cond (leb u.version.0 w) [] (u ∷ k)) (above-later v w [] older l))
above-later v w (n ∷ ns) us l = ap (λ (k : List Update). cond (leb n.version.0 w) [] (n ∷ k)) (above-later v w ns us l)

pub upto-later : (v w : ℕ) (ns us : List Update) → v ≤ w → upto w (ns ++ above v us) ++ upto v us ≡ upto w (ns ++ us)
upto-later v w [] [] l = refl
upto-later v w [] (u ∷ older) l =
    cond_both (leb u.version.0 v) [] (u ∷ above v older) (λ (k : List Update). upto w k ++ upto v (u ∷ older) ≡ upto w (u ∷ older))
    (
    λ e. let b = leb-true u.version.0 v e in
    cond-true (leb u.version.0 v) _ _ e ∙ sym (cond-true (leb u.version.0 w) _ _ (le-leb u.version.0 w (omega arith)))
    )
    (
    λ e. cond_both (leb u.version.0 w) (u ∷ above v older) (upto w (above v older)) (λ (k : List Update). k ++ upto v (u ∷ older) ≡ upto w (u ∷ older))
    (λ b. parted_false u v older e ∙ sym (cond-true (leb u.version.0 w) _ _ b))
    (λ b. ap (λ (k : List Update). upto w (above v older) ++ k) (cond-false (leb u.version.0 v) _ _ e)
    ∙ upto-later v w [] older l ∙ sym (cond-false (leb u.version.0 w) _ _ b))
    )
  where
    parted_false : (u : Update) (v : ℕ) (older : List Update) → leb u.version.0 v ≡ false → (u ∷ above v older) ++ upto v (u ∷ older) ≡ u ∷ older
    parted_false u v older e = ap (λ (k : List Update). u ∷ (above v older ++ k))
        (cond-false (leb u.version.0 v) _ _ e) ∙ ap (λ (k : List Update). u ∷ k) (parted v older)
upto-later v w (n ∷ ns) us l =
    cond_both (leb n.version.0 w) (n ∷ (ns ++ above v us)) (upto w (ns ++ above v us)) (λ (k : List Update). k ++ upto v us ≡ upto w (n ∷ (ns ++ us)))
    (
    λ e. ap (λ (k : List Update). n ∷ k) (append_assoc ns (above v us) (upto v us)
    ∙ ap (λ (k : List Update). ns ++ k) (parted v us)) ∙ sym (cond-true (leb n.version.0 w) _ _ e)
    )
    (λ e. upto-later v w ns us l ∙ sym (cond-false (leb n.version.0 w) _ _ e))

-- what is pending is what is above the version, the lowest first
pub pending-above : (v : ℕ) (us : List Update) → pending_above v (above v us) ≡ pending_above v us
pending-above v [] = refl
pending-above v (u ∷ older) =
    cond_both (leb u.version.0 v) [] (u ∷ above v older) (λ (l : List Update). pending_above v l ≡ pending_above v (u ∷ older))
    (λ e. sym (cond-true (leb u.version.0 v) _ _ e))
    (λ e. ap (λ (l : List Update). cond (leb u.version.0 v) [] (l ++ u ∷ [])) (pending-above v older))
