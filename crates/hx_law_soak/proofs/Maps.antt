-- Maps as lists of objects in byte order of their keys: what a key has, what stays where one object is put, and that two with the same objects are one.
use Rattle.hx_law_lemmas.proofs.Lemmas.Vocabulary.{[], ap, cases_Bool, cond, cond-false, cond-true, cond_both, eq_of_same_text, false, false_from_ne_true}
use Rattle.hx_law_lemmas.proofs.Lemmas.Vocabulary.{false≢true, inl, inr, IsIn, List, None, Option, refl, same_text, same_text_self, Some, subst, sym}
use Rattle.hx_law_lemmas.proofs.Lemmas.Vocabulary.{text_below, true, Value, ℕ, ◌++◌, ◌∙◌, ◌∷◌, ◌≡◌, ◌⊎◌}
use Rattle.hx_law_lemmas.proofs.Lemmas.{Ascend}
use Rattle.hx_types.proofs.Lemmas.{text_below-apart, text_below-other, text_below-trans}
use Rattle.hx_soak.specs.Tallying.{KeyObject}
use Rattle.hx_law_soak.specs.Sequence.{keyed, object_at, with_object}

abbrev pub key_of_object : KeyObject → List ℕ
key_of_object o = o.key

abbrev pub IsMap : List KeyObject → Type 0
IsMap objects = Ascend key_of_object objects

pub text-same : (a b : List ℕ) → a ≡ b → same_text a b ≡ true
text-same a b e = subst (λ (t : List ℕ). same_text a t ≡ true) e (same_text_self a)

-- texts that differ aren't the same
pub text-differs : (a b : List ℕ) → (a ≡ b → ⊥) → same_text a b ≡ false
text-differs a b n = false_from_ne_true (same_text a b) (λ t. n (eq_of_same_text a b t))

-- ---- what a key has

-- the first object of its key
pub at-first : (o : KeyObject) (rest : List KeyObject) → object_at o.key (o ∷ rest) ≡ Some o.object
at-first o rest = cond-true (same_text o.key o.key) (Some o.object) (object_at o.key rest) (same_text_self o.key)

-- further ones of another key
pub at-rest : (key : List ℕ) (o : KeyObject) (rest : List KeyObject) → (o.key ≡ key → ⊥) → object_at key (o ∷ rest) ≡ object_at key rest
at-rest key o rest n = cond-false (same_text o.key key) (Some o.object) (object_at key rest) (text-differs o.key key n)

-- a key of no object
pub at-none : (key : List ℕ) (objects : List KeyObject) → ((o : KeyObject) → IsIn o objects → o.key ≡ key → ⊥) → object_at key objects ≡ None
at-none key [] f = refl
at-none key (o ∷ rest) f = at-rest key o rest (f o (inl refl)) ∙ at-none key rest (λ p i. f p (inr i))

-- keys above a key are others
above : (key : List ℕ) (objects : List KeyObject) → ((o : KeyObject) → IsIn o objects → text_below key o.key ≡ true) → object_at key objects ≡ None
above key objects f = at-none key objects (λ o i e. text_below-apart key o.key (f o i) (sym e))

-- keys above one that is above
above-first : (key : List ℕ) (o : KeyObject) (rest : List KeyObject) → IsMap (o ∷ rest) → text_below key o.key ≡ true → object_at key (o ∷ rest) ≡ None
above-first key o rest m l = above key (o ∷ rest) f
  where
    f : (p : KeyObject) → IsIn p (o ∷ rest) → text_below key p.key ≡ true
    f p (inl e) = subst (λ (q : KeyObject). text_below key q.key ≡ true) (sym e) l
    f p (inr i) = text_below-trans key o.key p.key l (m.0 p i)

-- one object of a key before others
keyed-at : (key : List ℕ) (object : Option (List Value)) (rest : List KeyObject) → object_at key rest ≡ None → object_at key (keyed key object ++ rest) ≡ object
keyed-at key None rest e = e
keyed-at key (Some v) rest e = at-first (record { key = key; object = v }) rest

keyed-other : (key other : List ℕ) (object : Option (List Value)) (rest : List KeyObject) → (key ≡ other → ⊥)
    → object_at other (keyed key object ++ rest) ≡ object_at other rest
keyed-other key other None rest n = refl
keyed-other key other (Some v) rest n = at-rest other (record { key = key; object = v }) rest n

-- the key has what was put
pub put-at : (key : List ℕ) (object : Option (List Value)) (objects : List KeyObject) → IsMap objects → object_at key (with_object key object objects) ≡ object
put-at key object [] m = by object
  where
    by : (v : Option (List Value)) → object_at key (keyed key v) ≡ v
    by None = refl
    by (Some v) = at-first (record { key = key; object = v }) []
put-at key object (o ∷ rest) m =
    cond_both (same_text key o.key) (keyed key object ++ rest)
    (cond (text_below key o.key) (keyed key object ++ o ∷ rest) (o ∷ with_object key object rest))
    (λ (l : List KeyObject). object_at key l ≡ object)
    (λ t. keyed-at key object rest (above key rest (λ p i. subst (λ (k : List ℕ). text_below k p.key ≡ true) (sym (eq_of_same_text key o.key t)) (m.0 p i))))
    (
    λ t. cond_both (text_below key o.key) (keyed key object ++ o ∷ rest) (o ∷ with_object key object rest) (λ (l : List KeyObject). object_at key l ≡ object)
    (λ l. keyed-at key object (o ∷ rest) (above-first key o rest m l))
    (λ l. at-rest key o (with_object key object rest) (λ e. false≢true (sym t ∙ text-same key o.key (sym e))) ∙ put-at key object rest m.1)
    )

-- another key has what it had
pub put-other : (key other : List ℕ) (object : Option (List Value)) (objects : List KeyObject) → (key ≡ other → ⊥)
    → object_at other (with_object key object objects) ≡ object_at other objects
put-other key other object [] n = by object
  where
    by : (v : Option (List Value)) → object_at other (keyed key v) ≡ None
    by None = refl
    by (Some v) = at-rest other (record { key = key; object = v }) [] n
put-other key other object (o ∷ rest) n =
    cond_both (same_text key o.key) (keyed key object ++ rest)
    (cond (text_below key o.key) (keyed key object ++ o ∷ rest) (o ∷ with_object key object rest))
    (λ (l : List KeyObject). object_at other l ≡ object_at other (o ∷ rest))
    (λ t. keyed-other key other object rest n ∙ sym (at-rest other o rest (λ e. n (eq_of_same_text key o.key t ∙ e))))
    (
    λ t. cond_both (text_below key o.key) (keyed key object ++ o ∷ rest) (o ∷ with_object key object rest)
    (λ (l : List KeyObject). object_at other l ≡ object_at other (o ∷ rest))
    (λ l. keyed-other key other object (o ∷ rest) n)
    (λ l. ap (λ (v : Option (List Value)). cond (same_text o.key other) (Some o.object) v) (put-other key other object rest n))
    )

-- ---- the order of keys

-- what stands in a map into which an object was put
put-in : (key : List ℕ) (object : Option (List Value)) (objects : List KeyObject) (p : KeyObject)
    → IsIn p (with_object key object objects) → (p.key ≡ key) ⊎ IsIn p objects
put-in key object [] p = λ i. inl (by object i)
  where
    by : (v : Option (List Value)) → IsIn p (keyed key v) → p.key ≡ key
    by None i = absurd i
    by (Some v) (inl e) = ap (λ (q : KeyObject). q.key) e
    by (Some v) (inr i) = absurd i
put-in key object (o ∷ rest) p =
    cond_both (same_text key o.key) (keyed key object ++ rest)
    (cond (text_below key o.key) (keyed key object ++ o ∷ rest) (o ∷ with_object key object rest))
    (λ (l : List KeyObject). IsIn p l → (p.key ≡ key) ⊎ IsIn p (o ∷ rest))
    (λ t i. elim (first object rest i) [ inl e ↦ inl e | inr j ↦ inr (inr j) ])
    (
    λ t. cond_both (text_below key o.key) (keyed key object ++ o ∷ rest) (o ∷ with_object key object rest)
    (λ (l : List KeyObject). IsIn p l → (p.key ≡ key) ⊎ IsIn p (o ∷ rest))
    (λ l i. first object (o ∷ rest) i)
    (λ l i. elim i [ inl e ↦ inr (inl e) | inr j ↦ elim (put-in key object rest p j) [ inl e ↦ inl e | inr k ↦ inr (inr k) ] ])
    )
  where
    first : (v : Option (List Value)) (more : List KeyObject) → IsIn p (keyed key v ++ more) → (p.key ≡ key) ⊎ IsIn p more
    first None more i = inr i
    first (Some v) more (inl e) = inl (ap (λ (q : KeyObject). q.key) e)
    first (Some v) more (inr i) = inr i

keyed-map : (key : List ℕ) (object : Option (List Value)) (rest : List KeyObject) → IsMap rest
    → ((p : KeyObject) → IsIn p rest → text_below key p.key ≡ true) → IsMap (keyed key object ++ rest)
keyed-map key None rest m f = m
keyed-map key (Some v) rest m f = (f, m)

-- a map stays one
pub put-map : (key : List ℕ) (object : Option (List Value)) (objects : List KeyObject) → IsMap objects → IsMap (with_object key object objects)
put-map key object [] m = by object
  where
    by : (v : Option (List Value)) → IsMap (keyed key v)
    by None = tt
    by (Some v) = ((λ p i. absurd i), tt)
put-map key object (o ∷ rest) m =
    cond_both (same_text key o.key) (keyed key object ++ rest)
    (cond (text_below key o.key) (keyed key object ++ o ∷ rest) (o ∷ with_object key object rest)) IsMap
    (λ t. keyed-map key object rest m.1 (λ p i. subst (λ (k : List ℕ). text_below k p.key ≡ true) (sym (eq_of_same_text key o.key t)) (m.0 p i)))
    (
    λ t. cond_both (text_below key o.key) (keyed key object ++ o ∷ rest) (o ∷ with_object key object rest) IsMap
    (λ l. keyed-map key object (o ∷ rest) m (λ p i. up l p i))
    (λ l. (
      λ p i. elim (put-in key object rest p i) [
        | inl e ↦ subst (λ (k : List ℕ). text_below o.key k ≡ true) (sym e) (text_below-other key o.key t l)
        | inr j ↦ m.0 p j
      ],
      put-map key object rest m.1,
    ))
    )
  where
    up : text_below key o.key ≡ true → (p : KeyObject) → IsIn p (o ∷ rest) → text_below key p.key ≡ true
    up l p (inl e) = subst (λ (q : KeyObject). text_below key q.key ≡ true) (sym e) l
    up l p (inr i) = text_below-trans key o.key p.key l (m.0 p i)

-- ---- two maps in which each key has the same

pub same-maps : (xs ys : List KeyObject) → IsMap xs → IsMap ys → ((key : List ℕ) → object_at key xs ≡ object_at key ys) → xs ≡ ys
same-maps [] [] m n f = refl
same-maps [] (p ∷ ys) m n f = absurd (let e : None ≡ Some p.object = f p.key ∙ at-first p ys in cc)
same-maps (o ∷ xs) [] m n f = absurd (let e : Some o.object ≡ None = sym (at-first o xs) ∙ f o.key in cc)
same-maps (o ∷ xs) (p ∷ ys) m n f = elim (cases_Bool (same_text o.key p.key)) [
  | inl t ↦ (let e = eq_of_same_text o.key p.key t in one e (same-maps xs ys m.1 n.1 (tails e)))
  | inr t ↦ elim (cases_Bool (text_below o.key p.key)) [
    | inl l ↦ absurd (let e : Some o.object ≡ None = sym (at-first o xs) ∙ f o.key ∙ above-first o.key p ys n l in cc)
    | inr l ↦ absurd (let e : None ≡ Some p.object = sym (above-first p.key o xs m (text_below-other o.key p.key t l)) ∙ f p.key ∙ at-first p ys in cc)
  ]
]
  where
    tails : o.key ≡ p.key → (key : List ℕ) → object_at key xs ≡ object_at key ys
    tails e key = elim (cases_Bool (same_text o.key key)) [
      | inl t ↦ (let q : o.key ≡ key = eq_of_same_text o.key key t in
          above key xs (λ w i. subst (λ (k : List ℕ). text_below k w.key ≡ true) q (m.0 w i))
          ∙ sym (above key ys (λ w i. subst (λ (k : List ℕ). text_below k w.key ≡ true) (sym e ∙ q) (n.0 w i))))
      | inr t ↦ (let d : o.key ≡ key → ⊥ = (λ q. false≢true (sym t ∙ text-same o.key key q)) in
          sym (at-rest key o xs d) ∙ f key ∙ at-rest key p ys (λ q. d (e ∙ q)))
    ]

    one : o.key ≡ p.key → xs ≡ ys → o ∷ xs ≡ p ∷ ys
    one e same =
        let v : Some o.object ≡ Some p.object = sym (at-first o xs) ∙ f o.key ∙ ap (λ (k : List ℕ). object_at k (p ∷ ys)) e ∙ at-first p ys in
        let w : o.object ≡ p.object = cc in
        let head : o ≡ p = (λ i. record { key = e i; object = w i }) in
        ap (λ (q : KeyObject). q ∷ xs) head ∙ ap (λ (l : List KeyObject). p ∷ l) same
