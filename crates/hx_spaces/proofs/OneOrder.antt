-- All entries of a course have one order.
use Rattle.std.proofs.Common.{◌≡◌, inl, inr, ℕ, suc, ◌+◌, ◌<◌, Bool, true, false, List, [], ◌∷◌, ◌++◌, length, map, reverse, drop}
use Rattle.std.proofs.Common.{refl, sym, ap, ◌∙◌, subst, arith, eqb}
use Rattle.std.proofs.lemmas.Bool.{cond-true, eq-eqb, eqb-true, false≢true}
use Rattle.std.proofs.lemmas.List.{append-nil, append_assoc, map-append, reverse-append, reverse-reverse}
use Rattle.std.specs.Prelude.{if◌then◌else◌, ◌==◌, IfSome, slice_get, slice_set, Option, Some}
use Rattle.hx_model.specs.Types.{Entry}
use Rattle.hx_types.specs.Words.{IsIn, first_of_list}
use Rattle.hx_law_lemmas.proofs.Lemmas.{all-in, map-in, of-reverse}
use Rattle.hx_world.specs.Worlds.{WorldState}
use Rattle.hx_bundle.specs.Bundles.{times}
use Rattle.hx_spaces.specs.Begins.{run_before}
use Rattle.hx_spaces.specs.Clusters.{IsCourse, traces_of}
use Rattle.hx_spaces.specs.Courses.{Course}
use Rattle.hx_spaces.specs.Following.{AreInOrder, EntriesHaveOneOrder, SpaceEntry, entries_of}
use Rattle.hx_spaces.proofs.Places.{get-map, get-mapped, get-set, get-set-other, get-set-same, length-map, some-same, something, within}

-- ---- the entries of one space

pub of-append : (k : ℕ) (xs ys : List SpaceEntry) → entries_of k (xs ++ ys) ≡ entries_of k xs ++ entries_of k ys
of-append k [] ys = refl
of-append k (x ∷ xs) ys = by (of-append k xs ys) (x.space == k) where
  by : entries_of k (xs ++ ys) ≡ entries_of k xs ++ entries_of k ys → (b : Bool)
      → (if b then x.entry ∷ entries_of k (xs ++ ys) else entries_of k (xs ++ ys))
      ≡ (if b then x.entry ∷ entries_of k xs else entries_of k xs) ++ entries_of k ys
  by e true = ap (λ (l : List Entry). x.entry ∷ l) e
  by e false = e

pub of-same : (k : ℕ) (x : SpaceEntry) (xs : List SpaceEntry) → x.space ≡ k → entries_of k (x ∷ xs) ≡ x.entry ∷ entries_of k xs
of-same k x xs e = cond-true (x.space == k) (x.entry ∷ entries_of k xs) (entries_of k xs) (eq-eqb x.space k e)

pub of-other : (k : ℕ) (x : SpaceEntry) (xs : List SpaceEntry) → (k ≡ x.space → ⊥) → entries_of k (x ∷ xs) ≡ entries_of k xs
of-other k x xs ne = by (x.space == k) refl where
  by : (b : Bool) → (x.space == k) ≡ b → (if b then x.entry ∷ entries_of k xs else entries_of k xs) ≡ entries_of k xs
  by true e = absurd (ne (sym (eqb-true x.space k e)))
  by false e = refl

pub of-reversed : (k : ℕ) (xs : List SpaceEntry) → entries_of k (reverse xs) ≡ reverse (entries_of k xs)
of-reversed k [] = refl
of-reversed k (x ∷ xs) =
    ap (λ (l : List SpaceEntry). entries_of k l) (reverse-append (x ∷ []) xs)
    ∙ of-append k (reverse xs) (x ∷ []) ∙ ap (λ (l : List Entry). l ++ entries_of k (x ∷ [])) (of-reversed k xs) ∙ by (x.space == k) where
      by : (b : Bool) → reverse (entries_of k xs) ++ (if b then x.entry ∷ [] else []) ≡ reverse (if b then x.entry ∷ entries_of k xs else entries_of k xs)
      by true = sym (reverse-append (x.entry ∷ []) (entries_of k xs))
      by false = append-nil (reverse (entries_of k xs))

pub map-reversed : {A B : Type 0} (f : A → B) (xs : List A) → map f (reverse xs) ≡ reverse (map f xs)
map-reversed f [] = refl
map-reversed f (x ∷ xs) =
    ap (λ (l : List _). map f l) (reverse-append (x ∷ []) xs)
    ∙ map-append f (reverse xs) (x ∷ []) ∙ ap (λ (l : List _). l ++ (f x ∷ [])) (map-reversed f xs) ∙ sym (reverse-append (f x ∷ []) (map f xs))

-- an entry of one space is one of all
pub of-in : (k : ℕ) (xs : List SpaceEntry) (e : Entry) → IsIn e (entries_of k xs) → (x : SpaceEntry) × IsIn x xs × (x.space ≡ k) × (x.entry ≡ e)
of-in k [] e = λ i. absurd i
of-in k (x ∷ xs) e = by (λ i. let r = of-in k xs e i in (r.0, inr r.1, r.2, r.3)) (x.space == k) refl where
  by : (IsIn e (entries_of k xs) → (y : SpaceEntry) × IsIn y (x ∷ xs) × (y.space ≡ k) × (y.entry ≡ e))
      → (b : Bool) → (x.space == k) ≡ b → IsIn e (if b then x.entry ∷ entries_of k xs else entries_of k xs)
      → (y : SpaceEntry) × IsIn y (x ∷ xs) × (y.space ≡ k) × (y.entry ≡ e)
  by later true t (inl q) = (x, inl refl, eqb-true x.space k t, sym q)
  by later true t (inr i) = later i
  by later false t i = later i

pub reversed-at : {A : Type 0} (xs : List A) (y : A) (zs : List A) → reverse (xs ++ (y ∷ zs)) ≡ reverse zs ++ (y ∷ reverse xs)
reversed-at xs y zs =
    reverse-append xs (y ∷ zs) ∙ ap (λ (l : List _). l ++ reverse xs) (reverse-append (y ∷ []) zs) ∙ append_assoc (reverse zs) (y ∷ []) (reverse xs)

-- ---- the order that the runs have, newest entry first

-- as many entries as the order has of each space
abbrev Counts : List WorldState → List ℕ → Type 0
Counts runs order = (k : ℕ) (r : WorldState) → slice_get runs k ≡ Some r → length r.trace ≡ times k order

-- the order names spaces of the runs alone
abbrev Names : List WorldState → List ℕ → Type 0
Names runs order = (k : ℕ) → IsIn k order → (r : WorldState) × (slice_get runs k ≡ Some r)

-- the entries of the runs in this order
record Ordered (runs : List WorldState) (order : List ℕ) : Type 0 where
  entries : List SpaceEntry
  spaces : map (λ (x : SpaceEntry). x.space) entries ≡ order
  each : (k : ℕ) (r : WorldState) → slice_get runs k ≡ Some r → entries_of k entries ≡ r.trace

none-left : (t : List Entry) → length t ≡ 0 → [] ≡ t
none-left [] e = refl
none-left (x ∷ t) e = absurd (omega (arith, e))

one-left : (t : List Entry) (n : ℕ) → length t ≡ n + 1 → (x : Entry) × (t ≡ x ∷ drop 1 t)
one-left [] n e = absurd (omega (arith, e))
one-left (x ∷ t) n e = (x, refl)

more-times : (k : ℕ) (order : List ℕ) → times k (k ∷ order) ≡ times k order + 1
more-times k order = cond-true (k == k) (times k order + 1) (times k order) (eq-eqb k k refl)

same-times : (j k : ℕ) (order : List ℕ) → (j ≡ k → ⊥) → times j (k ∷ order) ≡ times j order
same-times j k order ne = by (k == j) refl where
  by : (b : Bool) → (k == j) ≡ b → (if b then times j order + 1 else times j order) ≡ times j order
  by true e = absurd (ne (sym (eqb-true k j e)))
  by false e = refl

module _ (runs : List WorldState) (k : ℕ) (order : List ℕ) (counts : Counts runs (k ∷ order)) (names : Names runs (k ∷ order)) where
  at : (r : WorldState) × (slice_get runs k ≡ Some r)
  at = names k (inl refl)

  abbrev runs-left : List WorldState
  runs-left = slice_set runs k (run_before at.0)

  count : length at.0.trace ≡ times k order + 1
  count = counts k at.0 at.1 ∙ more-times k order

  newest : (x : Entry) × (at.0.trace ≡ x ∷ drop 1 at.0.trace)
  newest = one-left at.0.trace (times k order) count

  counts-left : Counts runs-left order
  counts-left j r h = elim (get-set runs k j (run_before at.0) r h) [
    | inl q ↦ ap (λ (w : WorldState). length w.trace) q.1
        ∙ fewer at.0.trace newest.0 newest.1 count ∙ ap (λ n. times n order) (sym q.0)
    | inr q ↦ counts j r q.1 ∙ same-times j k order q.0
  ] where
    fewer : (t : List Entry) (x : Entry) → t ≡ x ∷ drop 1 t → length t ≡ times k order + 1 → length (drop 1 t) ≡ times k order
    fewer t x e n =
        let first : length t ≡ suc (length (drop 1 t)) = ap (λ (l : List Entry). length l) e in
        let next : suc (length (drop 1 t)) ≡ length (drop 1 t) + 1 = omega arith in
        omega (arith, first, next, n)

  names-left : Names runs-left order
  names-left j i = by (names j (inr i)) (eqb j k) refl where
    by : ((r : WorldState) × (slice_get runs j ≡ Some r)) → (b : Bool) → eqb j k ≡ b → (r : WorldState) × (slice_get runs-left j ≡ Some r)
    by there true e = (run_before at.0, ap (λ n. slice_get runs-left n) (eqb-true j k e) ∙ get-set-same runs k (run_before at.0) at.0 at.1)
    by there false e = (there.0, get-set-other runs k j (run_before at.0) (λ q. false≢true (sym e ∙ eq-eqb j k q)) ∙ there.1)

  with-newest : Ordered runs-left order → Ordered runs (k ∷ order)
  with-newest o = record {
    entries = record { space = k; entry = newest.0 } ∷ o.entries;
    spaces = ap (λ (l : List ℕ). k ∷ l) o.spaces;
    each = λ j r h. by j r h (eqb j k) refl;
  } where
    by : (j : ℕ) (r : WorldState) → slice_get runs j ≡ Some r → (b : Bool) → eqb j k ≡ b
        → entries_of j (record { space = k; entry = newest.0 } ∷ o.entries) ≡ r.trace
    by j r h true e =
        let q : j ≡ k = eqb-true j k e in
        let same : at.0 ≡ r = some-same (sym at.1 ∙ ap (λ n. slice_get runs n) (sym q) ∙ h) in
        ap (λ n. entries_of n (record { space = k; entry = newest.0 } ∷ o.entries)) q
        ∙ of-same k (record { space = k; entry = newest.0 }) o.entries refl
        ∙ ap (λ (l : List Entry). newest.0 ∷ l) (o.each k (run_before at.0) (get-set-same runs k (run_before at.0) at.0 at.1))
        ∙ sym newest.1 ∙ ap (λ (w : WorldState). w.trace) same
    by j r h false e =
        let ne : j ≡ k → ⊥ = λ q. false≢true (sym e ∙ eq-eqb j k q) in
        of-other j (record { space = k; entry = newest.0 }) o.entries ne ∙ o.each j r (get-set-other runs k j (run_before at.0) ne ∙ h)

ordered : (runs : List WorldState) (order : List ℕ) → Counts runs order → Names runs order → Ordered runs order
ordered runs [] counts names = record { entries = []; spaces = refl; each = λ k r h. none-left r.trace (counts k r h) }
ordered runs (k ∷ order) counts names =
    with-newest runs k order counts names
    (ordered (runs-left runs k order counts names) order (counts-left runs k order counts names) (names-left runs k order counts names))

-- ---- no other order

head-same : {A : Type 0} (x y : A) (xs ys : List A) → x ∷ xs ≡ y ∷ ys → x ≡ y
head-same x y xs ys e = some-same (ap (λ (l : List _). first_of_list l) e)

tail-same : {A : Type 0} (x y : A) (xs ys : List A) → x ∷ xs ≡ y ∷ ys → xs ≡ ys
tail-same x y xs ys e = ap (λ (l : List _). drop 1 l) e

-- entries of the same spaces, where those of each space are the same
same-order : (n : ℕ) (xs ys : List SpaceEntry) → map (λ (x : SpaceEntry). x.space) xs ≡ map (λ (x : SpaceEntry). x.space) ys
    → ((x : SpaceEntry) → IsIn x xs → x.space < n) → ((k : ℕ) → k < n → entries_of k xs ≡ entries_of k ys) → xs ≡ ys
same-order n [] [] e low each = refl
same-order n [] (y ∷ ys) e low each = absurd (cc)
same-order n (x ∷ xs) [] e low each = absurd (cc)
same-order n (x ∷ xs) (y ∷ ys) e low each =
    let space : x.space ≡ y.space = head-same _ _ _ _ e in
    let both : x.entry ∷ entries_of x.space xs ≡ y.entry ∷ entries_of x.space ys =
    sym (of-same x.space x xs refl) ∙ each x.space (low x (inl refl)) ∙ of-same x.space y ys (sym space) in
    let entry : x.entry ≡ y.entry = head-same _ _ _ _ both in
    let rest = same-order n xs ys (tail-same _ _ _ _ e) (λ z i. low z (inr i)) (λ k h. by k h (tail-same _ _ _ _ both) space (eqb k x.space) refl) in
    λ i. record { space = space i; entry = entry i } ∷ rest i
  where
    by : (k : ℕ) → k < n → entries_of x.space xs ≡ entries_of x.space ys → x.space ≡ y.space → (b : Bool) → eqb k x.space ≡ b
        → entries_of k xs ≡ entries_of k ys
    by k h tails space true q = let same : k ≡ x.space = eqb-true k x.space q in
        subst (λ j. entries_of j xs ≡ entries_of j ys) (sym same) tails
    by k h tails space false q =
        let other : k ≡ x.space → ⊥ = λ p. false≢true (sym q ∙ eq-eqb k x.space p) in
        sym (of-other k x xs other) ∙ each k h ∙ of-other k y ys (λ p. other (p ∙ sym space))

-- ---- a course, oldest entry first

-- a space of the order has a run
pub run-named : (c : Course) → IsCourse c → (k : ℕ) → IsIn k c.order → (r : WorldState) × (slice_get c.runs k ≡ Some r)
run-named c i k j = something c.runs k (subst (λ n. k < n)
    (ap (λ (l : List _). length l) (sym i.scripts) ∙ length-map (λ (r : WorldState). r.script) c.runs)
    (all-in (λ (m : ℕ). m < length c.bundle.spaces) c.order k i.within j))

pub spaces-are : (c : Course) (entries : List SpaceEntry) → AreInOrder (traces_of c) (reverse c.order) entries
    → map (λ (x : SpaceEntry). x.space) (reverse entries) ≡ c.order
spaces-are c entries o =
    map-reversed (λ (x : SpaceEntry). x.space) entries ∙ ap (λ (l : List ℕ). reverse l) o.spaces ∙ reverse-reverse c.order

course-counts : (c : Course) → IsCourse c → Counts c.runs c.order
course-counts c i k r h = subst (λ (o : Option WorldState). IfSome o (λ (w : WorldState). length w.trace ≡ times k c.order)) h (i.counted k)

course-ordered : (c : Course) → IsCourse c → Ordered c.runs c.order
course-ordered c i = ordered c.runs c.order (course-counts c i) (run-named c i)

in-order : (c : Course) (o : Ordered c.runs c.order) → AreInOrder (traces_of c) (reverse c.order) (reverse o.entries)
in-order c o = record {
  spaces = map-reversed (λ (x : SpaceEntry). x.space) o.entries ∙ ap (λ (l : List ℕ). reverse l) o.spaces;
  each = λ k trace h. (let m = get-mapped (λ (r : WorldState). reverse r.trace) c.runs k trace h in
      of-reversed k o.entries ∙ ap (λ (l : List Entry). reverse l) (o.each k m.0 m.1) ∙ sym m.2);
}

only-one : (c : Course) → IsCourse c → (xs ys : List SpaceEntry) → AreInOrder (traces_of c) (reverse c.order) xs
    → AreInOrder (traces_of c) (reverse c.order) ys → ys ≡ xs
only-one c i xs ys o p = same-order (length (traces_of c)) ys xs (p.spaces ∙ sym o.spaces)
    (λ x j. let r = run-named c i x.space (of-reverse c.order x.space
    (subst (λ (l : List ℕ). IsIn x.space l) p.spaces (map-in (λ (y : SpaceEntry). y.space) ys x j))) in
    within (traces_of c) x.space (reverse r.0.trace) (get-map (λ (w : WorldState). reverse w.trace) c.runs x.space r.0 r.1))
    (λ k h. let t = something (traces_of c) k h in p.each k t.0 t.1 ∙ sym (o.each k t.0 t.1))

pub entries-have-one-order : EntriesHaveOneOrder
entries-have-one-order c i = let o = course-ordered c i in record {
  entries = reverse o.entries;
  in_order = in-order c o;
  only = λ others p. only-one c i (reverse o.entries) others (in-order c o) p;
}
