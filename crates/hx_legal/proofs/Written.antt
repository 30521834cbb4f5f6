-- What stands at each place of an object with values written over.
use Rattle.std.proofs.Common.{◌≡◌, ◌≢◌, ℕ, ◌+◌, ◌-◌, ◌<◌, Bool, true, false, cond, eqb, List, [], ◌∷◌, ◌++◌, length}
use Rattle.std.proofs.Common.{get_or, set, reverse, Option, Some, refl, sym, ap, ◌∙◌, arith, below_more}
use Rattle.std.specs.List.{find, slice_get}
use Rattle.std.proofs.lemmas.Bool.Decides.{nat_tests}
use Rattle.std.proofs.lemmas.List.{get_or-set_other, get_or-set_same, length-set, reverse-append, reverse-reverse, same_lists}
use Rattle.std.proofs.lemmas.Option.{get_or_from_slice_get, slice_get-get_or}
use Rattle.hx_model.specs.Types.{Assign, Value}
use Rattle.hx_types.specs.Effects.{written}
use Rattle.hx_types.specs.Words.{when_some}
use Rattle.hx_legal.specs.Shown.{value_after, writes_at}

pub length-written : (object : List Value) (sets : List Assign) → length (written object sets) ≡ length object
length-written object [] = refl
length-written object (a ∷ sets) = length-written (set object (a.attribute - 1) a.value) sets ∙ length-set object (a.attribute - 1) a.value

written-append : (object : List Value) (first rest : List Assign) → written object (first ++ rest) ≡ written (written object first) rest
written-append object [] rest = refl
written-append object (a ∷ first) rest = written-append (set object (a.attribute - 1) a.value) first rest

-- a place after one write
slice_get-set : {A : Type 0} (xs : List A) (q p : ℕ) (x : A) → p < length xs → slice_get (set xs q x) p ≡ cond (eqb q p) (Some x) (slice_get xs p)
slice_get-set xs q p x l = by (eqb q p) refl
  where
    by : (b : Bool) → eqb q p ≡ b → slice_get (set xs q x) p ≡ cond b (Some x) (slice_get xs p)
    by true e =
        let same : q ≡ p = grind (arith, nat_tests, e) in
        slice_get-get_or (set xs q x) p x (let n = length-set xs q x in omega (arith, n, l))
        ∙ ap Some (ap (λ n. get_or (set xs n x) p x) same ∙ get_or-set_same xs p x x l)
    by false e =
        let other : p ≢ q = grind (arith, nat_tests, e) in
        slice_get-get_or (set xs q x) p x (let n = length-set xs q x in omega (arith, n, l))
        ∙ ap Some (get_or-set_other xs q p x x other)
        ∙ sym (slice_get-get_or xs p x l)

-- whether an assignment writes at the place or leaves it
chosen_at : (o : List Value) (p : ℕ) (a : Assign) (rest : Option Assign) (before : Option Value)
    → slice_get o p ≡ when_some rest before (λ (x : Assign). Some x.value)
    → (b : Bool) → cond b (Some a.value) (slice_get o p) ≡ when_some (cond b (Some a) rest) before (λ (x : Assign). Some x.value)
chosen_at o p a rest before e true = refl
chosen_at o p a rest before e false = e

-- the last write to the place decides
written_last_first : (object : List Value) (last_first : List Assign) (p : ℕ) → p < length object
    → slice_get (written object (reverse last_first)) p ≡ when_some (find (writes_at p) last_first) (slice_get object p) (λ (a : Assign). Some a.value)
written_last_first object [] p l = refl
written_last_first object (a ∷ earlier) p l =
    let n = length-written object (reverse earlier) in
    ap (λ (o : List Value). slice_get o p) (ap (written object) (reverse-append (a ∷ []) earlier) ∙ written-append object (reverse earlier) (a ∷ []))
    ∙ slice_get-set (written object (reverse earlier)) (a.attribute - 1) p a.value (omega (arith, n, l))
    ∙ chosen_at (written object (reverse earlier)) p a (find (writes_at p) earlier) (slice_get object p) (written_last_first object earlier p l) (writes_at p a)

-- at each place stands what the last assignment to it wrote, or the old value
pub slice_get-written : (object : List Value) (sets : List Assign) (p : ℕ) → p < length object → slice_get (written object sets) p ≡ value_after object sets p
slice_get-written object sets p l =
    ap (λ (s : List Assign). slice_get (written object s) p) (sym (reverse-reverse sets)) ∙ written_last_first object (reverse sets) p l

-- values are those of the written object where they are at each place
pub written_from_places : (values object : List Value) (sets : List Assign) → length values ≡ length object
    → ((p : ℕ) → p < length values → value_after object sets p ≡ slice_get values p) → values ≡ written object sets
written_from_places values object sets e same =
    same_lists values (written object sets) (e ∙ sym (length-written object sets))
    (λ p d l. sym (get_or_from_slice_get (written object sets) p (get_or values p d) d
    (slice_get-written object sets p (omega (arith, e, l)) ∙ same p l ∙ slice_get-get_or values p d l)))

-- and so only there
pub places_of_written : (values object : List Value) (sets : List Assign) → values ≡ written object sets → (p : ℕ)
    → p < length values → value_after object sets p ≡ slice_get values p
places_of_written values object sets e p l =
    let n = length-written object sets in
    let same = ap length e in
    sym (slice_get-written object sets p (omega (arith, n, same, l))) ∙ ap (λ (o : List Value). slice_get o p) (sym e)

-- a value read at a place is the one that stands there
read_at : (values object : List Value) (sets : List Assign) (i : ℕ) (v : Value) → i < length values
    → v ≡ get_or values i v → value_after object sets i ≡ Some v → value_after object sets i ≡ slice_get values i
read_at values object sets i v l is e = e ∙ ap Some is ∙ sym (slice_get-get_or values i v l)

-- one place further
pub places_more : (values object : List Value) (sets : List Assign) (i : ℕ) (v : Value) → i < length values
    → v ≡ get_or values i v → value_after object sets i ≡ Some v
    → ((p : ℕ) → p < i → value_after object sets p ≡ slice_get values p) → (p : ℕ) → p < i + 1 → value_after object sets p ≡ slice_get values p
places_more values object sets i v l is e before = below_more _ _ before (read_at values object sets i v l is e)

-- another value at one place
pub not_written : (values object : List Value) (sets : List Assign) (i : ℕ) (v : Value) → i < length values
    → v ≡ get_or values i v → (value_after object sets i ≡ Some v → ⊥) → values ≡ written object sets → ⊥
not_written values object sets i v l is other e =
    other (places_of_written values object sets e i l ∙ slice_get-get_or values i v l ∙ ap Some (sym is))

-- another number of values
pub length_differs : (values object : List Value) (sets : List Assign) → length values ≢ length object → values ≡ written object sets → ⊥
length_differs values object sets other e = other (ap length e ∙ length-written object sets)
