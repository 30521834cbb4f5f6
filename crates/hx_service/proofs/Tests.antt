-- The tests for all that an object has fit, and so does the put of a row.
use Rattle.std.proofs.Common.{◌≡◌, ◌≢◌, ℕ, suc, ◌+◌, ◌-◌, ◌<◌, ◌≤◌, List, [], ◌∷◌, length, map, Option, Some, refl, sym, ap, ◌∙◌, subst, arith}
use Rattle.std.specs.Prelude.{IsSomeAnd, slice_get}
use Rattle.std.specs.List.{All, AllZip}
use Rattle.std.proofs.lemmas.List.Elements.{All-cons, All-head, All-nil}
use Rattle.hx_model.specs.Types.{Assign, Attribute, Row, Space, Value}
use Rattle.hx_types.specs.declared.limits.TheConstants.{MOST_ATTRIBUTES}
use Rattle.hx_types.specs.Spaces.{AllDiffer, AssignFits, AssignsFit, Fits, IsOfKind, IsRowOf, IsSpace}
use Rattle.hx_service.specs.Groups.{put_of, tests_from}

-- the value is of the attribute's kind
abbrev IsOf : Attribute → Value → Type 0
IsOf a v = IsOfKind a.kind v

-- as many tests as values
pub tests-length : (before : ℕ) (object : List Value) → length (tests_from before object) ≡ length object
tests-length before [] = refl
tests-length before (v ∷ rest) = ap suc (tests-length (before + 1) rest)

-- each test is of an attribute from a number on
later : (low before : ℕ) (object : List Value) → low < before + 1 → All (λ (m : ℕ). m ≢ low) (map (λ (a : Assign). a.attribute) (tests_from before object))
later low before [] l = All-nil (λ (m : ℕ). m ≢ low)
later low before (v ∷ rest) l =
    All-cons (λ (m : ℕ). m ≢ low) (before + 1) (map (λ (a : Assign). a.attribute) (tests_from (before + 1) rest))
    (λ e. omega (arith, e, l)) (later low (before + 1) rest (omega (arith, l)))

once : (before : ℕ) (object : List Value) → AllDiffer (map (λ (a : Assign). a.attribute) (tests_from before object))
once before [] = tt
once before (v ∷ rest) = (later (before + 1) (before + 1) rest (omega arith), once (before + 1) rest)

-- where the attributes behind those before are these
each : (space : Space) (before : ℕ) (attributes : List Attribute) (object : List Value)
    → ((i : ℕ) → slice_get space.attributes (before + i) ≡ slice_get attributes i)
    → AllZip IsOf attributes object → All (AssignFits space) (tests_from before object)
each space before [] [] at z = All-nil (AssignFits space)
each space before [] (v ∷ rest) at z = absurd z
each space before (a ∷ attributes) [] at z = absurd z
each space before (a ∷ attributes) (v ∷ rest) at z =
    All-cons (AssignFits space) (record { attribute = before + 1; value = v }) (tests_from (before + 1) rest) (
      omega arith,
      subst (λ (o : Option Attribute). IsSomeAnd o (λ (declared : Attribute). IsOfKind declared.kind v)) (sym here) z.0,
    )
    (each space (before + 1) attributes rest (λ i. ap (slice_get space.attributes) (omega arith) ∙ at (suc i)) z.1)
  where
    here : slice_get space.attributes (before + 1 - 1) ≡ Some a
    here = ap (slice_get space.attributes) (omega arith) ∙ at 0

same-length : (attributes : List Attribute) (object : List Value) → AllZip IsOf attributes object → length attributes ≡ length object
same-length [] [] z = refl
same-length [] (v ∷ rest) z = absurd z
same-length (a ∷ attributes) [] z = absurd z
same-length (a ∷ attributes) (v ∷ rest) z = ap suc (same-length attributes rest z.1)

module _ (space : Space) (r : Row) (row : IsRowOf space r) where
  attributes-are : length space.attributes ≡ length r.object
  attributes-are = same-length space.attributes r.object row.object

  -- no object has many values
  pub few-values : IsSpace space → length r.object ≤ MOST_ATTRIBUTES
  few-values valid = let l : length space.attributes ≤ MOST_ATTRIBUTES = valid.attributes in let e = attributes-are in omega (arith, l, e)

  -- where an assignment fits there is an attribute
  some-attribute : (sets : List Assign) → AssignsFit space sets → 0 < length sets → 0 < length space.attributes
  some-attribute [] fit some = absurd (omega (arith, some))
  some-attribute (a ∷ rest) fit some = by space.attributes (a.attribute - 1) (All-head (AssignFits space) a rest fit.each).1
    where
      by : (attributes : List Attribute) (i : ℕ) → IsSomeAnd (slice_get attributes i)
          (λ (declared : Attribute). IsOfKind declared.kind a.value) → 0 < length attributes
      by [] i s = absurd s
      by (x ∷ xs) i s = omega arith

  -- the put fits
  pub put-fits : (sets : List Assign) → AssignsFit space sets → 0 < length sets → Fits space (put_of sets r)
  put-fits sets fit some =
      let e = attributes-are in
      let t = tests-length 0 r.object in
      let s = some-attribute sets fit some in (
        row.key,
        record { each = each space 0 space.attributes r.object (λ i. ap (slice_get space.attributes) (omega arith)) row.object; once = once 0 r.object },
        fit,
        omega (arith, e, t, s),
        some,
      )
