-- Texts and objects that are read are of the space, and can be said.
use Rattle.std.proofs.Common.{◌≡◌, ℕ, suc, ◌+◌, ◌-◌, ◌<◌, Bool, true, false, cond, ◌&&◌, List, [], ◌∷◌, ◌++◌, map}
use Rattle.std.proofs.Common.{length, eqb, Option, None, Some, Ok, Err, Result, refl, sym, ap, subst, arith}
use Rattle.std.specs.Prelude.{codes, slice_get, IsSomeAnd}
use Rattle.std.specs.List.{All, AllZip}
use Rattle.std.specs.Option.{option_map}
use Rattle.std.specs.Str.{bytes_eq}
use Rattle.std.proofs.lemmas.List.{append_assoc, length-append}
use Rattle.std.proofs.lemmas.List.Elements.{All-head, All-tail, All-map}
use Rattle.std.proofs.lemmas.Bool.{eqb-true}
use Rattle.hx_lex.specs.Spelling.{IsText}
use Rattle.hx_lex.proofs.Lemmas.{and_left, and_right}
use Rattle.hx_model.specs.Types.{Assign, Attribute, Op, Space, Value}
use Rattle.hx_types.specs.declared.calls.Op.TheVariants as ops
use Rattle.hx_types.specs.Spaces.{AssignsFit, Fits, IsMaybeObjectOf, IsObjectOf, IsOfKind, IsSpace, KeyFits}
use Rattle.hx_script.specs.declared.errors.Reason.{Reason}
use Rattle.hx_script.specs.LoneCalls.{op_of_line}
use Rattle.hx_script.proofs.Lemmas.{lone_fits}
use Rattle.hx_law_texts.specs.Sayable.{CallIsSayable, IsSayable, ValuesAreSayable}
use Rattle.hx_law_texts.proofs.Lemmas.{lone_told}
use Rattle.hx_report_lines.specs.Parts.{got_key, in_order, object_in, op_in, put_values, read_ok, state_in, text_in, values_in}
use Rattle.hx_report_lines.specs.Readers.{on_some, word}
use Rattle.hx_report_lines.specs.Values.{MaybeObjectIsSayable, ObjectIsSayable}
use Rattle.hx_report_lines.proofs.Taken.{bound, mapped, some_is, where_so}

ok_of : (r : Result Op Reason) (op : Op) → read_ok r ≡ Some op → r ≡ Ok op
ok_of (Ok x) op e = ap (λ y. Ok y) (some_is x op e)
ok_of (Err r) op e = absurd cc

-- a call that is read fits and can be said
pub op_valid : (space : Space) (line : List ℕ) (op : Op) → IsSpace space → op_in space line ≡ Some op → Fits space op × CallIsSayable op
op_valid space line op is e =
    let q = ok_of (op_of_line space line) op e in
    (lone_fits space line op is q, lone_told space line op q)

key_valid : (space : Space) (op : Op) (key : List ℕ) → got_key op ≡ Some key → Fits space op × CallIsSayable op → KeyFits key × IsText key
key_valid space (ops.Put k s) key e v = absurd cc
key_valid space (ops.Get k) key e v = subst (λ t. KeyFits t × IsText t) (some_is k key e) v
key_valid space (ops.Del k) key e v = absurd cc
key_valid space (ops.Cput k t s) key e v = absurd cc
key_valid space (ops.Search t) key e v = absurd cc
key_valid space (ops.Stop s) key e v = absurd cc
key_valid space (ops.Add s r) key e v = absurd cc
key_valid space (ops.Atomic k s) key e v = absurd cc

pub text_valid : (space : Space) (quoted key : List ℕ) → IsSpace space → text_in space quoted ≡ Some key → KeyFits key × IsText key
text_valid space quoted key is e =
    let b = bound (op_in space (codes "get " ++ quoted)) got_key key e in
    key_valid space b.0 key b.2 (op_valid space (codes "get " ++ quoted) b.0 is b.1)

-- ---- objects

abbrev DeclaredAt : List Attribute → Assign → Type 0
DeclaredAt declared a = (0 < a.attribute) × IsSomeAnd (slice_get declared (a.attribute - 1)) (λ (x : Attribute). IsOfKind x.kind a.value)

pub at_front : (front more : List Attribute) (a : Attribute) (n : ℕ) → n ≡ suc (length front) → slice_get (front ++ a ∷ more) (n - 1) ≡ Some a
at_front front more a n e = subst (λ (m : ℕ). slice_get (front ++ a ∷ more) m ≡ Some a) (let q : length front ≡ n - 1 = omega arith in q) (here front)
  where
    here : (xs : List Attribute) → slice_get (xs ++ a ∷ more) (length xs) ≡ Some a
    here [] = refl
    here (x ∷ xs) = here xs

-- assignments to each attribute in order are of their kinds
in_turn : (front left : List Attribute) (sets : List Assign) → in_order (suc (length front)) sets ≡ true
    → length sets ≡ length left → All (DeclaredAt (front ++ left)) sets
    → AllZip (λ (a : Attribute) (v : Value). IsOfKind a.kind v) left (map (λ (s : Assign). s.value) sets)
in_turn front [] [] o l h = tt
in_turn front [] (s ∷ sets) o l h = absurd (omega arith)
in_turn front (a ∷ left) [] o l h = absurd (omega arith)
in_turn front (a ∷ left) (s ∷ sets) o l h =
    let n : ℕ = suc (length front) in
    let here : s.attribute ≡ n = eqb-true s.attribute n (and_left (eqb s.attribute n) (in_order (n + 1) sets) o) in
    let p = (All-head (DeclaredAt (front ++ a ∷ left)) s sets h).1 in
    let q : slice_get (front ++ a ∷ left) (s.attribute - 1) ≡ Some a = at_front front left a s.attribute here in
    let longer : suc (length (front ++ a ∷ [])) ≡ n + 1 = omega (arith, length-append front (a ∷ [])) in (
      subst (λ (o : Option Attribute). IsSomeAnd o (λ (x : Attribute). IsOfKind x.kind s.value)) q p,
      in_turn (front ++ a ∷ []) left sets (subst (λ (m : ℕ). in_order m sets ≡ true) (sym longer)
          (and_right (eqb s.attribute n) (in_order (n + 1) sets) o)) (omega arith)
          (subst (λ (ds : List Attribute). All (DeclaredAt ds) sets) (sym (append_assoc front (a ∷ []) left))
          (All-tail (DeclaredAt (front ++ a ∷ left)) s sets h)),
    )

sets_valid : (space : Space) (sets : List Assign) (o : List Value) → AssignsFit space sets → ValuesAreSayable sets
    → values_in space sets ≡ Some o → IsObjectOf space o × ObjectIsSayable o
sets_valid space sets o fit said e =
    let w = where_so (in_order 1 sets && eqb (length sets) (length space.attributes)) (Some (map (λ (a : Assign). a.value) sets)) o e in
    let long = eqb-true (length sets) (length space.attributes) (and_right (in_order 1 sets) (eqb (length sets) (length space.attributes)) w.0) in
    subst (λ (vs : List Value). IsObjectOf space vs × ObjectIsSayable vs) (some_is (map (λ (a : Assign). a.value) sets) o w.1) (
      in_turn [] space.attributes sets (and_left (in_order 1 sets) (eqb (length sets) (length space.attributes)) w.0)
          long fit.each,
      All-map IsSayable (λ (a : Assign). a.value) sets said,
    )

put_valid : (space : Space) (op : Op) (o : List Value) → put_values space op ≡ Some o → Fits space op
    × CallIsSayable op → IsObjectOf space o × ObjectIsSayable o
put_valid space (ops.Put k s) o e v = sets_valid space s o v.0.1 v.1.1 e
put_valid space (ops.Get k) o e v = absurd cc
put_valid space (ops.Del k) o e v = absurd cc
put_valid space (ops.Cput k t s) o e v = absurd cc
put_valid space (ops.Search t) o e v = absurd cc
put_valid space (ops.Stop s) o e v = absurd cc
put_valid space (ops.Add s r) o e v = absurd cc
put_valid space (ops.Atomic k s) o e v = absurd cc

pub object_valid : (space : Space) (bytes : List ℕ) (o : List Value) → IsSpace space → object_in space bytes ≡ Some o → IsObjectOf space o × ObjectIsSayable o
object_valid space bytes o is e =
    let b = bound (op_in space (codes "put \"\"" ++ bytes)) (put_values space) o e in
    put_valid space b.0 o b.2 (op_valid space (codes "put \"\"" ++ bytes) b.0 is b.1)

pub state_valid : (space : Space) (bytes : List ℕ) (o : Option (List Value)) → IsSpace space
    → state_in space bytes ≡ Some o → IsMaybeObjectOf space o × MaybeObjectIsSayable o
state_valid space bytes o is e = by (bytes_eq bytes (codes "absent")) e
  where
    present : (x : Unit {0} × List ℕ) → option_map (λ (v : List Value). Some v) (object_in space x.1) ≡ Some o
        → IsMaybeObjectOf space o × MaybeObjectIsSayable o
    present x f =
        let m = mapped (object_in space x.1) (λ (v : List Value). Some v) o f in
        subst (λ (v : Option (List Value)). IsMaybeObjectOf space v × MaybeObjectIsSayable v) m.2 (object_valid space x.1 m.0 is m.1)

    by : (b : Bool) → cond b (Some None) (on_some (word (codes "present") bytes)
        (λ x. option_map (λ (v : List Value). Some v) (object_in space x.1))) ≡ Some o → IsMaybeObjectOf space o
        × MaybeObjectIsSayable o
    by true f = subst (λ (v : Option (List Value)). IsMaybeObjectOf space v × MaybeObjectIsSayable v) (some_is None o f) (tt, tt)
    by false f = let b = bound (word (codes "present") bytes) (λ x. option_map (λ (v : List Value). Some v) (object_in space x.1)) o f in present b.0 b.2
