-- Texts and objects that are printed are read again.
use Rattle.std.proofs.Common.{◌≡◌, ℕ, suc, ◌+◌, ◌-◌, ◌<◌, true, false, cond, ◌&&◌, List, [], ◌∷◌}
use Rattle.std.proofs.Common.{◌++◌, map, length, eqb, Option, None, Some, refl, sym, ap, subst, ◌∙◌, arith}
use Rattle.std.specs.Prelude.{◌≢◌, codes, slice_get, IsSomeAnd}
use Rattle.std.specs.List.{All, AllZip, flat_map}
use Rattle.std.specs.Option.{option_map}
use Rattle.std.proofs.lemmas.Bool.{eq-eqb, ne_eqb}
use Rattle.std.proofs.lemmas.List.{append_assoc, length-append}
use Rattle.std.proofs.lemmas.List.Elements.{All-cons, All-head, All-nil, All-tail}
use Rattle.std.proofs.lemmas.Str.{IsUtf8-nil}
use Rattle.hx_lex.specs.Spelling.{IsText}
use Rattle.hx_model.specs.Types.{Assign, Attribute, Op, Space, Value}
use Rattle.hx_types.specs.declared.calls.Op.TheVariants as ops
use Rattle.hx_types.specs.Spaces.{AllDiffer, AssignFits, Fits, IsMaybeObjectOf, IsObjectOf, IsOfKind, IsSpace, KeyFits}
use Rattle.hx_types.specs.Words.{when_some}
use Rattle.hx_print.specs.Printing.{assigns_text, name_of, named_text, op_text, quoted}
use Rattle.hx_report.specs.Reporting.{object_text, state_text}
use Rattle.hx_law_texts.specs.Sayable.{CallIsSayable, IsSayable}
use Rattle.hx_law_texts.proofs.Lemmas.{lone_reads}
use Rattle.hx_report_lines.specs.Parts.{got_key, in_order, object_in, op_in, put_values, read_ok, state_in, text_in, values_in}
use Rattle.hx_report_lines.specs.Readers.{on_some}
use Rattle.hx_report_lines.specs.Values.{MaybeObjectIsSayable, ObjectIsSayable}
use Rattle.hx_report_lines.proofs.Takes.{word_takes}
use Rattle.hx_report_lines.proofs.ValuesRead.{at_front}

pub op_taken : (space : Space) (op : Op) → IsSpace space → Fits space op → CallIsSayable op → op_in space (op_text space op) ≡ Some op
op_taken space op is fit said = ap read_ok (lone_reads space op is fit said)

get_text : (space : Space) (key : List ℕ) → op_text space (ops.Get key) ≡ codes "get " ++ quoted key
unfolding op_text
get_text space key = refl

pub text_taken : (space : Space) (key : List ℕ) → IsSpace space → KeyFits key → IsText key → text_in space (quoted key) ≡ Some key
text_taken space key is fit said =
    ap (λ o. on_some o got_key) (ap (op_in space) (sym (get_text space key)) ∙ op_taken space (ops.Get key) is fit said)

-- ---- objects

-- the assignments of values to the attributes from a number on
abbrev sets_from : ℕ → List Value → List Assign
sets_from n [] = []
sets_from n (v ∷ vs) = record { attribute = n; value = v } ∷ sets_from (n + 1) vs

sets_in_order : (n : ℕ) (vs : List Value) → in_order n (sets_from n vs) ≡ true
sets_in_order n [] = refl
sets_in_order n (v ∷ vs) = ap (λ b. b && in_order (n + 1) (sets_from (n + 1) vs)) (eq-eqb n n refl) ∙ sets_in_order (n + 1) vs

sets_values : (n : ℕ) (vs : List Value) → map (λ (a : Assign). a.value) (sets_from n vs) ≡ vs
sets_values n [] = refl
sets_values n (v ∷ vs) = ap (λ xs. v ∷ xs) (sets_values (n + 1) vs)

sets_long : (n : ℕ) (vs : List Value) → length (sets_from n vs) ≡ length vs
sets_long n [] = refl
sets_long n (v ∷ vs) = ap (λ m. suc m) (sets_long (n + 1) vs)

object_long : (declared : List Attribute) (vs : List Value)
    → AllZip (λ (a : Attribute) (v : Value). IsOfKind a.kind v) declared vs → length vs ≡ length declared
object_long [] [] h = refl
object_long [] (v ∷ vs) h = absurd h
object_long (a ∷ more) [] h = absurd h
object_long (a ∷ more) (v ∷ vs) h = ap (λ m. suc m) (object_long more vs h.1)

-- all that come later are of higher numbers
above : (m n : ℕ) (vs : List Value) → m < n → All (λ k. k ≢ m) (map (λ (a : Assign). a.attribute) (sets_from n vs))
above m n [] lt = All-nil (λ k. k ≢ m)
above m n (v ∷ vs) lt = All-cons (λ k. k ≢ m) n (map (λ (a : Assign). a.attribute) (sets_from (n + 1) vs))
    (λ e. absurd (omega (arith, e, lt))) (above m (n + 1) vs (omega arith))

differ : (n : ℕ) (vs : List Value) → AllDiffer (map (λ (a : Assign). a.attribute) (sets_from n vs))
differ n [] = tt
differ n (v ∷ vs) = (above n (n + 1) vs (omega arith), differ (n + 1) vs)

-- assignments to each attribute in order fit, and are printed as the object
fit_from : (space : Space) (front left : List Attribute) (vs : List Value) → space.attributes ≡ front ++ left
    → AllZip (λ (a : Attribute) (v : Value). IsOfKind a.kind v) left vs
    → All (AssignFits space) (sets_from (suc (length front)) vs)
    × (flat_map (λ (a : Assign). named_text (name_of space a.attribute) a.value)
    (sets_from (suc (length front)) vs) ≡ object_text left vs)
unfolding object_text
fit_from space front [] [] e h = (All-nil (AssignFits space), refl)
fit_from space front [] (v ∷ vs) e h = absurd h
fit_from space front (a ∷ left) [] e h = absurd h
fit_from space front (a ∷ left) (v ∷ vs) e h =
    let n : ℕ = suc (length front) in
    let here : slice_get space.attributes (n - 1) ≡ Some a = ap (λ xs. slice_get xs (n - 1)) e ∙ at_front front left a n refl in
    let longer : suc (length (front ++ a ∷ [])) ≡ n + 1 = omega (arith, length-append front (a ∷ [])) in
    let more = fit_from space (front ++ a ∷ []) left vs (e ∙ sym (append_assoc front (a ∷ []) left)) h.1 in
    let rest = subst (λ m. All (AssignFits space) (sets_from m vs)
    × (flat_map (λ (a : Assign). named_text (name_of space a.attribute) a.value) (sets_from m vs)
    ≡ object_text left vs)) longer more in
    let name : name_of space n ≡ a.name = named n (omega arith) here in (
      All-cons (AssignFits space) (record { attribute = n; value = v }) (sets_from (n + 1) vs)
          (omega arith, subst (λ o. IsSomeAnd o (λ (x : Attribute). IsOfKind x.kind v)) (sym here) h.0) rest.0,
      ap (λ w. named_text w v ++ flat_map (λ (a : Assign). named_text (name_of space a.attribute) a.value)
          (sets_from (n + 1) vs)) name ∙ ap (λ t. named_text a.name v ++ t) rest.1,
    )
  where
    named : (n : ℕ) → 0 < n → slice_get space.attributes (n - 1) ≡ Some a → name_of space n ≡ a.name
    named n lt q =
        let other : eqb n 0 ≡ false = ne_eqb n 0 (λ e. absurd (omega (arith, e, lt))) in
        ap (λ b. cond b space.key_name (when_some (slice_get space.attributes (n - 1)) []
        (λ (x : Attribute). x.name))) other ∙ ap (λ o. when_some o [] (λ (x : Attribute). x.name)) q

put_text_is : (space : Space) (sets : List Assign) → op_text space (ops.Put [] sets) ≡ codes "put \"\"" ++ assigns_text space sets
unfolding op_text quoted
put_text_is space sets = refl

values_taken : (space : Space) (vs : List Value) → IsObjectOf space vs → values_in space (sets_from 1 vs) ≡ Some vs
values_taken space vs is =
    rw (
      sets_in_order 1 vs,
      sets_long 1 vs,
      object_long space.attributes vs is,
      eq-eqb (length space.attributes) (length space.attributes) refl,
      sets_values 1 vs,
    ) refl

said_from : (n : ℕ) (vs : List Value) → ObjectIsSayable vs → All (λ (a : Assign). IsSayable a.value) (sets_from n vs)
said_from n [] h = All-nil (λ (a : Assign). IsSayable a.value)
said_from n (v ∷ vs) h = All-cons (λ (a : Assign). IsSayable a.value) (record { attribute = n; value = v })
    (sets_from (n + 1) vs) (All-head IsSayable v vs h) (said_from (n + 1) vs (All-tail IsSayable v vs h))

empty_text : IsText []
empty_text = record { utf8 = IsUtf8-nil; plain = refl }

pub object_taken : (space : Space) (vs : List Value) → IsSpace space → IsObjectOf space vs → ObjectIsSayable vs
    → object_in space (object_text space.attributes vs) ≡ Some vs
object_taken space vs is of said =
    let f = fit_from space [] space.attributes vs refl of in
    let sets : List Assign = sets_from 1 vs in
    let op : Op = ops.Put [] sets in
    let line : codes "put \"\"" ++ object_text space.attributes vs ≡ op_text space op = ap (λ t. codes "put \"\"" ++ t) (sym f.1) ∙ sym (put_text_is space sets) in
    let read = op_taken space op is (omega arith, record { each = f.0; once = differ 1 vs }) (empty_text, said_from 1 vs said) in
    ap (λ o. on_some o (put_values space)) (ap (op_in space) line ∙ read) ∙ values_taken space vs of

pub state_taken : (space : Space) (o : Option (List Value)) → IsSpace space → IsMaybeObjectOf space o
    → MaybeObjectIsSayable o → state_in space (state_text space o) ≡ Some o
unfolding state_text
state_taken space None is of said = refl
state_taken space (Some vs) is of said =
    ap (λ r. on_some r (λ x. option_map (λ (v : List Value). Some v) (object_in space x.1))) (word_takes (codes "present") (object_text space.attributes vs)).at
    ∙ ap (option_map (λ (v : List Value). Some v)) (object_taken space vs is of said)
