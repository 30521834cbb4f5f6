-- Edits are read again.
use Rattle.hx_law_texts.proofs.Vocabulary.{[], All, All-head, All-tail, AllDiffer, ap, append-nil, append_assoc, arith, Attribute, begins_with, codes, Edit}
use Rattle.hx_law_texts.proofs.Vocabulary.{edit_kind, EditKind, edits_text, EditsAreSayable, EditsFit, false, flat_map-cons, has_edit, is_digit, is_edit_of}
use Rattle.hx_law_texts.proofs.Vocabulary.{is_of, is_short, is_word_part, IsOfKind, IsSayable, IsSomeAnd, IsSpace, IsWord, Kind, kind_at, length, List, map}
use Rattle.hx_law_texts.proofs.Vocabulary.{name_of, None, Ok, Option, refl, repeat, Sign, slice_get, Some, Space, subst, sym, Tok, true, Value, Word, ℕ, ◌++◌}
use Rattle.hx_law_texts.proofs.Vocabulary.{◌-◌, ◌<◌, ◌∙◌, ◌∷◌, ◌≡◌}
use Rattle.hx_types.specs.declared.spaces.Kind.TheVariants as kinds
use Rattle.hx_types.specs.declared.values.EditKind.TheVariants as an_edit
use Rattle.hx_types.specs.declared.values.Value.TheVariants as values
use Rattle.hx_types.specs.Spaces.{IsEditOf, EditFits}
use Rattle.hx_print.specs.Printing.{named_text, edit_word as word_of, edit_text}
use Rattle.hx_script.specs.declared.line.Until.TheVariants as until
use Rattle.hx_script.specs.Edits.{edit_word, unedited_attribute, edit_value, edit, one_more_edit, some_edits}
use Rattle.hx_script.specs.Words.{named}
use Rattle.hx_script.proofs.Lemmas.{edits_go_on, edits_end}
use Rattle.hx_law_texts.proofs.Assignments.{tok_of_value, named_toks, named_says, of_kind, below}
use Rattle.hx_law_texts.proofs.Names.{not_zero, none_before, IsAt, IsDeclaredAs, declared}
use Rattle.hx_law_texts.proofs.Says.{Says, nil_says, blank_says, word_says}

-- ---- what they say

abbrev edit_toks : Space → Edit → List Tok → List Tok
edit_toks s e ts = Word (word_of e.what) ∷ named_toks (name_of s e.attribute) e.value ts

abbrev pub edits_toks : Space → List Edit → List Tok
edits_toks s [] = []
edits_toks s (e ∷ left) = edit_toks s e (edits_toks s left)

edits_cons : (s : Space) (e : Edit) (left : List Edit) (rest : List ℕ) → edits_text s (e ∷ left) ++ rest ≡ edit_text s e ++ (edits_text s left ++ rest)
edits_cons s e left rest = ap (λ (x : List ℕ). x ++ rest) (flat_map-cons (edit_text s) e left) ∙ append_assoc (edit_text s e) (edits_text s left) rest

-- no digit stands where an edit or nothing does
goes_no_further : (s : Space) (edits : List Edit) → begins_with is_digit (edits_text s edits ++ []) ≡ false
unfolding edit_text
goes_no_further s [] = refl
goes_no_further s (e ∷ left) = ap (begins_with is_digit) (edits_cons s e left [])

is_a_word : (what : EditKind) → IsWord (word_of what)
is_a_word an_edit.Add = record { letter = refl; parts = refl }
is_a_word an_edit.Append = record { letter = refl; parts = refl }
is_a_word an_edit.Min = record { letter = refl; parts = refl }
is_a_word an_edit.Max = record { letter = refl; parts = refl }

edit_parts : (o w n r : List ℕ) → (o ++ w ++ n) ++ r ≡ o ++ (w ++ (n ++ r))
edit_parts o w n r = simp append_assoc

no_part : (w : List ℕ) (v : Value) (rest : List ℕ) → begins_with is_word_part (named_text w v ++ rest) ≡ false
unfolding named_text
no_part w v rest = refl

edit_says : (s : Space) (e : Edit) (ts : List Tok) (rest : List ℕ) → IsWord (name_of s e.attribute)
    → IsSayable e.value → begins_with is_digit rest ≡ false → Says ts rest → Says (edit_toks s e ts) (edit_text s e ++ rest)
unfolding edit_text
edit_says s e ts rest is said stop h =
    let named : List ℕ = named_text (name_of s e.attribute) e.value in
    let toks : List Tok = named_toks (name_of s e.attribute) e.value ts in
    subst (λ (x : List ℕ). Says (edit_toks s e ts) x) (sym (edit_parts (codes " ") (word_of e.what) named rest))
    (blank_says (Word (word_of e.what) ∷ toks) (word_of e.what ++ (named ++ rest))
    (word_says (word_of e.what) toks (named ++ rest) (is_a_word e.what) (no_part (name_of s e.attribute) e.value rest)
    (named_says (name_of s e.attribute) e.value ts rest is said stop h)))

-- ---- what holds of each

-- the edit may stand behind the others
record IsNext (s : Space) (made : List Edit) (e : Edit) : Type 0 where
  pub declared : IsDeclaredAs s e.attribute
  pub new : has_edit made e.attribute ≡ false
  pub edits : is_edit_of e.what (kind_at s e.attribute) ≡ true
  pub fits : is_of (kind_at s e.attribute) e.value ≡ true
  pub short : is_short e.value ≡ true
  pub said : IsSayable e.value

edits_kind : (what : EditKind) (k : Kind) → IsEditOf what k → is_edit_of what k ≡ true
edits_kind an_edit.Append kinds.Text is = refl
edits_kind an_edit.Append (kinds.Int lo hi) is = absurd is
edits_kind an_edit.Add kinds.Text is = absurd is
edits_kind an_edit.Add (kinds.Int lo hi) is = refl
edits_kind an_edit.Min kinds.Text is = absurd is
edits_kind an_edit.Min (kinds.Int lo hi) is = refl
edits_kind an_edit.Max kinds.Text is = absurd is
edits_kind an_edit.Max (kinds.Int lo hi) is = refl

abbrev Suits : Edit → Kind → Type 0
Suits e k = IsEditOf e.what k × IsOfKind k e.value

fits_at : (s : Space) (e : Edit) → EditFits s e → (x : Attribute) × IsAt s e.attribute x × Suits e x.kind
fits_at s e fits = by_option (slice_get s.attributes (e.attribute - 1)) refl fits.1
  where
    by_option : (o : Option Attribute) → slice_get s.attributes (e.attribute - 1) ≡ o
        → IsSomeAnd o (λ (x : Attribute). Suits e x.kind) → (x : Attribute) × IsAt s e.attribute x × Suits e x.kind
    by_option None same is = absurd is
    by_option (Some x) same is = (x, record { some = fits.0; here = same }, is)

-- the edits that were read and those that are left
record AreLeft (s : Space) (made left : List Edit) : Type 0 where
  pub each : All (EditFits s) left
  pub once : AllDiffer (map (λ (e : Edit). e.attribute) (made ++ left))
  pub said : EditsAreSayable left

is_next : (s : Space) (made : List Edit) (e : Edit) (left : List Edit) → IsSpace s → AreLeft s made (e ∷ left) → IsNext s made e
is_next s made e left is are =
    let fits : EditFits s e = All-head (EditFits s) e left are.each in
    let x = fits_at s e fits in
    let low : 0 < e.attribute = fits.0 in
    let under : e.attribute - 1 < length s.attributes = below s.attributes (e.attribute - 1) x.0 x.1.here in
    let kind : kind_at s e.attribute ≡ x.0.kind = rw (not_zero e.attribute low, x.1.here) refl in
    let suits : Suits e (kind_at s e.attribute) = subst (λ k. Suits e k) (sym kind) x.2 in
    let both = of_kind (kind_at s e.attribute) e.value suits.1 in
    record {
      declared = declared s e.attribute is low (omega (arith, low, under));
      new = none_before (λ (y : Edit). y.attribute) made e left are.once;
      edits = edits_kind e.what (kind_at s e.attribute) suits.0;
      fits = both.0;
      short = both.1;
      said = All-head (λ (y : Edit). IsSayable y.value) e left are.said;
    }

left_after : (s : Space) (made : List Edit) (e : Edit) (left : List Edit) → AreLeft s made (e ∷ left) → AreLeft s (made ++ e ∷ []) left
left_after s made e left are = record {
  each = All-tail (EditFits s) e left are.each;
  once = subst (λ (xs : List Edit). AllDiffer (map (λ (y : Edit). y.attribute) xs)) (sym (append_assoc made (e ∷ []) left)) are.once;
  said = All-tail (λ (y : Edit). IsSayable y.value) e left are.said;
}

all_left : (s : Space) (edits : List Edit) → EditsFit s edits → EditsAreSayable edits → AreLeft s [] edits
all_left s edits fit said = record { each = fit.each; once = fit.once; said = said }

left_say : (left : List Edit) (s : Space) (made : List Edit) → IsSpace s → AreLeft s made left → Says (edits_toks s left) (edits_text s left ++ [])
left_say [] s made is are = nil_says
left_say (e ∷ left) s made is are =
    let next : IsNext s made e = is_next s made e left is are in
    subst (λ (x : List ℕ). Says (edits_toks s (e ∷ left)) x) (sym (edits_cons s e left []))
    (edit_says s e (edits_toks s left) (edits_text s left ++ []) next.declared.name.word next.said (goes_no_further s left)
    (left_say left s (made ++ e ∷ []) is (left_after s made e left are)))

pub edits_say : (s : Space) (edits : List Edit) → IsSpace s → EditsFit s edits → EditsAreSayable edits → Says (edits_toks s edits) (edits_text s edits ++ [])
edits_say s edits is fit said = left_say edits s [] is (all_left s edits fit said)

-- ---- they are read

word_again : (what : EditKind) → edit_kind (word_of what) ≡ Ok what
word_again an_edit.Add = refl
word_again an_edit.Append = refl
word_again an_edit.Min = refl
word_again an_edit.Max = refl

edit_again : (s : Space) (made : List Edit) (e : Edit) (ts : List Tok) → IsNext s made e → edit s made (edit_toks s e ts) ≡ Ok (e, ts)
unfolding edit edit_word unedited_attribute edit_value named
edit_again s made e ts is = by_value e.what e.attribute e.value is
  where
    by_value :
        (what : EditKind) (at : ℕ) (v : Value)
        → IsNext s made (record { what = what; attribute = at; value = v })
        → edit s made (Word (word_of what) ∷ Word (name_of s at) ∷ Sign (codes "=") ∷ tok_of_value v ∷ ts)
        ≡ Ok (record { what = what; attribute = at; value = v }, ts)
    by_value what at (values.Text t) is = rw (word_again what, is.declared.name.free, is.declared.number, is.new, is.edits, is.fits, is.short) refl
    by_value what at (values.Int n) is = rw (word_again what, is.declared.name.free, is.declared.number, is.new, is.edits, is.fits) refl

left_again : (left : List Edit) (s : Space) (made : List Edit) → IsSpace s → AreLeft s made left
    → repeat until.End (one_more_edit s) made (edits_toks s left) ≡ Ok (made ++ left, [])
left_again [] s made is are = edits_end s made [] refl ∙ ap (λ (x : List Edit). Ok (x, [])) (sym (append-nil made))
left_again (e ∷ left) s made is are =
    let next : IsNext s made e = is_next s made e left is are in
    edits_go_on s made (edits_toks s (e ∷ left)) e (edits_toks s left) refl (edit_again s made e (edits_toks s left) next)
    ∙ left_again left s (made ++ e ∷ []) is (left_after s made e left are)
    ∙ ap (λ (x : List Edit). Ok (x, [])) (append_assoc made (e ∷ []) left)

pub edits_again : (edits : List Edit) (s : Space) → IsSpace s → EditsFit s edits → EditsAreSayable edits
    → 0 < length edits → some_edits s (edits_toks s edits) ≡ Ok (edits, [])
unfolding some_edits one_more_edit
edits_again [] s is fit said some = absurd (omega (arith, some))
edits_again (e ∷ left) s is fit said some =
    let are : AreLeft s [] (e ∷ left) = all_left s (e ∷ left) fit said in
    rw (edit_again s [] e (edits_toks s left) (is_next s [] e left is are)) (left_again left s (e ∷ []) is (left_after s [] e left are))
