-- Assignments and tests are read again.
use Rattle.hx_law_texts.proofs.Vocabulary.{[], All, All-head, All-tail, AllDiffer, ap, append-nil, append_assoc, arith, Assign, assigns_text, AssignsFit}
use Rattle.hx_law_texts.proofs.Vocabulary.{Attribute, begins_with, Bool, bytes_eq, codes, false, flat_map-cons, has_assign, is_at, is_digit, is_of, is_short}
use Rattle.hx_law_texts.proofs.Vocabulary.{IsOfKind, IsSayable, IsSomeAnd, IsSpace, IsWord, Kind, kind_at, le-leb, length, List, LONGEST_TEXT, map, name_of}
use Rattle.hx_law_texts.proofs.Vocabulary.{None, not, Number, Ok, Option, refl, repeat, Sign, slice_get, Some, Space, subst, suc, sym, Text, Tok, true, Until}
use Rattle.hx_law_texts.proofs.Vocabulary.{Value, ValuesAreSayable, Word, zero, ℕ, ◌++◌, ◌-◌, ◌<◌, ◌||◌, ◌∙◌, ◌∷◌, ◌≡◌}
use Rattle.hx_types.specs.declared.spaces.Kind.TheVariants as kinds
use Rattle.hx_types.specs.declared.values.Value.TheVariants as values
use Rattle.hx_types.specs.Spaces.{AssignFits}
use Rattle.hx_print.specs.Printing.{value_text, named_text, assign_text}
use Rattle.hx_script.specs.declared.line.Until.TheVariants as until
use Rattle.hx_script.specs.Values.{value, free_attribute, assign, one_more, some_assigns}
use Rattle.hx_script.specs.Words.{named}
use Rattle.hx_script.proofs.Lemmas.{assigns_go_on, assigns_end}
use Rattle.hx_law_texts.proofs.Names.{IsNamed, not_zero, none_before, IsAt, IsDeclaredAs, declared}
use Rattle.hx_law_texts.proofs.Numbers.{signed_says}
use Rattle.hx_law_texts.proofs.Quotes.{text_says}
use Rattle.hx_law_texts.proofs.Says.{Says, blank_says, word_says, equals_says}

-- ---- what they say

abbrev pub tok_of_value : Value → Tok
tok_of_value (values.Text t) = Text t
tok_of_value (values.Int n) = Number n

value_says : (v : Value) (ts : List Tok) (rest : List ℕ) → IsSayable v → begins_with is_digit rest ≡ false
    → Says ts rest → Says (tok_of_value v ∷ ts) (value_text v ++ rest)
unfolding value_text
value_says (values.Text t) ts rest is stop h = text_says t ts rest is h
value_says (values.Int n) ts rest is stop h = signed_says n ts rest is stop h

abbrev pub named_toks : List ℕ → Value → List Tok → List Tok
named_toks w v ts = Word w ∷ Sign (codes "=") ∷ tok_of_value v ∷ ts

named_parts : (o n e v r : List ℕ) → (o ++ n ++ e ++ v) ++ r ≡ o ++ (n ++ (e ++ (v ++ r)))
named_parts o n e v r = simp append_assoc

pub named_says : (w : List ℕ) (v : Value) (ts : List Tok) (rest : List ℕ) → IsWord w → IsSayable v
    → begins_with is_digit rest ≡ false → Says ts rest → Says (named_toks w v ts) (named_text w v ++ rest)
unfolding named_text
named_says w v ts rest is said stop h =
    subst (λ (x : List ℕ). Says (named_toks w v ts) x) (sym (named_parts (codes " ") w (codes "=") (value_text v) rest))
    (blank_says (named_toks w v ts) (w ++ (61 ∷ (value_text v ++ rest)))
    (word_says w (Sign (codes "=") ∷ tok_of_value v ∷ ts) (61 ∷ (value_text v ++ rest)) is refl
    (equals_says (tok_of_value v ∷ ts) (value_text v ++ rest) (value_says v ts rest said stop h))))

abbrev pub assign_toks : Space → Assign → List Tok → List Tok
assign_toks s a ts = named_toks (name_of s a.attribute) a.value ts

abbrev pub assigns_toks : Space → List Assign → List Tok → List Tok
assigns_toks s [] ts = ts
assigns_toks s (a ∷ left) ts = assign_toks s a (assigns_toks s left ts)

assigns_cons : (s : Space) (a : Assign) (left : List Assign) (rest : List ℕ)
    → assigns_text s (a ∷ left) ++ rest ≡ assign_text s a ++ (assigns_text s left ++ rest)
assigns_cons s a left rest = ap (λ (x : List ℕ). x ++ rest) (flat_map-cons (assign_text s) a left) ∙ append_assoc (assign_text s a) (assigns_text s left) rest

-- what goes on at neither a blank nor the rest
pub goes_no_further : (p : ℕ → Bool) (s : Space) (assigns : List Assign) (rest : List ℕ) → p 32 ≡ false
    → begins_with p rest ≡ false → begins_with p (assigns_text s assigns ++ rest) ≡ false
unfolding named_text
goes_no_further p s [] rest blank stop = stop
goes_no_further p s (a ∷ left) rest blank stop = ap (begins_with p) (assigns_cons s a left rest) ∙ blank

-- ---- what holds of each

-- the assignment may stand behind the others
record IsNext (s : Space) (made : List Assign) (a : Assign) : Type 0 where
  pub declared : IsDeclaredAs s a.attribute
  pub new : has_assign made a.attribute ≡ false
  pub fits : is_of (kind_at s a.attribute) a.value ≡ true
  pub short : is_short a.value ≡ true
  pub said : IsSayable a.value

pub of_kind : (k : Kind) (v : Value) → IsOfKind k v → (is_of k v ≡ true) × (is_short v ≡ true)
of_kind kinds.Text (values.Text t) is = (refl, le-leb (length t) LONGEST_TEXT is)
of_kind kinds.Text (values.Int n) is = absurd is
of_kind (kinds.Int lo hi) (values.Text t) is = absurd is
of_kind (kinds.Int lo hi) (values.Int n) is = (refl, refl)

pub below : {A : Type 0} (xs : List A) (i : ℕ) (x : A) → slice_get xs i ≡ Some x → i < length xs
below [] i x e = absurd cc
below (y ∷ xs) zero x e = omega arith
below (y ∷ xs) (suc i) x e = omega (arith, below xs i x e)

fits_at : (s : Space) (a : Assign) → AssignFits s a → (x : Attribute) × IsAt s a.attribute x × IsOfKind x.kind a.value
fits_at s a fits = by_option (slice_get s.attributes (a.attribute - 1)) refl fits.1
  where
    by_option : (o : Option Attribute) → slice_get s.attributes (a.attribute - 1) ≡ o
        → IsSomeAnd o (λ (x : Attribute). IsOfKind x.kind a.value) → (x : Attribute) × IsAt s a.attribute x
        × IsOfKind x.kind a.value
    by_option None e is = absurd is
    by_option (Some x) e is = (x, record { some = fits.0; here = e }, is)

-- the assignments that were read and those that are left, of one group
pub record AreLeft (s : Space) (made left : List Assign) : Type 0 where
  pub each : All (AssignFits s) left
  pub once : AllDiffer (map (λ (a : Assign). a.attribute) (made ++ left))
  pub said : ValuesAreSayable left

is_next : (s : Space) (made : List Assign) (a : Assign) (left : List Assign) → IsSpace s → AreLeft s made (a ∷ left) → IsNext s made a
is_next s made a left is are =
    let fits : AssignFits s a = All-head (AssignFits s) a left are.each in
    let x = fits_at s a fits in
    let low : 0 < a.attribute = fits.0 in
    let under : a.attribute - 1 < length s.attributes = below s.attributes (a.attribute - 1) x.0 x.1.here in
    let kind : kind_at s a.attribute ≡ x.0.kind = rw (not_zero a.attribute low, x.1.here) refl in
    let both = of_kind (kind_at s a.attribute) a.value (subst (λ k. IsOfKind k a.value) (sym kind) x.2) in
    record {
      declared = declared s a.attribute is low (omega (arith, low, under));
      new = none_before (λ (y : Assign). y.attribute) made a left are.once;
      fits = both.0;
      short = both.1;
      said = All-head (λ (y : Assign). IsSayable y.value) a left are.said;
    }

pub left_after : (s : Space) (made : List Assign) (a : Assign) (left : List Assign) → AreLeft s made (a ∷ left) → AreLeft s (made ++ a ∷ []) left
left_after s made a left are = record {
  each = All-tail (AssignFits s) a left are.each;
  once = subst (λ (xs : List Assign). AllDiffer (map (λ (y : Assign). y.attribute) xs)) (sym (append_assoc made (a ∷ []) left)) are.once;
  said = All-tail (λ (y : Assign). IsSayable y.value) a left are.said;
}

pub all_left : (s : Space) (assigns : List Assign) → AssignsFit s assigns → ValuesAreSayable assigns → AreLeft s [] assigns
all_left s assigns fit said = record { each = fit.each; once = fit.once; said = said }

pub assigns_say : (left : List Assign) (s : Space) (made : List Assign) (ts : List Tok) (rest : List ℕ) → IsSpace s
    → AreLeft s made left → begins_with is_digit rest ≡ false → Says ts rest
    → Says (assigns_toks s left ts) (assigns_text s left ++ rest)
assigns_say [] s made ts rest is are stop h = h
assigns_say (a ∷ left) s made ts rest is are stop h =
    let next : IsNext s made a = is_next s made a left is are in
    subst (λ (x : List ℕ). Says (assigns_toks s (a ∷ left) ts) x) (sym (assigns_cons s a left rest))
    (named_says (name_of s a.attribute) a.value (assigns_toks s left ts)
    (assigns_text s left ++ rest) next.declared.name.word next.said
    (goes_no_further is_digit s left rest refl stop)
    (assigns_say left s (made ++ a ∷ []) ts rest is (left_after s made a left are) stop h))

-- ---- they are read

assign_again : (s : Space) (made : List Assign) (a : Assign) (ts : List Tok) → IsNext s made a → assign s made (assign_toks s a ts) ≡ Ok (a, ts)
unfolding assign free_attribute value named
assign_again s made a ts is = by_value a.attribute a.value is
  where
    by_value : (at : ℕ) (v : Value) → IsNext s made (record { attribute = at; value = v })
        → assign s made (Word (name_of s at) ∷ Sign (codes "=") ∷ tok_of_value v ∷ ts)
        ≡ Ok (record { attribute = at; value = v }, ts)
    by_value at (values.Text t) is = rw (is.declared.name.free, is.declared.number, is.new, is.fits, is.short) refl
    by_value at (values.Int n) is = rw (is.declared.name.free, is.declared.number, is.new, is.fits) refl

not_set : (a b : Bool) → not (a || b) ≡ true → b ≡ false
not_set true b e = absurd cc
not_set false true e = absurd cc
not_set false false e = refl

-- no group of assignments ends at a name
goes_past : (u : Until) (w : List ℕ) (ts : List Tok) → IsNamed w → is_at u (Word w ∷ ts) ≡ false
goes_past until.End w ts is = refl
goes_past until.Set w ts is = not_set (bytes_eq w (codes "if")) (bytes_eq w (codes "set")) is.free

pub assigns_again : (left : List Assign) (u : Until) (s : Space) (made : List Assign) (ts : List Tok) → IsSpace s
    → AreLeft s made left → is_at u ts ≡ true → repeat u (one_more s) made (assigns_toks s left ts) ≡ Ok (made ++ left, ts)
assigns_again [] u s made ts is are end = assigns_end s u made ts end ∙ ap (λ (x : List Assign). Ok (x, ts)) (sym (append-nil made))
assigns_again (a ∷ left) u s made ts is are end =
    let next : IsNext s made a = is_next s made a left is are in
    assigns_go_on s u made (assigns_toks s (a ∷ left) ts) a (assigns_toks s left ts)
    (goes_past u (name_of s a.attribute) (Sign (codes "=") ∷ tok_of_value a.value ∷ assigns_toks s left ts)
    next.declared.name) (assign_again s made a (assigns_toks s left ts) next)
    ∙ assigns_again left u s (made ++ a ∷ []) ts is (left_after s made a left are) end
    ∙ ap (λ (x : List Assign). Ok (x, ts)) (append_assoc made (a ∷ []) left)

-- one assignment or more
pub some_again : (assigns : List Assign) (u : Until) (s : Space) (ts : List Tok) → IsSpace s → AreLeft s [] assigns
    → 0 < length assigns → is_at u ts ≡ true → some_assigns s u (assigns_toks s assigns ts) ≡ Ok (assigns, ts)
unfolding some_assigns one_more
some_again [] u s ts is are some end = absurd (omega (arith, some))
some_again (a ∷ left) u s ts is are some end = rw (assign_again s [] a (assigns_toks s left ts)
    (is_next s [] a left is are)) (assigns_again left u s (a ∷ []) ts is (left_after s [] a left are) end)
