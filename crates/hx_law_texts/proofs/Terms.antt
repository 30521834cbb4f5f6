-- The terms of a search are read again.
use Rattle.hx_law_texts.proofs.Vocabulary.{[], All, All-head, All-tail, AllDiffer, ap, append-nil, append_assoc, begins_with, Bool, codes, Equal, false}
use Rattle.hx_law_texts.proofs.Vocabulary.{FitsSigned, flat_map-cons, has_term, is_at, is_digit, is_dots, is_of, IsSpace, IsWord, Kind, kind_at, List, map}
use Rattle.hx_law_texts.proofs.Vocabulary.{name_of, Number, Ok, Range, refl, repeat, Sign, signed_decimal, Space, subst, sym, Term, TermIsSayable, terms_text}
use Rattle.hx_law_texts.proofs.Vocabulary.{TermsFit, Tok, true, w64, Word, ℕ, ℤ, ◌++◌, ◌∙◌, ◌∷◌, ◌≡◌}
use Rattle.hx_types.specs.declared.spaces.Kind.TheVariants as kinds
use Rattle.hx_types.specs.declared.values.Value.TheVariants as values
use Rattle.hx_types.specs.Spaces.{IsIntKind, attribute_of, TermFits}
use Rattle.hx_print.specs.Printing.{range_text, term_text, named_text}
use Rattle.hx_script.specs.declared.line.Until.TheVariants as until
use Rattle.hx_script.specs.Readers.{number_from}
use Rattle.hx_script.specs.Values.{value, free_known, range, term, one_more_term}
use Rattle.hx_script.specs.Words.{named}
use Rattle.hx_script.proofs.Lemmas.{terms_go_on, terms_end}
use Rattle.hx_law_texts.proofs.Assignments.{named_toks, named_says, of_kind}
use Rattle.hx_law_texts.proofs.Attributes.{in_order}
use Rattle.hx_law_texts.proofs.Names.{none_before, IsKnownAs, known}
use Rattle.hx_law_texts.proofs.Numbers.{signed_says}
use Rattle.hx_law_texts.proofs.Says.{Says, nil_says, blank_says, word_says, equals_says, dots_say}

-- ---- what they say

abbrev range_toks : List ℕ → ℤ → ℤ → List Tok → List Tok
range_toks w lo hi ts = Word w ∷ Sign (codes "=") ∷ Number lo ∷ Sign (codes "..") ∷ Number hi ∷ ts

range_parts : (o n e l d h r : List ℕ) → (o ++ n ++ e ++ l ++ d ++ h) ++ r ≡ o ++ (n ++ (e ++ (l ++ (d ++ (h ++ r)))))
range_parts o n e l d h r = simp append_assoc

range_says : (w : List ℕ) (lo hi : ℤ) (ts : List Tok) (rest : List ℕ) → IsWord w → FitsSigned w64 lo
    → FitsSigned w64 hi → begins_with is_digit rest ≡ false → Says ts rest
    → Says (range_toks w lo hi ts) (range_text w lo hi ++ rest)
unfolding range_text
range_says w lo hi ts rest is low high stop h =
    let two : Says (Number hi ∷ ts) (signed_decimal hi ++ rest) = signed_says hi ts rest high stop h in
    let tail : List ℕ = 46 ∷ 46 ∷ (signed_decimal hi ++ rest) in
    let dots : Says (Sign (codes "..") ∷ Number hi ∷ ts) tail = dots_say (Number hi ∷ ts) (signed_decimal hi ++ rest) two in
    let one : Says (Number lo ∷ Sign (codes "..") ∷ Number hi ∷ ts) (signed_decimal lo ++ tail) =
    signed_says lo (Sign (codes "..") ∷ Number hi ∷ ts) tail low refl dots in
    subst (λ (x : List ℕ). Says (range_toks w lo hi ts) x)
    (sym (range_parts (codes " ") w (codes "=") (signed_decimal lo) (codes "..") (signed_decimal hi) rest))
    (blank_says (range_toks w lo hi ts) (w ++ (61 ∷ (signed_decimal lo ++ tail)))
    (word_says w (Sign (codes "=") ∷ Number lo ∷ Sign (codes "..") ∷ Number hi ∷ ts)
    (61 ∷ (signed_decimal lo ++ tail)) is refl (equals_says (Number lo ∷ Sign (codes "..") ∷ Number hi ∷ ts)
    (signed_decimal lo ++ tail) one)))

abbrev term_toks : Space → Term → List Tok → List Tok
term_toks s (Equal a v) ts = named_toks (name_of s a) v ts
term_toks s (Range a lo hi) ts = range_toks (name_of s a) lo hi ts

abbrev pub terms_toks : Space → List Term → List Tok
terms_toks s [] = []
terms_toks s (t ∷ left) = term_toks s t (terms_toks s left)

terms_cons : (s : Space) (t : Term) (left : List Term) → terms_text s (t ∷ left) ++ [] ≡ term_text s t ++ (terms_text s left ++ [])
terms_cons s t left = ap (λ (x : List ℕ). x ++ []) (flat_map-cons (term_text s) t left) ∙ append_assoc (term_text s t) (terms_text s left) []

-- what doesn't go on at a blank
pub goes_no_further : (p : ℕ → Bool) (s : Space) (terms : List Term) → p 32 ≡ false → begins_with p (terms_text s terms ++ []) ≡ false
unfolding named_text range_text
goes_no_further p s [] blank = refl
goes_no_further p s (Equal a v ∷ left) blank = ap (begins_with p) (terms_cons s (Equal a v) left) ∙ blank
goes_no_further p s (Range a lo hi ∷ left) blank = ap (begins_with p) (terms_cons s (Range a lo hi) left) ∙ blank

-- ---- what holds of each

-- the terms that were read and those that are left
record AreLeft (s : Space) (made left : List Term) : Type 0 where
  pub each : All (TermFits s) left
  pub once : AllDiffer (map attribute_of (made ++ left))
  pub said : All TermIsSayable left

left_after : (s : Space) (made : List Term) (t : Term) (left : List Term) → AreLeft s made (t ∷ left) → AreLeft s (made ++ t ∷ []) left
left_after s made t left are = record {
  each = All-tail (TermFits s) t left are.each;
  once = subst (λ (xs : List Term). AllDiffer (map attribute_of xs)) (sym (append_assoc made (t ∷ []) left)) are.once;
  said = All-tail TermIsSayable t left are.said;
}

-- the term may stand behind the others
record IsNext (s : Space) (made : List Term) (t : Term) : Type 0 where
  pub known : IsKnownAs s (attribute_of t)
  pub new : has_term made (attribute_of t) ≡ false
  pub fits : TermFits s t
  pub said : TermIsSayable t

known_of : (s : Space) (t : Term) → IsSpace s → TermFits s t → IsKnownAs s (attribute_of t)
known_of s (Equal a v) is fits = known s a is fits.0
known_of s (Range a lo hi) is fits = known s a is fits.0

is_next : (s : Space) (made : List Term) (t : Term) (left : List Term) → IsSpace s → AreLeft s made (t ∷ left) → IsNext s made t
is_next s made t left is are = record {
  known = known_of s t is (All-head (TermFits s) t left are.each);
  new = none_before attribute_of made t left are.once;
  fits = All-head (TermFits s) t left are.each;
  said = All-head TermIsSayable t left are.said;
}

term_says : (s : Space) (t : Term) (made : List Term) (ts : List Tok) (rest : List ℕ) → IsNext s made t
    → begins_with is_digit rest ≡ false → Says ts rest → Says (term_toks s t ts) (term_text s t ++ rest)
term_says s (Equal a v) made ts rest is stop h = named_says (name_of s a) v ts rest is.known.name.word is.said stop h
term_says s (Range a lo hi) made ts rest is stop h = range_says (name_of s a) lo hi ts rest is.known.name.word is.said.0 is.said.1 stop h

terms_say_left : (left : List Term) (s : Space) (made : List Term) → IsSpace s → AreLeft s made left → Says (terms_toks s left) (terms_text s left ++ [])
terms_say_left [] s made is are = nil_says
terms_say_left (t ∷ left) s made is are =
    subst (λ (x : List ℕ). Says (terms_toks s (t ∷ left)) x) (sym (terms_cons s t left))
    (term_says s t made (terms_toks s left) (terms_text s left ++ []) (is_next s made t left is are)
    (goes_no_further is_digit s left refl) (terms_say_left left s (made ++ t ∷ []) is (left_after s made t left are)))

-- ---- they are read

of_int : (k : Kind) (n : ℤ) → IsIntKind k → is_of k (values.Int n) ≡ true
of_int kinds.Text n is = absurd is
of_int (kinds.Int lo hi) n is = refl

term_again : (s : Space) (made : List Term) (t : Term) (ts : List Tok) → is_dots ts ≡ false → IsNext s made t → term s made (term_toks s t ts) ≡ Ok (t, ts)
unfolding term free_known named value range number_from
term_again s made (Equal a (values.Text t)) ts none is =
    let of = of_kind (kind_at s a) (values.Text t) is.fits.1 in
    rw (is.known.name.free, is.known.number, is.new, of.0, of.1) refl
term_again s made (Equal a (values.Int n)) ts none is =
    let of = of_kind (kind_at s a) (values.Int n) is.fits.1 in
    rw (is.known.name.free, is.known.number, is.new, of.0, none) refl
term_again s made (Range a lo hi) ts none is =
    rw (is.known.name.free, is.known.number, is.new, of_int (kind_at s a) lo is.fits.1, in_order lo hi is.fits.2) refl

no_dots : (s : Space) (left : List Term) → is_dots (terms_toks s left) ≡ false
no_dots s [] = refl
no_dots s (Equal a v ∷ left) = refl
no_dots s (Range a lo hi ∷ left) = refl

goes_past : (s : Space) (t : Term) (ts : List Tok) → is_at until.End (term_toks s t ts) ≡ false
goes_past s (Equal a v) ts = refl
goes_past s (Range a lo hi) ts = refl

again_left : (left : List Term) (s : Space) (made : List Term) → IsSpace s → AreLeft s made left
    → repeat until.End (one_more_term s) made (terms_toks s left) ≡ Ok (made ++ left, [])
again_left [] s made is are = terms_end s made [] refl ∙ ap (λ (x : List Term). Ok (x, [])) (sym (append-nil made))
again_left (t ∷ left) s made is are =
    terms_go_on s made (terms_toks s (t ∷ left)) t (terms_toks s left) (goes_past s t (terms_toks s left))
    (term_again s made t (terms_toks s left) (no_dots s left) (is_next s made t left is are))
    ∙ again_left left s (made ++ t ∷ []) is (left_after s made t left are)
    ∙ ap (λ (x : List Term). Ok (x, [])) (append_assoc made (t ∷ []) left)

abbrev left_of : (s : Space) (terms : List Term) → TermsFit s terms → All TermIsSayable terms → AreLeft s [] terms
left_of s terms fit said = record { each = fit.each; once = fit.once; said = said }

pub terms_say : (s : Space) (terms : List Term) → IsSpace s → TermsFit s terms → All TermIsSayable terms → Says (terms_toks s terms) (terms_text s terms ++ [])
terms_say s terms is fit said = terms_say_left terms s [] is (left_of s terms fit said)

pub terms_again : (s : Space) (terms : List Term) → IsSpace s → TermsFit s terms → All TermIsSayable terms
    → repeat until.End (one_more_term s) [] (terms_toks s terms) ≡ Ok (terms, [])
terms_again s terms is fit said = again_left terms s [] is (left_of s terms fit said)
