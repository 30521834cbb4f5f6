-- Fronts are no longer than their bytes, and what ends alike is the same where the fronts are.
use Rattle.std.proofs.Common.{◌≡◌, ℕ, ◌+◌, ◌<◌, ◌≤◌, Bool, true, false, ◌&&◌, List, [], ◌∷◌, ◌++◌, map, length, take, get_or, eqb, refl, ap, sym, ◌∙◌, arith}
use Rattle.std.proofs.lemmas.List.{length-take, map-append, take_more}
use Rattle.std.proofs.lemmas.List.Folds.{length-prefix_len}
use Rattle.std.proofs.lemmas.Str.{IsUtf8-from_is_utf8, is_utf8-from_IsUtf8}
use Rattle.std.specs.List.{prefix_len}
use Rattle.std.specs.Str.{IsUtf8, bytes_eq, is_utf8}

pub prefix_le : (p : ℕ → Bool) (bs : List ℕ) → prefix_len p bs ≤ length bs
prefix_le p bs = omega (arith, length-prefix_len p bs, length-take (prefix_len p bs) bs)

pub and_false : (b : Bool) → (b && false) ≡ false
and_false true = refl
and_false false = refl

exchange : (a b c : Bool) → (a && (b && c)) ≡ (b && (a && c))
exchange true b c = refl
exchange false true c = refl
exchange false false c = refl

-- nothing is the same as what has a last byte
no_end : (ys : List ℕ) (b : ℕ) → bytes_eq [] (ys ++ b ∷ []) ≡ false
no_end [] b = refl
no_end (y ∷ ys) b = refl

no_more : (xs : List ℕ) (a : ℕ) → bytes_eq (xs ++ a ∷ []) [] ≡ false
no_more [] a = refl
no_more (x ∷ xs) a = refl

pub same_ends : (xs ys : List ℕ) (a b : ℕ) → bytes_eq (xs ++ a ∷ []) (ys ++ b ∷ []) ≡ (eqb a b && bytes_eq xs ys)
same_ends [] [] a b = refl
same_ends [] (y ∷ ys) a b = ap (λ t. eqb a y && t) (no_end ys b) ∙ and_false (eqb a y) ∙ sym (and_false (eqb a b))
same_ends (x ∷ xs) [] a b = ap (λ t. eqb x b && t) (no_more xs a) ∙ and_false (eqb x b) ∙ sym (and_false (eqb a b))
same_ends (x ∷ xs) (y ∷ ys) a b = ap (λ t. eqb x y && t) (same_ends xs ys a b) ∙ exchange (eqb x y) (eqb a b) (bytes_eq xs ys)

pub printed_so : (printed front line : List ℕ) (a : ℕ) → printed ≡ front ++ a ∷ [] → bytes_eq printed (line ++ 10 ∷ []) ≡ (eqb a 10 && bytes_eq front line)
printed_so printed front line a e = ap (λ p. bytes_eq p (line ++ 10 ∷ [])) e ∙ same_ends front line a 10

pub printed_not : (printed line : List ℕ) → length printed ≡ 0 → bytes_eq printed (line ++ 10 ∷ []) ≡ false
printed_not [] line e = no_end line 10
printed_not (x ∷ xs) line e = absurd (omega arith)

-- whether bytes are a text
pub utf8_yes : (bs : List ℕ) → IsUtf8 bs → is_utf8 bs ≡ true
utf8_yes bs h = is_utf8-from_IsUtf8 bs h

pub utf8_no : (bs : List ℕ) → ¬ IsUtf8 bs → is_utf8 bs ≡ false
utf8_no bs never = by (is_utf8 bs) refl
  where
    by : (b : Bool) → is_utf8 bs ≡ b → b ≡ false
    by true q = absurd (never (IsUtf8-from_is_utf8 bs q))
    by false q = refl

-- a list made of another's items, one item more
pub map_more : {X A : Type 0} (f : X → A) (made : List A) (xs : List X) (i : ℕ) (x : X) → made ≡ map f (take i xs)
    → i < length xs → x ≡ get_or xs i x → made ++ f x ∷ [] ≡ map f (take (i + 1) xs)
map_more f made xs i x so_far lt is =
    ap (λ m. m ++ f x ∷ []) so_far
    ∙ sym (ap (map f) (take_more xs i x lt ∙ ap (λ y. take i xs ++ y ∷ []) (sym is)) ∙ map-append f (take i xs) (x ∷ []))
