-- What is printed is taken again: words, numbers, callers.
use Rattle.std.proofs.Common.{◌≡◌, ℕ, ◌^◌, ◌<◌, Bool, true, false, cond, not, ◌&&◌, List, [], ◌∷◌, ◌++◌, length}
use Rattle.std.proofs.Common.{drop, eqb, ltb, Option, None, Some, refl, sym, ap, subst, ◌∙◌, arith}
use Rattle.std.specs.Prelude.{codes, nat_eq}
use Rattle.std.specs.Fmt.{decimal}
use Rattle.std.specs.List.{list_all, prefix_len, starts_with}
use Rattle.std.specs.Str.{bytes_eq}
use Rattle.std.proofs.lemmas.Bool.{lt-ltb}
use Rattle.std.proofs.lemmas.List.{append_assoc, drop_at, take_at}
use Rattle.std.proofs.lemmas.Slice.Eq.{bytes_eq-Decides}
use Rattle.hx_lex.specs.Letters.{begins_with, is_digit}
use Rattle.hx_model.specs.Types.{Caller}
use Rattle.hx_print.specs.Printing.{caller_text}
use Rattle.hx_law_texts.proofs.Lemmas.{decimal_digits, decimal_value, whole_run}
use Rattle.hx_report_lines.specs.Parts.{caller, if_same}
use Rattle.hx_report_lines.specs.Readers.{◌>>=◌, Reader, check, found, give, number, on_some, piece, short_number, word}
use Rattle.hx_report_lines.specs.Values.{Is32, Is64, IsCaller}

-- ---- pieces that stand one after the other

pub assoc3 : (a b c r : List ℕ) → (a ++ b ++ c) ++ r ≡ a ++ (b ++ (c ++ r))
assoc3 a b c r = append_assoc (a ++ b) c r ∙ append_assoc a b (c ++ r)

pub assoc4 : (a b c d r : List ℕ) → (a ++ b ++ c ++ d) ++ r ≡ a ++ (b ++ (c ++ (d ++ r)))
assoc4 a b c d r = append_assoc (a ++ b ++ c) d r ∙ assoc3 a b c (d ++ r)

pub assoc5 : (a b c d e r : List ℕ) → (a ++ b ++ c ++ d ++ e) ++ r ≡ a ++ (b ++ (c ++ (d ++ (e ++ r))))
assoc5 a b c d e r = append_assoc (a ++ b ++ c ++ d) e r ∙ assoc4 a b c d (e ++ r)

pub assoc6 : (a b c d e f r : List ℕ) → (a ++ b ++ c ++ d ++ e ++ f) ++ r ≡ a ++ (b ++ (c ++ (d ++ (e ++ (f ++ r)))))
assoc6 a b c d e f r = append_assoc (a ++ b ++ c ++ d ++ e) f r ∙ assoc5 a b c d e (f ++ r)

pub assoc7 : (a b c d e f g r : List ℕ) → (a ++ b ++ c ++ d ++ e ++ f ++ g) ++ r ≡ a ++ (b ++ (c ++ (d ++ (e ++ (f ++ (g ++ r))))))
assoc7 a b c d e f g r = append_assoc (a ++ b ++ c ++ d ++ e ++ f) g r ∙ assoc6 a b c d e f (g ++ r)

-- ---- readers

-- the reader takes a value from the bytes, and leaves the rest
pub record Takes {A : Type 0} (p : Reader A) (bytes : List ℕ) (a : A) (rest : List ℕ) : Type 0 where
  pub at : p bytes ≡ Some (a, rest)

pub takes_then : {A B : Type 0} {p : Reader A} (f : A → Reader B) {bytes : List ℕ} {b : B} {rest : List ℕ} (a : A)
    (mid : List ℕ) → Takes p bytes a mid → Takes (f a) mid b rest → Takes (p >>= f) bytes b rest
takes_then {A} {B} {p} f a mid t u = record { at = ap (λ o. on_some o (λ x. f x.0 x.1)) t.at ∙ u.at }

pub takes_give : {A : Type 0} (a : A) (rest : List ℕ) → Takes (give a) rest a rest
takes_give a rest = record { at = refl }

pub bytes_same : (a : List ℕ) → bytes_eq a a ≡ true
bytes_same a = (bytes_eq-Decides a a).1 refl

-- what is printed so is kept
pub kept : {A : Type 0} (text : A → List ℕ) (line : List ℕ) (x : A) → text x ≡ line ++ 10 ∷ [] → if_same text line x ≡ Some x
kept text line x e = ap (λ b. cond b (Some x) None) (ap (λ t. bytes_eq t (line ++ 10 ∷ [])) e ∙ bytes_same (line ++ 10 ∷ []))

pub starts : (w rest : List ℕ) → starts_with nat_eq (w ++ rest) w ≡ true
starts w rest = ap (λ t. bytes_eq w t) (take_at w rest (length w) refl) ∙ bytes_same w

pub word_takes : (w rest : List ℕ) → Takes (word w) (w ++ rest) tt rest
word_takes w rest = record {
  at = ap (λ b. cond b (Some (tt, drop (length w) (w ++ rest))) None) (starts w rest)
      ∙ ap (λ t. Some (tt, t)) (drop_at w rest (length w) refl);
}

pub number_takes : (n : ℕ) (rest : List ℕ) → Is64 n → begins_with is_digit rest ≡ false → Takes number (decimal n ++ rest) n rest
number_takes n rest n64 stop = record {
  at = rw (
    whole_run is_digit (decimal n) rest (decimal_digits n n64) stop,
    take_at (decimal n) rest (length (decimal n)) refl,
    drop_at (decimal n) rest (length (decimal n)) refl,
    decimal_value n n64,
    lt-ltb n (2 ^ 64) n64,
  ) refl;
}

pub wide : (n : ℕ) → Is32 n → Is64 n
wide n h = omega (arith, h)

pub check_takes : (b : Bool) (rest : List ℕ) → b ≡ true → Takes (check b) rest tt rest
check_takes b rest h = record { at = ap (λ t. cond t (Some (tt, rest)) None) h }

pub found_takes : {A : Type 0} (o : Option A) (a : A) (rest : List ℕ) → o ≡ Some a → Takes (found o) rest a rest
found_takes o a rest h = record { at = ap (λ x. on_some x (λ y. Some (y, rest))) h }

pub short_takes : (n : ℕ) (rest : List ℕ) → Is32 n → begins_with is_digit rest ≡ false → Takes short_number (decimal n ++ rest) n rest
unfolding short_number
short_takes n rest n32 stop =
    takes_then _ n rest (number_takes n rest (wide n n32) stop)
    (takes_then _ tt rest (check_takes (ltb n (2 ^ 32)) rest (lt-ltb n (2 ^ 32) n32)) (takes_give n rest))

pub piece_takes : (w rest : List ℕ) → list_all (λ b. not (eqb b 32)) w ≡ true → Takes piece (w ++ 32 ∷ rest) w (32 ∷ rest)
piece_takes w rest h =
    let run : prefix_len (λ b. not (eqb b 32)) (w ++ 32 ∷ rest) ≡ length w = whole_run (λ b. not (eqb b 32)) w (32 ∷ rest) h refl in
    record { at = rw (run, take_at w (32 ∷ rest) (length w) refl, drop_at w (32 ∷ rest) (length w) refl) refl }

and_true : (a b : Bool) → a ≡ true → b ≡ true → (a && b) ≡ true
and_true a b p q = ap (λ t. t && b) p ∙ q

caller_at : (s n : ℕ) (rest : List ℕ) → 0 < s → Is32 s → 0 < n → Is32 n → begins_with is_digit rest ≡ false
    → Takes caller (codes "u" ++ (decimal s ++ (codes "." ++ (decimal n ++ rest)))) (record { session = record { 0 = s }; number = n }) rest
unfolding caller
caller_at s n rest s0 s32 n0 n32 stop =
    takes_then _ tt (decimal s ++ (codes "." ++ (decimal n ++ rest))) (word_takes (codes "u") (decimal s ++ (codes "." ++ (decimal n ++ rest))))
    (takes_then _ s (codes "." ++ (decimal n ++ rest)) (short_takes s (codes "." ++ (decimal n ++ rest)) s32 refl)
    (takes_then _ tt (decimal n ++ rest) (word_takes (codes ".") (decimal n ++ rest))
    (takes_then _ n rest (short_takes n rest n32 stop)
    (takes_then _ tt rest (check_takes (ltb 0 s && ltb 0 n) rest (and_true (ltb 0 s) (ltb 0 n) (lt-ltb 0 s s0) (lt-ltb 0 n n0)))
    (takes_give _ rest)))))

pub caller_takes : (c : Caller) (rest : List ℕ) → IsCaller c → begins_with is_digit rest ≡ false → Takes caller (caller_text c ++ rest) c rest
unfolding caller_text
caller_takes c rest is stop =
    subst (λ bs. Takes caller bs c rest) (sym (assoc4 (codes "u") (decimal c.session.0) (codes ".") (decimal c.number) rest))
    (caller_at c.session.0 c.number rest is.session.0 is.session.1 is.number.0 is.number.1 stop)
