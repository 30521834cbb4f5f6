-- Names that are read are names, and numbers of attributes are of the space.
use Rattle.std.proofs.Common.{◌≡◌, ℕ, ◌+◌, ◌<◌, ◌≤◌, Bool, true, false, cond, List, [], ◌∷◌, length, Some, None, Result, Ok, refl, subst, arith}
use Rattle.std.specs.Prelude.{◌&&◌, not, nat_le, nat_lt}
use Rattle.std.specs.List.{list_all, position_or_len}
use Rattle.std.specs.Str.{bytes_eq}
use Rattle.std.proofs.lemmas.Bool.{leb-true, ltb-true, false≢true}
use Rattle.hx_lex.specs.Letters.{IsWord, is_word_part}
use Rattle.hx_types.specs.declared.limits.TheConstants.{LONGEST_NAME}
use Rattle.hx_types.specs.declared.spaces.Attribute.{Attribute}
use Rattle.hx_types.specs.declared.spaces.Space.{Space}
use Rattle.hx_types.specs.Spaces.{is_word, is_letter, is_word_byte, IsName}
use Rattle.hx_script.specs.declared.errors.Reason.{Reason}
use Rattle.hx_script.specs.declared.errors.Reason.TheVariants.{Order, Twice, Limit}
use Rattle.hx_script.specs.Words.{may_name, named, name, is_declared, new_name, numbered, declared_number, known_number}
use Rattle.hx_script.proofs.Once.{not_true}
use Rattle.hx_script.proofs.Yields.{Yields, yields_then, yields_give, yields_check, yields_word, and_right}

and_both : (a b : Bool) → a ≡ true → b ≡ true → (a && b) ≡ true
and_both true true e f = refl
and_both true false e f = absurd cc
and_both false b e f = absurd cc

word_is : (w : List ℕ) → IsWord w → is_word w ≡ true
word_is [] i = i.letter
word_is (b ∷ rest) i = and_both (is_letter b) (list_all is_word_byte rest) i.letter (and_right (is_word_part b) (list_all is_word_part rest) i.parts)

pub record MayName (w : List ℕ) : Type 0 where
  pub word : IsWord w
  pub free : may_name w ≡ true

pub yields_named : Yields named MayName
unfolding named
yields_named = yields_then IsWord yields_word (λ w i. yields_then (λ u. may_name w ≡ true)
    (yields_check (may_name w) Order) (λ u h. yields_give w (record { word = i; free = h })))

pub is_name : (w : List ℕ) → MayName w → nat_le (length w) LONGEST_NAME ≡ true → IsName w
is_name w m short = record {
  word = word_is w m.word;
  short = leb-true (length w) LONGEST_NAME short;
  not_if = λ e. false≢true (subst (λ v. may_name v ≡ true) e m.free);
  not_set = λ e. false≢true (subst (λ v. may_name v ≡ true) e m.free);
}

pub yields_name : Yields name IsName
unfolding name
yields_name = yields_then MayName yields_named (λ w m. yields_then (λ u. nat_le (length w) LONGEST_NAME ≡ true)
    (yields_check (nat_le (length w) LONGEST_NAME) Limit) (λ u h. yields_give w (is_name w m h)))

pub record IsNew (space : Space) (w : List ℕ) : Type 0 where
  pub name : IsName w
  pub new : is_declared space w ≡ false

pub yields_new_name : (space : Space) → Yields (new_name space) (IsNew space)
unfolding new_name
yields_new_name space = yields_then MayName yields_named
    (λ w m. yields_then (λ u. not (is_declared space w) ≡ true) (yields_check (not (is_declared space w)) Twice)
    (λ u n. yields_then (λ u. nat_le (length w) LONGEST_NAME ≡ true) (yields_check (nat_le (length w) LONGEST_NAME) Limit)
    (λ u h. yields_give w (record { name = is_name w m h; new = not_true (is_declared space w) n }))))

abbrev number : ℕ → Result ℕ Reason
number n = Ok n

number_is : (a b : ℕ) → number a ≡ number b → a ≡ b
number_is a b e = cc

numbered_is : (t : Bool) (k n a : ℕ) → nat_lt k n ≡ t → numbered (cond t (Some k) None) ≡ Ok a → (0 < a) × (a ≤ n)
numbered_is true k n a l e =
    let s : k + 1 ≡ a = number_is (k + 1) a e in
    let lt : k < n = ltb-true k n l in
    (omega (arith, s), omega (arith, s, lt))
numbered_is false k n a l e = absurd cc

-- a declared attribute has a number of the space
pub declared_is : (space : Space) (w : List ℕ) (a : ℕ) → declared_number space w ≡ Ok a → (0 < a) × (a ≤ length space.attributes)
declared_is space w a e =
    let k : ℕ = position_or_len (λ (x : Attribute). bytes_eq x.name w) space.attributes in
    numbered_is (nat_lt k (length space.attributes)) k (length space.attributes) a refl e

known_is_by : (t : Bool) (space : Space) (w : List ℕ) (a : ℕ) → cond t (Ok 0) (declared_number space w) ≡ Ok a → a ≤ length space.attributes
known_is_by true space w a e = let s : 0 ≡ a = number_is 0 a e in omega (arith, s)
known_is_by false space w a e = (declared_is space w a e).1

pub known_is : (space : Space) (w : List ℕ) (a : ℕ) → known_number space w ≡ Ok a → a ≤ length space.attributes
known_is space w a e = known_is_by (bytes_eq space.key_name w) space w a e
