-- Reading the tokens of a line from left to right: the first token that doesn't serve gives the reason.
use Rattle.std.specs.Prelude.{◌≡◌, ℕ, ℤ, pos, negsuc, zero, suc, nat_le, int_le, ◌&&◌, length, codes, Bool, true}
use Rattle.std.specs.Prelude.{false, List, [], ◌∷◌, Result, Ok, Err, if◌then◌else◌}
use Rattle.std.specs.Str.{bytes_eq}
use Rattle.hx_script.specs.declared.errors.Reason.{Reason}
use Rattle.hx_script.specs.declared.errors.Reason.TheVariants.{Order, Bounds}
use Rattle.hx_script.specs.declared.errors.Stop.{Stop}
use Rattle.hx_script.specs.declared.errors.Stop.TheVariants.{Memory, Fault}
use Rattle.hx_script.specs.declared.line.Until.{Until}
use Rattle.hx_script.specs.declared.line.Until.TheVariants as until
use Rattle.hx_script.specs.Toks.{Tok, Word, Number, Text, Sign}

-- a value, and the tokens after it
abbrev pub Reader : Type 0 → Type 0
Reader A = List Tok → Result (A × List Tok) Reason

abbrev pub on_ok : {A B : Type 0} → Result A Reason → (A → Result B Reason) → Result B Reason
on_ok (Ok x) f = f x
on_ok (Err e) f = Err e

infixl 10 ◌>>=◌
abbrev pub ◌>>=◌ : {A B : Type 0} → Reader A → (A → Reader B) → Reader B
(p >>= f) ts = on_ok (p ts) (λ x. f x.0 x.1)

abbrev pub give : {A : Type 0} → A → Reader A
give x ts = Ok (x, ts)

abbrev pub refuse : {A : Type 0} → Reason → Reader A
refuse reason ts = Err reason

-- what was judged without reading on
abbrev pub judged : {A : Type 0} → Result A Reason → Reader A
judged (Ok x) = give x
judged (Err r) = refuse r

abbrev pub check : Bool → Reason → Reader (Unit {0})
check true reason = give tt
check false reason = refuse reason

abbrev pub word : Reader (List ℕ)
word (Word w ∷ ts) = Ok (w, ts)
word _ = Err Order

abbrev pub number : Reader ℤ
number (Number n ∷ ts) = Ok (n, ts)
number _ = Err Order

abbrev pub text : Reader (List ℕ)
text (Text t ∷ ts) = Ok (t, ts)
text _ = Err Order

abbrev pub end : Reader (Unit {0})
end [] = Ok (tt, [])
end (t ∷ ts) = Err Order

abbrev pub sign : List ℕ → Reader (Unit {0})
sign s (Sign t ∷ ts) = check (bytes_eq t s) Order ts
sign s _ = Err Order

-- that very word
abbrev pub fixed : List ℕ → Reader (Unit {0})
fixed s (Word w ∷ ts) = check (bytes_eq w s) Order ts
fixed s _ = Err Order

-- a number from lo to hi
abbrev pub is_between : ℕ → ℕ → ℤ → Bool
is_between lo hi (pos n) = nat_le lo n && nat_le n hi
is_between lo hi (negsuc n) = false

abbrev pub nat_of : ℤ → ℕ
nat_of (pos n) = n
nat_of (negsuc n) = 0

unfoldable pub number_in : ℕ → ℕ → Reader ℕ
number_in lo hi = do
  n ← number
  within ← check (is_between lo hi n) Bounds
  give (nat_of n)

-- a number that is 0 or more
unfoldable pub natural : Reader ℕ
natural = do
  n ← number
  within ← check (int_le (pos 0) n) Bounds
  give (nat_of n)

-- a number that is lo or more
unfoldable pub number_from : ℤ → Reader ℤ
number_from lo = do
  hi ← number
  ordered ← check (int_le lo hi) Bounds
  give hi

-- where a repetition ends: at the end of the line, or also before the word `set`
abbrev pub is_at : Until → List Tok → Bool
is_at u [] = true
is_at until.Set (Word w ∷ ts) = bytes_eq w (codes "set")
is_at u (t ∷ ts) = false

-- step by step until it ends there; fuel is how many tokens are left, and a step takes one at least
unfoldable pub steps : {B : Type 0} → Until → (B → Reader B) → ℕ → B → Reader B
steps u step zero b ts = if is_at u ts then Ok (b, ts) else Err Order
steps u step (suc fuel) b ts = if is_at u ts then Ok (b, ts) else (step b >>= steps u step fuel) ts

abbrev pub repeat : {B : Type 0} → Until → (B → Reader B) → B → Reader B
repeat u step b ts = steps u step (length ts) b ts

-- What a function returned, seen by view, with the tokens that it left, is what reading gives, unless memory ran out.
abbrev pub Fails : {Y : Type 0} → Stop → Result Y Reason → Type 0
Fails Memory read = Unit {0}
Fails (Fault r) read = read ≡ Err r

abbrev pub Reads : {X Y : Type 0} → (X → Y) → Result X Stop → List Tok → Result (Y × List Tok) Reason → Type 0
Reads view (Ok x) rest read = read ≡ Ok (view x, rest)
Reads view (Err e) rest read = Fails e read

-- The same of what is judged without reading on.
abbrev pub Gives : {X Y : Type 0} → (X → Y) → Result X Stop → Result Y Reason → Type 0
Gives view (Ok x) read = read ≡ Ok (view x)
Gives view (Err e) read = Fails e read
