-- Reading the bytes of a line from left to right.
use Rattle.std.specs.Prelude.{ℕ, suc, ◌^◌, Bool, true, false, not, List, [], ◌∷◌, ◌≡◌, length, take, drop, nat_eq}
use Rattle.std.specs.Prelude.{nat_lt, ◌==◌, ◌&&◌, Option, None, Some, Result, Ok, Err, if◌then◌else◌}
use Rattle.std.specs.List.{prefix_len, starts_with}
use Rattle.hx_lex.specs.Numbers.{digits_len, value}
use Rattle.hx_report_lines.specs.declared.errors.Stop.{Stop}
use Rattle.hx_report_lines.specs.declared.errors.Stop.TheVariants as stops
use Rattle.hx_report_lines.specs.declared.cursor.Place.{Place}
use Rattle.hx_report_lines.specs.declared.cursor.Place.TheVariants.{Outside, Inside, Escaped}

-- a value, and the bytes after it
abbrev pub Reader : Type 0 → Type 0
Reader A = List ℕ → Option (A × List ℕ)

abbrev pub on_some : {A B : Type 0} → Option A → (A → Option B) → Option B
on_some None f = None
on_some (Some x) f = f x

infixl 10 ◌>>=◌
abbrev pub ◌>>=◌ : {A B : Type 0} → Reader A → (A → Reader B) → Reader B
(p >>= f) bytes = on_some (p bytes) (λ x. f x.0 x.1)

abbrev pub give : {A : Type 0} → A → Reader A
give x bytes = Some (x, bytes)

-- what was found without reading on
abbrev pub found : {A : Type 0} → Option A → Reader A
found o bytes = on_some o (λ x. Some (x, bytes))

abbrev pub check : Bool → Reader (Unit {0})
check b bytes = if b then Some (tt, bytes) else None

-- that very word
abbrev pub word : List ℕ → Reader (Unit {0})
word w bytes = if starts_with nat_eq bytes w then Some (tt, drop (length w) bytes) else None

-- digits that spell a number of 64 bits
abbrev pub number : Reader ℕ
number bytes =
    if nat_lt (value (take (digits_len bytes) bytes)) (2 ^ 64)
    then Some (value (take (digits_len bytes) bytes), drop (digits_len bytes) bytes) else None

-- digits that spell a number of 32 bits
unfoldable pub short_number : Reader ℕ
short_number = do
  n ← number
  short ← check (nat_lt n (2 ^ 32))
  give n

-- the bytes up to a blank
abbrev pub piece : Reader (List ℕ)
piece bytes = let n = prefix_len (λ b. not (b == 32)) bytes in Some (take n bytes, drop n bytes)

-- whether a byte of a line stands between quotes, after the one before it
abbrev pub next_place : Place → ℕ → Place
next_place Outside b = if b == 34 then Inside else Outside
next_place Inside b = if b == 34 then Outside else if b == 92 then Escaped else Inside
next_place Escaped b = Inside

abbrev pub is_outside : Place → Bool
is_outside Outside = true
is_outside Inside = false
is_outside Escaped = false

-- how many bytes stand before the first such byte outside quotes
abbrev pub outside_from : ℕ → Place → List ℕ → ℕ
outside_from stop place [] = 0
outside_from stop place (b ∷ bs) = if (b == stop) && is_outside place then 0 else suc (outside_from stop (next_place place b) bs)

-- the bytes up to the first such byte outside quotes
abbrev pub up_to : ℕ → Reader (List ℕ)
up_to stop bytes = let n = outside_from stop Outside bytes in Some (take n bytes, drop n bytes)

-- What a function returned, seen by view, with the bytes that it left, is what reading gives, unless memory ran out.
abbrev pub Fails : {Y : Type 0} → Stop → Option Y → Type 0
Fails stops.Memory read = Unit {0}
Fails stops.Unread read = read ≡ None

abbrev pub Reads : {X Y : Type 0} → (X → Y) → Result X Stop → List ℕ → Option (Y × List ℕ) → Type 0
Reads view (Ok x) rest read = read ≡ Some (view x, rest)
Reads view (Err e) rest read = Fails e read

-- The same of what is read whole.
abbrev pub Gives : {X Y : Type 0} → (X → Y) → Result X Stop → Option Y → Type 0
Gives view (Ok x) read = read ≡ Some (view x)
Gives view (Err e) read = Fails e read
