-- What is read, or the fault that is met first.
use Rattle.std.specs.Prelude.{◌≡◌, Result, Ok, Err}
use Rattle.hx_lex.specs.declared.errors.LexError.{LexError}
use Rattle.hx_lex.specs.declared.errors.LexError.TheVariants.{Memory, BadChar, OpenText, BadNumber}

-- what is read next, unless a fault came before
infixl 10 ◌>>=◌
abbrev pub ◌>>=◌ : {A B : Type 0} → Result A LexError → (A → Result B LexError) → Result B LexError
(Ok x) >>= f = f x
(Err e) >>= f = Err e

-- the error of a function is the fault that is met, unless memory ran out
abbrev pub Fails : {Y : Type 0} → LexError → Result Y LexError → Type 0
Fails Memory read = Unit {0}
Fails (BadChar place) read = read ≡ Err (BadChar place)
Fails (OpenText place) read = read ≡ Err (OpenText place)
Fails (BadNumber place) read = read ≡ Err (BadNumber place)

-- what a function returned, seen by view, is what is read, unless memory ran out
abbrev pub Gives : {X Y : Type 0} → (X → Y) → Result X LexError → Result Y LexError → Type 0
Gives view (Ok x) read = read ≡ Ok (view x)
Gives view (Err e) read = Fails e read
