-- The words for actors: `c`, or `s` or `u` with a number.
use Rattle.std.specs.Prelude.{ℕ, Bool, false, not, ◌&&◌, ◌||◌, List, [], ◌∷◌, length, nat_le, ◌==◌, Result, Ok, Err, if◌then◌else◌}
use Rattle.std.specs.List.{list_all}
use Rattle.hx_types.specs.declared.ids.Actor.{Actor}
use Rattle.hx_types.specs.declared.ids.Actor.TheVariants.{Coordinator, Server, Session}
use Rattle.hx_lex.specs.Letters.{is_digit}
use Rattle.hx_lex.specs.Numbers.{value}
use Rattle.hx_script.specs.declared.errors.Reason.{Reason}
use Rattle.hx_script.specs.declared.errors.Reason.TheVariants.{Order, Bounds}
use Rattle.hx_script.specs.Readers.{◌>>=◌, on_ok, Reader, judged, word}

-- digits without a leading zero
abbrev pub is_decimal : List ℕ → Bool
is_decimal [] = false
is_decimal (b ∷ bs) = list_all is_digit (b ∷ bs) && (nat_le 49 b || length bs == 0)

-- the number that digits spell, from 1 to most
abbrev pub number_word : ℕ → List ℕ → Result ℕ Reason
number_word most digits =
    if not (is_decimal digits) then Err Order
    else (if nat_le 1 (value digits) && nat_le (value digits) most then Ok (value digits)
    else Err Bounds)

-- the actor that a word names, of so many servers and sessions
abbrev pub actor_word : ℕ → ℕ → List ℕ → Result Actor Reason
actor_word servers sessions [] = Err Order
actor_word servers sessions (b ∷ digits) =
    if b == 99 && length digits == 0 then Ok Coordinator
    else (if b == 115 then on_ok (number_word servers digits) (λ n. Ok (Server (record { 0 = n })))
    else (if b == 117 then on_ok (number_word sessions digits) (λ n. Ok (Session (record { 0 = n })))
    else Err Order))

unfoldable pub actor : ℕ → ℕ → Reader Actor
actor servers sessions = do
  w ← word
  judged (actor_word servers sessions w)
