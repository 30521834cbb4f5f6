-- Bytes that stand for themselves between quotes.
use Rattle.std.specs.Prelude.{◌≡◌, ℕ, ◌+◌, Bool, true, not, ◌&&◌, List, ◌∷◌, ◌++◌, length, drop, nat_le, nat_lt, ◌==◌}
use Rattle.std.specs.List.{list_all}

-- a byte of ASCII that is no control character below 32, quote or backslash
abbrev pub is_plain : ℕ → Bool
is_plain b = nat_le 32 b && nat_lt b 128 && not (b == 34) && not (b == 92)

-- these bytes stand for themselves, and a quote stands behind them
pub record IsPlainFront (bytes plain : List ℕ) : Type 0 where
  pub split : bytes ≡ plain ++ 34 ∷ drop (length plain + 1) bytes
  pub all : list_all is_plain plain ≡ true
