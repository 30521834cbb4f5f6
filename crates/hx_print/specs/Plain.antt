-- Bytes that need no escape.
use Rattle.std.specs.Prelude.{ℕ, Bool, not, ◌||◌, ◌==◌}

-- a byte that stands between quotes as it is
abbrev pub is_plain : ℕ → Bool
is_plain b = not (b == 34 || b == 92 || b == 10 || b == 9)
