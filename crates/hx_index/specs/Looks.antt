-- How looks at rows are counted.
use Rattle.std.specs.Prelude.{ℕ, zero, suc, ◌+◌, ◌/◌, ◌<◌, ◌≤◌, ◌==◌, List, if◌then◌else◌, Option}
use Rattle.hx_model.specs.Types.{Row}

-- one look more; the count stays at the greatest `u64`
abbrev pub raised : ℕ → ℕ
raised looks = if looks == 0xffff_ffff_ffff_ffff then looks else looks + 1

-- so many looks more were counted, or the count is at the greatest `u64`
abbrev pub HaveCounted : ℕ → ℕ → ℕ → Type 0
HaveCounted n old new = new < 0xffff_ffff_ffff_ffff → old + n ≤ new

-- the number of binary digits of n, as far as so many
abbrev pub digits_within : ℕ → ℕ → ℕ
digits_within zero n = 0
digits_within (suc most) n = if n == 0 then 0 else suc (digits_within most (n / 2))

-- the number of binary digits of n, 0 for 0
abbrev pub digits_of : ℕ → ℕ
digits_of n = digits_within n n

-- a look at rows by their numbers, and the number of looks so far
pub record ViewState : Type 0 where
  pub rows : List (Option Row)
  pub looks : ℕ
