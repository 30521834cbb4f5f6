-- How a fate is tuned, and its counts, which stop at the greatest number of 64 bits.
use Rattle.std.specs.Prelude.{ℕ, ◌+◌, ◌<◌, Bool, true, false, cond, nat_lt}
use Rattle.hx_fate.specs.declared.fates.Choice.{Choice}
use Rattle.hx_fate.specs.declared.fates.Choice.TheVariants.{Deliver, Lose, Twice}
use Rattle.hx_fate.specs.declared.fates.FateState.{FateState}
use Rattle.hx_fate.specs.declared.fates.Tuning.{Tuning}

abbrev pub greatest_count : ℕ
greatest_count = 18446744073709551615

-- one more where it is so, unless the count stands at the greatest number
abbrev pub raised_if : Bool → ℕ → ℕ
raised_if true n = cond (nat_lt n greatest_count) (n + 1) n
raised_if false n = n

abbrev pub is_lose : Choice → Bool
is_lose Deliver = false
is_lose Lose = true
is_lose Twice = false

abbrev pub is_twice : Choice → Bool
is_twice Deliver = false
is_twice Lose = false
is_twice Twice = true

-- nothing is to be lost or repeated
abbrev pub never : Tuning
never = record { lose_every = 0; repeat_every = 0 }

-- nothing is to be lost or repeated, and no choice was made
abbrev pub untouched : FateState
untouched = record { tuning = never; chosen = 0; lost = 0; doubled = 0 }

-- one more choice is counted, and the tuning stays
abbrev pub after_choice : Choice → FateState → FateState
after_choice choice f = record {
  tuning = f.tuning;
  chosen = raised_if true f.chosen;
  lost = raised_if (is_lose choice) f.lost;
  doubled = raised_if (is_twice choice) f.doubled;
}

-- another tuning, and the same counts
abbrev pub tuned : Tuning → FateState → FateState
tuned tuning f = record { tuning = tuning; chosen = f.chosen; lost = f.lost; doubled = f.doubled }

-- the fate is told to repeat some posts: else none is delivered twice
abbrev pub MayRepeat : FateState → Type 0
MayRepeat f = 0 < f.tuning.repeat_every
