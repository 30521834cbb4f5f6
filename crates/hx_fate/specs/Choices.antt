-- What fates choose: by the number of the choice, and by a draw.
use Rattle.std.specs.Prelude.{ℕ, ◌+◌, ◌*◌, ◌/◌, ◌%◌, ◌^◌, Bool, not, ◌&&◌, ◌==◌, if◌then◌else◌}
use Rattle.rand_xoshiro.specs.SplitMix64.{mix_u64}
use Rattle.hx_fate.specs.declared.fates.Choice.{Choice}
use Rattle.hx_fate.specs.declared.fates.Choice.TheVariants.{Deliver, Lose, Twice}
use Rattle.hx_fate.specs.declared.fates.FateState.{FateState}
use Rattle.hx_fate.specs.declared.fates.Tuning.{Tuning}

-- the period isn't 0 and divides the number
abbrev pub divides : ℕ → ℕ → Bool
divides period number = not (period == 0) && ((number % period) == 0)

-- lost where its period divides the first number, else repeated where its period divides the second
abbrev pub choice_by : Tuning → ℕ → ℕ → Choice
choice_by tuning first second =
    if divides tuning.lose_every first then Lose else if divides tuning.repeat_every second then Twice else Deliver

-- the choice of a number, from 1
abbrev pub choice_at : Tuning → ℕ → Choice
choice_at tuning number = choice_by tuning number number

-- the draw of a number, from 0, of the generator SplitMix64 of Steele, Lea and Flood that starts from a seed: each draw moves its state by a step
abbrev pub draw_of : ℕ → ℕ → ℕ
draw_of seed number = (mix_u64 ((seed + number * 0x9e3779b97f4a7c15) % 2 ^ 64)).0

-- the choice of a draw: its upper half alone decides on repeating, so that one doesn't hang on the other
abbrev pub choice_drawn : Tuning → ℕ → Choice
choice_drawn tuning draw = choice_by tuning draw (draw / 2 ^ 32)

-- a fate that draws: the seed of its own generator, and its state
pub record Drawing : Type 0 where
  pub seed : ℕ
  pub state : FateState
