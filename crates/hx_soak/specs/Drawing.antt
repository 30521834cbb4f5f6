-- The generator SplitMix64 of Steele, Lea and Flood.
use Rattle.std.specs.Prelude.{ℕ, zero, suc, ◌+◌, ◌*◌, ◌/◌, ◌%◌, ◌^◌, bit_xor}

-- a draw moves the state by a step
abbrev pub next_state : ℕ → ℕ
next_state state = (state + 0x9e3779b97f4a7c15) % 2 ^ 64

-- the bits of a number joined with those that stand so many places above them by exclusive or
abbrev pub folded : ℕ → ℕ → ℕ
folded places n = bit_xor n (n / 2 ^ places)

abbrev pub multiplied : ℕ → ℕ → ℕ
multiplied factor n = (n * factor) % 2 ^ 64

-- what a state is mixed into
abbrev pub mixed : ℕ → ℕ
mixed state = folded 31 (multiplied 0x94d049bb133111eb (folded 27 (multiplied 0xbf58476d1ce4e5b9 (folded 30 state))))

-- the state after so many draws
abbrev pub state_after : ℕ → ℕ → ℕ
state_after seed zero = seed
state_after seed (suc n) = next_state (state_after seed n)

-- the draw of a number from 0
abbrev pub draw_of : ℕ → ℕ → ℕ
draw_of seed n = mixed (next_state (state_after seed n))
