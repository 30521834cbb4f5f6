-- Options, their words and limits, and what they choose one after the other.
use Rattle.std.specs.Prelude.{ℕ, ◌≡◌, ◌≤◌, ◌<◌, ◌^◌, true, false, List, [], ◌∷◌, Some, None, codes, ⊤}
use Rattle.std.specs.Fmt.{decimal}
use Rattle.hx_types.specs.declared.limits.TheConstants.{MOST_DRIVERS}
use Rattle.hx_words.specs.declared.options.CommandOption.{CommandOption}
use Rattle.hx_words.specs.declared.options.CommandOption.TheVariants.{Workers, Lose, Repeat, Seed, Trace}
use Rattle.hx_words.specs.declared.choosing.Chosen.{Chosen}

-- the words of an option: its name, and its value in a word of its own, in decimal with no sign and no leading zero
abbrev pub words_of : CommandOption → List (List ℕ)
words_of (Workers n) = codes "--workers" ∷ decimal n ∷ []
words_of (Lose n) = codes "--lose" ∷ decimal n ∷ []
words_of (Repeat n) = codes "--repeat" ∷ decimal n ∷ []
words_of (Seed n) = codes "--seed" ∷ decimal n ∷ []
words_of Trace = codes "--trace" ∷ []

-- its value is within its limits
abbrev pub IsWithin : CommandOption → Type 0
IsWithin (Workers n) = (1 ≤ n) × (n ≤ MOST_DRIVERS)
IsWithin (Lose n) = n ≤ 1000000
IsWithin (Repeat n) = n ≤ 1000000
IsWithin (Seed n) = n < 2 ^ 64
IsWithin Trace = ⊤

-- it isn't chosen yet
abbrev pub IsFree : Chosen → CommandOption → Type 0
IsFree chosen (Workers n) = chosen.workers ≡ None
IsFree chosen (Lose n) = chosen.lose ≡ None
IsFree chosen (Repeat n) = chosen.repeat ≡ None
IsFree chosen (Seed n) = chosen.seed ≡ None
IsFree chosen Trace = chosen.with_trace ≡ false

-- what is chosen once it is
abbrev pub choosing : Chosen → CommandOption → Chosen
choosing chosen (Workers n) = record chosen { workers = Some n }
choosing chosen (Lose n) = record chosen { lose = Some n }
choosing chosen (Repeat n) = record chosen { repeat = Some n }
choosing chosen (Seed n) = record chosen { seed = Some n }
choosing chosen Trace = record chosen { with_trace = true }

-- options choose this one after the other: each is within its limits, and wasn't chosen before it
abbrev pub Choose : Chosen → List CommandOption → Chosen → Type 0
Choose before [] after = before ≡ after
Choose before (option ∷ options) after = IsWithin option × IsFree before option × Choose (choosing before option) options after
