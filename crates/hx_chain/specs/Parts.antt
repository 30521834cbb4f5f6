-- Parts of a decision, and what the answer of `stuck` says.
use Rattle.std.specs.Prelude.{if◌then◌else◌, nat_le, List, Option, None, Some}
use Rattle.std.specs.Option.{option_map}
use Rattle.hx_model.specs.Types.{Answer, Caller, Config, Decision, RegionId, Space, Update, Value, Version}
use Rattle.hx_types.specs.declared.outcomes.Decision.TheVariants as a_decision
use Rattle.hx_model.specs.Leading.{StuckAt, granted, refusal}
use Rattle.hx_model.specs.Slots.{KeyState}

-- the version and the region
abbrev pub stuck_seen : Option (Version × RegionId) → Option StuckAt
stuck_seen found = option_map (λ (f : Version × RegionId). record { version = f.0; region = f.1 }) found

-- on a call that the mark is of
abbrev pub repeated : KeyState → Version → Answer → Decision
repeated s version answer = if nat_le version.0 s.floor then a_decision.Again version answer else a_decision.Wait version

-- the update that is refused for a lost region
abbrev pub refused : Space → Config → KeyState → Caller → Option (List Value) → RegionId → Update
refused space config s caller old g = let r = refusal space config s old g in granted s caller r.0 r.1
