-- What a cluster keeps, and what its runs are.
use Rattle.std.specs.Prelude.{◌≡◌, ℕ, ◌<◌, List, length, map, reverse, take, slice_get, IfSome, Some}
use Rattle.std.specs.List.{All}
use Rattle.hx_model.specs.Types.{Entry}
use Rattle.hx_types.specs.Fitting.{IsScript}
use Rattle.hx_model.specs.Runs.{IsRun, session_of}
use Rattle.hx_world.specs.Worlds.{HasFewEntries, WorldState}
use Rattle.hx_bundle.specs.declared.bundles.Bundle.{Bundle}
use Rattle.hx_bundle.specs.Bundles.{IsBundle, times}
use Rattle.hx_spaces.specs.Begins.{IsSequential}
use Rattle.hx_spaces.specs.Courses.{Course, begun_in, session_at, turns_at}

-- the calls that a session began in a space are those of its first turns
abbrev pub IsInTurn : Bundle → List WorldState → ℕ → Type 0
IsInTurn bundle runs place =
    (k : ℕ) (r : WorldState) → slice_get runs k ≡ Some r
    → (session_of r.script (session_at place) r.trace).begun ≡ times k (take (begun_in (session_at place) runs) (turns_at bundle.turns place))

-- a run for each space, all entries in one order, and each session makes its calls in the order of its turns, one after another
pub record IsCourse (c : Course) : Type 0 where
  pub valid : IsBundle c.bundle
  pub scripts : map (λ (r : WorldState). r.script) c.runs ≡ c.bundle.spaces
  pub in_turn : (place : ℕ) → IsInTurn c.bundle c.runs place
  pub counted : (k : ℕ) → IfSome (slice_get c.runs k) (λ (r : WorldState). length r.trace ≡ times k c.order)
  pub within : All (λ (k : ℕ). k < length c.bundle.spaces) c.order
  pub sequential : IsSequential c.bundle c.runs c.order

-- a run of its script, newest entry first, in which no actor makes too many entries
pub record IsRunOfSpace (r : WorldState) : Type 0 where
  pub valid : IsScript r.script
  pub run : IsRun r.script r.trace
  pub few : HasFewEntries r.trace

-- the traces of the spaces, oldest entry first
abbrev pub traces_of : Course → List (List Entry)
traces_of c = map (λ (r : WorldState). reverse r.trace) c.runs

-- this is the trace of the run, oldest entry first
pub record ShowsRun (trace : List Entry) (r : WorldState) : Type 0 where
  pub shown : reverse trace ≡ r.trace
  pub run : IsRunOfSpace r
