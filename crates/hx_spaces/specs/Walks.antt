-- What a look at the worlds finds, and what one entry leaves.
use Rattle.std.specs.Prelude.{◌≡◌, ℕ, ◌≤◌, Bool, true, false, List, length, slice_get, Option, None, Some}
use Rattle.std.specs.List.{All}
use Rattle.hx_model.specs.Types.{Session, Step}
use Rattle.hx_types.specs.Words.{when_some}
use Rattle.hx_types.specs.declared.limits.TheConstants.{MOST_SESSIONS}
use Rattle.hx_model.specs.Runs.{is_actor, session_of}
use Rattle.hx_model.specs.Schedule.{Next, fault_of, is_idle, step_input}
use Rattle.hx_world.specs.Worlds.{IsStepOf, Refuses, WorldState}
use Rattle.hx_world.specs.Nexts.{delivery_in}
use Rattle.hx_world.specs.declared.ends.StepError.{StepError}
use Rattle.hx_bundle.specs.declared.bundles.Bundle.{Bundle}
use Rattle.hx_spaces.specs.declared.beginning.Begin.{Begin}
use Rattle.hx_spaces.specs.Courses.{Turn, begin_by, first_delivery_from, newest, runs_with, session_at, turns_at}

-- the first delivery of a space
abbrev pub delivery_at : List WorldState → ℕ → Option Next
delivery_at runs k = when_some (slice_get runs k) None (λ (r : WorldState). delivery_in r.script r.trace)

abbrev pub turn_at : ℕ → Option Next → Option Turn
turn_at k None = None
turn_at k (Some next) = Some (record { space = k; next = next })

-- the first delivery of this space was made, if there is one
abbrev pub DeliversAt : ℕ → List WorldState → List WorldState → Bool → Type 0
DeliversAt k old new true = (next : Next) × (delivery_at old k ≡ Some next) × (new ≡ runs_with (record { space = k; next = next }) old)
DeliversAt k old new false = (delivery_at old k ≡ None) × (new ≡ old)

-- the first delivery was made in the space that is told, if there is one
abbrev pub DeliversIn : List WorldState → List WorldState → Option ℕ → Type 0
DeliversIn old new (Some k) = (next : Next) × (first_delivery_from 0 old ≡ Some (record { space = k; next = next }))
    × (new ≡ runs_with (record { space = k; next = next }) old)
DeliversIn old new None = (first_delivery_from 0 old ≡ None) × (new ≡ old)

-- the session of a place begins a call in a space
abbrev pub begin_turn : ℕ → ℕ → Turn
begin_turn place k = record { space = k; next = begin_by place }

-- the turn that was found
abbrev pub found_turn : Option Begin → Option Turn
found_turn None = None
found_turn (Some b) = Some (begin_turn b.place b.space)

-- the script has as many sessions as these
abbrev pub HasSessions : ℕ → WorldState → Type 0
HasSessions n w = length w.script.sessions ≡ n

-- every world has all the sessions, which are few
pub record IsSeated (bundle : Bundle) (worlds : List WorldState) : Type 0 where
  pub few : length bundle.turns ≤ MOST_SESSIONS
  pub sessions : All (HasSessions (length bundle.turns)) worlds

-- the session of this place is one of the world's, and idle there
pub record CanBegin (worlds : List WorldState) (place k : ℕ) : Type 0 where
  pub world : WorldState
  pub stands : slice_get worlds k ≡ Some world
  pub actor : is_actor world.script (Session (session_at place)) ≡ true
  pub idle : is_idle (session_of (newest world).script (session_at place) (newest world).trace) ≡ true

-- the step is one of the world of this place
pub record CanStep (worlds : List WorldState) (k : ℕ) (step : Step) : Type 0 where
  pub world : WorldState
  pub stands : slice_get worlds k ≡ Some world
  pub step_of : IsStepOf world.script step

-- the step was taken in this space
pub record StepsAt (k : ℕ) (old new : List WorldState) (step : Step) : Type 0 where
  pub run : WorldState
  pub stands : slice_get old k ≡ Some run
  pub possible : fault_of run.script run.trace step ≡ None
  pub next : Next
  pub input : step_input run.trace step ≡ Some next
  pub made : new ≡ runs_with (record { space = k; next = next }) old

-- or not
pub record RefusesAt (k : ℕ) (old : List WorldState) (step : Step) (e : StepError) : Type 0 where
  pub run : WorldState
  pub stands : slice_get old k ≡ Some run
  pub why : Refuses run.script run.trace step e

-- the first turn of the session of this place that isn't among those counted
abbrev pub turn_left : Bundle → List ℕ → ℕ → Option ℕ
turn_left bundle begun place = when_some (slice_get begun place) None (λ n. slice_get (turns_at bundle.turns place) n)
