-- Steps of a bundle, each taken in its space.
use Rattle.std.specs.Prelude.{◌≡◌, ℕ, ◌-◌, Bool, false, ◌==◌, List, [], ◌∷◌, slice_get, IsSomeAnd, if◌then◌else◌, Option, None, Some, ⊤}
use Rattle.std.specs.Option.{option_map}
use Rattle.hx_model.specs.Types.{Actor, Coordinator, Script, Server, Session, Step}
use Rattle.hx_types.specs.declared.traces.Step.TheVariants as a_step
use Rattle.hx_types.specs.Words.{first_some, when_some}
use Rattle.hx_model.specs.Runs.{session_of}
use Rattle.hx_model.specs.Schedule.{Next, StepFault, Unsent, Halted, NotServer, Idle, Worn, fault_of, is_idle, step_input}
use Rattle.hx_world.specs.Worlds.{WorldState}
use Rattle.hx_world.specs.declared.ends.StepError.{StepError}
use Rattle.hx_world.specs.declared.ends.StepError.TheVariants as an_error
use Rattle.hx_bundle.specs.declared.bundles.Bundle.{Bundle}
use Rattle.hx_bundle.specs.declared.bundles.BundleStep.{BundleStep}
use Rattle.hx_bundle.specs.Bundles.{HasStep}
use Rattle.hx_spaces.specs.Courses.{Course, Turn, next_space, with_turn}

-- the bundle has the space, and its script the actor of the step
abbrev pub IsStepAt : Bundle → ℕ → Step → Type 0
IsStepAt bundle k step = IsSomeAnd (slice_get bundle.spaces k) (λ (script : Script). HasStep script step)

-- the place of the session of which the actor's own turn would begin the next call
abbrev pub beginner_of : WorldState → Actor → Option ℕ
beginner_of r Coordinator = None
beginner_of r (Server s) = None
beginner_of r (Session u) = if is_idle (session_of r.script u r.trace) then Some (u.0 - 1) else None

-- the place of the session of which a step would begin the next call
abbrev pub beginner : WorldState → Step → Option ℕ
beginner r (a_step.Tick a) = beginner_of r a
beginner r (a_step.Deliver id) = None
beginner r (a_step.Halt a) = None

-- the next call of the session of this place is to this space, and none is under way in any space
abbrev pub is_turn_of : Course → ℕ → ℕ → Bool
is_turn_of c place k = when_some (next_space c.bundle c.runs place) false (λ j. j == k)

-- a call would begin, and it is not its turn
abbrev pub turn_fault : Course → ℕ → Option ℕ → Option StepFault
turn_fault c k None = None
turn_fault c k (Some place) = if is_turn_of c place k then None else Some Idle

-- why a step can't be taken in this space, by the first that holds
abbrev pub bundle_fault : Course → ℕ → Step → Option StepFault
bundle_fault c k step = when_some (slice_get c.runs k) None (λ (r : WorldState). first_some (turn_fault c k (beginner r step)) (fault_of r.script r.trace step))

-- the entry that a step asks for
abbrev pub turn_by : Course → ℕ → Step → Option Turn
turn_by c k step =
    when_some (slice_get c.runs k) None (λ (r : WorldState). option_map (λ (next : Next). record { space = k; next = next }) (step_input r.trace step))

-- the course after a step
abbrev pub with_step : Course → ℕ → Step → Course
with_step c k step = with_turn c (turn_by c k step)

-- the course after the steps of a bundle
abbrev pub bundle_stepped : Course → List BundleStep → Course
bundle_stepped c [] = c
bundle_stepped c (s ∷ rest) = bundle_stepped (with_step c s.space s.step) rest

-- the step that can't be taken, why, and the course before it
pub record BundleStop : Type 0 where
  pub step : BundleStep
  pub fault : StepFault
  pub course : Course

-- the first of the steps that can't be taken
abbrev pub bundle_stop_of : Course → List BundleStep → Option BundleStop
bundle_stop_of c [] = None
bundle_stop_of c (s ∷ rest) =
    when_some (bundle_fault c s.space s.step) (bundle_stop_of (with_step c s.space s.step) rest)
    (λ (fault : StepFault). Some (record { step = s; fault = fault; course = c }))

-- what a step leaves
pub record Steps (old new : Course) (k : ℕ) (step : Step) : Type 0 where
  pub possible : bundle_fault old k step ≡ None
  pub course : new ≡ with_step old k step

-- why a step was refused
abbrev pub Refuses : Course → ℕ → Step → StepError → Type 0
Refuses c k step an_error.Memory = ⊤
Refuses c k step an_error.Unsent = bundle_fault c k step ≡ Some Unsent
Refuses c k step an_error.Halted = bundle_fault c k step ≡ Some Halted
Refuses c k step an_error.NotServer = bundle_fault c k step ≡ Some NotServer
Refuses c k step an_error.Idle = bundle_fault c k step ≡ Some Idle
Refuses c k step (an_error.Worn a) = bundle_fault c k step ≡ Some (Worn a)
