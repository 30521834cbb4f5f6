-- Why the steps of a bundle weren't all taken.
use Rattle.std.specs.Prelude.{◌≡◌, ℕ, Some, ⊤}
use Rattle.hx_bundle.specs.declared.bundles.Bundle.{Bundle}
use Rattle.hx_bundle.specs.declared.bundles.BundleStep.{BundleStep}
use Rattle.hx_model.specs.Schedule.{StepFault, Worn}
use Rattle.hx_spaces.specs.Courses.{Course, at_start}
use Rattle.hx_spaces.specs.Stepping.{BundleStop, bundle_fault, bundle_stop_of}
use Rattle.hx_replay.specs.declared.steps.Stopped.{Stopped}
use Rattle.hx_replay.specs.declared.steps.Stopped.TheVariants as a_stop
use Rattle.hx_replay.specs.Courses.{IsWornAtBundleStep}
use Rattle.hx_replay.specs.Steps.{IsRefusal}

-- why one step wasn't taken
abbrev pub BundleStopsAt : Course → BundleStep → Stopped → Type 0
BundleStopsAt c s a_stop.Memory = ⊤
BundleStopsAt c s (a_stop.Refused line) = (line ≡ s.line) × ((fault : StepFault) × (bundle_fault c s.space s.step ≡ Some fault) × IsRefusal fault)
BundleStopsAt c s (a_stop.Worn a) = bundle_fault c s.space s.step ≡ Some (Worn a)

-- the step on that line is the first that can't be taken, and is refused; this is the course before it
pub record IsRefusedAfter (bundle : Bundle) (line : ℕ) (c : Course) : Type 0 where
  pub stop : BundleStop
  pub stops : bundle_stop_of (at_start bundle) bundle.steps ≡ Some stop
  pub line_is : stop.step.line ≡ line
  pub course_is : c ≡ stop.course
  pub refused : IsRefusal stop.fault

-- why the steps weren't all taken
abbrev pub BundleStops : Bundle → Course → Stopped → Type 0
BundleStops bundle c a_stop.Memory = ⊤
BundleStops bundle c (a_stop.Refused line) = IsRefusedAfter bundle line c
BundleStops bundle c (a_stop.Worn a) = IsWornAtBundleStep bundle c a
