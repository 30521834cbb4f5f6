-- What a replay of a bundle comes to: one course of all its spaces.
use Rattle.std.specs.Prelude.{◌≡◌, ◌⊎◌, Bool, ℕ, List, [], map, reverse, None, Some}
use Rattle.std.specs.List.{AllZip}
use Rattle.hx_bundle.specs.declared.bundles.Bundle.{Bundle}
use Rattle.hx_model.specs.Types.{Actor, Entry, Script, Totals}
use Rattle.hx_model.specs.Runs.{IsRun}
use Rattle.hx_model.specs.Schedule.{Worn as WornFault}
use Rattle.hx_report.specs.BundleReporting.{IsBundleReport}
use Rattle.hx_spaces.specs.Clusters.{IsCourse, traces_of}
use Rattle.hx_spaces.specs.Courses.{Course, IsQuiet, at_start, next_turn, scheduled}
use Rattle.hx_spaces.specs.Draining.{IsWornTurn}
use Rattle.hx_spaces.specs.Stepping.{BundleStop, bundle_stepped, bundle_stop_of}
use Rattle.hx_world.specs.Worlds.{HasFewEntries}
use Rattle.hx_replay.specs.declared.outcomes.Ended.{Ended}
use Rattle.hx_replay.specs.declared.outcomes.Ended.TheVariants.{Whole, Refused, Worn}
use Rattle.hx_replay.specs.Plans.{bundle_plans_text}
use Rattle.hx_replay.specs.Runs.{IsLawful}
use Rattle.hx_replay.specs.Steps.{IsRefusal}

-- a run of the script in which no actor makes more entries than it may
pub record IsRunOf (script : Script) (trace : List Entry) : Type 0 where
  pub run : IsRun script (reverse trace)
  pub few : HasFewEntries (reverse trace)

-- the course is one of the bundle: each session makes its calls in the order of its turns, one
-- after another, whatever their spaces. Each trace is the run of its space
pub record IsCourseOf (bundle : Bundle) (course : Course) (traces : List (List Entry)) : Type 0 where
  pub is_course : IsCourse course
  pub of_bundle : course.bundle ≡ bundle
  pub traces_are : traces ≡ traces_of course
  pub runs : AllZip IsRunOf bundle.spaces traces

-- each step of the bundle can be taken
abbrev pub AreAllTaken : Bundle → Type 0
AreAllTaken bundle = bundle_stop_of (at_start bundle) bundle.steps ≡ None

-- the course that the steps of the bundle and then so many entries of the schedule give
abbrev pub course_after : Bundle → ℕ → Course
course_after bundle entries = scheduled (bundle_stepped (at_start bundle) bundle.steps) entries

-- the steps and then the schedule until there is nothing left to do
pub record IsScheduledCourse (bundle : Bundle) (course : Course) : Type 0 where
  pub entries : ℕ
  pub course_is : course ≡ course_after bundle entries
  pub quiet : IsQuiet course

-- no driver made anything, in any space
abbrev pub no_totals : Bundle → List (List Totals)
no_totals bundle = map (λ (s : Script). []) bundle.spaces

-- the course that the bundle's steps and then the schedule give, until there is nothing left to do
pub record IsWhole (bundle : Bundle) (course : Course) (traces : List (List Entry)) : Type 0 where
  pub of_bundle : IsCourseOf bundle course traces
  pub taken : AreAllTaken bundle
  pub scheduled : IsScheduledCourse bundle course

-- the traces are those of the course that the bundle's steps and the schedule give, all that the laws say of runs holds of each, and the report tells of all
pub record IsWholeCourse (with_trace : Bool) (bundle : Bundle) (traces : List (List Entry)) (report : List ℕ) : Type 0 where
  pub course : Course
  pub is_whole : IsWhole bundle course traces
  pub lawful : AllZip IsLawful bundle.spaces traces
  pub report_is : IsBundleReport bundle (map (λ (t : List Entry). reverse t) traces) (no_totals bundle) report with_trace

-- the step on that line is the first that can't be taken, and is refused; these are the traces before it
pub record IsRefusedIn (bundle : Bundle) (line : ℕ) (traces : List (List Entry)) : Type 0 where
  pub stop : BundleStop
  pub stops : bundle_stop_of (at_start bundle) bundle.steps ≡ Some stop
  pub line_is : stop.step.line ≡ line
  pub traces_are : traces ≡ traces_of stop.course
  pub refused : IsRefusal stop.fault

-- the course of the bundle that ends before the step on that line, which is refused
pub record IsCourseCutShort (bundle : Bundle) (line : ℕ) (traces : List (List Entry)) : Type 0 where
  pub refused : IsRefusedIn bundle line traces
  pub of_bundle : IsCourseOf bundle refused.stop.course traces

-- the steps end where one asks for a further entry of this actor, which has made in that space all that it may make
pub record IsWornAtBundleStep (bundle : Bundle) (course : Course) (a : Actor) : Type 0 where
  pub stop : BundleStop
  pub stops : bundle_stop_of (at_start bundle) bundle.steps ≡ Some stop
  pub worn : stop.fault ≡ WornFault a
  pub course_is : course ≡ stop.course

-- the steps were taken, and the schedule comes to an entry of this actor, which has made in that space all that it may make
pub record IsWornAfterBundleSteps (bundle : Bundle) (course : Course) (a : Actor) : Type 0 where
  pub taken : AreAllTaken bundle
  pub entries : ℕ
  pub course_is : course ≡ course_after bundle entries
  pub worn_out : IsWornTurn course.runs (next_turn course) a

-- the course that the steps and the schedule of the bundle begin with, up to where the next entry
-- is one of this actor, which has made 1,048,576 entries in that space
pub record IsWornCourse (bundle : Bundle) (traces : List (List Entry)) (a : Actor) : Type 0 where
  pub course : Course
  pub of_bundle : IsCourseOf bundle course traces
  pub ends : IsWornAtBundleStep bundle course a ⊎ IsWornAfterBundleSteps bundle course a

-- the plans of all searches, and an empty trace for each space
pub record IsPlannedBundle (bundle : Bundle) (traces : List (List Entry)) (plans : List ℕ) : Type 0 where
  pub no_entries : traces ≡ map (λ (s : Script). []) bundle.spaces
  pub plans_are : plans ≡ bundle_plans_text bundle

-- what a replay makes of a bundle
abbrev pub BundleEnds : Bool → Bundle → Ended → Type 0
BundleEnds with_trace bundle (Whole answered) = IsWholeCourse with_trace bundle answered.traces answered.bytes.items
BundleEnds with_trace bundle (Refused line traces) = IsCourseCutShort bundle line traces
BundleEnds with_trace bundle (Worn a traces) = IsWornCourse bundle traces a
