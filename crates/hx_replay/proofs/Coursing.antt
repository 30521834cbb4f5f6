-- What a replay of a bundle comes to, from its cluster's course.
use Rattle.std.proofs.Common.{◌≡◌, ◌≤◌, ◌<◌, ◌∙◌, inr, inl, ℕ, List, [], ◌∷◌, length, map, reverse, sym, ap, subst, arith, Bool}
use Rattle.std.specs.Prelude.{IfOk, OnOk, Result, Ok, Err}
use Rattle.std.specs.List.{All, AllByRecursion, AllZip}
use Rattle.std.proofs.lemmas.List.{reverse-reverse}
use Rattle.std.proofs.lemmas.List.Elements.{recursion_from_All}
use Rattle.std.proofs.lemmas.Slice.Zip.{AllZip-long}
use Rattle.hx_bundle.specs.declared.bundles.Bundle.{Bundle}
use Rattle.hx_model.specs.Types.{Entry, Memory, Script, Totals}
use Rattle.hx_model.specs.Runs.{IsRun}
use Rattle.hx_report.specs.BundleReporting.{IsBundleReport}
use Rattle.hx_spaces.specs.Clusters.{IsCourse, IsRunOfSpace, traces_of}
use Rattle.hx_spaces.specs.Courses.{Course, at_start, scheduled}
use Rattle.hx_spaces.specs.Draining.{DrainFails, Drains, IsPartOf, most_in_all}
use Rattle.hx_spaces.specs.Stepping.{bundle_stepped}
use Rattle.hx_world.specs.Worlds.{HasFewEntries, WorldState}
use Rattle.hx_world.specs.declared.ends.DrainError.{DrainError}
use Rattle.hx_world.specs.declared.ends.DrainError.TheVariants as a_drain_error
use Rattle.hx_world.specs.declared.ends.Drained.{Drained}
use Rattle.hx_world.specs.declared.ends.Drained.TheVariants.{Quiet, Spent}
use Rattle.hx_replay.specs.BundleSteps.{BundleStops}
use Rattle.hx_replay.specs.Courses.{AreAllTaken, BundleEnds, IsCourseOf, IsRunOf, IsWhole, no_totals}
use Rattle.hx_replay.specs.Steps.{ended_by, stopped_drain}
use Rattle.hx_replay.specs.declared.steps.Stopped.{Stopped}
use Rattle.hx_replay.specs.declared.steps.Stopped.TheVariants as a_stop
use Rattle.hx_replay.specs.declared.outcomes.Ended.{Ended}

abbrev script_of_run : WorldState → Script
script_of_run r = r.script

zip_runs : (runs : List WorldState) → AllByRecursion IsRunOfSpace runs
    → AllZip IsRunOf (map script_of_run runs) (map (λ (r : WorldState). reverse r.trace) runs)
zip_runs [] all = tt
zip_runs (r ∷ rest) all = (
  record {
    run = subst (λ (t : List Entry). IsRun r.script t) (sym (reverse-reverse r.trace)) all.0.run;
    few = subst (λ (t : List Entry). HasFewEntries t) (sym (reverse-reverse r.trace)) all.0.few;
  },
  zip_runs rest all.1,
)

-- the traces that a cluster hands back are the runs of its spaces
is_course_of : (bundle : Bundle) (c : Course) (traces : List (List Entry)) → c.bundle ≡ bundle → IsCourse c
    → All IsRunOfSpace c.runs → traces ≡ traces_of c → IsCourseOf bundle c traces
is_course_of bundle c traces of_bundle is_course runs same =
    let zipped : AllZip IsRunOf (map script_of_run c.runs) (traces_of c) = zip_runs c.runs (recursion_from_All IsRunOfSpace c.runs runs) in
    let spaces : map script_of_run c.runs ≡ bundle.spaces = is_course.scripts ∙ ap (λ (b : Bundle). b.spaces) of_bundle in
    record {
      is_course = is_course;
      of_bundle = of_bundle;
      traces_are = same;
      runs = subst (λ (t : List (List Entry)). AllZip IsRunOf bundle.spaces t) (sym same)
          (subst (λ (s : List Script). AllZip IsRunOf s (traces_of c)) spaces zipped);
    }

-- what a cluster of the bundle leaves
pub left_course : (bundle : Bundle) (c : Course) (left : Result (List (List Entry)) Memory) → c.bundle ≡ bundle
    → IsCourse c → OnOk left (All IsRunOfSpace c.runs) → IfOk left (λ traces. traces ≡ traces_of c)
    → IfOk left (IsCourseOf bundle c)
left_course bundle c (Ok traces) of_bundle is_course runs same = is_course_of bundle c traces of_bundle is_course runs same
left_course bundle c (Err e) of_bundle is_course runs same = tt

-- what a call gives that ends a replay so
pub ends_so : (given result : Result Ended Memory) (holds : Ended → Type 0) → result ≡ given → IfOk given holds → IfOk result holds
ends_so given result holds is h = subst (λ (r : Result Ended Memory). IfOk r holds) (sym is) h

-- why the steps stopped
pub stops_end : (with_trace : Bool) (bundle : Bundle) (c : Course) (traces : List (List Entry)) (stopped : Stopped)
    → IsCourseOf bundle c traces → BundleStops bundle c stopped → IfOk (ended_by stopped traces) (BundleEnds with_trace bundle)
stops_end with_trace bundle c traces a_stop.Memory of_bundle stops = tt
stops_end with_trace bundle c traces (a_stop.Refused line) of_bundle stops =
    record {
      refused = record {
        stop = stops.stop;
        stops = stops.stops;
        line_is = stops.line_is;
        traces_are = of_bundle.traces_are ∙ ap (λ (x : Course). traces_of x) stops.course_is;
        refused = stops.refused;
      };
      of_bundle = subst (λ (x : Course). IsCourseOf bundle x traces) stops.course_is of_bundle;
    }
stops_end with_trace bundle c traces (a_stop.Worn a) of_bundle stops = record { course = c; of_bundle = of_bundle; ends = inl stops }

-- why the schedule stopped
pub drained_end : (with_trace : Bool) (bundle : Bundle) (n : ℕ) (before c : Course) (traces : List (List Entry)) (error : DrainError)
    → AreAllTaken bundle → before ≡ bundle_stepped (at_start bundle) bundle.steps → DrainFails n before c error
    → IsPartOf n before c → IsCourseOf bundle c traces
    → IfOk (ended_by (stopped_drain error) traces) (BundleEnds with_trace bundle)
drained_end with_trace bundle n before c traces a_drain_error.Memory taken from fails part of_bundle = tt
drained_end with_trace bundle n before c traces (a_drain_error.Worn a) taken from fails part of_bundle =
    record {
      course = c;
      of_bundle = of_bundle;
      ends = inr (record { taken = taken; entries = part.0; course_is = part.2 ∙ ap (λ (x : Course). scheduled x part.0) from; worn_out = fails.cause });
    }

drains_as : (n : ℕ) (old new : Course) (drained wanted : Drained) → drained ≡ wanted → Drains n old new drained → Drains n old new wanted
drains_as n old new drained wanted is drains = subst (λ (d : Drained). Drains n old new d) is drains

-- the schedule came to its end
pub is_whole : (bundle : Bundle) (n : ℕ) (before c : Course) (traces : List (List Entry)) (drained : Drained)
    → AreAllTaken bundle → before ≡ bundle_stepped (at_start bundle) bundle.steps → Drains n before c drained
    → drained ≡ Quiet → IsCourseOf bundle c traces → IsWhole bundle c traces
is_whole bundle n before c traces drained taken from drains quiet of_bundle =
    let ends = drains_as n before c drained Quiet quiet drains in
    record {
      of_bundle = of_bundle;
      taken = taken;
      scheduled = record { entries = n; course_is = ends.course ∙ ap (λ (x : Course). scheduled x n) from; quiet = ends.ends };
    }

-- a cluster never makes so many entries
pub never_all_spent : (n : ℕ) (old new : Course) (drained : Drained) → Drains n old new drained → drained ≡ Spent
    → length new.order ≤ most_in_all → most_in_all < n → ⊥
never_all_spent n old new drained drains spent few many =
    let ends = drains_as n old new drained Spent spent drains in
    omega (arith, ends.ends.made, few, many)

-- there are as many traces as spaces
pub traces_count : (bundle : Bundle) (c : Course) (traces : List (List Entry)) → IsCourseOf bundle c traces → length traces ≡ length bundle.spaces
traces_count bundle c traces of_bundle = AllZip-long IsRunOf bundle.spaces traces of_bundle.runs

-- the report of these traces, of no driver
pub reported : (with_trace : Bool) (bundle : Bundle) (given traces : List (List Entry)) (totals : List (List Totals))
    (report : List ℕ) → given ≡ traces → totals ≡ no_totals bundle
    → IsBundleReport bundle (map (λ (t : List Entry). reverse t) given) totals report with_trace
    → IsBundleReport bundle (map (λ (t : List Entry). reverse t) traces) (no_totals bundle) report with_trace
reported with_trace bundle given traces totals report same none told =
    subst (λ (t : List (List Entry)). IsBundleReport bundle (map (λ (x : List Entry). reverse x) t) (no_totals bundle) report with_trace) same
    (subst (λ (t : List (List Totals)). IsBundleReport bundle (map (λ (x : List Entry). reverse x) given) t report with_trace) none told)
