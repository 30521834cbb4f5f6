use Rattle.std.proofs.Common.{◌≡◌, length}
use Rattle.std.specs.List.{AllByRecursion}
use Rattle.hx_bundle.specs.Bundles.{IsStepIn}
use Rattle.hx_spaces.specs.Courses.{at_start}
use Rattle.hx_spaces.specs.Stepping.{bundle_stepped, bundle_stop_of}
use Rattle.hx_replay.proofs.bundle_steps.take_steps.Given as goal

abbrev pub invariant-steps : goal.invariant-steps
invariant-steps l = record {
  bundle : l.cluster.bundle ≡ l.bundle;
  steps : AllByRecursion (IsStepIn l.bundle.spaces) l.rest;
  stop : bundle_stop_of (at_start l.bundle) l.bundle.steps ≡ bundle_stop_of l.cluster l.rest;
  stepped_so_far : bundle_stepped (at_start l.bundle) l.bundle.steps ≡ bundle_stepped l.cluster l.rest;
}

abbrev pub decreases-steps : goal.decreases-steps
decreases-steps l = length l.rest
