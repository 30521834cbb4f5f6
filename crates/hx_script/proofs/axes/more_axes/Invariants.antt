use Rattle.std.proofs.Common.{◌≡◌, ◌≤◌, ◌+◌, length}
use Rattle.hx_types.specs.declared.limits.TheConstants.{MOST_REGIONS}
use Rattle.hx_script.specs.Axes.{more_axes}
use Rattle.hx_script.proofs.axes.more_axes.Given as goal

abbrev pub invariant-axes : goal.invariant-axes
invariant-axes l = record {
  few : l.regions + l.draft.size ≤ MOST_REGIONS;
  so_far : more_axes l.space l.regions l.draft l.line ≡ more_axes l.space l.regions l.initial.draft l.initial.line;
}

abbrev pub decreases-axes : goal.decreases-axes
decreases-axes l = length l.line
