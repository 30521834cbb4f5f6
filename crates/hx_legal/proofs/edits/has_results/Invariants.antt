use Rattle.std.proofs.Common.{◌≡◌, ℕ, ◌<◌}
use Rattle.std.specs.List.{slice_get}
use Rattle.hx_legal.specs.Edited.{results_of}
use Rattle.hx_legal.specs.Shown.{value_after}
use Rattle.hx_legal.proofs.edits.has_results.Given as goal

abbrev pub invariant-loop-place : goal.invariant-loop-place
invariant-loop-place l = (p : ℕ) → p < l.place → value_after l.before (results_of l.before l.edits) p ≡ slice_get l.values p
