use Rattle.hx_model.specs.Lines.{upto}
use Rattle.std.proofs.Common.{◌≡◌, reverse}
use Rattle.std.specs.List.Sorted.{IsNonDecreasingBy}
use Rattle.hx_history.specs.Events.{updates_at, version_at}
use Rattle.hx_history.proofs.lines.cut.Given as goal

abbrev pub invariant-loop-last : goal.invariant-loop-last
invariant-loop-last l =
    record {
      exact : upto l.before (reverse (updates_at l.line.items)) ≡ upto l.before (reverse (updates_at l.initial.line.items));
      sorted : IsNonDecreasingBy version_at l.initial.line.items → IsNonDecreasingBy version_at l.line.items;
    }

abbrev pub decreases-loop-last : goal.decreases-loop-last
decreases-loop-last l = l.line.len
