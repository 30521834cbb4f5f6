use Rattle.std.proofs.Common.{ℕ, length, false}
use Rattle.std.specs.Prelude.{◌↔◌}
use Rattle.std.specs.BTreeSet.{contains}
use Rattle.std.specs.Ordering.{nat_cmp}
use Rattle.hx_report_lines.specs.declared.histories.HistoryLines.{HistoryLines}
use Rattle.hx_audit.specs.Standing.{IsItemAt}
use Rattle.hx_audit.specs.Walking.{HasIn}
use Rattle.hx_audit.proofs.Placed.{IsMarked}
use Rattle.hx_audit.proofs.standing.standing_in.Given as goal

abbrev pub invariant-loop-history : goal.invariant-loop-history
invariant-loop-history l =
    (place : ℕ)
    → IsMarked (contains nat_cmp l.marked) (λ p (h : HistoryLines). HasIn (IsItemAt l.calls h.key p) h.items) l.rest place
    ↔ IsMarked (λ p. false) (λ p (h : HistoryLines). HasIn (IsItemAt l.calls h.key p) h.items) l.histories place

abbrev pub decreases-loop-history : goal.decreases-loop-history
decreases-loop-history l = length l.rest
