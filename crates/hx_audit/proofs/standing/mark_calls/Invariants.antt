use Rattle.std.proofs.Common.{ℕ, length}
use Rattle.std.specs.Prelude.{◌↔◌}
use Rattle.std.specs.BTreeSet.{contains}
use Rattle.std.specs.Ordering.{nat_cmp}
use Rattle.hx_audit.specs.Standing.{IsItemAt}
use Rattle.hx_audit.proofs.Placed.{IsMarked}
use Rattle.hx_audit.proofs.standing.mark_calls.Given as goal

abbrev pub invariant-loop-item : goal.invariant-loop-item
invariant-loop-item l = (place : ℕ) → IsMarked (contains nat_cmp l.marked)
    (IsItemAt l.calls l.key) l.rest place ↔ IsMarked (contains nat_cmp l.fn.marked) (IsItemAt l.calls l.key) l.items place

abbrev pub decreases-loop-item : goal.decreases-loop-item
decreases-loop-item l = length l.rest
