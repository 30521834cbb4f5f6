use Rattle.std.proofs.Common.{◌≡◌, ℕ, ◌<◌, true, take}
use Rattle.std.specs.List.{list_any, slice_get}
use Rattle.std.specs.Option.{IfSome}
use Rattle.std.specs.BTreeSet.{contains}
use Rattle.std.specs.Ordering.{nat_cmp}
use Rattle.hx_report_lines.specs.declared.histories.ItemLine.{ItemLine}
use Rattle.hx_audit.specs.Clauses.{is_known}
use Rattle.hx_audit.specs.Walking.{place_at}
use Rattle.hx_audit.proofs.Seen.{is_place}
use Rattle.hx_audit.proofs.foreign.first_foreign.Given as goal

abbrev pub invariant-loop-place : goal.invariant-loop-place
invariant-loop-place l = record {
  known : (k : ℕ) → k < l.place → IfSome (slice_get l.items k) (λ (x : ItemLine). is_known l.calls l.key (take k l.items) x ≡ true);
  seen : (q : ℕ) → contains nat_cmp l.seen q ≡ list_any (λ (y : ItemLine). is_place q (place_at l.calls y.caller)) (take l.place l.items);
}
