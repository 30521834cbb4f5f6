use Rattle.std.proofs.Common.{◌≡◌, ℕ, ◌<◌, true, take, Option}
use Rattle.std.specs.List.{list_any, slice_get}
use Rattle.std.specs.Option.{IfSome}
use Rattle.hx_report_lines.specs.declared.histories.ItemLine.{ItemLine}
use Rattle.hx_audit.specs.Clauses.{is_in_time}
use Rattle.hx_audit.specs.Moments.{begin_at, is_late}
use Rattle.hx_audit.specs.Told.{account_of}
use Rattle.hx_audit.proofs.times.first_late.Given as goal

abbrev pub invariant-loop-place : goal.invariant-loop-place
invariant-loop-place l = record {
  in_time : (k : ℕ) → k < l.place → IfSome (slice_get l.items k) (λ (x : ItemLine). is_in_time (account_of l.block) (take k l.items) x ≡ true);
  latest : (end : Option ℕ) → is_late end l.latest ≡ list_any (λ (y : ItemLine). is_late end (begin_at l.block y.caller)) (take l.place l.items);
}
