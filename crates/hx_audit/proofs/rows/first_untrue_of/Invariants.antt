use Rattle.std.proofs.Common.{◌≡◌, ℕ, ◌<◌}
use Rattle.std.specs.List.{slice_get}
use Rattle.std.specs.Option.{IfSome, option_copied}
use Rattle.hx_audit.specs.Clauses.{IsRowOf, row_above}
use Rattle.hx_audit.specs.Finished.{finished_view}
use Rattle.hx_audit.specs.Told.{account_of}
use Rattle.hx_audit.proofs.rows.first_untrue_of.Given as goal

abbrev pub invariant-loop-place : goal.invariant-loop-place
invariant-loop-place l = record {
  above : option_copied l.above ≡ row_above l.rows l.place;
  kept : (k : ℕ) → k < l.place → IfSome (slice_get l.rows k) (IsRowOf (account_of l.block) (finished_view l.search) (row_above l.rows k));
}
