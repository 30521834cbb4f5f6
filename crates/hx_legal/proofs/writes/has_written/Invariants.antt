use Rattle.std.proofs.Common.{◌≡◌, ℕ, ◌<◌}
use Rattle.std.specs.List.{slice_get}
use Rattle.std.specs.Option.{option_copied, unwrap_or}
use Rattle.hx_types.specs.Effects.{defaults}
use Rattle.hx_legal.specs.Shown.{value_after}
use Rattle.hx_legal.proofs.writes.has_written.Given as goal

abbrev pub invariant-loop-place : goal.invariant-loop-place
invariant-loop-place l =
    (p : ℕ) → p < l.place → value_after (unwrap_or (option_copied l.before) (defaults l.space)) l.sets p ≡ slice_get l.values p
