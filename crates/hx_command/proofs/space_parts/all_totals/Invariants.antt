use Rattle.std.proofs.Common.{◌≡◌, List, take}
use Rattle.std.specs.List.{flat_map}
use Rattle.hx_types.specs.declared.totals.Totals.{Totals}
use Rattle.hx_command.proofs.space_parts.all_totals.Given as goal

abbrev pub invariant-loop-totals : goal.invariant-loop-totals
invariant-loop-totals l = l.all.items ≡ flat_map (λ (totals : List Totals). totals) (take l.totals-index l.lists)
