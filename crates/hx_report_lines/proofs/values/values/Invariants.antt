use Rattle.std.proofs.Common.{◌≡◌, map, take}
use Rattle.hx_model.specs.Types.{Assign}
use Rattle.hx_report_lines.proofs.values.values.Given as goal

abbrev pub invariant-loop-set : goal.invariant-loop-set
invariant-loop-set l = l.values.items ≡ map (λ (a : Assign). a.value) (take l.set-index l.sets)
