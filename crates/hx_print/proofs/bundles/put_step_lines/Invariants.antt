use Rattle.std.proofs.Common.{◌≡◌, ◌++◌, take}
use Rattle.std.specs.List.{flat_map}
use Rattle.hx_print.specs.BundlePrinting.{step_line_in}
use Rattle.hx_print.proofs.bundles.put_step_lines.Given as goal

abbrev pub invariant-loop-step : goal.invariant-loop-step
invariant-loop-step l = l.out.items ≡ l.fn.out.items ++ flat_map (step_line_in l.spaces) (take l.step-index l.steps)
