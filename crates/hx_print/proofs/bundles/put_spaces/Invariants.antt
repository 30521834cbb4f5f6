use Rattle.std.proofs.Common.{◌≡◌, ◌++◌, take}
use Rattle.std.specs.List.{flat_map}
use Rattle.hx_print.specs.BundlePrinting.{own_lines}
use Rattle.hx_print.proofs.bundles.put_spaces.Given as goal

abbrev pub invariant-loop-script : goal.invariant-loop-script
invariant-loop-script l = l.out.items ≡ l.fn.out.items ++ flat_map own_lines (take l.script-index l.spaces)
