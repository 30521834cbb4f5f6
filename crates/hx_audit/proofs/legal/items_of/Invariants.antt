use Rattle.std.proofs.Common.{◌≡◌, map, take}
use Rattle.hx_audit.specs.Told.{item_told}
use Rattle.hx_audit.proofs.legal.items_of.Given as goal

abbrev pub invariant-loop-line : goal.invariant-loop-line
invariant-loop-line l = l.items.items ≡ map (item_told l.calls) (take l.line-index l.lines)
