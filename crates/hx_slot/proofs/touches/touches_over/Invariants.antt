use Rattle.std.proofs.Common.{◌≡◌, drop}
use Rattle.hx_slot.specs.MarksAndTouches.{AscendByRegion, touches_over}
use Rattle.hx_slot.proofs.touches.touches_over.Given as goal

abbrev pub invariant-loop-taken : goal.invariant-loop-taken
invariant-loop-taken l = record {
  touches : touches_over l.touches.items (drop l.taken-index l.line) ≡ touches_over l.base.items l.line;
  ascending : AscendByRegion l.touches.items;
}
