use Rattle.std.proofs.Common.{◌≡◌, ◌+◌, ◌≤◌, drop, vec_capacity, vec_len}
use Rattle.hx_model.specs.Slots.{with_touches}
use Rattle.hx_slot.specs.MarksAndTouches.{AscendByRegion}
use Rattle.hx_slot.proofs.touches.note_touches.Given as goal

abbrev pub invariant-loop-place : goal.invariant-loop-place
invariant-loop-place l = record {
  items : with_touches l.version (drop l.place-index l.places) l.touches.items ≡ with_touches l.version l.places l.initial.touches.items;
  ascending : AscendByRegion l.touches.items;
  len : vec_len l.touches ≤ vec_len l.initial.touches + l.place-index;
  capacity : vec_capacity l.initial.touches ≤ vec_capacity l.touches;
}
