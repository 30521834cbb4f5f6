use Rattle.std.proofs.Common.{◌≡◌, ◌++◌, drop, take, vec_capacity, vec_len}
use Rattle.hx_model.specs.Slots.{with_mark}
use Rattle.hx_slot.proofs.marks.put_mark.Given as goal

abbrev pub invariant-loop-place : goal.invariant-loop-place
invariant-loop-place l = record {
  items : l.marks.items ≡ l.initial.marks.items;
  len : vec_len l.marks ≡ vec_len l.initial.marks;
  capacity : vec_capacity l.marks ≡ vec_capacity l.initial.marks;
  end : l.place-end ≡ vec_len l.initial.marks;
  mark : l.mark ≡ l.initial.mark;
  passed : take l.place l.initial.marks.items ++ with_mark l.initial.mark (drop l.place l.initial.marks.items) ≡ with_mark l.initial.mark l.initial.marks.items;
}
