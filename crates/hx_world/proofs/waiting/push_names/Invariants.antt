use Rattle.std.proofs.Common.{◌≡◌, ◌+◌, ◌≤◌, ◌++◌}
use Rattle.std.specs.Prelude.{vec_capacity, vec_len}
use Rattle.hx_world.specs.Filing.{names_counted}
use Rattle.hx_world.proofs.waiting.push_names.Given as goal

abbrev pub invariant-loop-place : goal.invariant-loop-place
invariant-loop-place l = record {
  items : l.list.items ≡ l.initial.list.items ++ names_counted l.entry 0 l.place;
  len : vec_len l.list ≡ vec_len l.initial.list + l.place;
  room : vec_len l.initial.list + l.count ≤ vec_capacity l.list;
}
