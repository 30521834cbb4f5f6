use Rattle.std.proofs.Common.{◌≡◌, ◌≤◌, ◌+◌, ◌++◌}
use Rattle.std.specs.Prelude.{slice_range, vec_capacity, vec_len}
use Rattle.hx_gather.specs.Stretches.{numbered, place_at}
use Rattle.hx_gather.proofs.stretches.Stretch.put_places.Given as goal

abbrev pub invariant-loop-at : goal.invariant-loop-at
invariant-loop-at l = record {
  items : l.places.items ≡ l.initial.places.items
      ++ numbered (place_at l.self-inside.place) l.self-inside.at (slice_range l.self-inside.part.now l.self-inside.at l.at);
  room : vec_len l.places + l.self-inside.end ≤ vec_capacity l.places + l.at;
}
