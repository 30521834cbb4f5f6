use Rattle.std.proofs.Common.{◌≡◌, take, vec_capacity}
use Rattle.std.specs.List.{filter}
use Rattle.hx_store.specs.Indexed.{is_marked}
use Rattle.hx_store.proofs.slots.take_marked.Given as goal

-- of the places so far the marked ones were taken
abbrev pub invariant-loop-place : goal.invariant-loop-place
invariant-loop-place l =
    (l.ids.items ≡ filter (is_marked l.marks) (take l.place-index l.order)) × (vec_capacity l.ids ≡ vec_capacity l.initial.ids)
