use Rattle.std.proofs.Common.{◌≡◌, ◌≤◌, length, take, vec_capacity, vec_len}
use Rattle.std.specs.List.{flat_map}
use Rattle.hx_types.specs.Words.{list_of}
use Rattle.hx_index.specs.Orders.{rows_at}
use Rattle.hx_store.proofs.searching.rows_at.Given as goal

-- the rows of the places so far were found, and there is room for those of all
abbrev pub invariant-loop-place : goal.invariant-loop-place
invariant-loop-place l =
    (l.found.items ≡ flat_map (λ i. list_of (rows_at l.rows i)) (take l.place-index l.places))
    × (vec_len l.found ≤ l.place-index) × (length l.places ≤ vec_capacity l.found)
