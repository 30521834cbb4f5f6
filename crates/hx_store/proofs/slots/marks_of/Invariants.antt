use Rattle.std.proofs.Common.{◌≡◌, ℕ, length, take}
use Rattle.hx_index.specs.Orders.{stands_in}
use Rattle.hx_store.specs.Indexed.{is_marked}
use Rattle.hx_store.proofs.slots.marks_of.Given as goal

-- the places so far are marked, and no others
abbrev pub invariant-loop-place : goal.invariant-loop-place
invariant-loop-place l =
    (length l.marks.items ≡ l.count) × ((i : ℕ) → is_marked l.marks.items i ≡ stands_in (take l.place-index l.places) i)
