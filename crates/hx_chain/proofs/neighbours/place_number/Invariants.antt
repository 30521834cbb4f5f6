use Rattle.std.proofs.Common.{◌≡◌, ◌+◌, drop}
use Rattle.hx_model.specs.Neighbours.{place_number}
use Rattle.hx_model.specs.Slots.{place_in}
use Rattle.hx_chain.proofs.neighbours.place_number.Given as goal

abbrev pub invariant-loop-place : goal.invariant-loop-place
invariant-loop-place l =
    (l.number ≡ l.place-index) × (l.number + place_number l.region (drop l.place-index l.update.places) ≡ place_number l.region l.update.places)
    × (place_in l.region (drop l.place-index l.update.places) ≡ place_in l.region l.update.places)
