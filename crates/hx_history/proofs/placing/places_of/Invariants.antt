use Rattle.std.proofs.Common.{◌≡◌, ℕ, ◌≤◌, ◌+◌, Some, map, length, take}
use Rattle.std.specs.List.{filter}
use Rattle.std.specs.Prelude.{slice_get}
use Rattle.hx_history.specs.Events.{is_in_place}
use Rattle.hx_history.proofs.placing.places_of.Given as goal

abbrev pub invariant-loop-read : goal.invariant-loop-read
invariant-loop-read l =
    record {
      len : length l.places.items ≡ length l.writes + 1;
      each : (p : ℕ) → p ≤ length l.writes
          → slice_get (map (λ reads. reads.items) l.places.items) p ≡ Some (filter (is_in_place l.writes p) (take l.read-index l.reads));
    }
