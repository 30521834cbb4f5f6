use Rattle.std.proofs.Common.{◌≡◌, ◌+◌, ◌*◌, ◌≤◌, drop}
use Rattle.hx_types.specs.declared.limits.TheConstants.{MOST_PLACES}
use Rattle.hx_slot.specs.Updates.{places_in}
use Rattle.hx_slot.proofs.line.place_count.Given as goal

abbrev pub invariant-loop-taken : goal.invariant-loop-taken
invariant-loop-taken l = record {
  count : l.count + places_in (drop l.taken-index l.line) ≡ places_in l.line;
  bound : l.count ≤ MOST_PLACES * l.taken-index;
}
