use Rattle.std.proofs.Common.{◌≡◌, ◌++◌, map}
use Rattle.std.specs.List.{flat_map}
use Rattle.hx_command.proofs.space_parts.parts_of.Given as goal

abbrev pub invariant-loop-ran : goal.invariant-loop-ran
invariant-loop-ran g l = record {
  traces : l.parts.traces ≡ map (λ r. r.trace) l.yielded;
  seats : l.parts.seats.items ≡ map (λ r. r.seat) l.yielded;
  totals : l.parts.totals ≡ map (λ r. r.totals.items) l.yielded;
  fates : l.parts.fates.items ≡ flat_map (λ r. r.fates.items) l.yielded;
  ports : l.parts.ports.items ≡ flat_map (λ r. r.ports.items) l.yielded;
  all : l.yielded ++ l.ran-iterator.rest.items ≡ l.fn.runs.items;
}
