use Rattle.std.proofs.Common.{◌≡◌, flat_map}
use Rattle.hx_gather.specs.Stretches.{places_in}
use Rattle.hx_gather.proofs.merging.places_of.Given as goal

abbrev pub invariant-loop-stretch : goal.invariant-loop-stretch
invariant-loop-stretch l = l.places.items ≡ flat_map places_in l.yielded
