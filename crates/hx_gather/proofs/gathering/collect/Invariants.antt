use Rattle.std.proofs.Common.{◌≡◌}
use Rattle.std.specs.Prelude.{flat_map}
use Rattle.hx_gather.specs.declared.gathering.SeatedPart.{SeatedPart}
use Rattle.hx_gather.specs.Gathered.{parts_of}
use Rattle.hx_gather.proofs.gathering.collect.Given as goal

abbrev pub invariant-loop-actor : goal.invariant-loop-actor
invariant-loop-actor l =
    (l.parts ≡ parts_of l.yielded) × (l.seat.clock ≡ l.fn.clock) × (l.seat.view.carried ≡ flat_map (λ (p : SeatedPart). p.seat.view.carried) l.yielded)
    × (l.seat.view.count ≡ l.initial.seat.view.count)
