use Rattle.std.proofs.Common.{◌≡◌, [], map, replicate}
use Rattle.hx_history.proofs.placing.no_reads.Given as goal

abbrev pub invariant-loop-made : goal.invariant-loop-made
invariant-loop-made l = map (λ reads. reads.items) l.places.items ≡ replicate l._made []
