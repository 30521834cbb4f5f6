use Rattle.std.proofs.Common.{◌≡◌, take}
use Rattle.hx_gather.specs.Stretches.{stretches_of}
use Rattle.hx_gather.proofs.merging.sources_of.Given as goal

abbrev pub invariant-loop-place : goal.invariant-loop-place
invariant-loop-place l = l.sources.items ≡ stretches_of (take l.place l.parts)
