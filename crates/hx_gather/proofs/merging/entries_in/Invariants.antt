use Rattle.std.proofs.Common.{◌≡◌, length, take}
use Rattle.hx_clock.specs.Parts.{all_of}
use Rattle.hx_gather.proofs.merging.entries_in.Given as goal

abbrev pub invariant-loop-part : goal.invariant-loop-part
invariant-loop-part l = l.entries ≡ length (all_of (take l.part-index l.parts))
