use Rattle.std.proofs.Common.{◌≡◌, drop}
use Rattle.hx_model.specs.Cells.{fnv_from, fnv_of}
use Rattle.hx_region.proofs.hashing.fnv.Given as goal

abbrev pub invariant-loop-byte : goal.invariant-loop-byte
invariant-loop-byte l = fnv_from l.hash (drop l.byte-index l.bytes) ≡ fnv_of l.bytes
