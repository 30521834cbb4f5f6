use Rattle.std.proofs.Common.{◌≡◌, take}
use Rattle.hx_soak.specs.Tallying.{how_many}
use Rattle.hx_soak.proofs.counting.how_many.Given as goal

abbrev pub invariant-loop-call : goal.invariant-loop-call
invariant-loop-call l = l.count ≡ how_many l.what (take l.call-index l.records)
