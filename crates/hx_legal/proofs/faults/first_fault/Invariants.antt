use Rattle.std.proofs.Common.{◌≡◌, take, reverse}
use Rattle.std.specs.Option.{option_copied}
use Rattle.hx_model.specs.Legal.{IsLegal, object_now}
use Rattle.hx_legal.proofs.faults.first_fault.Given as goal

abbrev pub invariant-loop-place : goal.invariant-loop-place
invariant-loop-place l =
    (option_copied l.before ≡ object_now (reverse (take l.place l.items))) × IsLegal l.space (reverse (take l.place l.items))
