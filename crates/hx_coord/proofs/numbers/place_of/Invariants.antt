use Rattle.std.proofs.Common.{◌≡◌, false, take}
use Rattle.std.specs.List.{list_any}
use Rattle.hx_coord.specs.Numbers.{is_of_session}
use Rattle.hx_coord.proofs.numbers.place_of.Given as goal

abbrev pub invariant-loop-place : goal.invariant-loop-place
invariant-loop-place l = list_any (is_of_session l.session) (take l.place l.newest) ≡ false
