use Rattle.std.proofs.Common.{◌≡◌, false, take}
use Rattle.std.specs.List.{list_any}
use Rattle.hx_session.specs.Changes.{lacks_rows}
use Rattle.hx_session.proofs.parts.lacking.Given as goal

abbrev pub invariant-loop-place : goal.invariant-loop-place
invariant-loop-place l = list_any (lacks_rows l.region) (take l.place l.parts) ≡ false
