use Rattle.std.proofs.Common.{◌≡◌, drop}
use Rattle.hx_model.specs.Leading.{first_lost}
use Rattle.hx_chain.proofs.stuck_updates.first_lost.Given as goal

abbrev pub invariant-loop-place : goal.invariant-loop-place
invariant-loop-place l = first_lost l.config (drop l.place-index l.places) ≡ first_lost l.config l.places
