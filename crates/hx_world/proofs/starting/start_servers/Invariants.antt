use Rattle.hx_world.specs.Invariant.{AreAt}
use Rattle.hx_world.specs.Starting.{IsNewServer}
use Rattle.hx_world.proofs.starting.start_servers.Given as goal

abbrev pub invariant-loop-place : goal.invariant-loop-place
invariant-loop-place l = AreAt l.place (IsNewServer l.space) l.servers.items
