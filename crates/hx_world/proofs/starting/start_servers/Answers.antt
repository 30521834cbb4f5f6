use Rattle.std.proofs.Common.{refl}
use Rattle.hx_world.specs.Starting.{IsNewServer}
use Rattle.hx_world.proofs.Seating.{at_push}
use Rattle.hx_world.proofs.starting.start_servers.Goals as goal

pub loop-place-preserved : goal.loop-place-preserved
loop-place-preserved c =
    at_push c.loop-place.place (IsNewServer c.args.space.now) c.loop-place.servers.items c.push.new.self.items
    (record { server = c.in_ok-server.server; entries = 0 }) c.loop-place.invariant c.in_ok-push.ensures.items
    (record { space_is = c.in_ok-server.ensures.space; state = c.in_ok-server.ensures.state; entries = refl })
