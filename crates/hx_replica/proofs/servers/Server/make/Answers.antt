use Rattle.std.proofs.Common.{◌+◌, subst, sym}
use Rattle.hx_model.specs.Types.{Space}
use Rattle.hx_model.specs.ServerSteps.{ServerState, server_step}
use Rattle.hx_replica.specs.Sound.{IsSoundServer}
use Rattle.hx_replica.proofs.StayingSound.{stays_sound}
use Rattle.hx_replica.proofs.servers.Server.make.Goals as goal

pub returns-clause-sound : goal.returns-clause-sound
returns-clause-sound c = λ input sessions n is h k.
    let v = c.args.self.now in
    subst (λ (x : Space). IsSoundServer x sessions (n + 1) c.carry_out.new.self.state) (sym c.carry_out.ensures.space)
    (subst (λ (x : ServerState). IsSoundServer v.space sessions (n + 1) x) (sym (c.carry_out.ensures.state (server_step v.space v.state input).state is))
    (stays_sound v.space sessions n v.state input h k))
