use Rattle.std.proofs.Common.{refl}
use Rattle.hx_model.specs.Types.{Tick}
use Rattle.hx_world.proofs.sessions.session_ticks.Goals as goal

pub returns-clause-taken : goal.returns-clause-taken
returns-clause-taken c = record { space = c.make.ensures.space; state = c.make.ensures.state Tick c.in-Ok.ensures.change; entries = refl }
