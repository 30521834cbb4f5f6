-- The parts of one run.
use Rattle.std.proofs.Common.{refl}
use Rattle.hx_command.proofs.Handing.{same_handed}
use Rattle.hx_command.proofs.writing.of_one.Goals as goal

pub returns-clause-handed : goal.returns-clause-handed
returns-clause-handed g c = same_handed _ _ _ _ _ _ _ _ _ _ c.in_ok-traces.ensures c.in_ok-seats.ensures refl refl refl
