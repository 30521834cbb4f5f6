use Rattle.hx_law_growing.proofs.Calls.{calls_grow, scripts_stay}
use Rattle.hx_law_growing.proofs.calls_grow.Goals as goal

pub returns-clause-grows : goal.returns-clause-grows
returns-clause-grows c = calls_grow

pub returns-clause-valid : goal.returns-clause-valid
returns-clause-valid c = scripts_stay
