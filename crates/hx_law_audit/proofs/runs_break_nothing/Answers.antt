use Rattle.hx_law_audit.proofs.RunBreaks.{runs_break}
use Rattle.hx_law_audit.proofs.runs_break_nothing.Goals as goal

pub returns : goal.returns
returns c = runs_break
