use Rattle.hx_law_audit.proofs.Counted.{all_counted}
use Rattle.hx_law_audit.proofs.lines_are_counted.Goals as goal

pub returns : goal.returns
returns c = all_counted
