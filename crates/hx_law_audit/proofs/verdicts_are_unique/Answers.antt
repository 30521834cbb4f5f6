use Rattle.hx_law_audit.proofs.Single.{verdicts_unique}
use Rattle.hx_law_audit.proofs.verdicts_are_unique.Goals as goal

pub returns : goal.returns
returns c = verdicts_unique
