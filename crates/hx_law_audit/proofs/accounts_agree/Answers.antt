use Rattle.hx_law_audit.proofs.Modelled.{agree}
use Rattle.hx_law_audit.proofs.accounts_agree.Goals as goal

pub returns : goal.returns
returns c = agree
