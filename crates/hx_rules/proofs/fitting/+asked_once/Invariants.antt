use Rattle.std.proofs.Common.{length}
use Rattle.hx_rules.proofs.fitting.+asked_once.Given as goal

abbrev pub decreases-asked_once : goal.decreases-asked_once
decreases-asked_once l = length l.terms.now
