use Rattle.std.proofs.Common.{length}
use Rattle.hx_rules.proofs.starting.+size.Given as goal

abbrev pub decreases-size : goal.decreases-size
decreases-size l = length l.axes.now
