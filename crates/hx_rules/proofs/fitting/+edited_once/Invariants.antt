use Rattle.std.proofs.Common.{length}
use Rattle.hx_rules.proofs.fitting.+edited_once.Given as goal

abbrev pub decreases-edited_once : goal.decreases-edited_once
decreases-edited_once l = length l.edits.now
