use Rattle.std.proofs.Common.{length}
use Rattle.hx_rules.proofs.fitting.+assigned_once.Given as goal

abbrev pub decreases-assigned_once : goal.decreases-assigned_once
decreases-assigned_once l = length l.assigns.now
