use Rattle.std.proofs.Common.{◌≡◌, length}
use Rattle.hx_report_lines.specs.Tailing.{ascend_to}
use Rattle.hx_report_lines.proofs.tails.ascend_to.Given as goal

abbrev pub invariant-numbers : goal.invariant-numbers
invariant-numbers l = ascend_to l.last l.most l.left ≡ ascend_to 0 l.most l.numbers

abbrev pub decreases-numbers : goal.decreases-numbers
decreases-numbers l = length l.left
