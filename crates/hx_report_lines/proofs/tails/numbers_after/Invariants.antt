use Rattle.std.proofs.Common.{◌≡◌, length}
use Rattle.hx_report_lines.specs.Tailing.{numbers_after}
use Rattle.hx_report_lines.proofs.tails.numbers_after.Given as goal

abbrev pub invariant-numbers : goal.invariant-numbers
invariant-numbers l = numbers_after l.most l.numbers.items l.left ≡ numbers_after (length l.fn.left) l.fn.numbers.items l.fn.left

abbrev pub decreases-numbers : goal.decreases-numbers
decreases-numbers l = l.most
