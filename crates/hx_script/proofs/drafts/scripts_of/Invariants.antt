use Rattle.std.proofs.Common.{◌≡◌, ◌++◌, length, map}
use Rattle.hx_script.specs.BundleTexts.{script_so_far}
use Rattle.hx_script.proofs.drafts.scripts_of.Given as goal

abbrev pub invariant-drafts : goal.invariant-drafts
invariant-drafts l = l.scripts ++ map script_so_far l.left.items ≡ map script_so_far l.fn.drafts.items

abbrev pub decreases-drafts : goal.decreases-drafts
decreases-drafts l = length l.left.items
