use Rattle.std.proofs.Common.{◌≡◌, length}
use Rattle.hx_script.specs.Readers.{repeat}
use Rattle.hx_script.specs.Values.{one_more, more_assigns}
use Rattle.hx_script.proofs.values.more_assigns.Given as goal

abbrev pub invariant-assigns : goal.invariant-assigns
invariant-assigns l = repeat l.until (one_more l.space) l.assigns l.line ≡ more_assigns l.space l.until l.initial.assigns l.initial.line

abbrev pub decreases-assigns : goal.decreases-assigns
decreases-assigns l = length l.line
