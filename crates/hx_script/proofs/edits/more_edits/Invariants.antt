use Rattle.std.proofs.Common.{◌≡◌, length}
use Rattle.hx_script.specs.declared.line.Until.TheVariants as until
use Rattle.hx_script.specs.Readers.{repeat}
use Rattle.hx_script.specs.Edits.{one_more_edit}
use Rattle.hx_script.proofs.edits.more_edits.Given as goal

abbrev pub invariant-edits : goal.invariant-edits
invariant-edits l = repeat until.End (one_more_edit l.space) l.edits l.line ≡ repeat until.End (one_more_edit l.space) l.initial.edits l.initial.line

abbrev pub decreases-edits : goal.decreases-edits
decreases-edits l = length l.line
