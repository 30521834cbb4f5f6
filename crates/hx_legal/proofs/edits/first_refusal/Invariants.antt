use Rattle.std.proofs.Common.{◌≡◌, drop}
use Rattle.hx_legal.specs.Edited.{first_refused}
use Rattle.hx_legal.proofs.edits.first_refusal.Given as goal

abbrev pub invariant-loop-edit : goal.invariant-loop-edit
invariant-loop-edit l = first_refused l.before (drop l.edit-index l.edits) ≡ first_refused l.before l.edits
