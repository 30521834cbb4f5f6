use Rattle.std.proofs.Common.{◌≡◌, drop}
use Rattle.hx_types.specs.Effects.{edited_from}
use Rattle.hx_rules.proofs.edits.edited.Given as goal

abbrev pub invariant-loop-edit : goal.invariant-loop-edit
invariant-loop-edit l = edited_from l.before l.object (drop l.edit-index l.edits) ≡ edited_from l.before l.before l.edits
