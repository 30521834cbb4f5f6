use Rattle.std.proofs.Common.{◌≡◌, [], take}
use Rattle.std.specs.List.{flat_map}
use Rattle.hx_history.specs.Issued.{issued_by}
use Rattle.hx_history.proofs.walking.has_issued.Given as goal

abbrev pub invariant-loop-note : goal.invariant-loop-note
invariant-loop-note l = flat_map issued_by (take l.note-index l.notes) ≡ []
