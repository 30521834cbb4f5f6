use Rattle.std.proofs.Common.{take}
use Rattle.std.specs.List.{list_all}
use Rattle.hx_model.specs.Regions.{allows}
use Rattle.hx_region.specs.Ranges.{AreThose}
use Rattle.hx_region.proofs.meeting.allowed_cells.Given as goal

abbrev pub invariant-loop-term : goal.invariant-loop-term
invariant-loop-term l = AreThose l.axis.parts (λ cell. list_all (allows l.space l.axis cell) (take l.term-index l.terms)) l.cells
