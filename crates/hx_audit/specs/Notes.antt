-- What is noted of a block for a clause.
use Rattle.std.specs.BTreeSet.{contains}
use Rattle.std.specs.Ordering.{nat_cmp}
use Rattle.hx_report_lines.specs.declared.blocks.Block.{Block}
use Rattle.hx_audit.specs.declared.notes.Notes.{Notes}
use Rattle.hx_audit.specs.declared.verdicts.Clause.{Clause}
use Rattle.hx_audit.specs.Latest.{AreLatestFor}
use Rattle.hx_audit.specs.Standing.{AreMarkedFor}

-- all that the clause asks for
pub record AreNotesFor (clause : Clause) (b : Block) (notes : Notes) : Type 0 where
  pub marked : AreMarkedFor clause b (contains nat_cmp notes.marked)
  pub latest : AreLatestFor clause b notes.latest.items
