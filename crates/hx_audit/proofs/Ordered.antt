-- A block of a report is in order.
use Rattle.hx_report_lines.specs.declared.blocks.Block.{Block}
use Rattle.hx_report_lines.specs.Values.{IsBlock}
use Rattle.hx_audit.specs.Walking.{IsOrdered}

pub ordered : (b : Block) → IsBlock b → IsOrdered b
ordered b h = record { calls = h.calls_ascend; histories = h.histories_ascend }
