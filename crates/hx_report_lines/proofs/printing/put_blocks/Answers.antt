use Rattle.std.proofs.Common.{◌∙◌}
use Rattle.hx_report.proofs.Lemmas.{one_more}
use Rattle.hx_report_lines.specs.Printed.{block_text}
use Rattle.hx_report_lines.proofs.printing.put_blocks.Goals as goal

pub loop-block-preserved : goal.loop-block-preserved
loop-block-preserved c =
    c.in_ok-put_block.ensures
    ∙ one_more block_text c.loop-block.out.items c.args.out.now.items c.args.blocks.now c.loop-block.block-index
    c.block-item.result c.loop-block.invariant c.loop-block-test.true c.block-item.is
