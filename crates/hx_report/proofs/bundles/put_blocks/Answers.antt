use Rattle.std.proofs.Common.{◌<◌, List, length, reverse, subst}
use Rattle.hx_model.specs.Types.{Totals}
use Rattle.hx_report.specs.BundleReporting.{AddsBlock}
use Rattle.hx_report.proofs.BlockTexts.{blocks_more}
use Rattle.hx_report.proofs.bundles.put_blocks.Goals as goal

pub loop-space-preserved : goal.loop-space-preserved
loop-space-preserved c =
    let within : c.loop-space.space < length c.args.scripts.now = c.loop-space-test.true in
    blocks_more c.args.scripts.now c.args.traces.now c.args.totals.now c.args.with_trace c.args.out.now.items
    c.loop-space.out.items c.put_block.new.out.items c.loop-space.space
    c.index-scripts-space.result c.index-traces-space.result c.index-totals-space.result within c.requires.traced
    c.requires.driven c.index-scripts-space.is c.index-traces-space.is c.index-totals-space.is c.loop-space.invariant
    (subst (λ (counts : List Totals). AddsBlock c.index-scripts-space.result
    (reverse c.index-traces-space.result) counts c.args.with_trace c.loop-space.out.items
    c.put_block.new.out.items) c.as_slice.ensures c.in_ok-put_block.ensures)
