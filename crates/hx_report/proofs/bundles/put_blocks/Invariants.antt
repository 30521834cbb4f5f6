use Rattle.std.proofs.Common.{map, reverse, take}
use Rattle.hx_report.specs.BundleReporting.{AddsBlocks}
use Rattle.hx_report.proofs.bundles.put_blocks.Given as goal

abbrev pub invariant-loop-space : goal.invariant-loop-space
invariant-loop-space l = AddsBlocks (take l.space l.scripts) (map (λ t. reverse t) (take l.space l.traces))
    (take l.space l.totals) l.with_trace l.fn.out.items l.out.items
