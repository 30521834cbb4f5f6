use Rattle.std.proofs.Common.{rules, None}
use Rattle.std.proofs.lemmas.List.Sorted.{IsPartitionPoint-from_clause}
use Rattle.hx_types.specs.Words.{same_text, text_below}
use Rattle.hx_report_lines.specs.declared.histories.HistoryLines.{HistoryLines}
use Rattle.hx_types.proofs.Lemmas.{text_below-differs, text_below-trans}
use Rattle.hx_audit.proofs.Keys.{one_key}
use Rattle.hx_audit.proofs.Halving.{parted}
use Rattle.hx_audit.proofs.histories.lower_histories.Goals as goal

pub returns-clause-low : goal.returns-clause-low
returns-clause-low c =
    let up = parted (λ (h : HistoryLines). h.key) text_below same_text text_below-trans text_below-differs one_key
    None c.args.histories.now c.requires c.args.key.now in
    let point = IsPartitionPoint-from_clause (λ (h : HistoryLines). text_below h.key c.args.key.now) _ _
    c.partition_point.ensures.partitioned up (λ a r q k. search rules) in
    point.0

pub returns-clause-high : goal.returns-clause-high
returns-clause-high c =
    let up = parted (λ (h : HistoryLines). h.key) text_below same_text text_below-trans text_below-differs one_key
    None c.args.histories.now c.requires c.args.key.now in
    let point = IsPartitionPoint-from_clause (λ (h : HistoryLines). text_below h.key c.args.key.now) _ _
    c.partition_point.ensures.partitioned up (λ a r q k. search rules) in
    point.1
