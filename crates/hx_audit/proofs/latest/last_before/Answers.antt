use Rattle.std.proofs.Common.{leb, rules, ◌∙◌}
use Rattle.std.proofs.lemmas.List.Sorted.{IsPartitionPoint-from_clause}
use Rattle.hx_audit.specs.declared.latest.LatestChange.{LatestChange}
use Rattle.hx_audit.proofs.Begun.{found_at, parted}
use Rattle.hx_audit.proofs.latest.last_before.Goals as goal

pub returns : goal.returns
returns c =
    let point = IsPartitionPoint-from_clause (λ (change : LatestChange). leb c.args.time change.begin) _ _
    c.partition_point-place.ensures.partitioned (parted c.args.changes.now c.args.time c.requires)
    (λ a r q k. search rules) in
    c.change_at.ensures ∙ found_at c.args.time c.args.changes.now c.partition_point-place.result point.0 point.1
