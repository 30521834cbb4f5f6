use Rattle.std.proofs.Common.{leb, leb-true, rules}
use Rattle.std.proofs.lemmas.Bool.{leb-false}
use Rattle.std.proofs.lemmas.List.Sorted.{IsPartitionPoint-from_clause, IsPartitionedBy-leb}
use Rattle.std.specs.Borrow.{Bor}
use Rattle.hx_model.specs.Types.{Update}
use Rattle.hx_history.specs.Events.{version_at}
use Rattle.hx_history.proofs.placing.rank.Goals as goal

pub returns-clause-below : goal.returns-clause-below
returns-clause-below c =
    let parted = IsPartitionedBy-leb version_at _ c.args.version c.requires in
    let point = IsPartitionPoint-from_clause (λ (u : Bor Update). leb (version_at u) c.args.version) _ _
    c.partition_point.ensures.partitioned parted (λ a r q k. search rules) in
    λ k d low high. leb-true _ _ (point.0 k d low high)

pub returns-clause-above : goal.returns-clause-above
returns-clause-above c =
    let parted = IsPartitionedBy-leb version_at _ c.args.version c.requires in
    let point = IsPartitionPoint-from_clause (λ (u : Bor Update). leb (version_at u) c.args.version) _ _
    c.partition_point.ensures.partitioned parted (λ a r q k. search rules) in
    λ k d low high. leb-false _ _ (point.1 k d low high)
