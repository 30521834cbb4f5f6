use Rattle.std.proofs.Common.{rules, None}
use Rattle.std.proofs.lemmas.List.Sorted.{IsPartitionPoint-from_clause}
use Rattle.hx_report_lines.specs.declared.calls.CallLine.{CallLine}
use Rattle.hx_report_lines.specs.Values.{caller_below}
use Rattle.hx_audit.specs.Told.{same_caller}
use Rattle.hx_audit.proofs.Callers.{caller_differs, caller_trans, one_caller}
use Rattle.hx_audit.proofs.Halving.{parted}
use Rattle.hx_audit.proofs.lookups.lower_calls.Goals as goal

pub returns-clause-low : goal.returns-clause-low
returns-clause-low c =
    let up = parted (λ (l : CallLine). l.caller) caller_below same_caller caller_trans caller_differs one_caller None
    c.args.calls.now c.requires c.args.caller in
    let point = IsPartitionPoint-from_clause (λ (l : CallLine). caller_below l.caller c.args.caller) _ _
    c.partition_point.ensures.partitioned up (λ a r q k. search rules) in
    point.0

pub returns-clause-high : goal.returns-clause-high
returns-clause-high c =
    let up = parted (λ (l : CallLine). l.caller) caller_below same_caller caller_trans caller_differs one_caller None
    c.args.calls.now c.requires c.args.caller in
    let point = IsPartitionPoint-from_clause (λ (l : CallLine). caller_below l.caller c.args.caller) _ _
    c.partition_point.ensures.partitioned up (λ a r q k. search rules) in
    point.1
