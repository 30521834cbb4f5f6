use Rattle.std.proofs.Common.{Some, ap, ◌∙◌, arith}
use Rattle.hx_audit.specs.Moments.{is_late}
use Rattle.hx_audit.proofs.Begun.{latest_all, latest_begun, latest_more}
use Rattle.hx_audit.proofs.Timing.{ended_by}
use Rattle.hx_audit.proofs.latest.changes_of.Goals as goal

pub loop-item-init : goal.loop-item-init
loop-item-init c = latest_begun c.args.block.now c.args.history.now.items _ _ c.as_slice-rest.ensures c.new-latest.ensures.items

pub loop-item-preserved : goal.loop-item-preserved
loop-item-preserved c =
    latest_more c.args.block.now c.args.history.now.items _ _ c.in-Some.item _ _ _ _ _ _ c.loop-item.invariant c.in-Some.ensures.cases.0 c.earlier-over.ensures
    (λ time. ap (λ o. is_late o (Some time)) c.call_end.ensures
    ∙ ended_by c.args.block.now _ time _ c.call_of_item-call.ensures) c.begin_of_change.ensures
    c.in_ok-push_item.ensures.found c.in_ok-push_item.ensures.falls

pub returns : goal.returns
returns c = latest_all c.args.block.now c.args.history.now c.loop-item.rest.now c.loop-item.latest.items c.loop-item.over c.loop-item.invariant (grind arith)
