use Rattle.std.proofs.Common.{arith}
use Rattle.hx_audit.specs.Standing.{IsItemAt}
use Rattle.hx_audit.proofs.Placed.{marks_all, marks_one}
use Rattle.hx_audit.proofs.standing.mark_calls.Goals as goal

pub loop-item-preserved : goal.loop-item-preserved
loop-item-preserved c = marks_one (IsItemAt c.args.calls.now c.args.key.now) _ _ _ _ _ _ _ c.in-Some.ensures.cases.0
    c.in_ok-mark_call.ensures c.loop-item.invariant

pub returns : goal.returns
returns c = marks_all (IsItemAt c.args.calls.now c.args.key.now) _ _ _ c.loop-item.rest.now (grind arith) c.loop-item.invariant
