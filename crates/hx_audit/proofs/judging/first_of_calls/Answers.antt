use Rattle.std.proofs.Common.{sym, ◌∙◌, arith}
use Rattle.hx_audit.proofs.Looping.{in_here, in_later}
use Rattle.hx_audit.proofs.Walks.{at_call, calls_end, past_call}
use Rattle.hx_audit.proofs.judging.first_of_calls.Goals as goal

pub first_in_call-requires-clause-stands : goal.first_in_call-requires-clause-stands
first_in_call-requires-clause-stands c = c.loop-call.invariant.stand _ (in_here _ _ _ c.in-Some.ensures.cases.0)

pub returns-then-is_some : goal.returns-then-is_some
returns-then-is_some c =
    c.loop-call.invariant.walk _ (at_call c.args.clause c.args.block.now c.loop-call.line _ _ _ _
    c.in-Some.ensures.cases.0 (sym c.is_some.ensures ∙ c.if-is_some.true) c.in_ok-broken.ensures)

pub loop-call-preserved : goal.loop-call-preserved
loop-call-preserved c = record {
  walk = λ r f. c.loop-call.invariant.walk r (past_call c.args.clause c.args.block.now c.loop-call.line _ _ _ _ _ r
      c.in-Some.ensures.cases.0 (sym c.is_some.ensures ∙ c.if-is_some.false) c.in_ok-broken.ensures c.in_ok-line.ensures f);
  stand = λ call i. c.loop-call.invariant.stand call (in_later call _ _ _ c.in-Some.ensures.cases.0 i);
}

pub returns : goal.returns
returns c = c.loop-call.invariant.walk _ (calls_end c.args.clause c.args.block.now c.loop-call.line c.loop-call.rest.now (grind arith))
