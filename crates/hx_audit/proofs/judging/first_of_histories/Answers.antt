use Rattle.std.proofs.Common.{sym, ◌∙◌, arith}
use Rattle.hx_audit.proofs.Walks.{at_history, histories_end, past_history}
use Rattle.hx_audit.proofs.judging.first_of_histories.Goals as goal

pub returns-then-is_some : goal.returns-then-is_some
returns-then-is_some c =
    c.loop-history.invariant _ (at_history c.args.clause c.args.block.now c.loop-history.line _ _ _ _
    c.in-Some.ensures.cases.0 (sym c.is_some.ensures ∙ c.if-is_some.true) c.in_ok-broken.ensures)

pub loop-history-preserved : goal.loop-history-preserved
loop-history-preserved c =
    λ r f. c.loop-history.invariant r (past_history c.args.clause c.args.block.now c.loop-history.line _ _ _ _ _ r
    c.in-Some.ensures.cases.0 (sym c.is_some.ensures ∙ c.if-is_some.false) c.in_ok-broken.ensures c.in_ok-line.ensures f)

pub returns : goal.returns
returns c = c.loop-history.invariant _ (histories_end c.args.clause c.args.block.now c.loop-history.line c.loop-history.rest.now (grind arith))
