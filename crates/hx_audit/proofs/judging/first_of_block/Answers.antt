use Rattle.std.proofs.Common.{sym, ◌∙◌}
use Rattle.hx_audit.proofs.Walks.{block_at, block_past}
use Rattle.hx_audit.proofs.judging.first_of_block.Goals as goal

pub returns-then-is_some : goal.returns-then-is_some
returns-then-is_some c =
    block_at c.args.clause c.args.block.now c.args.line _ _ _ c.in_ok-first.ensures c.as_slice-calls.ensures
    (sym c.is_some.ensures ∙ c.if-is_some.true) c.in_ok-broken.ensures

pub returns : goal.returns
returns c =
    block_past c.args.clause c.args.block.now c.args.line _ _ _ _ _ _ c.in_ok-first.ensures c.as_slice-calls.ensures
    c.as_slice-histories.ensures c.in_ok-next.ensures
    (sym c.is_some.ensures ∙ c.if-is_some.false) c.in_ok-broken.ensures c.in_ok-other.ensures
