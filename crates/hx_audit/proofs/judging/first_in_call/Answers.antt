use Rattle.std.proofs.Common.{arith}
use Rattle.hx_audit.proofs.Walks.{call_broken, call_kept, row_broken}
use Rattle.hx_audit.proofs.judging.first_in_call.Goals as goal

pub returns-then-not-is_kept_at : goal.returns-then-not-is_kept_at
returns-then-not-is_kept_at c = call_broken c.args.clause c.args.block.now c.args.line c.args.call.now
    (λ h. let t = c.is_kept_at.ensures.1 h in let f = c.if-not-is_kept_at.true in absurd (cc))

pub returns-in_ok-row-in-Some : goal.returns-in_ok-row-in-Some
returns-in_ok-row-in-Some c =
    row_broken c.args.clause c.args.block.now c.args.line c.args.call.now c.in-Some.place _ (c.is_kept_at.ensures.0 c.if-not-is_kept_at.false) c.in-Some.ensures
    (let n = c.in_ok-first-in-Some.ensures in let m = c.in_ok-row-in-Some.ensures in omega (arith, n, m))

pub returns-in-None : goal.returns-in-None
returns-in-None c = call_kept c.args.clause c.args.block.now c.args.line c.args.call.now (c.is_kept_at.ensures.0 c.if-not-is_kept_at.false) c.in-None.ensures
