use Rattle.std.proofs.Common.{suc, subst, arith}
use Rattle.hx_audit.specs.Clauses.{KeepsInHistory}
use Rattle.hx_audit.specs.Walking.{IsFirstNot}
use Rattle.hx_audit.proofs.Walks.{history_kept, item_broken}
use Rattle.hx_audit.proofs.judging.first_in_history.Goals as goal

pub returns-in_ok-item-in-Some : goal.returns-in_ok-item-in-Some
returns-in_ok-item-in-Some c =
    item_broken c.args.clause c.args.block.now c.args.line c.args.history.now c.in-Some.place _
    (subst (IsFirstNot (λ k. KeepsInHistory c.args.clause c.args.block.now c.args.history.now (suc k))) c.in-Some.is c.in_ok-broken.ensures)
    (let n = c.in_ok-first-in-Some.ensures in let m = c.in_ok-item-in-Some.ensures in omega (arith, n, m))

pub returns-in-None : goal.returns-in-None
returns-in-None c =
    history_kept c.args.clause c.args.block.now c.args.line c.args.history.now
    (subst (IsFirstNot (λ k. KeepsInHistory c.args.clause c.args.block.now c.args.history.now (suc k))) c.in-None.is c.in_ok-broken.ensures)
