use Rattle.std.proofs.Common.{ap, arith, length, subst}
use Rattle.hx_law_folds.specs.Folding.{KeysAscend}
use Rattle.hx_store.specs.Invariant.{order_of, state_in}
use Rattle.hx_store.specs.Stores.{StoreState}
use Rattle.hx_store.proofs.Lists.{length-of-map}
use Rattle.hx_store.proofs.Ordering.{late-length}
use Rattle.hx_store.proofs.stores.Store.len.Goals as goal

pub returns-clause-count : goal.returns-clause-count
returns-clause-count c =
    let es = c.self.inside.slots.entries in
    let n = length-of-map (state_in es) (order_of es) in
    let m = ap (λ (s : StoreState). length s.states) c.self.view_is in
    let l = late-length c.self.invariant in
    let len = c.len.ensures in
    let ok = c.self.inside.order.ok.0 in
    omega (arith, n, m, l, len, ok)

pub returns-clause-ascend : goal.returns-clause-ascend
returns-clause-ascend c = subst (λ (s : StoreState). KeysAscend s.states) c.self.view_is c.self.invariant.store.ascend
