use Rattle.std.proofs.Common.{ap, ◌∙◌, arith}
use Rattle.hx_index.specs.Orders.{IndexState}
use Rattle.hx_index.proofs.Showing.{widened-orders, widened-same}
use Rattle.hx_index.proofs.indexes.Index.reserve.Goals as goal

pub invariant_of-self : goal.invariant_of-self
invariant_of-self c = widened-orders c.self.inside.orders.items c.self.inside.room c.self.invariant
    c.widen_everywhere.new.orders.items c.self.inside.room
    (omega arith) c.self.invariant.small c.widen_everywhere.ensures.moved (λ k o e r. r)

pub returns-in_err-widen_everywhere-clause-orders :
    goal.returns-in_err-widen_everywhere-clause-orders
returns-in_err-widen_everywhere-clause-orders c =
    widened-same c.self.inside.orders.items c.self.inside.room c.self.invariant c.widen_everywhere.new.orders.items
    c.widen_everywhere.ensures.moved ∙ ap (λ (x : IndexState). x.orders) c.self.view_is

pub invariant_of-self-2 : goal.invariant_of-self-2
invariant_of-self-2 c = widened-orders c.self.inside.orders.items c.self.inside.room c.self.invariant
    c.widen_everywhere.new.orders.items c.args.n (let t = c.if-n-self.false in
    omega (arith, t)) c.ranges.n.fits c.widen_everywhere.ensures.moved (λ k o e r. c.in_ok-widen_everywhere.ensures.room k o e)

pub returns-clause-orders : goal.returns-clause-orders
returns-clause-orders c = widened-same c.self.inside.orders.items c.self.inside.room c.self.invariant
    c.widen_everywhere.new.orders.items c.widen_everywhere.ensures.moved ∙ ap (λ (x : IndexState). x.orders) c.self.view_is
