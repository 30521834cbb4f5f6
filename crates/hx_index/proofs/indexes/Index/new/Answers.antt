use Rattle.std.proofs.Common.{◌+◌, arith}
use Rattle.hx_index.specs.Invariant.{items_of}
use Rattle.hx_index.proofs.Showing.{empty-index, empty-orders}
use Rattle.hx_index.proofs.indexes.Index.new.Goals as goal

pub invariant_of-result : goal.invariant_of-result
invariant_of-result c =
    let fits = c.ranges.attributes.fits in
    empty-orders c.in_ok-orders.orders.items c.args.attributes c.in_ok-orders.ensures.items (omega (arith, fits))

pub returns-clause-empty : goal.returns-clause-empty
returns-clause-empty c = empty-index (record { orders = items_of c.in_ok-orders.orders.items; room = 0 }) (c.args.attributes + 1) c.in_ok-orders.ensures.items
