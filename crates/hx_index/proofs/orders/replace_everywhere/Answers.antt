use Rattle.std.proofs.Common.{◌<◌, length, arith}
use Rattle.hx_index.specs.Invariant.{IsReplaced}
use Rattle.hx_index.specs.Orders.{rows_at}
use Rattle.hx_index.proofs.Looping.{begun, ended, moved-one, next-is}
use Rattle.hx_index.proofs.orders.replace_everywhere.Goals as goal

pub loop-attribute-init : goal.loop-attribute-init
loop-attribute-init c = begun (IsReplaced (rows_at c.args.rows.now)) c.args.orders.now.items

pub replace_number-requires-clause-order : goal.replace_number-requires-clause-order
replace_number-requires-clause-order c =
    let count = c.loop-attribute.invariant.count in
    let len = c.len-attribute-end.ensures in
    let ok = c.args.orders.now.ok.0 in
    let test = c.loop-attribute-test.true in
    let within : c.loop-attribute.attribute < length c.loop-attribute.orders.items = omega (arith, count, len, ok, test) in
    c.requires.orders c.loop-attribute.attribute c.index_mut.result.now
    (next-is (IsReplaced (rows_at c.args.rows.now)) c.args.orders.now.items c.loop-attribute.orders.items
    c.loop-attribute.attribute c.loop-attribute.invariant c.index_mut.result.now within c.index_mut.ensures.value)

pub loop-attribute-preserved : goal.loop-attribute-preserved
loop-attribute-preserved c =
    let count = c.loop-attribute.invariant.count in
    let len = c.len-attribute-end.ensures in
    let ok = c.args.orders.now.ok.0 in
    let test = c.loop-attribute-test.true in
    let within : c.loop-attribute.attribute < length c.loop-attribute.orders.items = omega (arith, count, len, ok, test) in
    moved-one (IsReplaced (rows_at c.args.rows.now)) c.args.orders.now.items c.loop-attribute.orders.items
    c.loop-attribute.attribute c.loop-attribute.invariant c.index_mut.result.now c.replace_number.new.order within
    (next-is (IsReplaced (rows_at c.args.rows.now)) c.args.orders.now.items c.loop-attribute.orders.items
    c.loop-attribute.attribute c.loop-attribute.invariant c.index_mut.result.now within c.index_mut.ensures.value)
    (record {
      order = c.replace_number.ensures.order;
      len = c.replace_number.ensures.len;
      capacity = c.replace_number.ensures.capacity;
    })

pub returns : goal.returns
returns c =
    let count = c.loop-attribute.invariant.count in
    let len = c.len-attribute-end.ensures in
    let ok = c.args.orders.now.ok.0 in
    let test = c.loop-attribute-test.false in
    ended (IsReplaced (rows_at c.args.rows.now)) c.args.orders.now.items c.loop-attribute.orders.items
    c.loop-attribute.attribute c.loop-attribute.invariant (omega (arith, count, len, ok, test))
