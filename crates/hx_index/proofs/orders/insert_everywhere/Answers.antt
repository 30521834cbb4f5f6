use Rattle.std.proofs.Common.{◌<◌, length, arith}
use Rattle.hx_index.specs.Invariant.{IsAdded}
use Rattle.hx_index.specs.Orders.{rows_at}
use Rattle.hx_index.proofs.Looping.{begun, ended, moved-one, next-is}
use Rattle.hx_index.proofs.orders.insert_everywhere.Goals as goal

pub loop-attribute-init : goal.loop-attribute-init
loop-attribute-init c = begun (IsAdded (rows_at c.args.rows.now) c.args.id) c.args.orders.now.items

pub insert_number-requires-clause-others : goal.insert_number-requires-clause-others
insert_number-requires-clause-others c =
    let count = c.loop-attribute.invariant.count in
    let len = c.len-attribute-end.ensures in
    let ok = c.args.orders.now.ok.0 in
    let test = c.loop-attribute-test.true in
    let within : c.loop-attribute.attribute < length c.loop-attribute.orders.items = omega (arith, count, len, ok, test) in
    c.requires.others c.loop-attribute.attribute c.index_mut.result.now
    (next-is (IsAdded (rows_at c.args.rows.now) c.args.id) c.args.orders.now.items c.loop-attribute.orders.items
    c.loop-attribute.attribute c.loop-attribute.invariant c.index_mut.result.now within c.index_mut.ensures.value)

pub insert_number-requires-clause-room : goal.insert_number-requires-clause-room
insert_number-requires-clause-room c =
    let count = c.loop-attribute.invariant.count in
    let len = c.len-attribute-end.ensures in
    let ok = c.args.orders.now.ok.0 in
    let test = c.loop-attribute-test.true in
    let within : c.loop-attribute.attribute < length c.loop-attribute.orders.items = omega (arith, count, len, ok, test) in
    c.requires.room c.loop-attribute.attribute c.index_mut.result.now
    (next-is (IsAdded (rows_at c.args.rows.now) c.args.id) c.args.orders.now.items c.loop-attribute.orders.items
    c.loop-attribute.attribute c.loop-attribute.invariant c.index_mut.result.now within c.index_mut.ensures.value)

pub loop-attribute-preserved : goal.loop-attribute-preserved
loop-attribute-preserved c =
    let count = c.loop-attribute.invariant.count in
    let len = c.len-attribute-end.ensures in
    let ok = c.args.orders.now.ok.0 in
    let test = c.loop-attribute-test.true in
    let within : c.loop-attribute.attribute < length c.loop-attribute.orders.items = omega (arith, count, len, ok, test) in
    moved-one (IsAdded (rows_at c.args.rows.now) c.args.id) c.args.orders.now.items c.loop-attribute.orders.items
    c.loop-attribute.attribute c.loop-attribute.invariant c.index_mut.result.now c.insert_number.new.order within
    (next-is (IsAdded (rows_at c.args.rows.now) c.args.id) c.args.orders.now.items c.loop-attribute.orders.items
    c.loop-attribute.attribute c.loop-attribute.invariant c.index_mut.result.now within c.index_mut.ensures.value)
    (record {
      order = c.insert_number.ensures.order;
      others = c.insert_number.ensures.others;
      len = c.insert_number.ensures.len;
      capacity = c.insert_number.ensures.capacity;
    })

pub returns : goal.returns
returns c =
    let count = c.loop-attribute.invariant.count in
    let len = c.len-attribute-end.ensures in
    let ok = c.args.orders.now.ok.0 in
    let test = c.loop-attribute-test.false in
    ended (IsAdded (rows_at c.args.rows.now) c.args.id) c.args.orders.now.items c.loop-attribute.orders.items
    c.loop-attribute.attribute c.loop-attribute.invariant (omega (arith, count, len, ok, test))
