use Rattle.std.proofs.Common.{◌<◌, length, arith}
use Rattle.hx_index.specs.Invariant.{IsRemoved}
use Rattle.hx_index.specs.Orders.{rows_at}
use Rattle.hx_index.proofs.Looping.{begun, ended, moved-one, next-is}
use Rattle.hx_index.proofs.orders.remove_everywhere.Goals as goal

pub loop-attribute-init : goal.loop-attribute-init
loop-attribute-init c = begun (IsRemoved (rows_at c.args.rows.now) c.args.id) c.args.orders.now.items

pub remove_number-requires : goal.remove_number-requires
remove_number-requires c =
    let count = c.loop-attribute.invariant.count in
    let len = c.len-attribute-end.ensures in
    let ok = c.args.orders.now.ok.0 in
    let test = c.loop-attribute-test.true in
    let within : c.loop-attribute.attribute < length c.loop-attribute.orders.items = omega (arith, count, len, ok, test) in
    record {
      order = c.requires.orders c.loop-attribute.attribute c.index_mut.result.now
          (next-is (IsRemoved (rows_at c.args.rows.now) c.args.id) c.args.orders.now.items c.loop-attribute.orders.items
          c.loop-attribute.attribute c.loop-attribute.invariant c.index_mut.result.now within c.index_mut.ensures.value);
    }

pub loop-attribute-preserved : goal.loop-attribute-preserved
loop-attribute-preserved c =
    let count = c.loop-attribute.invariant.count in
    let len = c.len-attribute-end.ensures in
    let ok = c.args.orders.now.ok.0 in
    let test = c.loop-attribute-test.true in
    let within : c.loop-attribute.attribute < length c.loop-attribute.orders.items = omega (arith, count, len, ok, test) in
    moved-one (IsRemoved (rows_at c.args.rows.now) c.args.id) c.args.orders.now.items c.loop-attribute.orders.items
    c.loop-attribute.attribute c.loop-attribute.invariant c.index_mut.result.now c.remove_number.new.order within
    (next-is (IsRemoved (rows_at c.args.rows.now) c.args.id) c.args.orders.now.items c.loop-attribute.orders.items
    c.loop-attribute.attribute c.loop-attribute.invariant c.index_mut.result.now within c.index_mut.ensures.value)
    (record {
      order = c.remove_number.ensures.order;
      others = c.remove_number.ensures.others;
      len = c.remove_number.ensures.len;
      capacity = c.remove_number.ensures.capacity;
    })

pub returns : goal.returns
returns c =
    let count = c.loop-attribute.invariant.count in
    let len = c.len-attribute-end.ensures in
    let ok = c.args.orders.now.ok.0 in
    let test = c.loop-attribute-test.false in
    ended (IsRemoved (rows_at c.args.rows.now) c.args.id) c.args.orders.now.items c.loop-attribute.orders.items
    c.loop-attribute.attribute c.loop-attribute.invariant (omega (arith, count, len, ok, test))
