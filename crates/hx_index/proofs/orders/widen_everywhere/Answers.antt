use Rattle.std.proofs.Common.{◌<◌, ◌≤◌, ℕ, length, Vec, Global, vec_capacity, refl, arith}
use Rattle.std.proofs.lemmas.Option.{slice_get_within}
use Rattle.hx_index.specs.Invariant.{IsWidened}
use Rattle.hx_index.proofs.Looping.{begun, ended-early, held-more, moved-one, next-is}
use Rattle.hx_index.proofs.orders.widen_everywhere.Goals as goal

pub loop-attribute-init : goal.loop-attribute-init
loop-attribute-init c = record { moved = begun IsWidened c.args.orders.now.items; room = λ k order l. absurd (omega arith) }

pub loop-attribute-preserved : goal.loop-attribute-preserved
loop-attribute-preserved c =
    let count = c.loop-attribute.invariant.moved.count in
    let len = c.len-attribute-end.ensures in
    let ok = c.args.orders.now.ok.0 in
    let test = c.loop-attribute-test.true in
    let within : c.loop-attribute.attribute < length c.loop-attribute.orders.items = omega (arith, count, len, ok, test) in
    record {
      moved = moved-one IsWidened c.args.orders.now.items c.loop-attribute.orders.items c.loop-attribute.attribute
          c.loop-attribute.invariant.moved c.index_mut.result.now c.widen.new.order within
          (next-is IsWidened c.args.orders.now.items c.loop-attribute.orders.items c.loop-attribute.attribute
          c.loop-attribute.invariant.moved c.index_mut.result.now within c.index_mut.ensures.value)
          (record { items = c.widen.ensures.items; len = c.widen.ensures.len; capacity = c.widen.ensures.capacity });
      room = held-more (λ (v : Vec ℕ Global). c.args.n ≤ vec_capacity v) c.loop-attribute.orders.items
          c.loop-attribute.attribute c.widen.new.order within c.in_ok-widen.ensures.room c.loop-attribute.invariant.room;
    }

pub returns-in_err-widen-clause-moved : goal.returns-in_err-widen-clause-moved
returns-in_err-widen-clause-moved c =
    let count = c.loop-attribute.invariant.moved.count in
    let len = c.len-attribute-end.ensures in
    let ok = c.args.orders.now.ok.0 in
    let test = c.loop-attribute-test.true in
    let within : c.loop-attribute.attribute < length c.loop-attribute.orders.items = omega (arith, count, len, ok, test) in
    ended-early IsWidened c.args.orders.now.items _ _
    (moved-one IsWidened c.args.orders.now.items c.loop-attribute.orders.items c.loop-attribute.attribute
    c.loop-attribute.invariant.moved c.index_mut.result.now c.widen.new.order within
    (next-is IsWidened c.args.orders.now.items c.loop-attribute.orders.items c.loop-attribute.attribute
    c.loop-attribute.invariant.moved c.index_mut.result.now within c.index_mut.ensures.value)
    (record { items = c.widen.ensures.items; len = c.widen.ensures.len; capacity = c.widen.ensures.capacity }))
    (λ k v. record { items = refl; len = refl; capacity = omega arith })

pub returns-clause-moved : goal.returns-clause-moved
returns-clause-moved c = ended-early IsWidened c.args.orders.now.items c.loop-attribute.orders.items
    c.loop-attribute.attribute c.loop-attribute.invariant.moved
    (λ k v. record { items = refl; len = refl; capacity = omega arith })

pub returns-clause-room : goal.returns-clause-room
returns-clause-room c = λ k order e.
    let count = c.loop-attribute.invariant.moved.count in
    let len = c.len-attribute-end.ensures in
    let ok = c.args.orders.now.ok.0 in
    let test = c.loop-attribute-test.false in
    let m = slice_get_within c.loop-attribute.orders.items k order e in
    c.loop-attribute.invariant.room k order (omega (arith, count, len, ok, test, m)) e
