use Rattle.std.proofs.Common.{ap, arith, nat_lt, subst, sym, ◌∙◌}
use Rattle.hx_store.specs.Invariant.{AscendAt}
use Rattle.hx_store.proofs.Ordering.{take-all}
use Rattle.hx_store.proofs.Sorting.{same-length, stands-times}
use Rattle.hx_store.proofs.slots.Slots.insert_places.Goals as goal

pub insert_place-requires-clause-within : goal.insert_place-requires-clause-within
insert_place-requires-clause-within c = λ i t.
    let old = c.args.order.now.items in
    c.requires.within i (stands-times i old ∙ ap (nat_lt 0) (sym (c.loop-at.invariant.same i)) ∙ sym (stands-times i c.loop-at.order.items) ∙ t)

pub insert_place-requires-clause-at : goal.insert_place-requires-clause-at
insert_place-requires-clause-at c =
    let len = same-length c.loop-at.order.items c.args.order.now.items c.loop-at.invariant.same in
    let end = c.len-at-end.ensures in
    let test = c.loop-at-test.true in
    omega (arith, len, end, test)

pub returns-clause-ascend : goal.returns-clause-ascend
returns-clause-ascend c =
    let len = same-length c.loop-at.order.items c.args.order.now.items c.loop-at.invariant.same in
    let end = c.len-at-end.ensures in
    let test = c.loop-at-test.false in
    let at = c.loop-at.auto.at-end in
    subst (AscendAt c.args.self.now.entries) (take-all c.loop-at.order.items c.loop-at.at (omega (arith, len, end, test, at)))
    c.loop-at.invariant.ascend
