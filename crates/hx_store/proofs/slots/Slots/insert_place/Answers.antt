use Rattle.std.proofs.Common.{ℕ, List, ap, arith, insert, subst, sym, take, ◌+◌, ◌∙◌}
use Rattle.hx_store.specs.Indexed.{times}
use Rattle.hx_store.specs.Invariant.{AscendAt}
use Rattle.hx_store.proofs.Inserting.{moved-ascends, point-found, point-within, times-moved}
use Rattle.hx_store.proofs.slots.Slots.insert_place.Goals as goal

pub insert_within-requires-clause-place : goal.insert_within-requires-clause-place
insert_within-requires-clause-place c =
    let es = c.args.self.now.entries in
    let xs = c.args.order.now.items in
    let at = c.args.at in
    let out = c.remove-place in
    let to = c.point_of-to.result in
    let found = point-found es c.requires.apart xs c.requires.within c.requires.once at out.result c.requires.at c.as_slice.result.now out.result to
    (c.as_slice.ensures.value ∙ out.ensures.items) out.ensures.value c.point_of-to.ensures in
    let l = point-within es c.requires.apart xs c.requires.within c.requires.once at out.result c.requires.at to found in
    let len = out.ensures.len in
    let is = c.requires.at in
    omega (arith, l, len, is)

pub returns-clause-same : goal.returns-clause-same
returns-clause-same c = λ i.
    let out = c.remove-place in
    let to = c.point_of-to.result in
    ap (times i) (c.insert_within.ensures.items ∙ (λ k. insert (out.ensures.items k) to (out.ensures.value k)))
    ∙ times-moved i c.args.at to out.result c.args.order.now.items c.requires.at

pub returns-clause-ascend : goal.returns-clause-ascend
returns-clause-ascend c =
    let es = c.args.self.now.entries in
    let xs = c.args.order.now.items in
    let at = c.args.at in
    let out = c.remove-place in
    let to = c.point_of-to.result in
    let found = point-found es c.requires.apart xs c.requires.within c.requires.once at out.result c.requires.at c.as_slice.result.now out.result to
    (c.as_slice.ensures.value ∙ out.ensures.items) out.ensures.value c.point_of-to.ensures in
    subst (λ (ys : List ℕ). AscendAt es (take (at + 1) ys))
    (sym (c.insert_within.ensures.items ∙ (λ k. insert (out.ensures.items k) to (out.ensures.value k))))
    (moved-ascends es c.requires.apart xs c.requires.within c.requires.once at out.result c.requires.at to c.requires.ascend found)
