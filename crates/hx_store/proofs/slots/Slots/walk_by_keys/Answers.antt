use Rattle.std.proofs.Common.{◌≡◌, ◌<◌, Bool, List, ap, arith, get_or, length, subst, sym, ◌∙◌, ℕ}
use Rattle.std.specs.List.{filter}
use Rattle.hx_index.specs.Orders.{stands_in}
use Rattle.hx_store.specs.Indexed.{is_marked}
use Rattle.hx_store.specs.Invariant.{AscendAt}
use Rattle.hx_store.proofs.SlotAt.{count-is}
use Rattle.hx_store.proofs.Walking.{stands-at, walked-ascends, walked-length, walked-same}
use Rattle.hx_store.proofs.slots.Slots.walk_by_keys.Goals as goal

pub marks_of-requires : goal.marks_of-requires
marks_of-requires c = λ k d l.
    let ids = c.args.ids.now.items in
    let same = c.as_slice.ensures.value in
    let here : k < length ids = subst (λ (xs : List ℕ). k < length xs) same l in
    let x = get_or ids k d in
    let within = c.requires.order.within x (c.requires.order.all x (stands-at ids k d here)) in
    let count = count-is c.self.invariant c.self.view_is in
    let len = c.len.ensures in
    let ok = c.self.inside.slots.ok.0 in
    subst (λ (xs : List ℕ). get_or xs k d < c.len.result) (sym same) (omega (arith, within, count, len, ok))

pub take_marked-requires-clause-within : goal.take_marked-requires-clause-within
take_marked-requires-clause-within c = λ k d l.
    let order = c.args.order.now in
    let within = c.requires.order.within (get_or order k d) (stands-at order k d l) in
    let count = count-is c.self.invariant c.self.view_is in
    let len = c.len.ensures in
    let ok = c.self.inside.slots.ok.0 in
    let marks = c.in_ok-marks.ensures.count in
    let same = ap (λ (xs : List Bool). length xs) c.as_slice-2.ensures.value in
    omega (arith, within, count, len, ok, marks, same)

pub take_marked-requires-clause-few : goal.take_marked-requires-clause-few
take_marked-requires-clause-few c =
    let few = c.self.invariant.kept.few in
    let len = c.len.ensures in
    let ok = c.self.inside.slots.ok.0 in
    let marks = c.in_ok-marks.ensures.count in
    let same = ap (λ (xs : List Bool). length xs) c.as_slice-2.ensures.value in
    omega (arith, few, len, ok, marks, same)

pub take_marked-requires-clause-room : goal.take_marked-requires-clause-room
take_marked-requires-clause-room c =
    let ids = c.args.ids.now.items in
    let order = c.args.order.now in
    let seen : is_marked c.as_slice-2.result.now ≡ stands_in ids =
    ap is_marked c.as_slice-2.ensures.value ∙ c.in_ok-marks.ensures.marks ∙ ap stands_in c.as_slice.ensures.value
    in
    let as_many = walked-length c.args.self.now.entries ids order c.requires.order c.requires.once in
    let same = ap (λ (p : ℕ → Bool). length (filter p order)) seen in
    let ok = c.args.ids.now.ok in
    omega (arith, as_many, same, ok)

pub returns-clause-same : goal.returns-clause-same
returns-clause-same c = λ i.
    let ids = c.args.ids.now.items in
    let order = c.args.order.now in
    let seen : is_marked c.as_slice-2.result.now ≡ stands_in ids =
    ap is_marked c.as_slice-2.ensures.value ∙ c.in_ok-marks.ensures.marks ∙ ap stands_in c.as_slice.ensures.value
    in
    let now = c.take_marked.ensures ∙ ap (λ (p : ℕ → Bool). filter p order) seen in
    ap (λ (xs : List ℕ). stands_in xs i) now ∙ walked-same c.args.self.now.entries ids order c.requires.order i

pub returns-clause-ascend : goal.returns-clause-ascend
returns-clause-ascend c =
    let ids = c.args.ids.now.items in
    let order = c.args.order.now in
    let seen : is_marked c.as_slice-2.result.now ≡ stands_in ids =
    ap is_marked c.as_slice-2.ensures.value ∙ c.in_ok-marks.ensures.marks ∙ ap stands_in c.as_slice.ensures.value
    in
    let now = c.take_marked.ensures ∙ ap (λ (p : ℕ → Bool). filter p order) seen in
    subst (AscendAt c.args.self.now.entries) (sym now) (walked-ascends c.args.self.now.entries ids order c.requires.order)
