use Rattle.std.proofs.Common.{◌≡◌, ◌++◌, ◌∷◌, [], List, Bool, ap, append-nil, arith, cond, false, get_or, length, sym, take, true, vec_capacity, ◌∙◌, ℕ}
use Rattle.std.specs.List.{filter}
use Rattle.std.proofs.lemmas.List.Elements.{filter_more}
use Rattle.hx_store.specs.Indexed.{is_marked}
use Rattle.hx_store.proofs.Walking.{filter-room, mark-at}
use Rattle.hx_store.proofs.slots.take_marked.Goals as goal
use Rattle.hx_store.proofs.slots.take_marked.Goals.{then-marks-place, else-marks-place}

pub push_reserved-requires : goal.push_reserved-requires
push_reserved-requires c =
    let marks = c.args.marks.now in
    let order = c.args.order.now in
    let k = c.loop-place.place-index in
    let place = get_or order k 0 in
    let test : is_marked marks place ≡ true = mark-at marks place false (c.requires.within k 0 c.loop-place-test.true) ∙ c.if-marks-place.true in
    let fewer = filter-room (is_marked marks) order k 0 c.loop-place-test.true test in
    let so_far = ap (λ (l : List ℕ). length l) c.loop-place.invariant.0 in
    let ok = c.loop-place.ids.ok.0 in
    let same = c.loop-place.invariant.1 in
    let kept = c.clear.ensures.capacity in
    let room = c.requires.room in
    omega (arith, fewer, so_far, ok, same, kept, room)

pub loop-place-preserved : goal.loop-place-preserved
loop-place-preserved c =
    let marks = c.args.marks.now in
    let order = c.args.order.now in
    let k = c.loop-place.place-index in
    let place = get_or order k 0 in
    let at = mark-at marks place false (c.requires.within k 0 c.loop-place-test.true) in
    let more = filter_more (is_marked marks) order k 0 c.loop-place-test.true in
    elim c.if-marks-place.branch [
      | then-marks-place w ↦ (
        (λ j. (w.ids-is j).items) ∙ w.push_reserved.ensures.items ∙ ap (λ (l : List ℕ). l ++ place ∷ []) c.loop-place.invariant.0
            ∙ sym (more ∙ ap (λ (b : Bool). filter (is_marked marks) (take k order) ++ cond b (place ∷ []) []) (at ∙ w.if-marks-place.true)),
        (λ j. vec_capacity (w.ids-is j)) ∙ w.push_reserved.ensures.capacity ∙ c.loop-place.invariant.1,
      )
      | else-marks-place w ↦ (
        (λ j. (w.ids-is j).items) ∙ c.loop-place.invariant.0
            ∙ sym (more ∙ ap (λ (b : Bool). filter (is_marked marks) (take k order) ++ cond b (place ∷ []) []) (at ∙ w.if-marks-place.false)
            ∙ append-nil (filter (is_marked marks) (take k order))),
        (λ j. vec_capacity (w.ids-is j)) ∙ c.loop-place.invariant.1,
      )
    ]
