use Rattle.std.proofs.Common.{◌≡◌, ◌<◌, ◌∙◌, List, ap, arith, get_or, length, set, subst}
use Rattle.hx_model.specs.Types.{Mark}
use Rattle.hx_slot.proofs.Carrying.{mark-over_at}
use Rattle.hx_slot.proofs.marks.put_mark.Goals as goal

pub returns-then-mark-index-clause-items : goal.returns-then-mark-index-clause-items
returns-then-mark-index-clause-items c =
    let i = c.loop-place.place in
    let same = c.loop-place.invariant.items in
    let x = c.index.result.now in
    let y = c.index-then-mark-known-2.result.now in
    let within : i < length c.args.marks.now.items = omega arith in
    ap (λ (ms : List Mark). set ms i c.args.mark) same
    ∙ mark-over_at c.args.mark c.args.marks.now.items i x y within
    (subst (λ (ms : List Mark). x ≡ get_or ms i x) same c.index.ensures)
    (subst (λ (ms : List Mark). y ≡ get_or ms i y) same c.index-then-mark-known-2.ensures)
    c.if-mark-known-2.true c.if-mark-index.true c.loop-place.invariant.passed
