use Rattle.std.proofs.Common.{List, subst, ◌∙◌}
use Rattle.hx_model.specs.Types.{Touch}
use Rattle.hx_slot.specs.MarksAndTouches.{IsAt, IsGap}
use Rattle.hx_slot.proofs.Regions.{with_touch-at, with_touch-gap}
use Rattle.hx_slot.proofs.touches.note_touch.Goals as goal

pub returns-in-Ok-clause-items : goal.returns-in-Ok-clause-items
returns-in-Ok-clause-items c =
    with_touch-at c.args.touch c.args.touches.now.items c.in-Ok.place
    (subst (λ (ts : List Touch). IsAt c.args.touch.region.0 ts c.in-Ok.place) c.as_slice.ensures.value c.in-Ok.ensures.place)

pub returns-in-Err-clause-items : goal.returns-in-Err-clause-items
returns-in-Err-clause-items c =
    c.insert_within.ensures.items
    ∙ with_touch-gap c.args.touch c.args.touches.now.items c.in-Err.place
    (subst (λ (ts : List Touch). IsGap c.args.touch.region.0 ts c.in-Err.place) c.as_slice.ensures.value c.in-Err.ensures.place)
