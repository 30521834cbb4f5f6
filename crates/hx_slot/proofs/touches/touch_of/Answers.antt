use Rattle.hx_slot.proofs.Regions.{touch-at, touch-gap}
use Rattle.hx_slot.proofs.touches.touch_of.Goals as goal

pub returns-in-Ok : goal.returns-in-Ok
returns-in-Ok c = touch-at c.args.region c.args.touches.now c.in-Ok.place _ c.in-Ok.ensures.place

pub returns-in-Err : goal.returns-in-Err
returns-in-Err c = touch-gap c.args.region c.args.touches.now c.in-Err.field-0 c.in-Err.ensures.place
