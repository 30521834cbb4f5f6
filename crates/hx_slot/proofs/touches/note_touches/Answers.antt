use Rattle.std.proofs.Common.{◌∙◌, arith, subst, sym}
use Rattle.hx_slot.specs.MarksAndTouches.{AscendByRegion}
use Rattle.hx_slot.proofs.Regions.{with_touch-ascends, with_touches-more}
use Rattle.hx_slot.proofs.touches.note_touches.Goals as goal

pub loop-place-preserved : goal.loop-place-preserved
loop-place-preserved c =
    record {
      items = with_touches-more c.args.version c.args.places.now c.loop-place.place-index _ c.loop-place.touches.items
          c.note_touch.new.touches.items c.loop-place-test.true c.note_touch.ensures.items ∙ c.loop-place.invariant.items;
      ascending = subst AscendByRegion (sym c.note_touch.ensures.items) (with_touch-ascends _ c.loop-place.touches.items c.loop-place.invariant.ascending);
      len = omega arith;
      capacity = omega arith;
    }
