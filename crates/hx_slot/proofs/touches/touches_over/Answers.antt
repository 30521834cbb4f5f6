use Rattle.std.proofs.Common.{◌∙◌, ap, subst, sym}
use Rattle.hx_model.specs.Types.{Update}
use Rattle.hx_model.specs.Slots.{with_touches}
use Rattle.hx_slot.specs.MarksAndTouches.{AscendByRegion}
use Rattle.hx_slot.proofs.Carrying.{touches_over-more}
use Rattle.hx_slot.proofs.Regions.{with_touches-ascends}
use Rattle.hx_slot.proofs.touches.touches_over.Goals as goal

pub loop-taken-preserved : goal.loop-taken-preserved
loop-taken-preserved c =
    let t = c.taken-item.result in
    let places = c.as_slice-places.result.now in
    let update = c.get-update.ensures in
    let new = c.note_touches.ensures.items ∙ ap (λ (u : Update). with_touches u.version places
    c.reserve.new.self.items) update ∙ ap (with_touches t.update.version places) c.in_ok-reserve.ensures.items in
    record {
      touches = touches_over-more c.args.line.now c.loop-taken.taken-index t c.loop-taken.touches.items
          c.note_touches.new.touches.items places c.loop-taken-test.true c.taken-item.is
          (c.as_slice-places.ensures ∙ ap (λ (u : Update). u.places) update) new
          ∙ c.loop-taken.invariant.touches;
      ascending = subst AscendByRegion (sym new) (with_touches-ascends t.update.version places c.loop-taken.touches.items c.loop-taken.invariant.ascending);
    }
