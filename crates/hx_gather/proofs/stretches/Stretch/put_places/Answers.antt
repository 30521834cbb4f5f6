use Rattle.std.proofs.Common.{refl, arith}
use Rattle.hx_gather.proofs.Stretched.{place_more}
use Rattle.hx_gather.proofs.stretches.Stretch.put_places.Goals as goal

pub loop-at-preserved : goal.loop-at-preserved
loop-at-preserved c =
    let s = c.self.inside in
    let room = c.loop-at.invariant.room in
    let one = c.push_reserved.ensures.len in
    let same = c.push_reserved.ensures.capacity in
    record {
      items = place_more c.reserve.new.self.items c.loop-at.places.items c.push_reserved.new.self.items s.place s.at
          c.loop-at.at s.part.now _ c.has_notes.result
          c.push_reserved.ensures.items c.loop-at.invariant.items c.loop-at.auto.at c.has_notes.ensures refl;
      room = omega (arith, room, one, same);
    }
