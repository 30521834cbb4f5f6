-- The same entries, with room in the base.
use Rattle.std.proofs.Common.{arith, refl}
use Rattle.hx_slot.proofs.Refitting.{refitted-slot}
use Rattle.hx_slot.proofs.slots.Slot.widen.Goals as goal

pub invariant_of-self : goal.invariant_of-self
invariant_of-self c =
    let a = c.self.inside in
    let room = c.self.invariant.room in
    refitted-slot a a.accepted a.early c.reserve.new.self a.spare c.self.invariant
    (record { items = refl; len = refl; capacity = omega arith })
    (record { items = refl; len = refl; capacity = omega arith })
    c.reserve.ensures
    (record { accepted = room.accepted; early = room.early; few = room.few })
