-- The same entries, with room for those to come.
use Rattle.std.proofs.Common.{arith}
use Rattle.hx_slot.proofs.Refitting.{refitted-slot}
use Rattle.hx_slot.proofs.slots.Slot.reserve.Goals as goal

pub invariant_of-self-2 : goal.invariant_of-self-2
invariant_of-self-2 c =
    let a = c.self.inside in
    let lists = c.in_ok-make_room.ensures in
    let more = lists.accepted in
    let held = lists.early in
    refitted-slot a c.make_room.new.accepted c.make_room.new.early c.reserve.new.self c.args.n c.self.invariant more held c.in_ok-reserve.ensures
    (
    record {
      accepted = (let l = more.len in let e = held.len in let r = lists.accepted_room in omega (arith, l, e, r));
      early = (let r = lists.early_room in omega (arith, r));
      few = (let l = more.len in let e = held.len in omega (arith, l, e));
    }
    )
