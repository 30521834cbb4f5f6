use Rattle.std.proofs.Common.{arith, length, sym, subst}
use Rattle.hx_trace.specs.Rooms.{Growth, IsRoomFor, LiesAt}
use Rattle.hx_trace.proofs.Naming.{few_named}
use Rattle.hx_trace.proofs.growing.GrowingTrace.append_delivery.Goals as goal

pub overflow_cast-input : goal.overflow_cast-input
overflow_cast-input c =
    let for = subst (λ (g : Growth). IsRoomFor g.room (length c.args.outputs.now) (length c.args.notes.now)) (sym c.self.view_is) c.requires.room in
    let lies = subst (λ (g : Growth). LiesAt g c.args.id c.args.at) (sym c.self.view_is) c.requires.lies in
    let few = few_named c.self.inside.lists c.self.inside.room _ _ c.args.id c.args.at c.self.invariant.room for lies.within lies.post in
    omega (arith, few)
