use Rattle.hx_replica.proofs.Kept.{adopted_is, adopted_view}
use Rattle.hx_replica.proofs.keeping.adopt_replica.Goals as goal

pub returns-clause-is : goal.returns-clause-is
returns-clause-is c =
    let context = c.args.context.now in
    adopted_is context.space.now context.config.now context.server context.region c.args.replica.now
    c.adopt_slots.new.store c.is_active-active.result c.requires.is c.adopt_slots.ensures.region
    c.adopt_slots.ensures.marks c.adopt_slots.ensures.states

pub returns-clause-view : goal.returns-clause-view
returns-clause-view c =
    let context = c.args.context.now in
    adopted_view context.space.now context.config.now context.server context.region c.args.replica.now
    c.adopt_slots.new.store c.is_active-active.result c.requires.region c.is_active-active.ensures
    c.adopt_slots.ensures.states
