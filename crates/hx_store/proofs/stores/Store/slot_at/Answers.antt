use Rattle.hx_store.proofs.Showing.{slot-is, slot-region, slot-spare}
use Rattle.hx_store.proofs.stores.Store.slot_at.Goals as goal

pub returns-clause-state : goal.returns-clause-state
returns-clause-state c = slot-is c.self.invariant.store c.self.view_is c.args.place c.slot_at.ensures

pub returns-clause-region : goal.returns-clause-region
returns-clause-region c = slot-region c.self.invariant.store c.self.view_is c.args.place c.slot_at.ensures

pub returns-clause-spare : goal.returns-clause-spare
returns-clause-spare c = slot-spare c.self.invariant.store c.self.view_is c.args.place c.slot_at.ensures
