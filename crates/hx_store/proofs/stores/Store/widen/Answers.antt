use Rattle.hx_store.proofs.Changing.{quiet-rooms, quiet-states, quiet-store}
use Rattle.hx_store.proofs.Showing.{on_ok, stored-spare}
use Rattle.hx_store.proofs.stores.Store.widen.Goals as goal

pub invariant_of-self : goal.invariant_of-self
invariant_of-self c = quiet-store c.self.invariant c.self.view_is c.reserve_at.ensures.moved

pub returns-clause-states : goal.returns-clause-states
returns-clause-states c = quiet-states c.self.invariant c.self.view_is c.reserve_at.ensures.moved

pub returns-clause-rooms : goal.returns-clause-rooms
returns-clause-rooms c = quiet-rooms c.self.invariant c.self.view_is c.reserve_at.ensures.moved

pub returns-clause-room : goal.returns-clause-room
returns-clause-room c = on_ok c.reserve_at.result (stored-spare c.reserve_at.new.self.entries c.args.place c.args.n) c.reserve_at.ensures.room
