use Rattle.hx_model.specs.Types.{RegionId}
use Rattle.hx_model.specs.Slots.{KeyState, acknowledged}
use Rattle.hx_store.proofs.Changing.{stepped-rooms, stepped-states, stepped-store}
use Rattle.hx_store.proofs.Moves.{keeps_folded}
use Rattle.hx_store.proofs.stores.Store.acknowledge.Goals as goal

pub invariant_of-self : goal.invariant_of-self
invariant_of-self c =
    let opened = c.ensure_slot.ensures in
    stepped-store c.self.invariant c.self.view_is c.args.self.now c.acknowledge_at.ensures.moved
    (keeps_folded (λ (g : RegionId) (s : KeyState). acknowledged s c.args.version.0))
    opened.rooms opened.states opened.marks opened.region

pub returns-clause-states : goal.returns-clause-states
returns-clause-states c =
    let opened = c.ensure_slot.ensures in
    stepped-states c.self.invariant c.self.view_is c.args.self.now c.acknowledge_at.ensures.moved
    (keeps_folded (λ (g : RegionId) (s : KeyState). acknowledged s c.args.version.0))
    opened.rooms opened.states opened.marks opened.region

pub returns-clause-rooms : goal.returns-clause-rooms
returns-clause-rooms c = stepped-rooms c.self.invariant c.self.view_is c.args.self.now c.acknowledge_at.ensures.moved c.ensure_slot.ensures.rooms
