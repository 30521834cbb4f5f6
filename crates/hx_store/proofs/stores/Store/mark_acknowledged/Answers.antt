use Rattle.std.proofs.Common.{◌≡◌, true}
use Rattle.hx_model.specs.Types.{RegionId}
use Rattle.hx_model.specs.Slots.{KeyState, is_pending}
use Rattle.hx_store.proofs.Changing.{opened-holds, stepped-rooms, stepped-states, stepped-store}
use Rattle.hx_store.proofs.Moves.{keeps_marked}
use Rattle.hx_store.proofs.stores.Store.mark_acknowledged.Goals as goal

pub invariant_of-self : goal.invariant_of-self
invariant_of-self c =
    let opened = c.ensure_slot.ensures in
    stepped-store c.self.invariant c.self.view_is c.args.self.now c.mark_at.ensures.moved
    (keeps_marked c.args.version.0)
    opened.rooms opened.states opened.marks opened.region

pub returns-clause-states : goal.returns-clause-states
returns-clause-states c =
    let opened = c.ensure_slot.ensures in
    stepped-states c.self.invariant c.self.view_is c.args.self.now c.mark_at.ensures.moved
    (keeps_marked c.args.version.0)
    opened.rooms opened.states opened.marks opened.region

pub returns-clause-rooms : goal.returns-clause-rooms
returns-clause-rooms c = stepped-rooms c.self.invariant c.self.view_is c.args.self.now c.mark_at.ensures.moved c.ensure_slot.ensures.rooms

pub mark_at-requires : goal.mark_at-requires
mark_at-requires c =
    let opened = c.ensure_slot.ensures in
    opened-holds c.self.invariant c.self.view_is c.args.self.now c.args.place opened.rooms opened.states opened.marks opened.region
    (λ (g : RegionId) (s : KeyState). is_pending c.args.version.0 s ≡ true)
    c.requires.place c.requires.pending
