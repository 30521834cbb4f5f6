use Rattle.std.proofs.Common.{List, ℕ, ap, subst, sym, ◌∙◌}
use Rattle.hx_model.specs.Types.{RegionId}
use Rattle.hx_model.specs.Slots.{KeyState, moved_all, offered}
use Rattle.hx_store.specs.Stores.{ArePending, accepted, accepted_at, after_step, state_at}
use Rattle.hx_store.proofs.Changing.{opened-holds, stepped-states, stepped-store, used-rooms}
use Rattle.hx_store.proofs.Moves.{keeps_folded}
use Rattle.hx_store.proofs.stores.Store.accept.Goals as goal

pub accept_at-requires-clause-pending : goal.accept_at-requires-clause-pending
accept_at-requires-clause-pending c =
    let old = c.args.self.now in
    let u = c.args.update in
    let opened = c.ensure_slot.ensures in
    opened-holds c.self.invariant c.self.view_is old c.args.place opened.rooms opened.states opened.marks opened.region
    (λ (g : RegionId) (s : KeyState). ArePending (moved_all (offered g s u) s) c.args.ends.now)
    c.requires.place.within
    (
    subst (λ (k : List ℕ). ArePending (moved_all (offered old.region (state_at old k) u) (state_at old k)) c.args.ends.now)
    (sym c.requires.place.key_is) c.requires.pending
    )

pub invariant_of-self : goal.invariant_of-self
invariant_of-self c =
    let opened = c.ensure_slot.ensures in
    stepped-store c.self.invariant c.self.view_is c.args.self.now c.accept_at.ensures.moved
    (keeps_folded (λ (g : RegionId) (s : KeyState). accepted g s c.args.update c.args.ends.now))
    opened.rooms opened.states opened.marks opened.region

pub returns-clause-states : goal.returns-clause-states
returns-clause-states c =
    let opened = c.ensure_slot.ensures in
    stepped-states c.self.invariant c.self.view_is c.args.self.now c.accept_at.ensures.moved
    (keeps_folded (λ (g : RegionId) (s : KeyState). accepted g s c.args.update c.args.ends.now))
    opened.rooms opened.states opened.marks opened.region
    ∙ ap (λ (k : List ℕ). after_step c.args.self.now k (accepted_at c.args.update c.args.ends.now)) c.requires.place.key_is

pub returns-clause-rooms : goal.returns-clause-rooms
returns-clause-rooms c = used-rooms c.self.invariant c.self.view_is c.args.self.now c.accept_at.ensures.moved c.ensure_slot.ensures.rooms
