use Rattle.std.proofs.Common.{List, ℕ, ap, sym, ◌∙◌}
use Rattle.hx_store.specs.Stores.{has_slot, state_at}
use Rattle.hx_store.proofs.Showing.{listed-stored, no-slot, place-is, slot-is, slot-listed, slot-region, stored-some}
use Rattle.hx_store.proofs.stores.Store.slot.Goals as goal

pub returns-in_default-clause-found : goal.returns-in_default-clause-found
returns-in_default-clause-found c = sym (no-slot c.self.invariant.store c.self.view_is c.args.key.now c.in_default.ensures.none)

pub returns-then-is_listed-clause-found : goal.returns-then-is_listed-clause-found
returns-then-is_listed-clause-found c =
    let it = c.in-Some.ensures in
    let key = place-is c.self.invariant.store c.self.view_is c.args.key.now c.in-Some.place it.within it.key in
    let listed = slot-listed c.self.invariant.store c.self.view_is c.in-Some.place c.slot_at.ensures in
    sym (ap (λ (k : List ℕ). has_slot k c.args.self.now.states) (sym key.key_is) ∙ listed ∙ sym c.is_listed.ensures ∙ c.if-is_listed.true)

pub returns-then-is_listed-clause-state : goal.returns-then-is_listed-clause-state
returns-then-is_listed-clause-state c =
    let it = c.in-Some.ensures in
    let key = place-is c.self.invariant.store c.self.view_is c.args.key.now c.in-Some.place it.within it.key in
    slot-is c.self.invariant.store c.self.view_is c.in-Some.place c.slot_at.ensures ∙ ap (state_at c.args.self.now) key.key_is

pub returns-then-is_listed-clause-region : goal.returns-then-is_listed-clause-region
returns-then-is_listed-clause-region c = slot-region c.self.invariant.store c.self.view_is c.in-Some.place c.slot_at.ensures

pub returns-else-is_listed-clause-found : goal.returns-else-is_listed-clause-found
returns-else-is_listed-clause-found c =
    let it = c.in-Some.ensures in
    let key = place-is c.self.invariant.store c.self.view_is c.args.key.now c.in-Some.place it.within it.key in
    let w = stored-some c.self.inside.slots.entries c.in-Some.place it.within in
    let listed = slot-listed c.self.invariant.store c.self.view_is c.in-Some.place w.1 in
    let stored = listed-stored c.self.inside.slots.entries c.in-Some.place w.0 w.1 in
    sym
    (
    ap (λ (k : List ℕ). has_slot k c.args.self.now.states) (sym key.key_is)
    ∙ listed ∙ sym stored ∙ sym c.is_listed.ensures ∙ c.if-is_listed.false
    )
