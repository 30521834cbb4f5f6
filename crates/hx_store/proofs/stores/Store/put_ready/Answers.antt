use Rattle.std.proofs.Common.{ℕ, List, ap, sym, ◌∙◌}
use Rattle.std.proofs.lemmas.Bool.{false≢true}
use Rattle.hx_store.specs.Stores.{has_room}
use Rattle.hx_store.proofs.Changing.{replaced-rooms, replaced-states, replaced-store}
use Rattle.hx_store.proofs.stores.Store.put_ready.Goals as goal

pub unreachable-requires : goal.unreachable-requires
unreachable-requires c =
    false≢true (sym c.in_default.ensures.none ∙ ap (λ (q : List ℕ). has_room c.args.self.now q) c.key.ensures ∙ c.requires.place)

pub invariant_of-self : goal.invariant_of-self
invariant_of-self c =
    let opened = c.ensure_slot.ensures in
    let key = c.in-Some.ensures.some.key_is ∙ c.key.ensures in
    replaced-store c.self.invariant c.self.view_is c.args.self.now c.in-Some.place opened.rooms opened.states opened.marks opened.region
    c.replace_at.ensures.replaced key c.requires.region c.requires.marks

pub returns-clause-states : goal.returns-clause-states
returns-clause-states c =
    let opened = c.ensure_slot.ensures in
    let key = c.in-Some.ensures.some.key_is ∙ c.key.ensures in
    replaced-states c.self.invariant c.self.view_is c.args.self.now c.in-Some.place opened.rooms opened.states opened.marks opened.region
    c.replace_at.ensures.replaced key c.requires.region c.requires.marks

pub returns-clause-others : goal.returns-clause-others
returns-clause-others c =
    let opened = c.ensure_slot.ensures in
    let key = c.in-Some.ensures.some.key_is ∙ c.key.ensures in
    replaced-rooms c.self.invariant c.self.view_is c.args.self.now c.in-Some.place opened.rooms opened.states opened.marks opened.region
    c.replace_at.ensures.replaced key
