use Rattle.std.proofs.Common.{◌<◌, ℕ, List, IfSome, ap, position, subst, ◌∙◌}
use Rattle.hx_types.specs.Words.{same_text}
use Rattle.hx_store.proofs.Finding.{place-key, place-none}
use Rattle.hx_store.proofs.SlotAt.{count-is, keys-seen, looked-seen}
use Rattle.hx_store.proofs.slots.Slots.place_of.Goals as goal

pub returns-clause-key : goal.returns-clause-key
returns-clause-key c =
    let seen = ap (λ (ks : List (List ℕ)). position (same_text c.args.key.now) ks) (keys-seen c.self.invariant c.self.view_is) in
    place-key c.args.key.now c.args.self.now.entries c.get_index_of.result (c.get_index_of.ensures.index ∙ seen)

pub returns-clause-none : goal.returns-clause-none
returns-clause-none c =
    let seen = looked-seen c.self.invariant c.self.view_is (same_text c.args.key.now) in
    place-none c.args.key.now c.args.self.now.entries c.get_index_of.result (c.get_index_of.ensures.found ∙ seen)

pub returns-clause-within : goal.returns-clause-within
returns-clause-within c =
    let count = c.self.invariant.count ∙ count-is c.self.invariant c.self.view_is in
    subst (λ (n : ℕ). IfSome c.get_index_of.result (λ (p : ℕ). p < n)) count c.get_index_of.ensures.within
