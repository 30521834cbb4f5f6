use Rattle.std.proofs.Common.{◌≡◌, ◌++◌, ◌∷◌, [], ℕ, Bool, List, None, false, ap, arith, subst, sym, ◌∙◌}
use Rattle.indexmap.specs.IndexMap.{insert_entry}
use Rattle.indexmap.proofs.CallerLemmas.{insert_entry-new}
use Rattle.hx_types.specs.Words.{same_text}
use Rattle.hx_model.specs.Slots.{new_state, object_of}
use Rattle.hx_slot.specs.States.{SlotState}
use Rattle.hx_types.specs.Prefixes.{IsPrefixOf}
use Rattle.hx_store.specs.Slots.{AreSlots, SlotsState, entries_of}
use Rattle.hx_store.proofs.Entries.{entry-added, slots-added}
use Rattle.hx_store.proofs.SlotAt.{no-key}
use Rattle.hx_store.proofs.slots.Slots.add.Goals as goal

pub invariant_of-self-2 : goal.invariant_of-self-2
invariant_of-self-2 c =
    let none = no-key c.self.invariant c.self.view_is c.args.key.now c.requires in
    let keys =
    c.in_ok-insert.ensures.entries
    ∙ ap (λ (k : List ℕ). insert_entry same_text c.self.inside.keys.entries k false) c.in_ok-copy.ensures
    ∙ insert_entry-new same_text c.self.inside.keys c.args.key.now false none
    in
    let items = c.push_reserved.ensures.items ∙ ap (λ (xs : List SlotState). xs ++ c.new-slot.result ∷ []) c.in_ok-make_room.ensures.items in
    let n = c.len-count.ensures in
    let ok = c.self.inside.slots.ok.0 in
    let test = c.if-count.false in
    let no-object : object_of c.new-slot.result.region c.new-slot.result.state ≡ None =
    λ k. object_of (c.new-slot.ensures.region k) (c.new-slot.ensures.state k) in
    let prefixes = c.push_reserved-2.ensures.items ∙ ap (λ (ps : List ℕ). ps ++ c.prefix_of.result ∷ []) c.in_ok-reserve.ensures.items in
    let own = subst (λ (k : List ℕ). IsPrefixOf k c.prefix_of.result) c.as_str.ensures c.prefix_of.ensures in
    let old = c.self.inside in
    let more-keys = old.keys.entries ++ (c.args.key.now, false) ∷ [] in
    let more-prefixes = old.prefixes.items ++ c.prefix_of.result ∷ [] in
    subst (λ (ks : List (List ℕ × Bool)). AreSlots ks c.push_reserved-2.new.self.items c.push_reserved.new.self.items old.indexed) (sym keys)
    (
    subst (λ (ps : List ℕ). AreSlots more-keys ps c.push_reserved.new.self.items old.indexed) (sym prefixes)
    (
    subst (λ (xs : List SlotState). AreSlots more-keys more-prefixes xs old.indexed) (sym items)
    (
    slots-added old.slots.items c.new-slot.result no-object old.keys.entries c.args.key.now c.prefix_of.result old.indexed own c.self.invariant
    (omega (arith, n, ok, test))
    )
    )
    )

pub returns-clause-ok : goal.returns-clause-ok
returns-clause-ok c =
    let none = no-key c.self.invariant c.self.view_is c.args.key.now c.requires in
    let keys =
    c.in_ok-insert.ensures.entries
    ∙ ap (λ (k : List ℕ). insert_entry same_text c.self.inside.keys.entries k false) c.in_ok-copy.ensures
    ∙ insert_entry-new same_text c.self.inside.keys c.args.key.now false none
    in
    let items = c.push_reserved.ensures.items ∙ ap (λ (xs : List SlotState). xs ++ c.new-slot.result ∷ []) c.in_ok-make_room.ensures.items in
    record {
      slot = c.new-slot.result;
      region = c.new-slot.ensures.region;
      state = c.new-slot.ensures.state ∙ ap (new_state c.args.keeps_marks) c.in_ok-held.ensures;
      set = (λ k. entries_of (keys k) (items k))
          ∙ entry-added c.self.inside.keys.entries c.self.inside.slots.items (c.args.key.now, false) c.new-slot.result c.self.invariant.count
          ∙ ap (λ (s : SlotsState). s.entries ++ (c.args.key.now, record { slot = c.new-slot.result; listed = false }) ∷ []) c.self.view_is;
    }
