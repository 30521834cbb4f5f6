-- What is stored against what contracts see, at a place above all: `kept` is what holds of the
-- keys, prefixes, slots and index behind a contract, and `view` what is seen of them.
use Rattle.std.proofs.Common.{◌≡◌, ℕ, zero, suc, ◌+◌, ◌<◌, ◌≤◌, Bool, true, false, List, []}
use Rattle.std.proofs.Common.{◌∷◌, length, get_or, is_some, Option, None, Some, refl, ap, sym, ◌∙◌, subst, arith}
use Rattle.std.specs.List.{list_any, slice_get, slice_set}
use Rattle.std.specs.Map.{keys_of, lookup}
use Rattle.std.specs.Option.{IsSomeAnd}
use Rattle.std.proofs.lemmas.Bool.{false≢true}
use Rattle.indexmap.specs.IndexMap.{set_value_at}
use Rattle.hx_model.specs.Types.{RegionId}
use Rattle.hx_types.specs.Words.{same_text, when_some}
use Rattle.hx_model.specs.Slots.{KeyState, object_of}
use Rattle.hx_slot.specs.States.{SlotState}
use Rattle.hx_store.specs.Indexed.{IndexedState}
use Rattle.hx_store.specs.Invariant.{HasMoved, is_listed, key_in, stored_at}
use Rattle.hx_store.specs.Slots.{AreSlots, Entry, SlotsState, StoreSlot, entries_of}
use Rattle.hx_store.proofs.Entries.{are-set, entries-length, key-at, key-listed, keys-of, listed-at}
use Rattle.hx_store.proofs.Entries.{looked-up, moved-of, set-stale, slot-set, stored-is, stored-set-is}
use Rattle.hx_store.proofs.Finding.{none-lookup}
use Rattle.hx_store.proofs.Following.{at-item}
use Rattle.hx_store.proofs.Lists.{at-within}

none-there : {A : Type 0} (o : Option A) → is_some o ≡ false → o ≡ None
none-there None e = refl
none-there (Some x) e = absurd (false≢true (sym e))

-- where something holds of what is stored at a place, something is stored there
pub stored-within : (es : List Entry) (i : ℕ) (Q : StoreSlot → Type 0) → IsSomeAnd (stored_at es i) Q → i < length es
stored-within [] i Q h = absurd h
stored-within (e ∷ es) zero Q h = omega arith
stored-within (e ∷ es) (suc i) Q h = let l = stored-within es i Q h in omega (arith, l)

module _ {keys : List (List ℕ × Bool)} {prefixes : List ℕ} {slots : List SlotState} {indexed : IndexedState} {now : SlotsState}
    (kept : AreSlots keys prefixes slots indexed)
    (view : record { entries = entries_of keys slots; rows = indexed.rows; index = indexed.index } ≡ now) where
  seen : entries_of keys slots ≡ now.entries
  seen = ap (λ (s : SlotsState). s.entries) view

  pub count-is : length slots ≡ length now.entries
  count-is = sym (entries-length keys slots kept.count) ∙ ap length seen

  pub keys-seen : keys_of keys ≡ keys_of now.entries
  keys-seen = sym (keys-of keys slots kept.count) ∙ ap keys_of seen

  pub looked-seen : (p : List ℕ → Bool) → is_some (lookup p keys) ≡ is_some (lookup p now.entries)
  looked-seen p = sym (looked-up p keys slots kept.count) ∙ ap (λ (xs : List Entry). is_some (lookup p xs)) seen

  pub no-key : (key : List ℕ) → list_any (λ (x : Entry). same_text x.0 key) now.entries ≡ false → lookup (same_text key) keys ≡ None
  no-key key n = none-there (lookup (same_text key) keys) (looked-seen (same_text key) ∙ ap is_some (none-lookup key now.entries n))

  module _ (place : ℕ) where
    pub key-seen : key_in now.entries place ≡ when_some (slice_get keys place) [] (λ (k : List ℕ × Bool). k.0)
    key-seen = ap (λ (xs : List Entry). key_in xs place) (sym seen) ∙ key-at keys slots place kept.count

    pub listed-seen : is_listed now.entries place ≡ when_some (slice_get keys place) false (λ (k : List ℕ × Bool). k.1)
    listed-seen = ap (λ (xs : List Entry). is_listed xs place) (sym seen) ∙ listed-at keys slots place kept.count

    -- a slot that is stored is seen, and whether it is listed
    pub stored-seen : {s : SlotState} → slice_get slots place ≡ Some s
        → stored_at now.entries place ≡ Some (record { slot = s; listed = is_listed now.entries place })
    stored-seen {s = s} at =
        subst (λ (xs : List Entry). stored_at xs place ≡ Some (record { slot = s; listed = is_listed xs place })) seen
        (stored-is keys slots place s kept.count at)

    -- and so is one that is put there, or listed
    pub set-seen : (w : SlotState)
        → entries_of keys (slice_set slots place w) ≡ set_value_at now.entries place (record { slot = w; listed = is_listed now.entries place })
    set-seen w =
        slot-set keys slots place w kept.count
        ∙ (λ k. set_value_at (seen k) place (record { slot = w; listed = is_listed (seen k) place }))

    pub listed-set : {s : SlotState} (b : Bool) → slice_get slots place ≡ Some s
        → entries_of (set_value_at keys place b) slots ≡ set_value_at now.entries place (record { slot = s; listed = b })
    listed-set {s = s} b at =
        key-listed keys slots place s b at kept.count
        ∙ ap (λ (xs : List Entry). set_value_at xs place (record { slot = s; listed = b })) seen

    module _ (there : place < length now.entries) where
      pub within-slots : place < length slots
      within-slots = let c = count-is in omega (arith, c, there)

      -- some slot is stored there
      pub some-slot : (s : SlotState) × (slice_get slots place ≡ Some s)
      some-slot = at-within slots place within-slots

      -- the one that is read there
      slot-there : {s : SlotState} → s ≡ get_or slots place s → slice_get slots place ≡ Some s
      slot-there {s = s} got = at-item slots place s within-slots got

      pub slot-seen : {s : SlotState} → s ≡ get_or slots place s
          → stored_at now.entries place ≡ Some (record { slot = s; listed = is_listed now.entries place })
      slot-seen got = stored-seen (slot-there got)

      -- what holds of the slot that is seen holds of the one that is read
      pub holds-of : (Q : StoreSlot → Type 0) → IsSomeAnd (stored_at now.entries place) Q → {s : SlotState} → s ≡ get_or slots place s
          → Q (record { slot = s; listed = is_listed now.entries place })
      holds-of Q some got = subst (λ (o : Option StoreSlot). IsSomeAnd o Q) (slot-seen got) some

      -- a slot of the same object is put there
      pub put-same : {s : SlotState} (w : SlotState) → s ≡ get_or slots place s → object_of w.region w.state ≡ object_of s.region s.state
          → AreSlots keys prefixes (slice_set slots place w) indexed
      put-same {s = s} w got same = are-set keys slots indexed place s w kept within-slots (slot-there got) same

      -- or any, and the place is marked
      pub put-stale : (w : SlotState) (marked : IndexedState) → marked.rows ≡ indexed.rows → marked.stale ≡ slice_set indexed.stale place true
          → AreSlots keys prefixes (slice_set slots place w) marked
      put-stale w marked rows stale = set-stale keys slots indexed marked place w kept within-slots rows stale

      -- it is seen then
      pub put-seen : (w : SlotState)
          → stored_at (entries_of keys (slice_set slots place w)) place
          ≡ Some (record { slot = w; listed = is_listed (entries_of keys (slice_set slots place w)) place })
      put-seen w = stored-set-is keys slots place w kept.count within-slots

      -- the slot there made a step
      pub moved-seen : (step : RegionId → KeyState → KeyState) (fall : ℕ) {before : SlotState} (after : SlotState)
          → before ≡ get_or slots place before → after.state ≡ step before.region before.state → after.region ≡ before.region
          → before.spare ≤ after.spare + fall → HasMoved place step fall now.entries (entries_of keys (slice_set slots place after))
      moved-seen step fall {before = before} after got state region spare =
          subst (λ (xs : List Entry). HasMoved place step fall xs (entries_of keys (slice_set slots place after))) seen
          (
          moved-of keys place fall step slots (slice_set slots place after) kept.count
          (record { before = before; after = after; found = slot-there got; set = refl; state = state; region = region; spare = spare })
          )
