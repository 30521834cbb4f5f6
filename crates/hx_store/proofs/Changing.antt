-- What a store keeps and shows where the slot at a place changes: `h` is what it kept, and `view`
-- what contracts saw of it.
use Rattle.std.proofs.Common.{◌≡◌, ℕ, ◌+◌, ◌<◌, ◌≤◌, Bool, true, false, List, [], length, nat_eq, refl, ap, sym, ◌∙◌, subst, arith}
use Rattle.std.specs.List.{list_any, slice_get}
use Rattle.std.specs.Option.{IsSomeAnd}
use Rattle.hx_model.specs.Types.{RegionId}
use Rattle.hx_types.specs.Words.{same_text, when_some}
use Rattle.hx_model.specs.Slots.{KeyState, with_state}
use Rattle.hx_slot.specs.States.{SlotState}
use Rattle.hx_store.specs.Invariant.{HasMoved, IsAdded, IsLateStore, IsReplacedAt, IsStore, order_of, rooms_in, states_in, stored_at}
use Rattle.hx_store.specs.Slots.{Entry, StoreSlot}
use Rattle.hx_store.specs.Stores.{KeepsOtherRooms, KeepsRooms, Room, StoreState, UsesRoom, after_step, has_slot, key_at, no_moves, state_at}
use Rattle.hx_store.proofs.Ordering.{all-sorted, keys-added, keys-moved, keys-set, late-kept, late-order, late-states}
use Rattle.hx_store.proofs.Showing.{StepKeeps, added, at-slot, keeps-same, moved-quiet, opened-put, opened-state, opened-there, others-kept}
use Rattle.hx_store.proofs.Showing.{put-others, set-there, shown, step-keeps, step-there, step-uses}

-- a key keeps its place
same-key : (old new : StoreState) (place : ℕ) → new.rooms ≡ old.rooms → key_at new place ≡ key_at old place
same-key old new place e = ap (λ (rs : List Room). when_some (slice_get rs place) [] (λ (r : Room). r.key)) e

module _ {g : RegionId} {marks : Bool} {es : List Entry} {places : List ℕ} {sorted cap attributes : ℕ} {self : StoreState}
    (h : IsLateStore g marks es places sorted cap)
    (view : shown g marks attributes es (order_of es) (nat_eq sorted (length places)) ≡ self) where
  -- the list of a store in order is that of its places in order
  pub in-order : self.ordered ≡ true → places ≡ order_of es
  in-order t = late-order h (all-sorted sorted (length places) self.ordered (ap (λ (s : StoreState). s.ordered) view) t)

  -- the slot at a place keeps its state
  module _ {place : ℕ} {new : List Entry} (m : HasMoved place no_moves 0 es new) where
    quiet : IsStore g marks new (order_of es) cap × (states_in new (order_of es) ≡ self.states) × KeepsRooms self.rooms (rooms_in new)
    quiet = moved-quiet h.store view place new m

    pub quiet-store : IsLateStore g marks new places sorted cap
    quiet-store = late-kept h new cap quiet.0 (keys-moved m)

    pub quiet-states : states_in new (order_of new) ≡ self.states
    quiet-states = late-states h new cap quiet.0 quiet.1

    pub quiet-rooms : KeepsRooms self.rooms (rooms_in new)
    quiet-rooms = quiet.2

  -- it has made a step, where it was opened before
  module _ (old : StoreState) {place fall : ℕ} {step : RegionId → KeyState → KeyState} {new : List Entry} (m : HasMoved place step fall es new)
      (keeps : StepKeeps step) (rooms : self.rooms ≡ old.rooms) (states : self.states ≡ after_step old (key_at old place) no_moves)
      (kind : self.keeps_marks ≡ old.keeps_marks) (region : self.region ≡ old.region) where
    stepped : IsStore g marks new (order_of es) cap × (states_in new (order_of es) ≡ after_step old (key_at old place) step)
    stepped = step-there h.store view old place step keeps fall new m (key_at old place) (same-key old self place rooms) states kind region

    pub stepped-store : IsLateStore g marks new places sorted cap
    stepped-store = late-kept h new cap stepped.0 (keys-moved m)

    pub stepped-states : states_in new (order_of new) ≡ after_step old (key_at old place) step
    stepped-states = late-states h new cap stepped.0 stepped.1

  pub stepped-rooms : (old : StoreState) {place : ℕ} {step : RegionId → KeyState → KeyState} {new : List Entry} → HasMoved place step 0 es new
      → self.rooms ≡ old.rooms → KeepsRooms old.rooms (rooms_in new)
  stepped-rooms old {place = place} {step = step} {new = new} m rooms =
      subst (λ (rs : List Room). KeepsRooms rs (rooms_in new)) rooms (step-keeps h.store view place step new m)

  pub used-rooms : (old : StoreState) {place : ℕ} {step : RegionId → KeyState → KeyState} {new : List Entry} → HasMoved place step 1 es new
      → self.rooms ≡ old.rooms → UsesRoom place old.rooms (rooms_in new)
  used-rooms old {place = place} {step = step} {new = new} m rooms =
      subst (λ (rs : List Room). UsesRoom place rs (rooms_in new)) rooms (step-uses h.store view place step new m)

  -- a slot at a place of the old store was opened
  module _ (old : StoreState) (place : ℕ) (rooms : self.rooms ≡ old.rooms) (states : self.states ≡ after_step old (key_at old place) no_moves)
      (kind : self.keeps_marks ≡ old.keeps_marks) (region : self.region ≡ old.region) where
    -- what held of it before still does
    pub opened-holds : (P : RegionId → KeyState → Type 0) → place < length old.rooms → P old.region (state_at old (key_at old place))
        → IsSomeAnd (stored_at es place) (λ (w : StoreSlot). P w.slot.region w.slot.state)
    opened-holds P there p =
        at-slot h.store view place (λ (r : RegionId) (s : KeyState) (n : ℕ). P r s) (subst (λ (rs : List Room). place < length rs) (sym rooms) there)
        (subst (λ (r : RegionId). P r (state_at self (key_at self place))) (sym region) (subst (P old.region) (sym state) p))
      where
        state : state_at self (key_at self place) ≡ state_at old (key_at old place)
        state = ap (state_at self) (same-key old self place rooms) ∙ opened-state old self (key_at old place) kind states

    -- another slot of its key comes in place of it
    module _ {slot : SlotState} {new : List Entry} (r : IsReplacedAt place slot es new) (key : key_at old place ≡ slot.state.base.key) where
      same : key_at self place ≡ slot.state.base.key
      same = same-key old self place rooms ∙ key

      abbrev after : StoreSlot
      after = record r.before { slot = slot }

      module _ (its-region : slot.region ≡ old.region) (its-kind : slot.state.marks ≡ old.keeps_marks) where
        put : IsStore g marks new (order_of es) cap × (with_state slot.state self.states ≡ states_in new (order_of es))
        put =
            set-there h.store view place r.before after new r.found r.set refl (sym same) (its-region ∙ sym region) (its-kind ∙ sym kind)
            (ap (λ (q : List ℕ). has_slot q self.states) (same-key old self place rooms) ∙ opened-there old self (key_at old place) states)

        pub replaced-store : IsLateStore g marks new places sorted cap
        replaced-store = late-kept h new cap put.0 (keys-set es new place after r.set)

        pub replaced-states : states_in new (order_of new) ≡ with_state slot.state old.states
        replaced-states = late-states h new cap put.0 (sym put.1) ∙ opened-put old self (key_at old place) slot.state states (sym key)

      pub replaced-rooms : KeepsOtherRooms slot.state.base.key old.rooms (rooms_in new)
      replaced-rooms =
          others-kept slot.state.base.key old.rooms self.rooms (rooms_in new) (keeps-same old.rooms self.rooms rooms)
          (put-others h.store view place r.before after new slot.state.base.key r.found r.set same)

  -- a key came
  module _ {key : List ℕ} {new : List Entry} (a : IsAdded g marks key es new) (none : list_any (λ (e : Entry). same_text e.0 key) es ≡ false) where
    came : (wide : ℕ) → length es + 1 ≤ wide
        → IsStore g marks new (order_of es) wide × (states_in new (order_of es) ≡ self.states) × KeepsRooms self.rooms (rooms_in new)
    came wide more = added h.store view key new (order_of es) wide none a refl more

    pub added-store : (wide : ℕ) → length es + 1 ≤ wide → IsLateStore g marks new places sorted wide
    added-store wide more = late-kept h new wide (came wide more).0 (keys-added a)

    pub added-states : states_in new (order_of new) ≡ self.states
    added-states = let all = came (length es + 1) (omega arith) in late-states h new (length es + 1) all.0 all.1

    pub added-rooms : KeepsRooms self.rooms (rooms_in new)
    added-rooms = (came (length es + 1) (omega arith)).2
