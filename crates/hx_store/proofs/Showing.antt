-- What a store's contract says, from what it keeps.
use Rattle.std.proofs.Common.{◌≡◌, ℕ, zero, suc, ◌+◌, ◌<◌, ◌≤◌, Bool, true, false, ◌||◌, List, [], ◌∷◌, ◌++◌, length}
use Rattle.std.proofs.Common.{insert, Option, None, Some, IfNone, IfSome, OnOk, Result, Ok, Err, refl, ap, sym, ◌∙◌}
use Rattle.std.proofs.Common.{subst, arith, cond}
use Rattle.std.specs.List.{AllByRecursion, list_any, slice_get}
use Rattle.std.specs.Option.{IsSomeAnd, option_map}
use Rattle.std.proofs.lemmas.Bool.{cond_both, false≢true, false_from_ne_true, or_left, or_right}
use Rattle.std.proofs.lemmas.Option.{same_Some}
use Rattle.indexmap.specs.IndexMap.{set_value_at}
use Rattle.hx_model.specs.Types.{RegionId}
use Rattle.hx_types.specs.Words.{same_text, text_below, when_some}
use Rattle.hx_model.proofs.Lemmas.{same_text_self}
use Rattle.hx_law_folds.specs.Folding.{KeysAscend}
use Rattle.hx_law_folds.proofs.Lemmas.{among-key}
use Rattle.hx_model.specs.Slots.{KeyState, new_state, state_among, with_state}
use Rattle.hx_store.specs.Slots.{StoreSlot, Entry}
use Rattle.hx_store.specs.Invariant.{AscendAt, HasMoved, IsAdded, IsListedAt, IsSplit, IsStore, IsStoreSlot, is_listed}
use Rattle.hx_store.specs.Invariant.{key_in, room_of, rooms_in, state_in, states_in, stored_at}
use Rattle.hx_store.specs.Stores.{IsPlace, KeepsOtherRooms, KeepsRooms, Room, StoreState, UsesRoom, after_step}
use Rattle.hx_store.specs.Stores.{has_room, has_slot, key_at, no_moves, spare_at, state_at}
use Rattle.hx_store.proofs.Lists.{all-at, at-end, at-map, at-within, length-of-map}
use Rattle.hx_store.proofs.Order.{found-with, has-place, listed-there, with-again}
use Rattle.hx_store.proofs.Setting.{add-store, added-keeps, are-there, count-most, is-among, own, set-keeps}
use Rattle.hx_store.proofs.Setting.{set-listed, set-open, set-quiet, set-same, set-uses, slot-state, unlisted-room}
use Rattle.hx_store.proofs.Setting.{wide-store}
use Rattle.hx_index.proofs.Lemmas.{within-at}

-- a step of a slot leaves its key and kind
abbrev pub StepKeeps : (RegionId → KeyState → KeyState) → Type 0
StepKeeps step = (g : RegionId) (s : KeyState) → ((step g s).base.key ≡ s.base.key) × ((step g s).marks ≡ s.marks)

-- rooms that are kept twice are kept
pub keeps-trans : (a b c : List Room) → KeepsRooms a b → KeepsRooms b c → KeepsRooms a c
keeps-trans [] b c h k = tt
keeps-trans (x ∷ a) [] c h k = absurd h
keeps-trans (x ∷ a) (y ∷ b) [] h k = absurd k
keeps-trans (x ∷ a) (y ∷ b) (z ∷ c) h k = (k.0 ∙ h.0, (let p = h.1 in let q = k.1 in omega (arith, p, q)), keeps-trans a b c h.2 k.2)

pub keeps-same : (a b : List Room) → b ≡ a → KeepsRooms a b
keeps-same a b e = subst (KeepsRooms a) (sym e) (self a)
  where
    self : (rs : List Room) → KeepsRooms rs rs
    self [] = tt
    self (r ∷ rs) = (refl, omega arith, self rs)

-- rooms of other keys
pub others-kept : (key : List ℕ) (a b c : List Room) → KeepsRooms a b → KeepsOtherRooms key b c → KeepsOtherRooms key a c
others-kept key [] b c h k = tt
others-kept key (x ∷ a) [] c h k = absurd h
others-kept key (x ∷ a) (y ∷ b) [] h k = absurd k
others-kept key (x ∷ a) (y ∷ b) (z ∷ c) h k = (
  k.0 ∙ h.0,
  (λ n. (let p = h.1 in let q = k.1 (ap (λ (l : List ℕ). same_text l key) h.0 ∙ n) in omega (arith, p, q))),
  others-kept key a b c h.2 k.2,
)

pub kept-others : (key : List ℕ) (a b : List Room) → KeepsRooms a b → KeepsOtherRooms key a b
kept-others key [] b h = tt
kept-others key (x ∷ a) [] h = absurd h
kept-others key (x ∷ a) (y ∷ b) h = (h.0, (λ n. h.1), kept-others key a b h.2)

set-others : (key : List ℕ) (es : List Entry) (i : ℕ) (e : Entry) (w : StoreSlot) → slice_get es i ≡ Some e
    → e.0 ≡ key → KeepsOtherRooms key (rooms_in es) (rooms_in (set_value_at es i w))
set-others key [] i e w at k = tt
set-others key (x ∷ es) zero e w at k = (
  refl,
  (λ n. absurd (false≢true (sym n ∙ ap (λ (y : Entry). same_text y.0 key) (same_Some x e at) ∙ ap (λ (l : List ℕ). same_text l key) k ∙ same_text_self key))),
  kept-others key (rooms_in es) (rooms_in es) (keeps-same (rooms_in es) (rooms_in es) refl),
)
set-others key (x ∷ es) (suc i) e w at k = (refl, (λ n. omega arith), set-others key es i e w at k)

-- places stay
pub keeps-at : (a b : List Room) (i : ℕ) → KeepsRooms a b → i < length a → (i < length b)
    × (when_some (slice_get b i) [] (λ (r : Room). r.key) ≡ when_some (slice_get a i) [] (λ (r : Room). r.key))
keeps-at [] b i h l = absurd (omega arith)
keeps-at (x ∷ a) [] i h l = absurd h
keeps-at (x ∷ a) (y ∷ b) zero h l = (omega arith, h.0)
keeps-at (x ∷ a) (y ∷ b) (suc i) h l = let more = keeps-at a b i h.2 (omega arith) in ((let m = more.0 in omega (arith, m)), more.1)

pub place-kept : (s t : StoreState) (place : ℕ) (key : List ℕ) → KeepsRooms s.rooms t.rooms → IsPlace s place key → IsPlace t place key
place-kept s t place key h p = let at = keeps-at s.rooms t.rooms place h p.within in record { within = at.0; key_is = at.1 ∙ p.key_is }

-- what is stored is of an entry
pub stored-entry : (es : List Entry) (i : ℕ) (h : StoreSlot) → stored_at es i ≡ Some h → (e : Entry) × (slice_get es i ≡ Some e) × (e.1 ≡ h)
stored-entry es i h s = by (slice_get es i) refl
  where
    by : (o : Option Entry) → slice_get es i ≡ o → (e : Entry) × (slice_get es i ≡ Some e) × (e.1 ≡ h)
    by None q = (let n : None ≡ Some h = ap (option_map (λ (x : Entry). x.1)) (sym q) ∙ s in absurd cc)
    by (Some e) q = (e, q, same_Some e.1 h (ap (option_map (λ (x : Entry). x.1)) (sym q) ∙ s))

pub stored-some : (es : List Entry) (i : ℕ) → i < length es → (h : StoreSlot) × (stored_at es i ≡ Some h)
stored-some es i l = let at = at-within es i l in (at.0.1, ap (option_map (λ (x : Entry). x.1)) at.1)

-- a key that is put has a slot
pub has-with : (s : KeyState) (states : List KeyState) → has_slot s.base.key (with_state s states) ≡ true
has-with s [] = or_left (same_text s.base.key s.base.key) false (same_text_self s.base.key)
has-with s (x ∷ rest) =
    cond_both (same_text x.base.key s.base.key) (s ∷ rest)
    (cond (text_below s.base.key x.base.key) (s ∷ x ∷ rest) (x ∷ with_state s rest))
    (λ (l : List KeyState). has_slot s.base.key l ≡ true)
    (λ t. or_left (same_text s.base.key s.base.key) _ (same_text_self s.base.key))
    (
    λ t. cond_both (text_below s.base.key x.base.key) (s ∷ x ∷ rest) (x ∷ with_state s rest) (λ (l : List KeyState). has_slot s.base.key l ≡ true)
    (λ b. or_left (same_text s.base.key s.base.key) _ (same_text_self s.base.key))
    (λ b. or_right (same_text x.base.key s.base.key) _ (has-with s rest))
    )

-- a key that came to no place has no slot
pub has-none : (g : RegionId) (marks : Bool) (es : List Entry) (key : List ℕ)
    → AllByRecursion (λ (x : Entry). IsStoreSlot g marks x.0 x.1) es → list_any (λ (e : Entry). same_text e.0 key) es ≡ false
    → (order : List ℕ) → AllByRecursion (λ j. is_listed es j ≡ true) order → has_slot key (states_in es order) ≡ false
has-none g marks es key each none [] h = refl
has-none g marks es key each none (j ∷ rest) h =
    let there = listed-there es j h.0 in
    let state : state_in es j ≡ there.0.1.slot.state = ap (λ (o : Option Entry). when_some o (new_state false []) (λ (x : Entry). x.1.slot.state)) there.1 in
    let differs : same_text (state_in es j).base.key key ≡ false =
    ap (λ (s : KeyState). same_text s.base.key key) state
    ∙ ap (λ (k : List ℕ). same_text k key) (all-at
    (λ (x : Entry). IsStoreSlot g marks x.0 x.1) es j there.0 each there.1).key_is ∙ none-at es j there.0 none there.1 in
    (λ k. differs k || has-none g marks es key each none rest h.1 k)
  where
    none-at : (xs : List Entry) (i : ℕ) (x : Entry) → list_any (λ (e : Entry). same_text e.0 key) xs ≡ false
        → slice_get xs i ≡ Some x → same_text x.0 key ≡ false
    none-at [] i x n at = absurd cc
    none-at (y ∷ xs) zero x n at = subst (λ (z : Entry). same_text z.0 key ≡ false) (same_Some y x at)
        (false_from_ne_true (same_text y.0 key) (λ t. false≢true (sym n ∙ or_left (same_text y.0 key) _ t)))
    none-at (y ∷ xs) (suc i) x n at = none-at xs i x
        (false_from_ne_true (list_any (λ (e : Entry). same_text e.0 key) xs)
        (λ t. false≢true (sym n ∙ or_right (same_text y.0 key) _ t))) at

any-rooms : (key : List ℕ) (es : List Entry) → list_any (λ (r : Room). same_text r.key key) (rooms_in es) ≡ list_any (λ (e : Entry). same_text e.0 key) es
any-rooms key [] = refl
any-rooms key (e ∷ es) = ap (λ b. same_text e.0 key || b) (any-rooms key es)

-- a slot that was opened is as before
pub opened-state : (old new : StoreState) (key : List ℕ) → new.keeps_marks ≡ old.keeps_marks
    → new.states ≡ after_step old key no_moves → state_at new key ≡ state_at old key
opened-state old new key kind e =
    (λ i. state_among (kind i) key (e i))
    ∙ subst (λ (k : List ℕ). state_among old.keeps_marks k (with_state (state_at old key) old.states)
    ≡ state_at old key) (among-key old.keeps_marks key old.states) (found-with old.keeps_marks (state_at old key) old.states)

-- and there
pub opened-there : (old new : StoreState) (key : List ℕ) → new.states ≡ after_step old key no_moves → has_slot key new.states ≡ true
opened-there old new key e =
    ap (has_slot key) e
    ∙ subst (λ (k : List ℕ). has_slot k (with_state (state_at old key) old.states) ≡ true)
    (among-key old.keeps_marks key old.states) (has-with (state_at old key) old.states)

-- what is put over it stands in its place
pub opened-put : (old new : StoreState) (key : List ℕ) (w : KeyState) → new.states ≡ after_step old key no_moves
    → w.base.key ≡ key → with_state w new.states ≡ with_state w old.states
opened-put old new key w e k = ap (with_state w) e ∙ with-again (state_at old key) w old.states (k ∙ sym (among-key old.keeps_marks key old.states))

-- a step of an opened slot
pub opened-step : (old new : StoreState) (key : List ℕ) (step : RegionId → KeyState → KeyState) (after : KeyState)
    (region : RegionId) (before : KeyState) (states : List KeyState) → new.states ≡ after_step old key no_moves
    → new.keeps_marks ≡ old.keeps_marks → new.region ≡ old.region
    → before ≡ state_at new key → region ≡ new.region → after ≡ step region before → after.base.key ≡ key
    → with_state after new.states ≡ states → states ≡ after_step old key step
opened-step old new key step after region before states e kind place b r a k is =
    sym is ∙ opened-put old new key after e k ∙ ap (λ (s : KeyState). with_state s old.states)
    (a ∙ (λ i. step ((r ∙ place) i) ((b ∙ opened-state old new key kind e) i)))

-- what contracts see of the parts of a store
abbrev pub shown : RegionId → Bool → ℕ → List Entry → List ℕ → Bool → StoreState
shown g marks attributes es order ordered = record {
  region = g;
  keeps_marks = marks;
  attributes = attributes;
  states = states_in es order;
  rooms = rooms_in es;
  ordered = ordered;
}

-- a store of which nothing changed but that it is in order
pub ordered-same : (old new : StoreState) → new.region ≡ old.region → new.keeps_marks ≡ old.keeps_marks → new.attributes ≡ old.attributes
    → new.states ≡ old.states → new.rooms ≡ old.rooms → new.ordered ≡ true → new ≡ record old { ordered = true }
ordered-same old new region marks attributes states rooms ordered = λ k. record {
  region = region k;
  keeps_marks = marks k;
  attributes = attributes k;
  states = states k;
  rooms = rooms k;
  ordered = ordered k;
}

module _ {g : RegionId} {marks : Bool} {es : List Entry} {order : List ℕ} {cap attributes : ℕ} {ordered : Bool} {self : StoreState}
    (h : IsStore g marks es order cap) (view : shown g marks attributes es order ordered ≡ self) where
  -- the entries are the same
  pub same-store : {new : List Entry} → new ≡ es → IsStore g marks new order cap
  same-store same = subst (λ (xs : List Entry). IsStore g marks xs order cap) (sym same) h

  pub same-view : {new : List Entry} {count : ℕ} → new ≡ es → count ≡ attributes → shown g marks count new order ordered ≡ self
  same-view same alike = (λ k. shown g marks (alike k) (same k) order ordered) ∙ view

  pub count-is : length self.rooms ≡ length es
  count-is = ap (λ (s : StoreState). length s.rooms) (sym view) ∙ length-of-map room_of es

  pub within-is : (place : ℕ) → place < length self.rooms → place < length es
  within-is place l = let e = count-is in omega (arith, e, l)

  module _ (place : ℕ) {w : StoreSlot} (stored : stored_at es place ≡ Some w) where
    abbrev pub entry : (e : Entry) × (slice_get es place ≡ Some e) × (e.1 ≡ w)
    entry = stored-entry es place w stored

    pub slot-key : key_at self place ≡ entry.0.0
    slot-key = ap (λ (s : StoreState). key_at s place) (sym view)
        ∙ ap (λ (o : Option Room). when_some o [] (λ (r : Room). r.key)) (at-map room_of es place entry.0 entry.1)

    pub slot-is : w.slot.state ≡ state_at self (key_at self place)
    slot-is =
        ap (λ (x : StoreSlot). x.slot.state) (sym entry.2)
        ∙ sym (slot-state h place entry.0 entry.1)
        ∙ ap (λ (s : StoreState). state_at s entry.0.0) view
        ∙ ap (state_at self) (sym slot-key)

    pub slot-region : w.slot.region ≡ self.region
    slot-region = ap (λ (x : StoreSlot). x.slot.region) (sym entry.2) ∙ (own h place entry.0 entry.1).region ∙ ap (λ (s : StoreState). s.region) view

    pub slot-marks : w.slot.state.marks ≡ self.keeps_marks
    slot-marks = ap (λ (x : StoreSlot). x.slot.state.marks) (sym entry.2) ∙ (own h place entry.0 entry.1).marks_are
        ∙ ap (λ (s : StoreState). s.keeps_marks) view

    pub slot-spare : w.slot.spare ≡ spare_at self place
    slot-spare = ap (λ (x : StoreSlot). x.slot.spare) (sym entry.2)
        ∙ sym (ap (λ (s : StoreState). spare_at s place) (sym view)
        ∙ ap (λ (o : Option Room). when_some o 0 (λ (r : Room). r.spare)) (at-map room_of es place entry.0 entry.1))

    pub slot-listed : has_slot (key_at self place) self.states ≡ w.listed
    slot-listed =
        ap (λ (k : List ℕ). has_slot k self.states) slot-key
        ∙ ap (λ (s : StoreState). has_slot entry.0.0 s.states) (sym view)
        ∙ has-place g marks es h.each h.apart place entry.0 entry.1 order (are-there h)
        ∙ is-among h place entry.0 entry.1
        ∙ ap (λ (x : StoreSlot). x.listed) entry.2

  -- a place that is found is the key's
  pub place-is : (key : List ℕ) (place : ℕ) → place < length es → key_in es place ≡ key → IsPlace self place key
  place-is key place l k =
      let at = at-within es place l in
      record {
        within = (let e = count-is in omega (arith, e, l));
        key_is = ap (λ (s : StoreState). key_at s place) (sym view)
            ∙ ap (λ (o : Option Room). when_some o [] (λ (r : Room). r.key)) (at-map room_of es place at.0 at.1)
            ∙ sym (ap (λ (o : Option Entry). when_some o [] (λ (e : Entry). e.0)) at.1) ∙ k;
      }

  pub some-place : (key : List ℕ) (o : Option ℕ) → IfSome o (λ p. p < length es) → IfSome o (λ p. key_in es p ≡ key) → IfSome o (λ p. IsPlace self p key)
  some-place key None l k = tt
  some-place key (Some p) l k = place-is key p l k

  pub no-place : (key : List ℕ) → list_any (λ (e : Entry). same_text e.0 key) es ≡ false → has_room self key ≡ false
  no-place key n = ap (λ (s : StoreState). has_room s key) (sym view) ∙ any-rooms key es ∙ n

  pub no-slot : (key : List ℕ) → list_any (λ (e : Entry). same_text e.0 key) es ≡ false → has_slot key self.states ≡ false
  no-slot key n = ap (λ (s : StoreState). has_slot key s.states) (sym view) ∙ has-none g marks es key h.each n order (are-there h)

  -- a fact of the slot at a place
  pub at-slot : (place : ℕ) (P : RegionId → KeyState → ℕ → Type 0) → place < length self.rooms
      → P self.region (state_at self (key_at self place)) (spare_at self place)
      → IsSomeAnd (stored_at es place) (λ (w : StoreSlot). P w.slot.region w.slot.state w.slot.spare)
  at-slot place P l p =
      let s = stored-some es place (within-is place l) in
      subst (λ (o : Option StoreSlot). IsSomeAnd o (λ (w : StoreSlot). P w.slot.region w.slot.state w.slot.spare)) (sym s.1)
      (
      subst (λ (r : RegionId). P r s.0.slot.state s.0.slot.spare) (sym (slot-region place s.1))
      (
      subst (λ (k : KeyState). P self.region k s.0.slot.spare) (sym (slot-is place s.1))
      (subst (P self.region (state_at self (key_at self place))) (sym (slot-spare place s.1)) p)
      )
      )

  pub some-none : (key : List ℕ) (o : Option ℕ) → IfNone o (list_any (λ (e : Entry). same_text e.0 key) es ≡ false) → IfNone o (has_room self key ≡ false)
  some-none key None n = no-place key n
  some-none key (Some p) n = tt

  -- no more places are listed than there are
  pub order-most : length order ≤ length es
  order-most = let c = h.count in let m = count-most es in omega (arith, c, m)

  -- the keys of the places ascend
  pub order-ascends : AscendAt es order
  order-ascends = by order (are-there h) h.ascend
    where
      key-of : (j : ℕ) → is_listed es j ≡ true → (state_in es j).base.key ≡ key_in es j
      key-of j t =
          let there = listed-there es j t in
          ap (λ (o : Option Entry). (when_some o (new_state false []) (λ (x : Entry). x.1.slot.state)).base.key) there.1
          ∙ (all-at (λ (x : Entry). IsStoreSlot g marks x.0 x.1) es j there.0 h.each there.1).key_is
          ∙ sym (ap (λ (o : Option Entry). when_some o [] (λ (x : Entry). x.0)) there.1)

      over : (j : ℕ) (rest : List ℕ) → is_listed es j ≡ true → AllByRecursion (λ k. is_listed es k ≡ true) rest
          → AllByRecursion (λ (t : KeyState). text_below (state_in es j).base.key t.base.key ≡ true) (states_in es rest)
          → AllByRecursion (λ k. text_below (key_in es j) (key_in es k) ≡ true) rest
      over j [] t r a = tt
      over j (k ∷ rest) t r a = (sym (λ i. text_below (key-of j t i) (key-of k r.0 i)) ∙ a.0, over j rest t r.1 a.1)

      by : (places : List ℕ) → AllByRecursion (λ j. is_listed es j ≡ true) places → KeysAscend (states_in es places) → AscendAt es places
      by [] t a = tt
      by (j ∷ rest) t a = (over j rest t.0 t.1 a.0, by rest t.1 a.1)

  -- a slot that made a step in the same state, whatever its place
  pub moved-quiet : (place : ℕ) (new : List Entry) → HasMoved place no_moves 0 es new → IsStore g marks new order cap
      × (states_in new order ≡ self.states) × KeepsRooms self.rooms (rooms_in new)
  moved-quiet place new m =
      let e = stored-entry es place m.before m.found in
      let was = own h place e.0 e.1 in
      let before : m.after.slot.state ≡ e.0.1.slot.state = m.state ∙ ap (λ (x : StoreSlot). x.slot.state) (sym e.2) in
      let kept : IsStoreSlot g marks e.0.0 m.after = record {
        key_is = ap (λ (k : KeyState). k.base.key) before ∙ was.key_is;
        region = m.region ∙ ap (λ (x : StoreSlot). x.slot.region) (sym e.2) ∙ was.region;
        marks_are = ap (λ (k : KeyState). k.marks) before ∙ was.marks_are;
        closed = λ c. before ∙ was.closed (ap (λ (x : StoreSlot). x.listed) e.2 ∙ sym m.listed ∙ c);
      } in
      let quiet = set-quiet h place e.0 e.1 m.after kept before (m.listed ∙ ap (λ (x : StoreSlot). x.listed) (sym e.2)) in
      let spare : e.0.1.slot.spare ≤ m.after.slot.spare = (let s = m.spare in let q = ap (λ (x : StoreSlot). x.slot.spare) e.2 in omega (arith, s, q)) in (
        subst (λ (es : List Entry). IsStore g marks es order cap) (sym m.set) quiet.0,
        ap (λ (es : List Entry). states_in es order) m.set ∙ quiet.1 ∙ ap (λ (s : StoreState). s.states) view,
        subst (λ (rs : List Room). KeepsRooms rs (rooms_in new)) (ap (λ (s : StoreState). s.rooms) view)
            (subst (λ (es' : List Entry). KeepsRooms (rooms_in es) (rooms_in es')) (sym m.set)
            (set-keeps es place e.0 m.after e.1 spare)),
      )

  -- a listed slot is set
  pub set-there : (place : ℕ) (before after : StoreSlot) (new : List Entry) → stored_at es place ≡ Some before
      → new ≡ set_value_at es place after → after.listed ≡ before.listed → after.slot.state.base.key ≡ key_at self place
      → after.slot.region ≡ self.region → after.slot.state.marks ≡ self.keeps_marks
      → has_slot (key_at self place) self.states ≡ true → IsStore g marks new order cap
      × (with_state after.slot.state self.states ≡ states_in new order)
  set-there place before after new found set same key region kind there =
      let e = stored-entry es place before found in
      let listed : before.listed ≡ true = sym (slot-listed place found) ∙ there in
      let kept : IsStoreSlot g marks e.0.0 after = record {
        key_is = key ∙ slot-key place found;
        region = region ∙ ap (λ (s : StoreState). s.region) (sym view);
        marks_are = kind ∙ ap (λ (s : StoreState). s.keeps_marks) (sym view);
        closed = λ c. absurd (false≢true (sym c ∙ same ∙ listed));
      } in
      let both = set-listed h place e.0 e.1 after kept (ap (λ (x : StoreSlot). x.listed) e.2 ∙ listed) (same ∙ ap (λ (x : StoreSlot). x.listed) (sym e.2)) in (
        subst (λ (es : List Entry). IsStore g marks es order cap) (sym set) both.0,
        ap (λ (s : StoreState). with_state after.slot.state s.states) (sym view) ∙ both.1 ∙ ap (λ (es : List Entry). states_in es order) (sym set),
      )

  -- the room at a place is another
  pub put-others : (place : ℕ) (before after : StoreSlot) (new : List Entry) (key : List ℕ)
      → stored_at es place ≡ Some before → new ≡ set_value_at es place after → key_at self place ≡ key
      → KeepsOtherRooms key self.rooms (rooms_in new)
  put-others place before after new key found set k =
      let e = stored-entry es place before found in
      subst (λ (rs : List Room). KeepsOtherRooms key rs (rooms_in new)) (ap (λ (s : StoreState). s.rooms) view)
      (
      subst (λ (es' : List Entry). KeepsOtherRooms key (rooms_in es) (rooms_in es')) (sym set)
      (set-others key es place e.0 after e.1 (sym (slot-key place found) ∙ k))
      )

  -- the slot of a place is listed already
  pub open-same : (place : ℕ) (w : StoreSlot) → stored_at es place ≡ Some w → w.listed ≡ true → self.states ≡ after_step self (key_at self place) no_moves
  open-same place w stored listed =
      let e = stored-entry es place w stored in
      let both = set-listed h place e.0 e.1 e.0.1 (own h place e.0 e.1) (ap (λ (x : StoreSlot). x.listed) e.2 ∙ listed) refl in
      let quiet = set-quiet h place e.0 e.1 e.0.1 (own h place e.0 e.1) refl refl in
      ap (λ (s : StoreState). s.states) (sym view)
      ∙ sym quiet.1 ∙ sym both.1
      ∙ ap (λ (s : StoreState). with_state e.0.1.slot.state s.states) view
      ∙ ap (λ (k : KeyState). with_state k self.states) (ap (λ (x : StoreSlot). x.slot.state) e.2 ∙ slot-is place stored)

  -- or comes to stand among them
  pub open-new : (place number : ℕ) (w : StoreSlot) (new : List Entry) (places : List ℕ) (wide : ℕ)
      → stored_at es place ≡ Some w → w.listed ≡ false → number ≤ length order → IsSplit es (key_at self place) number order
      → IsListedAt place es new → places ≡ insert order number place → cap ≤ wide → IsStore g marks new places wide
      × (states_in new places ≡ after_step self (key_at self place) no_moves) × (rooms_in new ≡ self.rooms)
  open-new place number w new places wide stored unlisted within split m is more =
      let e = stored-entry es place w stored in
      let same : m.before ≡ e.0.1 = same_Some m.before e.0.1 (sym m.found ∙ stored ∙ ap (λ (x : StoreSlot). Some x) (sym e.2)) in
      let after : StoreSlot = record e.0.1 { listed = true } in
      let set : new ≡ set_value_at es place after = m.set ∙ ap (λ (x : StoreSlot). set_value_at es place (record x { listed = true })) same in
      let was = own h place e.0 e.1 in
      let kept : IsStoreSlot g marks e.0.0 after = record {
        key_is = was.key_is;
        region = was.region;
        marks_are = was.marks_are;
        closed = λ c. absurd (false≢true (sym c));
      } in
      let closed : e.0.1.listed ≡ false = ap (λ (x : StoreSlot). x.listed) e.2 ∙ unlisted in
      let key = slot-key place stored in
      let both = set-open h place e.0 e.1 after kept closed refl number within (subst (λ (k : List ℕ). IsSplit es k number order) key split) in (
        wide-store (subst (λ (es' : List Entry). IsStore g marks es' places cap) (sym set)
            (subst (λ (ps : List ℕ). IsStore g marks (set_value_at es place after) ps cap) (sym is) both.0)) wide more,
        (λ i. states_in (set i) (is i)) ∙ sym both.1
            ∙ ap (λ (s : StoreState). with_state e.0.1.slot.state s.states) view
            ∙ ap (λ (k : KeyState). with_state k self.states) (ap (λ (x : StoreSlot). x.slot.state) e.2 ∙ slot-is place stored),
        ap rooms_in set ∙ set-same es place e.0 after e.1 refl ∙ ap (λ (s : StoreState). s.rooms) view,
      )

  pub open-room : (place : ℕ) (w : StoreSlot) → stored_at es place ≡ Some w → w.listed ≡ false → length order < cap
  open-room place w stored unlisted = let e = stored-entry es place w stored in
      unlisted-room h place e.0 e.1 e.0.1 (own h place e.0 e.1) (ap (λ (x : StoreSlot). x.listed) e.2 ∙ unlisted)

  -- a key came
  pub added : (key : List ℕ) (new : List Entry) (places : List ℕ) (wide : ℕ)
      → list_any (λ (e : Entry). same_text e.0 key) es ≡ false → IsAdded g marks key es new → places ≡ order
      → length es + 1 ≤ wide
      → IsStore g marks new places wide × (states_in new places ≡ self.states) × KeepsRooms self.rooms (rooms_in new)
  added key new places wide none a is more =
      let x : Entry = (key, record { slot = a.slot; listed = false }) in
      let fresh : IsStoreSlot g marks key x.1 = record {
        key_is = ap (λ (k : KeyState). k.base.key) a.state;
        region = a.region;
        marks_are = ap (λ (k : KeyState). k.marks) a.state;
        closed = λ c. a.state;
      } in
      let both = add-store h x wide fresh refl none more in (
        subst (λ (es' : List Entry). IsStore g marks es' places wide) (sym a.set)
            (subst (λ (ps : List ℕ). IsStore g marks (es ++ x ∷ []) ps wide) (sym is) both.0),
        (λ i. states_in (a.set i) (is i)) ∙ both.1 ∙ ap (λ (s : StoreState). s.states) view,
        subst (λ (rs : List Room). KeepsRooms rs (rooms_in new)) (ap (λ (s : StoreState). s.rooms) view)
            (subst (λ (es' : List Entry). KeepsRooms (rooms_in es) (rooms_in es')) (sym a.set) (added-keeps es (x ∷ []))),
      )

  -- at the next place
  pub added-place : (key : List ℕ) (new : List Entry) (place : ℕ) (t : StoreState) → IsAdded g marks key es new
      → place ≡ length es → t.rooms ≡ rooms_in new → IsPlace t place key
  added-place key new place t a e r =
      let x : Entry = (key, record { slot = a.slot; listed = false }) in
      let at : slice_get new place ≡ Some x = (λ i. slice_get (a.set i) (e i)) ∙ at-end es x in
      let room = at-map room_of new place x at in
      record {
        within = (let l = within-at (rooms_in new) place (room_of x) room in let q = ap length r in omega (arith, l, q));
        key_is = ap (λ (rs : List Room). when_some (slice_get rs place) [] (λ (q : Room). q.key)) r
            ∙ ap (λ (o : Option Room). when_some o [] (λ (q : Room). q.key)) room;
      }

  -- the slot of a number in the order of keys
  pub nth-within : (i : ℕ) {place : ℕ} → slice_get order i ≡ Some place → place < length es
  nth-within i {place = place} e =
      let there = listed-there es place (all-at (λ j. is_listed es j ≡ true) order i place (are-there h) e) in
      within-at es place there.0 there.1

  pub nth-state : (i : ℕ) {place : ℕ} {w : StoreSlot} → slice_get order i ≡ Some place → stored_at es place ≡ Some w
      → Some w.slot.state ≡ slice_get self.states i
  nth-state i {place = place} {w = w} e stored =
      let s = stored-entry es place w stored in
      ap (λ (x : StoreSlot). Some x.slot.state) (sym s.2)
      ∙ ap (λ (o : Option Entry). Some (when_some o (new_state false []) (λ (x : Entry). x.1.slot.state))) (sym s.1)
      ∙ sym (at-map (state_in es) order i place e)
      ∙ ap (λ (t : StoreState). slice_get t.states i) view

  pub nth-none : (i : ℕ) → length order ≤ i → None ≡ slice_get self.states i
  nth-none i l = sym (past order i l) ∙ ap (λ (t : StoreState). slice_get t.states i) view
    where
      past : (xs : List ℕ) (i : ℕ) → length xs ≤ i → slice_get (states_in es xs) i ≡ None
      past [] i l = refl
      past (x ∷ xs) zero l = absurd (omega arith)
      past (x ∷ xs) (suc i) l = past xs i (omega arith)

  -- an opened slot made a step
  pub step-there : (old : StoreState) (place : ℕ) (step : RegionId → KeyState → KeyState) → StepKeeps step → (fall : ℕ) (new : List Entry)
      → HasMoved place step fall es new → (key : List ℕ) → key_at self place ≡ key → self.states ≡ after_step old key no_moves
      → self.keeps_marks ≡ old.keeps_marks → self.region ≡ old.region
      → IsStore g marks new order cap × (states_in new order ≡ after_step old key step)
  step-there old place step keeps fall new m key k e kind region =
      let is = slot-is place m.found in
      let kept = keeps m.before.slot.region m.before.slot.state in
      let here : m.before.slot.state.base.key ≡ key = ap (λ (s : KeyState). s.base.key) is ∙ among-key self.keeps_marks (key_at self place) self.states ∙ k in
      let after_key : m.after.slot.state.base.key ≡ key = ap (λ (s : KeyState). s.base.key) m.state ∙ kept.0 ∙ here in
      let its-region = slot-region place m.found in
      let its-kind = ap (λ (s : KeyState). s.marks) m.state ∙ kept.1 ∙ slot-marks place m.found in
      let there = ap (λ (q : List ℕ). has_slot q self.states) k ∙ opened-there old self key e in
      let both = set-there place m.before m.after new m.found m.set m.listed (after_key ∙ sym k) (m.region ∙ its-region) its-kind there in (
        both.0,
        opened-step old self key step m.after.slot.state m.before.slot.region m.before.slot.state (states_in new order) e kind region
            (is ∙ ap (state_at self) k) its-region m.state after_key both.1,
      )

  pub step-uses : (place : ℕ) (step : RegionId → KeyState → KeyState) (new : List Entry)
      → HasMoved place step 1 es new → UsesRoom place self.rooms (rooms_in new)
  step-uses place step new m =
      let e = stored-entry es place m.before m.found in
      let spare : e.0.1.slot.spare ≤ m.after.slot.spare + 1 = (let s = m.spare in let q = ap (λ (x : StoreSlot). x.slot.spare) e.2 in omega (arith, s, q)) in
      subst (λ (rs : List Room). UsesRoom place rs (rooms_in new)) (ap (λ (s : StoreState). s.rooms) view)
      (subst (λ (es' : List Entry). UsesRoom place (rooms_in es) (rooms_in es')) (sym m.set)
      (set-uses es place e.0 m.after e.1 spare))

  pub step-keeps : (place : ℕ) (step : RegionId → KeyState → KeyState) (new : List Entry) → HasMoved place step 0 es new → KeepsRooms self.rooms (rooms_in new)
  step-keeps place step new m =
      let e = stored-entry es place m.before m.found in
      let spare : e.0.1.slot.spare ≤ m.after.slot.spare = (let s = m.spare in let q = ap (λ (x : StoreSlot). x.slot.spare) e.2 in omega (arith, s, q)) in
      subst (λ (rs : List Room). KeepsRooms rs (rooms_in new)) (ap (λ (s : StoreState). s.rooms) view)
      (subst (λ (es' : List Entry). KeepsRooms (rooms_in es) (rooms_in es')) (sym m.set)
      (set-keeps es place e.0 m.after e.1 spare))

-- the room of what is stored
pub stored-spare : (es : List Entry) (i n : ℕ) → IsSomeAnd (stored_at es i) (λ (w : StoreSlot). n ≤ w.slot.spare)
    → n ≤ when_some (slice_get (rooms_in es) i) 0 (λ (r : Room). r.spare)
stored-spare [] i n h = absurd h
stored-spare (x ∷ es) zero n h = h
stored-spare (x ∷ es) (suc i) n h = stored-spare es i n h

pub on_ok : {A E : Type 0} {P Q : Type 0} (r : Result A E) → (P → Q) → OnOk r P → OnOk r Q
on_ok (Ok x) f p = f p
on_ok (Err e) f p = tt

pub listed-stored : (es : List Entry) (i : ℕ) (w : StoreSlot) → stored_at es i ≡ Some w → is_listed es i ≡ w.listed
listed-stored [] i w e = absurd cc
listed-stored (x ∷ es) zero w e = ap (λ (o : Option StoreSlot). when_some o false (λ (v : StoreSlot). v.listed)) e
listed-stored (x ∷ es) (suc i) w e = listed-stored es i w e
