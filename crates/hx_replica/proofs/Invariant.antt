-- What contracts see of a server in which one replica's store was put in place of another.
use Rattle.std.proofs.Common.{◌≡◌, ℕ, Bool, Box, Global, true, false, cond, ◌||◌, ◌∷◌, ◌<◌, ◌≤◌, List, [], length}
use Rattle.std.proofs.Common.{get_or, set, Option, None, Some, Result, Ok, Err, IfOk, refl, ap, sym, ◌∙◌, subst, arith}
use Rattle.std.specs.Prelude.{IfNone, IfSome, IsSomeAnd, is_some}
use Rattle.std.specs.List.{AllByRecursion, slice_get}
use Rattle.std.specs.Option.{option_map}
use Rattle.std.proofs.lemmas.Bool.{false≢true}
use Rattle.std.proofs.lemmas.List.{get_or-map, length-map, map-set}
use Rattle.std.proofs.lemmas.Option.{same_Some, slice_get-get_or, slice_get_within}
use Rattle.hx_model.specs.Types.{RegionId, Space}
use Rattle.hx_types.specs.Subspaces.{is_key_region}
use Rattle.hx_types.specs.Words.{same_text, when_some}
use Rattle.hx_model.specs.ServerSteps.{Replica as ReplicaState, ServerState, replica_of, state_in, with_replica, with_slot}
use Rattle.hx_model.specs.Slots.{KeyState, new_state, state_among}
use Rattle.hx_store.specs.Stores.{IsPlace, Room, has_slot, StoreState, after_step, key_at, spare_at, state_at}
use Rattle.hx_law_folds.specs.Folding.{folded_server}
use Rattle.hx_replica.specs.declared.outputs.SlotChange.{SlotChange}
use Rattle.hx_replica.specs.declared.prepared.Change.{Change}
use Rattle.hx_replica.specs.declared.prepared.Change.TheVariants as a_change
use Rattle.hx_replica.specs.declared.replicas.Replica.{Replica}
use Rattle.hx_replica.specs.declared.servers.Server.TheInside.{Inside}
use Rattle.hx_replica.specs.Invariant.{IsServer, value_of}
use Rattle.hx_replica.specs.Outputs.{ChangeFits, HasRoomFor, room_of, stepped}
use Rattle.hx_replica.specs.Plans.{HasRoomAt, IsChange, IsChangeOn, IsJoinOn}
use Rattle.hx_replica.specs.Replicas.{AreReplicas, IsReplicaIn, rooms_of, view_of, views_of}
use Rattle.hx_replica.specs.Servers.{ServerValue}
use Rattle.hx_replica.proofs.Asking.{AreMarked}
use Rattle.hx_replica.proofs.Changing.{below_views, changed_views, put, put_there, replica_at, set_is_with, set_replicas, view_at}
use Rattle.hx_replica.proofs.Hearing.{found_region}
use Rattle.hx_replica.proofs.Planning.{found_there}

-- the server's slots keep marks at key regions
pub marked_inside : (i : Inside) (v : ServerValue) → value_of i ≡ v → IsServer i → AreMarked v
marked_inside i v seen is = subst AreMarked seen (λ place r e.
    let rs = i.replicas.items in
    let d : Replica = record {
      region = r.region;
      installed = r.installed;
      store = record {
        region = r.region;
        keeps_marks = is_key_region i.space r.region;
        attributes = 0;
        states = [];
        rooms = [];
        ordered = true;
      };
    } in
    subst (λ (z : ReplicaState). AllByRecursion (λ (t : KeyState). t.marks ≡ is_key_region i.space z.region) z.states) (view_at rs place d r e)
    (replica_at i.space rs place d is.replicas_are.each (below_views rs place r e)).marked)

-- so many replicas are inside
pub within : (i : Inside) (v : ServerValue) (place : ℕ) → value_of i ≡ v → place < length v.state.replicas → place < length i.replicas.items
within i v place seen l =
    let n = length-map i.replicas.items view_of in
    let m : length (views_of i.replicas.items) ≡ length v.state.replicas = ap (λ (x : ServerValue). length x.state.replicas) seen in
    omega (arith, n, m)

-- the state with these replicas
abbrev pub with_views : Inside → List ReplicaState → ServerState
with_views i views = record { id = i.id; config = i.config; halted = i.halted; replicas = views }

pub at_some : {A : Type 0} (P : A → Type 0) (o : Option A) (x : A) → o ≡ Some x → P x → IsSomeAnd o P
at_some P o x e p = subst (λ (z : Option _). IsSomeAnd z P) (sym e) p

-- the place of a key in a store, with room there
pub record IsRoomFor (s : StoreState) (key : List ℕ) (n place : ℕ) : Type 0 where
  pub is : IsPlace s place key
  pub enough : n ≤ spare_at s place

pub room_for : (s : StoreState) (key : List ℕ) (n place : ℕ) → IsPlace s place key → n ≤ spare_at s place → HasRoomFor key n place s.rooms
room_for s key n place is enough =
    let none : Room = record { key = []; spare = 0 } in
    let r : Room = get_or s.rooms place none in
    let e : slice_get s.rooms place ≡ Some r = slice_get-get_or s.rooms place none is.within in
    at_some (λ (x : Room). (x.key ≡ key) × (n ≤ x.spare)) (slice_get s.rooms place) r e (
      sym (ap (λ (o : Option Room). when_some o [] (λ (x : Room). x.key)) e) ∙ is.key_is,
      subst (λ (o : Option Room). n ≤ when_some o 0 (λ (x : Room). x.spare)) e enough,
    )

pub is_room_for : (s : StoreState) (key : List ℕ) (n place : ℕ) → HasRoomFor key n place s.rooms → IsRoomFor s key n place
is_room_for s key n place h = by (slice_get s.rooms place) refl h
  where
    by : (o : Option Room) → slice_get s.rooms place ≡ o → IsSomeAnd o (λ (x : Room). (x.key ≡ key) × (n ≤ x.spare)) → IsRoomFor s key n place
    by None e k = absurd k
    by (Some r) e k = record {
      is = record { within = slice_get_within s.rooms place r e; key_is = ap (λ (o : Option Room). when_some o [] (λ (x : Room). x.key)) e ∙ k.0 };
      enough = subst (λ (o : Option Room). n ≤ when_some o 0 (λ (x : Room). x.spare)) (sym e) k.1;
    }

pub ok_both : {T E : Type 0} (r : Result T E) (P Q R : T → Type 0) → ((x : T) → P x → Q x → R x) → IfOk r P → IfOk r Q → IfOk r R
ok_both (Ok x) P Q R f p q = f x p q
ok_both (Err e) P Q R f p q = tt

-- the replica at a number, as contracts see it
pub view_there : (i : Inside) (v : ServerValue) (number : ℕ) (y : Replica) → value_of i ≡ v
    → number < length i.replicas.items → y ≡ get_or i.replicas.items number y
    → slice_get v.state.replicas number ≡ Some (view_of y)
view_there i v number y seen l is =
    ap (λ (x : ServerValue). slice_get x.state.replicas number) (sym seen)
    ∙ slice_get-get_or (views_of i.replicas.items) number (view_of y) (let n = length-map i.replicas.items view_of in omega (arith, n))
    ∙ ap (λ (z : ReplicaState). Some z) (get_or-map view_of i.replicas.items number y (view_of y) l ∙ ap view_of (sym is))

-- its room
pub placed_at : (i : Inside) (v : ServerValue) (number : ℕ) (key : List ℕ) (n place : ℕ) (y : Replica)
    → value_of i ≡ v → number < length i.replicas.items → y ≡ get_or i.replicas.items number y → HasRoomAt number key n v place
    → IsRoomFor y.store key n place
placed_at i v number key n place y seen l is room =
    let f : Replica → List Room = λ r. r.store.rooms in
    let at : slice_get v.rooms number ≡ Some y.store.rooms =
    ap (λ (x : ServerValue). slice_get x.rooms number) (sym seen)
    ∙ slice_get-get_or (rooms_of i.replicas.items) number y.store.rooms (let m = length-map i.replicas.items f in omega (arith, m))
    ∙ ap (λ (z : List Room). Some z) (get_or-map f i.replicas.items number y y.store.rooms l ∙ ap f (sym is)) in
    is_room_for y.store key n place (subst (λ (o : Option (List Room)). IsSomeAnd o (HasRoomFor key n place)) at room)

-- room that was made
pub room_there : (i : Inside) (number : ℕ) (key : List ℕ) (n place : ℕ) (y : Replica) (store : StoreState)
    (is : IsServer i) (l : number < length i.replicas.items) (at : y ≡ get_or i.replicas.items number y)
    → IsPlace store place key → n ≤ spare_at store place
    → IsSomeAnd (slice_get (rooms_of (set i.replicas.items number
    (put i.space i.replicas.items number y store is.replicas_are l at))) number) (HasRoomFor key n place)
room_there i number key n place y store is l at here enough =
    at_some (HasRoomFor key n place) _ store.rooms
    (put_there i.space i.replicas.items number y store is.replicas_are l at (λ (r : Replica). r.store.rooms))
    (room_for store key n place here enough)

-- the change of a plan that changes a slot
pub planned : (v : ServerValue) (after : ServerState) (change : Change) (number place : ℕ) (slot : SlotChange) → change ≡ a_change.Slot number place slot
    → IsChange v after change → IsChangeOn v after number place slot
planned v after change number place slot e h = subst (IsChange v after) e h

-- the state after it
pub changed_state : (i : Inside) (v : ServerValue) (after : ServerState) (number place : ℕ) (slot : SlotChange) (y : Replica) (store : StoreState)
    → value_of i ≡ v → (is : IsServer i) → (h : IsChangeOn v after number place slot)
    → (l : number < length i.replicas.items) (at : y ≡ get_or i.replicas.items number y)
    → store.states ≡ after_step y.store h.key (stepped slot)
    → with_views i (views_of (set i.replicas.items number (put i.space i.replicas.items number y store is.replicas_are l at))) ≡ folded_server after
changed_state i v after number place slot y store seen is h l at states =
    ap (with_views i) (changed_views i.space i.replicas.items number y store is.replicas_are l at h.key slot h.replica
    (ap (λ (x : ServerValue). slice_get x.state.replicas number) seen ∙ h.found) states)
    ∙ ap (λ (x : ServerValue). with_slot x.state h.replica (stepped slot h.replica.region (state_in x.space h.replica h.key))) seen
    ∙ sym h.state

-- the number is that of a replica
pub change_within : (i : Inside) (v : ServerValue) (after : ServerState) (number place : ℕ) (slot : SlotChange) → value_of i ≡ v
    → IsChangeOn v after number place slot → number < length i.replicas.items
change_within i v after number place slot seen h = within i v number seen (slice_get_within v.state.replicas number h.replica h.found)

-- its store has room for the change, and the slot can make it
pub record CanChange (y : Replica) (key : List ℕ) (place : ℕ) (slot : SlotChange) : Type 0 where
  pub key_is : key_at y.store place ≡ key
  pub room : HasRoomFor (key_at y.store place) (room_of slot) place y.store.rooms
  pub fits : ChangeFits y.store.region (state_at y.store (key_at y.store place)) (key_at y.store place) slot

pub can_change : (i : Inside) (v : ServerValue) (after : ServerState) (number place : ℕ) (slot : SlotChange) (y : Replica) → value_of i ≡ v
    → (is : IsServer i) → (h : IsChangeOn v after number place slot) → y ≡ get_or i.replicas.items number y → CanChange y h.key place slot
can_change i v after number place slot y seen is h at =
    let l = change_within i v after number place slot seen h in
    let room = placed_at i v number h.key (room_of slot) place y seen l at h.room in
    let holds : IsReplicaIn i.space y = subst (IsReplicaIn i.space) (sym at) (replica_at i.space i.replicas.items number y is.replicas_are.each l) in
    let same : view_of y ≡ h.replica = same_Some (view_of y) h.replica (sym (view_there i v number y seen l at) ∙ h.found) in
    let Fits : ServerValue → ReplicaState → Type 0 = λ x z. ChangeFits z.region (state_in x.space z h.key) h.key slot in
    let fits : Fits (value_of i) (view_of y) = subst (λ (z : ReplicaState). Fits (value_of i) z) (sym same)
    (subst (λ (x : ServerValue). Fits x h.replica) (sym seen) h.fits) in
    record {
      key_is = room.is.key_is;
      room = subst (λ (k : List ℕ). HasRoomFor k (room_of slot) place y.store.rooms) (sym room.is.key_is)
          (room_for y.store h.key (room_of slot) place room.is room.enough);
      fits = subst (λ (k : List ℕ). ChangeFits y.store.region (state_at y.store k) k slot) (sym room.is.key_is)
          (subst (λ (b : Bool). ChangeFits y.store.region (state_among b h.key y.store.states) h.key slot) (sym holds.marks)
          (subst (λ (g : RegionId). ChangeFits g (state_in i.space (view_of y) h.key) h.key slot) (sym holds.region) fits));
    }

-- a replica that was installed takes the place of the one before
pub join_of : (v : ServerValue) (after : ServerState) (change : Change) (number : ℕ) (replica : Box Replica Global) → change ≡ a_change.Join number replica
    → IsChange v after change → IsJoinOn v after number replica.value
join_of v after change number replica e h = subst (IsChange v after) e h

module _ (i : Inside) (v : ServerValue) (after : ServerState) (number : ℕ) (replica : Replica) (seen : value_of i ≡ v) (is : IsServer i)
    (h : IsJoinOn v after number replica) where
  abbrev rs : List Replica
  rs = i.replicas.items

  at_number : slice_get (views_of rs) number ≡ Some h.before
  at_number = ap (λ (x : ServerValue). slice_get x.state.replicas number) seen ∙ h.found

  pub joined_replicas : AreReplicas i.space (set rs number replica)
  joined_replicas =
      set_replicas i.space rs number replica is.replicas_are (subst (λ (x : Space). IsReplicaIn x replica) (sym (ap (λ (x : ServerValue). x.space) seen)) h.is)
      (h.region ∙ ap (λ (r : ReplicaState). r.region) (sym (view_at rs number replica h.before at_number)))

  pub joined_server : with_views i (views_of (set rs number replica)) ≡ folded_server after
  joined_server =
      ap (with_views i) (map-set view_of rs number replica ∙ set_is_with rs number (view_of replica) h.before is.replicas_are.ascend at_number h.region)
      ∙ ap (λ (x : ServerValue). record x.state { replicas = with_replica (view_of replica) x.state.replicas }) seen
      ∙ sym h.state

-- the replica that was found of a region, and its store
pub record IsHere (i : Inside) (v : ServerValue) (g : RegionId) (y : Replica) : Type 0 where
  pub found : replica_of g v.state.replicas ≡ Some (view_of y)
  pub region : y.store.region ≡ g
  pub state : (key : List ℕ) → state_at y.store key ≡ state_in v.space (view_of y) key
  pub empty : (key : List ℕ) → new_state y.store.keeps_marks key ≡ new_state (is_key_region v.space g) key

pub is_here : (i : Inside) (v : ServerValue) (g : RegionId) (place : ℕ) (y : Replica) → value_of i ≡ v → IsServer i → y ≡ get_or i.replicas.items place y
    → Some (slice_get (views_of i.replicas.items) place) ≡ option_map (λ (r : ReplicaState). Some r) (replica_of g (views_of i.replicas.items)) → IsHere i v g y
is_here i v g place y seen is at found =
    let rs = i.replicas.items in
    let there = found_there (views_of rs) place (replica_of g (views_of rs)) found in
    let l : place < length rs = below_views rs place there.replica there.at_place in
    let same : view_of y ≡ there.replica = ap view_of at ∙ view_at rs place y there.replica there.at_place in
    let holds : IsReplicaIn i.space y = subst (IsReplicaIn i.space) (sym at) (replica_at i.space rs place y is.replicas_are.each l) in
    let region : y.region ≡ g = ap (λ (r : ReplicaState). r.region) same ∙ found_region g (views_of rs) there.replica there.is in
    let space : i.space ≡ v.space = ap (λ (x : ServerValue). x.space) seen in
    let marks : y.store.keeps_marks ≡ is_key_region v.space y.region = holds.marks ∙ ap (λ (x : Space). is_key_region x y.region) space in
    record {
      found = ap (λ (x : ServerValue). replica_of g x.state.replicas) (sym seen) ∙ there.is ∙ ap (λ (r : ReplicaState). Some r) (sym same);
      region = holds.region ∙ region;
      state = λ key. ap (λ (b : Bool). state_among b key y.store.states) marks;
      empty = λ key. ap (λ (b : Bool). new_state b key) (marks ∙ ap (is_key_region v.space) region);
    }

pub if_none_then : {A Q : Type 0} (o : Option A) (b : Bool) → is_some o ≡ b → (b ≡ false → Q) → IfNone o Q
if_none_then None b e f = f (sym e)
if_none_then (Some x) b e f = tt

-- a key of which there is no slot has an empty one
pub no_slot : (marks : Bool) (key : List ℕ) (states : List KeyState) → has_slot key states ≡ false → state_among marks key states ≡ new_state marks key
no_slot marks key [] e = refl
no_slot marks key (s ∷ rest) e = by (same_text s.base.key key) (no_slot marks key rest) e
  where
    by : (t : Bool) → (has_slot key rest ≡ false → state_among marks key rest ≡ new_state marks key)
        → (t || has_slot key rest) ≡ false → cond t s (state_among marks key rest) ≡ new_state marks key
    by true more e = absurd (false≢true (sym e))
    by false more e = more e

pub if_there : {A : Type 0} (P : A → Type 0) (o : Option A) (x : A) → o ≡ Some x → P x → IfSome o P
if_there P o x e p = subst (λ (z : Option _). IfSome z P) (sym e) p
