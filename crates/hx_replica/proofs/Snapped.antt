-- What a server makes that gets a snapshot.
use Rattle.std.proofs.Common.{◌≡◌, ℕ, ◌+◌, ◌≤◌, Bool, Box, Global, true, false, not, cond, List, [], ◌∷◌, ◌++◌, map}
use Rattle.std.proofs.Common.{get_or, Option, None, Some, refl, ap, append_assoc, sym, ◌∙◌, subst}
use Rattle.std.specs.Prelude.{IsTrue}
use Rattle.std.specs.List.{AllByRecursion, slice_get}
use Rattle.std.specs.Option.{option_map}
use Rattle.std.proofs.lemmas.Bool.{cond-true, cond-false}
use Rattle.std.proofs.lemmas.List.Elements.{All-weaker}
use Rattle.hx_model.specs.Types.{Actor, Config, Epoch, Kept, Mark, Message, Post, RegionId, Row, Space, Touch, Update}
use Rattle.hx_types.specs.declared.messages.Message.TheVariants as a_message
use Rattle.hx_types.specs.Posts.{Bounds, IsSoundKept, IsSoundMessage, IsSoundUpdate, has_place_in}
use Rattle.hx_types.specs.Spaces.{IsAnswerOf, IsMaybeRowUpTo, IsRegionOf, IsConfigOf}
use Rattle.hx_types.specs.Subspaces.{is_key_region}
use Rattle.hx_model.specs.Hearing.{hears_snap}
use Rattle.hx_model.specs.ServerSteps.{Replica as ReplicaState, ServerState, ServerStep, Slots, context_of}
use Rattle.hx_model.specs.ServerSteps.{installed_slots, keys_of, ready_post, replica_for, replica_of, saying, snapped}
use Rattle.hx_model.specs.ServerSteps.{state_from, unmoved, with_replica, with_slots}
use Rattle.hx_model.specs.Slots.{KeyState}
use Rattle.hx_law_folds.specs.Folding.{folded, folded_replica, folded_server}
use Rattle.hx_law_folds.proofs.Lemmas.{with-replica-folded, keys-pass}
use Rattle.hx_slot.specs.States.{IsOrderly, IsRowUpTo}
use Rattle.hx_store.specs.Stores.{StoreState}
use Rattle.hx_replica.specs.declared.prepared.Change.TheVariants as a_change
use Rattle.hx_replica.specs.declared.replicas.Replica.{Replica}
use Rattle.hx_replica.specs.declared.servers.Server.TheInside.{Inside}
use Rattle.hx_replica.specs.Invariant.{value_of}
use Rattle.hx_replica.specs.Installing.{CanCome, IsSnapshot}
use Rattle.hx_replica.specs.Plans.{CanHear, IsChange, IsJoinOn}
use Rattle.hx_replica.specs.Replicas.{view_of}
use Rattle.hx_replica.specs.Servers.{ServerValue}
use Rattle.hx_replica.proofs.Asking.{placed}
use Rattle.hx_replica.proofs.Changing.{view_at}
use Rattle.hx_replica.proofs.Hearing.{found_region, replica_for_found}
use Rattle.hx_replica.proofs.Joined.{from_marked, joined_marked}
use Rattle.hx_replica.proofs.Planning.{found_there}

row_up_to : (space : Space) (floor : ℕ) (o : Option Row) → IsMaybeRowUpTo space floor o → IsRowUpTo floor o
row_up_to space floor None h = tt
row_up_to space floor (Some r) h = h.1

orderly_kept : (b : Bounds) (k : Kept) → IsSoundKept b k → IsOrderly k
orderly_kept b k h = record {
  row = row_up_to b.space k.floor.0 k.object h.of_space.row;
  marks = All-weaker (λ (m : Mark). (m.version.0 ≤ k.floor.0) × IsAnswerOf b.space m.answer)
      (λ (m : Mark). m.version.0 ≤ k.floor.0) (λ m p. p.0) k.marks h.of_space.marks;
  touches = All-weaker (λ (t : Touch). (t.version.0 ≤ k.floor.0) × IsRegionOf b.space t.region)
      (λ (t : Touch). t.version.0 ≤ k.floor.0) (λ t p. p.0) k.touches h.of_space.touches;
  sessions_ascend = h.of_space.sessions_ascend;
  regions_ascend = h.of_space.regions_ascend;
}

sound_snapshot : (b : Bounds) (epoch : Epoch) (g : RegionId) (snapshot : List Kept) (pending : List Update)
    → IsSoundMessage b (a_message.Snap epoch g snapshot pending) → IsSnapshot g snapshot pending
sound_snapshot b epoch g snapshot pending h = record {
  ascend = keys-pass snapshot h.3;
  orderly = All-weaker (IsSoundKept b) IsOrderly (orderly_kept b) snapshot h.2;
  coming = All-weaker (λ (u : Update). IsSoundUpdate b u × IsTrue (has_place_in g u.places)) (CanCome g)
      (λ (u : Update) (p : IsSoundUpdate b u × IsTrue (has_place_in g u.places)). record {
        placed =
            placed g u.places p.1;
        few = p.0.of_space.few;
        after = p.0.of_space.after;
      }) pending h.4;
}

-- a snapshot that a server can take
pub snapshot_taken : (v : ServerValue) (from : Actor) (m : Message) (epoch : Epoch) (g : RegionId)
    (snapshot : List Kept) (pending : List Update) → CanHear v.space v.state from m → m ≡ a_message.Snap epoch g snapshot pending
    → IsSnapshot g snapshot pending
snapshot_taken v from m epoch g snapshot pending hears is =
    let sound = hears.can.input_to in
    sound_snapshot (record { space = v.space; sessions = sound.sessions; most = sound.entry + 1 }) epoch g snapshot pending
    (subst (IsSoundMessage (record { space = v.space; sessions = sound.sessions; most = sound.entry + 1 })) is sound.sound.message)

-- a configuration that a server can adopt
pub config_taken : (v : ServerValue) (from : Actor) (m : Message) (config : Config) → CanHear v.space v.state from m
    → m ≡ a_message.Install config → IsConfigOf v.space config
config_taken v from m config hears is =
    let sound = hears.can.input_to in
    (subst (IsSoundMessage (record { space = v.space; sessions = sound.sessions; most = sound.entry + 1 })) is sound.sound.message).1

-- the replica that takes it
pub record IsTakenBy (v : ServerValue) (g : RegionId) (number : ℕ) (y : Replica) : Type 0 where
  pub takes : replica_for v.state g ≡ Some (view_of y)
  pub found : slice_get v.state.replicas number ≡ Some (view_of y)
  pub region : y.region ≡ g

pub taken_by : (i : Inside) (g : RegionId) (number : ℕ) (y : Replica) → y ≡ get_or i.replicas.items number y
    → Some (slice_get (value_of i).state.replicas number)
    ≡ option_map (λ (r : ReplicaState). Some r) (replica_for (value_of i).state g) → IsTakenBy (value_of i) g number y
taken_by i g number y is at =
    let s : ServerState = (value_of i).state in
    let there = found_there s.replicas number (replica_for s g) at in
    let same : there.replica ≡ view_of y = sym (ap view_of is ∙ view_at i.replicas.items number y there.replica there.at_place) in
    record {
      takes = there.is ∙ ap (λ (r : ReplicaState). Some r) same;
      found = there.at_place ∙ ap (λ (r : ReplicaState). Some r) same;
      region = ap (λ (r : ReplicaState). r.region) (sym same) ∙ found_region g s.replicas there.replica (replica_for_found s g there.replica there.is);
    }

folded_marked : (g : RegionId) (b : Bool) (states : List KeyState)
    → AllByRecursion (λ (t : KeyState). t.marks ≡ b) states
    → AllByRecursion (λ (t : KeyState). t.marks ≡ b) (map (folded g) states)
folded_marked g b [] h = tt
folded_marked g b (s ∷ rest) h = (h.0, folded_marked g b rest h.1)

-- whether the server hears it, by its parts
pub unheard : (i : Inside) (v : ServerValue) (from : Actor) (g : RegionId) → value_of i ≡ v
    → hears_snap i.config g i.id from ≡ false → hears_snap v.state.config g v.state.id from ≡ false
unheard i v from g seen out = ap (λ (x : ServerValue). hears_snap x.state.config g x.state.id from) (sym seen) ∙ out

module _ (v : ServerValue) (from : Actor) (g : RegionId) (snapshot : List Kept) (pending : List Update) where
  abbrev s : ServerState
  s = v.state

  abbrev step : ServerStep
  step = snapped v.space s from snapshot pending (replica_for s g)

  -- it isn't heard
  pub unheard_step : hears_snap s.config g s.id from ≡ false → step ≡ unmoved s
  unheard_step out = by (replica_for s g) (replica_for_found s g)
    where
      by : (o : Option ReplicaState) → ((r : ReplicaState) → o ≡ Some r → replica_of g s.replicas ≡ Some r)
          → snapped v.space s from snapshot pending o ≡ unmoved s
      by None f = refl
      by (Some r) f =
          cond-true _ (unmoved s) _
          (ap not (ap (λ (h : RegionId). hears_snap s.config h s.id from) (found_region g s.replicas r (f r refl)) ∙ out))

  module _ (number : ℕ) (y : Replica) (taken : IsTakenBy v g number y) (hears : hears_snap s.config g s.id from ≡ true) where
    -- it is heard
    heard_step : step ≡ cond y.installed (saying s (ready_post s y.region))
        (with_slots s (view_of y) (installed_slots (context_of v.space s y.region) snapshot pending))
    heard_step =
        ap (snapped v.space s from snapshot pending) taken.takes
        ∙ cond-false _ (unmoved s) _ (ap not (ap (λ (h : RegionId). hears_snap s.config h s.id from) taken.region ∙ hears))

    -- it was installed before
    pub ready_step : y.installed ≡ true → step ≡ saying s (ready_post s g)
    ready_step installed =
        heard_step ∙ cond-true y.installed (saying s (ready_post s y.region)) _ installed
        ∙ ap (λ (h : RegionId). saying s (ready_post s h)) taken.region

    -- it is installed now
    abbrev slots : Slots
    slots = installed_slots (context_of v.space s g) snapshot pending

    pub join_step : y.installed ≡ false → step ≡ with_slots s (record { region = g; installed = false; states = [] }) slots
    join_step out =
        let at : RegionId → ServerStep =
        λ h. with_slots s (record { region = h; installed = false; states = [] }) (installed_slots (context_of v.space s h) snapshot pending) in
        heard_step ∙ cond-false y.installed (saying s (ready_post s y.region)) _ out ∙ ap at taken.region

    pub join_posts : (old new : List Post) → y.installed ≡ false → new ≡ (old ++ slots.posts) ++ ready_post s g → new ≡ old ++ step.posts
    join_posts old new out p = p ∙ append_assoc old slots.posts (ready_post s g) ∙ ap (λ (t : ServerStep). old ++ t.posts) (sym (join_step out))

    pub join_change : (store : StoreState) (boxed : Box Replica Global) → folded_server v.state ≡ v.state → y.installed ≡ false → store.region ≡ g
        → store.keeps_marks ≡ is_key_region v.space g → store.states ≡ map (folded g) slots.states
        → boxed.value ≡ record { region = g; installed = true; store = store } → IsChange v step.state (a_change.Join number boxed)
    join_change store boxed bare out region marks states held =
        let new : ReplicaState = record { region = g; installed = true; states = slots.states } in
        let view : folded_replica new ≡ record { region = g; installed = true; states = store.states } =
        ap (λ (l : List KeyState). record { region = g; installed = true; states = l }) (sym states) in
        subst (λ (r : Replica). IsJoinOn v step.state number r) (sym held)
        (record {
          before = view_of y;
          found = taken.found;
          region = sym taken.region;
          is = record {
            region = region;
            marks = marks;
            marked = subst (AllByRecursion (λ (t : KeyState). t.marks ≡ is_key_region v.space g)) (sym states)
                (folded_marked g (is_key_region v.space g) slots.states
                (joined_marked (context_of v.space s g) pending (keys_of pending)
                (record { states = map (state_from (is_key_region v.space g)) snapshot; posts = [] })
                (from_marked (is_key_region v.space g) snapshot)));
          };
          state = ap (λ (t : ServerStep). folded_server t.state) (join_step out)
              ∙ ap (λ (l : List ReplicaState). record s { replicas = l })
              (with-replica-folded new s.replicas ∙ ap (with_replica (folded_replica new))
              (ap (λ (x : ServerState). x.replicas) bare) ∙ ap (λ (r : ReplicaState). with_replica r s.replicas) view);
        })
