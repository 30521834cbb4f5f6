-- What each step of a server posts and notes, whatever it takes: of snapshots its replicas'.
use Rattle.hx_law_lemmas.proofs.Lemmas.Vocabulary.{[], adopted, adopted_posts, asking_last, at_slot, Config, context_of, Coordinator, false, flat_map, found_in}
use Rattle.hx_law_lemmas.proofs.Lemmas.Vocabulary.{halting, inl, Input, installed_slots, is_active, is_key_region, IsIn, joiner_for, Kept, keys_of, KeyState}
use Rattle.hx_law_lemmas.proofs.Lemmas.Vocabulary.{List, listed_regions, lists_joining, ltb, map, meeting, Message, None, Option, passed_on, pending_of}
use Rattle.hx_law_lemmas.proofs.Lemmas.Vocabulary.{pending_of_all, pending_posts, poll_post, Post, post, provided, ready_post, refl, RegionId, Replica}
use Rattle.hx_law_lemmas.proofs.Lemmas.Vocabulary.{replica_of, replica_or_new, replica_tick, resumed_posts, saying, Server, server_step, ServerId, ServerState}
use Rattle.hx_law_lemmas.proofs.Lemmas.Vocabulary.{ServerStep, SlotContext, SlotStep, snap_posts, snap_to, snapshot_of, Some, Space, state_from, state_in}
use Rattle.hx_law_lemmas.proofs.Lemmas.Vocabulary.{subst, sym, tick_step, Update, with_config, with_slots, ⊤, ◌++◌, ◌∷◌}
use Rattle.hx_types.specs.declared.messages.Message.TheVariants as a_message
use Rattle.hx_model.proofs.Lemmas.{ServerCases, server-cases}
use Rattle.hx_law_lemmas.proofs.Lemmas.{each-append, each-flat, each-one, each-provided, in-map, replica-found, when_some_both}
use Rattle.hx_law_epochs.specs.Senders.{IsOfServer}
use Rattle.hx_law_epochs.proofs.SlotPosts.{AssignsOne, OfSlot, SlotSays, SlotTells, ack-tells, call-tells, joined-of, pending-of, resumed-of, update-tells}

-- what servers post, and of which snapshots
abbrev pub OfServer : (RegionId → List Kept → List Update → Type 0) → Message → Type 0
OfServer Sent (a_message.Snap epoch g snapshot pending) = Sent g snapshot pending
OfServer Sent other = IsOfServer other

-- whatever snapshot is sent
abbrev pub AnySnapshot : RegionId → List Kept → List Update → Type 0
AnySnapshot g snapshot pending = ⊤

module _ (Sent : RegionId → List Kept → List Update → Type 0) where
  -- a post is such
  abbrev Of : Post → Type 0
  Of p = OfServer Sent p.message

  -- all of some posts are such
  abbrev pub AllOf : List Post → Type 0
  AllOf ps = (p : Post) → IsIn p ps → OfServer Sent p.message

  -- the replica's snapshot may be sent
  abbrev pub MaySend : Replica → Type 0
  MaySend r = Sent r.region (snapshot_of r.region r.states) (pending_of_all r.states)

  -- what a slot says
  slot-says : (c : Config) (m : Message) → SlotSays c m → OfServer Sent m
  slot-says c (a_message.Update epoch g u) h = tt
  slot-says c (a_message.Ack epoch g by key version) h = tt
  slot-says c (a_message.Reply number version answer) h = tt
  slot-says c other h = absurd h

  -- posts of a slot
  of-slot : (context : SlotContext) (ps : List Post) → ((p : Post) → IsIn p ps → OfSlot context p) → AllOf ps
  of-slot context ps h p i = slot-says context.config p.message (h p i).1

  -- what is said of a joiner
  readies : (s : ServerState) (g : RegionId) → AllOf (ready_post s g)
  readies s g = each-provided Of (lists_joining s.config g s.id) _ (each-one Of (post (Server s.id) Coordinator (a_message.Ready s.config.epoch g)) tt)

  -- what an active replica posts: a snapshot, posts of its slots, and that it is ready
  active : (s : ServerState) (r : Replica) → MaySend r → (ps : List Post) → AllOf ps
      → AllOf (provided (is_active s.config r) (snap_posts s r ++ ps ++ ready_post s r.region))
  active s r may ps h =
      each-provided Of (is_active s.config r) _ (each-append Of (snap_posts s r ++ ps) (ready_post s r.region)
      (each-append Of (snap_posts s r) ps (snaps (joiner_for s.config r.region s.id)) h) (readies s r.region))
    where
      snaps : (o : Option ServerId) → AllOf (snap_to s r o)
      snaps None = λ p i. absurd i
      snaps (Some j) = each-one Of _ may

  -- ---- a server's step

  -- what it posts and notes
  pub record Plain (step : ServerStep) : Type 0 where
    pub posts : (p : Post) → IsIn p step.posts → OfServer Sent p.message
    pub notes : AssignsOne step.notes

  -- posts alone
  says : (s : ServerState) (ps : List Post) → AllOf ps → Plain (saying s ps)
  says s ps h = record { posts = h; notes = inl refl }

  -- one slot
  at-slot : (context : SlotContext) (s : ServerState) (r : Replica) (t : KeyState) (step : SlotStep) → SlotTells context step → Plain (at_slot s r t step)
  at-slot context s r t step w = record { posts = of-slot context step.posts w.posts; notes = w.notes }

  -- who meets a higher epoch asks first
  meets : (s : ServerState) (epoch : _) (step : ServerStep) → Plain step → Plain (meeting s epoch step)
  meets s epoch step h = record {
    posts = each-append Of _ step.posts (each-provided Of (ltb s.config.epoch.0 epoch.0) (poll_post s ∷ []) (each-one Of (poll_post s) tt)) h.posts;
    notes = h.notes;
  }

  -- a halt
  halts : (s : ServerState) → Plain (halting s)
  halts s = record { posts = each-one Of (post (Server s.id) Coordinator a_message.Gone) tt; notes = inl refl }

  -- a snapshot at a replica that isn't installed
  takes : (space : Space) (s : ServerState) (snapshot : List Kept) (pending : List Update) (r : Replica)
      → Plain (with_slots s r (installed_slots (context_of space s r.region) snapshot pending))
  takes space s snapshot pending r =
      let context = context_of space s r.region in
      record {
        posts = each-append Of (installed_slots context snapshot pending).posts (ready_post s r.region)
            (of-slot context _ (joined-of context pending (keys_of pending)
            (record { states = map (state_from (is_key_region space r.region)) snapshot; posts = [] }) (λ p i. absurd i)))
            (readies s r.region);
        notes = inl refl;
      }

  -- a poll after what is posted
  asks-last : (s : ServerState) (ps : List Post) → AllOf ps → AllOf (asking_last s ps)
  asks-last s [] h = h
  asks-last s (p ∷ ps) h = each-append Of (p ∷ ps) (poll_post s ∷ []) h (each-one Of (poll_post s) tt)

  -- a tick
  ticks : (space : Space) (s : ServerState) → ((r : Replica) → IsIn r s.replicas → MaySend r) → Plain (tick_step space s)
  ticks space s may =
      says s _ (asks-last s (flat_map (replica_tick space s) s.replicas) (each-flat Of (replica_tick space s) s.replicas
      (λ r i. let context = context_of space s r.region in active s r (may r i) (pending_posts context r.states)
      (each-flat Of (λ (t : KeyState). flat_map (passed_on context) (pending_of t)) r.states (λ t j. of-slot context _ (pending-of context (pending_of t)))))))

  -- a configuration that is adopted
  adopts : (space : Space) (s : ServerState) → ((r : Replica) → IsIn r s.replicas → MaySend r) → Plain (adopted space s)
  adopts space s may = record {
    posts = each-flat Of (adopted_posts space s) s.replicas
        (λ r i. let context = context_of space s r.region in active s r (may r i) (flat_map (resumed_posts context) r.states)
        (each-flat Of (resumed_posts context) r.states (λ t j. of-slot context _ (resumed-of context t))));
    notes = inl refl;
  }

  module _ (space : Space) (s : ServerState) (may : (r : Replica) → IsIn r s.replicas → MaySend r)
      (new : (g : RegionId) → MaySend (record { region = g; installed = false; states = [] })) where
    -- the replicas of a newer configuration
    newer : (c : Config) (r : Replica) → IsIn r (with_config s c).replicas → MaySend r
    newer c r i =
        let m = in-map (replica_or_new s.replicas) (listed_regions c s.id) r i in
        subst MaySend (sym m.2)
        (when_some_both (replica_of m.0 s.replicas) (record { region = m.0; installed = false; states = [] }) (λ (y : Replica). y) MaySend
        (λ e. new m.0)
        (λ y e. may y (replica-found m.0 s.replicas y e).0))

    -- each case
    cases : (input : Input) → ServerCases space s input Plain
    cases input = record {
      rests = says s [] (λ p i. absurd i);
      met = meets s;
      ticks = ticks space s may;
      halts = λ e. halts s;
      dies = λ id from e. halts s;
      call = λ id u epoch number op key r e z q l. (let context = context_of space s r.region in
          at-slot context s r (state_in space r key) _ (call-tells context (state_in space r key) (record { session = u; number = number }) op));
      update = λ id from epoch g u r e z t. (let context = context_of space s r.region in
          at-slot context s r (state_in space r u.key) _ (update-tells context (state_in space r u.key) u));
      ack = λ id from epoch g by key v r u e z f t. (let context = context_of space s r.region in
          at-slot context s r (state_in space r key) _ (ack-tells context (state_in space r key) v.0));
      ask = λ id from epoch number g terms r e z t. says s _
          (each-one Of (post (Server s.id) from (a_message.Found epoch number r.region (found_in r.region terms r.states))) tt);
      ready = λ id from epoch g snapshot pending r e z t i. says s (ready_post s r.region) (readies s r.region);
      installs = λ id from epoch g snapshot pending r e z t i. takes space s snapshot pending r;
      adopts = λ id from config e l. adopts space (with_config s config) (newer config);
    }

  -- each input
  pub server-plain : (space : Space) (s : ServerState) (input : Input) → ((r : Replica) → IsIn r s.replicas → MaySend r)
      → ((g : RegionId) → MaySend (record { region = g; installed = false; states = [] })) → Plain (server_step space s input)
  server-plain space s input may new = server-cases space s input Plain (cases space s may new input)
