-- The rows of a server's table: where whom the server and its input name is known, each step's posts name known actors alone.
use Rattle.std.proofs.Common.{◌≡◌, ℕ, inl, false, List, [], ◌∷◌, map, nat_lt, Option, Some, None, refl, sym, subst}
use Rattle.std.specs.Prelude.{⊤}
use Rattle.std.specs.List.{flat_map, slice_get}
use Rattle.hx_model.specs.Types.{Actor, Config, Coordinator, Deliver, Epoch, Halt, Input, Kept, Mark, Member, Message, Post, RegionId, Server, ServerId}
use Rattle.hx_model.specs.Types.{Session, Space, Tick, Update, PostId}
use Rattle.hx_types.specs.declared.messages.Message.TheVariants as a_message
use Rattle.hx_types.specs.Configs.{members_of}
use Rattle.hx_types.specs.Posted.{actors_of_config, actors_of_message, servers_among, sessions_marked}
use Rattle.hx_types.specs.Subspaces.{is_key_region}
use Rattle.hx_types.specs.Words.{IsIn, post, provided, when_some}
use Rattle.hx_model.specs.Regions.{key_region}
use Rattle.hx_model.specs.ServerSteps.{Replica, ServerState, ServerStep, adopted, adopted_posts, asking_last, context_of, halting, if_installed}
use Rattle.hx_model.specs.ServerSteps.{installed_slots, listed_regions, meeting, poll_post, ready_post, replica_for, replica_of, replica_or_new, replica_tick}
use Rattle.hx_model.specs.ServerSteps.{server_step, state_in, tick_step, with_config, with_slots}
use Rattle.hx_model.specs.Slots.{KeyState}
use Rattle.hx_model.proofs.Lemmas.{server-cases}
use Rattle.hx_law_lemmas.proofs.Lemmas.{in-flat, in-map, in-slice_get, in_left, in_right, map-in, when_some_both, replica-found}
use Rattle.hx_law_posts.proofs.Lemmas.{installed-found, replica_for-found}
use Rattle.hx_replica.proofs.NamedReplicas.{Knows, adopted-good, installed-good, ready-good, tick-good}
use Rattle.hx_replica.proofs.NamedSlots.{AreGood, KnowsSlot, among-known, both-good, each-good, none-good, one-good, provided-good}
use Rattle.hx_replica.proofs.NamedSteps.{ack-good, call-good, update-good}

-- a configuration names its members
pub member-named : (config : Config) (g : RegionId) (m : Member) → IsIn m (members_of config g) → IsIn (Server m.server) (actors_of_config config)
member-named config g m = by (slice_get config.regions g.0) refl
  where
    by : (o : Option (List Member)) → slice_get config.regions g.0 ≡ o
        → IsIn m (when_some o [] (λ (members : List Member). members)) → IsIn (Server m.server) (actors_of_config config)
    by None e i = absurd i
    by (Some members) e i =
        in_right (map (λ (s : ServerId). Server s) config.servers) (flat_map servers_among config.regions) (Server m.server)
        (in-flat servers_among config.regions members (Server m.server) (in-slice_get config.regions g.0 members e)
        (map-in (λ (x : Member). Server x.server) members m i))

module _ (Known : Actor → Type 0) where
  -- what is posted in the step names known actors alone
  abbrev pub IsGoodStep : ServerStep → Type 0
  IsGoodStep step = AreGood Known step.posts

  -- the actors that a message names are known
  abbrev pub KnowsMessage : Message → Type 0
  KnowsMessage m = (a : Actor) → IsIn a (actors_of_message m) → Known a

  -- whom the input names is known
  abbrev pub KnowsInput : Input → Type 0
  KnowsInput Tick = ⊤
  KnowsInput Halt = ⊤
  KnowsInput (Deliver id from m) = Known from × KnowsMessage m

  tells-coordinator : (s : ServerState) → Knows Known s → (m : Message) → KnowsMessage m → AreGood Known (post (Server s.id) Coordinator m ∷ [])
  tells-coordinator s knows m names = one-good Known _ (record { to = knows.coordinator; names = names })

  module _ (space : Space) (s : ServerState) (knows : Knows Known s) where
    -- the slot of a key at a replica
    slot-known : (r : Replica) → IsIn r s.replicas → (key : List ℕ) → KnowsSlot Known (state_in space r key)
    slot-known r i key = among-known Known (is_key_region space r.region) key r.states (knows.slots r i)

    -- a replica that takes messages is one of the server's
    taking-in : (g : RegionId) (r : Replica) → replica_for s g ≡ Some r → IsIn r s.replicas
    taking-in g r e = (replica-found g s.replicas r (replica_for-found s g r e)).0

    installed-in : (g : RegionId) (r : Replica) → if_installed (replica_for s g) ≡ Some r → IsIn r s.replicas
    installed-in g r e = (replica-found g s.replicas r (installed-found s g r e)).0

    -- the newest configuration is asked for first
    meeting-good : (epoch : Epoch) (step : ServerStep) → IsGoodStep step → IsGoodStep (meeting s epoch step)
    meeting-good epoch step good =
        both-good Known (provided (nat_lt s.config.epoch.0 epoch.0) (poll_post s ∷ [])) step.posts
        (provided-good Known (nat_lt s.config.epoch.0 epoch.0) (poll_post s ∷ []) (tells-coordinator s knows (a_message.Poll s.config.epoch) (λ a i. absurd i)))
        good

    -- ---- ticks, snapshots and configurations

    -- the newest configuration is asked for last
    asking-good : (ps : List Post) → AreGood Known ps → AreGood Known (asking_last s ps)
    asking-good [] good = none-good Known
    asking-good (p ∷ rest) good =
        both-good Known (p ∷ rest) (poll_post s ∷ []) good (tells-coordinator s knows (a_message.Poll s.config.epoch) (λ a i. absurd i))

    ticked-good : IsGoodStep (tick_step space s)
    ticked-good =
        asking-good (flat_map (replica_tick space s) s.replicas)
        (each-good Known (replica_tick space s) s.replicas (λ r i. tick-good Known space s knows r i))

    halt-good : IsGoodStep (halting s)
    halt-good = tells-coordinator s knows a_message.Gone (λ a i. absurd i)

    snapped-good : (snapshot : List Kept) (pending : List Update) (epoch : Epoch) (g : RegionId) → KnowsMessage (a_message.Snap epoch g snapshot pending)
        → (r : Replica) → IsGoodStep (with_slots s r (installed_slots (context_of space s r.region) snapshot pending))
    snapped-good snapshot pending epoch g names r =
        both-good Known (installed_slots (context_of space s r.region) snapshot pending).posts (ready_post s r.region)
        (installed-good Known (context_of space s r.region) knows.members pending callers snapshot marks)
        (ready-good Known space s knows r.region)
      where
        marked : List Actor
        marked = flat_map sessions_marked snapshot

        calling : List Actor
        calling = map (λ (u : Update). Session u.caller.session) pending

        callers : (u : Update) → IsIn u pending → Known (Session u.caller.session)
        callers u i = names (Session u.caller.session)
            (in_right marked calling (Session u.caller.session) (map-in (λ (w : Update). Session w.caller.session) pending u i))

        marks : (k : Kept) → IsIn k snapshot → (m : Mark) → IsIn m k.marks → Known (Session m.session)
        marks k i m j =
            names (Session m.session)
            (in_left marked calling (Session m.session)
            (in-flat sessions_marked snapshot k (Session m.session) i (map-in (λ (x : Mark). Session x.session) k.marks m j)))

    -- whom the server names in another configuration
    with_config-known : (config : Config) → KnowsMessage (a_message.Install config) → Knows Known (with_config s config)
    with_config-known config names = record {
      coordinator = knows.coordinator;
      members = λ g m i. names (Server m.server) (member-named config g m i);
      slots = λ r i. (let m = in-map (replica_or_new s.replicas) (listed_regions config s.id) r i in
          subst (λ (x : Replica). (t : KeyState) → IsIn t x.states → KnowsSlot Known t) (sym m.2) (kept-or-new m.0));
    }
      where
        kept-or-new : (g : RegionId) (t : KeyState) → IsIn t (replica_or_new s.replicas g).states → KnowsSlot Known t
        kept-or-new g =
            when_some_both (replica_of g s.replicas) (record { region = g; installed = false; states = [] })
            (λ (r : Replica). r) (λ (x : Replica). (t : KeyState) → IsIn t x.states → KnowsSlot Known t)
            (λ e t i. absurd i)
            (λ r e. knows.slots r (replica-found g s.replicas r e).0)

    adopt-good : (config : Config) → KnowsMessage (a_message.Install config) → IsGoodStep (adopted space (with_config s config))
    adopt-good config names =
        let next = with_config s config in
        each-good Known (adopted_posts space next) next.replicas (λ r i. adopted-good Known space next (with_config-known config names) r i)

    -- ---- each input

    pub server-good : (input : Input) → KnowsInput input → IsGoodStep (server_step space s input)
    server-good input k = server-cases space s input IsGoodStep (record {
      rests = none-good Known;
      met = meeting-good;
      ticks = ticked-good;
      halts = λ e. halt-good;
      dies = λ id from e. halt-good;
      call = λ id u epoch number op key r e z q l.
          call-good Known (context_of space s r.region) knows.members (state_in space r key) (slot-known r (taking-in (key_region space key) r q) key)
          (record { session = u; number = number }) (given id (Session u) _ e).0 op;
      update = λ id from epoch g u r e z t.
          update-good Known (context_of space s r.region) knows.members (state_in space r u.key) (slot-known r (installed-in g r z) u.key)
          u ((given id from _ e).1 (Session u.caller.session) (inl refl));
      ack = λ id from epoch g by key v r u e z q t.
          ack-good Known (context_of space s r.region) knows.members (state_in space r key) (slot-known r (installed-in g r z) key) v.0;
      ask = λ id from epoch number g terms r e z t. one-good Known _ (record { to = (given id from _ e).0; names = λ a i. absurd i });
      ready = λ id from epoch g snapshot pending r e z t i. ready-good Known space s knows r.region;
      installs = λ id from epoch g snapshot pending r e z t i. snapped-good snapshot pending epoch g (given id from _ e).1 r;
      adopts = λ id from config e l. adopt-good config (given id from _ e).1;
    })
      where
        given : (id : PostId) (from : Actor) (m : Message) → input ≡ Deliver id from m → Known from × KnowsMessage m
        given id from m e = subst KnowsInput e k
