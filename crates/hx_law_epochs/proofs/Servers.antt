-- Each step of a server, as far as epochs go: what becomes of its configuration and its replicas, and what it posts.
use Rattle.hx_law_lemmas.proofs.Lemmas.Vocabulary.{[], Actor, adopted, adopted_posts, and_parts, ap, arith, asking_last, at_slot, Config, config_noted}
use Rattle.hx_law_lemmas.proofs.Lemmas.Vocabulary.{context_of, Coordinator, Deliver, Epoch, false, false≢true, flat_map, halting, inl, Input, inr}
use Rattle.hx_law_lemmas.proofs.Lemmas.Vocabulary.{installed_slots, is_active, is_key_region, is_lost, IsIn, joiner_for, Kept, key_region, keys_of, KeyState}
use Rattle.hx_law_lemmas.proofs.Lemmas.Vocabulary.{leads, List, lists, lists_joining, ltb, map, meeting, Message, moved_all, None, not, not-true, Option}
use Rattle.hx_law_lemmas.proofs.Lemmas.Vocabulary.{passed_on, pending_of, pending_of_all, pending_posts, poll_post, post, Post, PostId, provided, ready_post}
use Rattle.hx_law_lemmas.proofs.Lemmas.Vocabulary.{refl, RegionId, Replica, replica_for, replica_of, replica_tick, resumed_posts, saying, Server, server_step}
use Rattle.hx_law_lemmas.proofs.Lemmas.Vocabulary.{ServerId, ServerState, ServerStep, Slots, SlotStep, snap_posts, snap_to, snapshot_of, Some, Space}
use Rattle.hx_law_lemmas.proofs.Lemmas.Vocabulary.{state_from, state_in, subst, sym, tick_step, true, unmoved, Update, with_config, with_slots, ◌++◌, ◌<◌, ◌∙◌}
use Rattle.hx_law_lemmas.proofs.Lemmas.Vocabulary.{◌∷◌, ◌≡◌, ◌≤◌, ◌⊎◌}
use Rattle.hx_types.specs.declared.messages.Message.TheVariants as a_message
use Rattle.hx_model.proofs.Lemmas.{server-cases}
use Rattle.hx_law_lemmas.proofs.Lemmas.{each-append, each-flat, each-one, each-provided, in-flat_map, in-provided, replica-found, replica-here, with_slot_at}
use Rattle.hx_law_lemmas.proofs.Lemmas.{once-found}
use Rattle.hx_law_epochs.specs.Senders.{IsOfServer}
use Rattle.hx_law_epochs.proofs.Facts.{FromServer, Installed, SendsSnapshot}
use Rattle.hx_law_epochs.proofs.Replicas.{Shaped, done-installed, done-shaped, replica_for-is, installed-is, mid-installed, mid-shaped, replaced-installed}
use Rattle.hx_law_epochs.proofs.Replicas.{replaced-shaped}
use Rattle.hx_law_epochs.proofs.SlotPosts.{OfSlot, SlotSays, SlotTells, ack-tells, assigns-none, call-tells, joined-of, pending-of, resumed-of, update-tells}

-- the server goes on in its configuration
pub record Stays (before after : ServerState) : Type 0 where
  pub config : after.config ≡ before.config
  pub halted : before.halted ≡ true → after.halted ≡ true
  pub installed : (g : RegionId) → Installed before g → Installed after g

-- or has adopted one of a higher epoch
pub record Adopts (s : ServerId) (config : Config) (before after : ServerState) : Type 0 where
  pub higher : before.config.epoch.0 < config.epoch.0
  pub config_is : after.config ≡ config
  pub halted : before.halted ≡ true → after.halted ≡ true
  pub installed : (g : RegionId) → lists config g s ≡ true → Installed before g → Installed after g

-- what a post of a server says of it when it is posted
abbrev pub Tells : ServerId → ServerState → Actor → Message → Type 0
Tells s st to (a_message.Update epoch g u) = epoch ≡ st.config.epoch
Tells s st to (a_message.Ack epoch g by key version) = epoch ≡ st.config.epoch
Tells s st to (a_message.Poll epoch) = epoch.0 ≤ st.config.epoch.0
Tells s st to a_message.Gone = st.halted ≡ true
Tells s st to (a_message.Ready epoch g) = (epoch ≡ st.config.epoch) × Installed st g
Tells s st to (a_message.Snap epoch g snapshot pending) = (epoch ≡ st.config.epoch) × FromServer to (SendsSnapshot (λ (k : Config). k ≡ st.config) st epoch g s)
Tells s st to other = IsOfServer other

-- what a slot's post says
pub slot-tells : (s : ServerId) (st : ServerState) (c : Config) (to : Actor) (m : Message) → c ≡ st.config → SlotSays c m → Tells s st to m
slot-tells s st c to (a_message.Update epoch g u) e h = h ∙ ap (λ (x : Config). x.epoch) e
slot-tells s st c to (a_message.Ack epoch g by key version) e h = h ∙ ap (λ (x : Config). x.epoch) e
slot-tells s st c to (a_message.Reply number version answer) e h = tt
slot-tells s st c to other e h = absurd h

-- what a step of a server does; it adopts only what it may
pub record Does (s : ServerId) (st : ServerState) (May : Config → Type 0) (step : ServerStep) : Type 0 where
  pub shaped : Shaped s step.state
  pub change : Stays st step.state ⊎ ((config : Config) × May config × Adopts s config st step.state)
  pub posts : (p : Post) → IsIn p step.posts → (p.from ≡ Server s) × Tells s step.state p.to p.message
  pub notes : (epoch : Epoch) → config_noted epoch step.notes ≡ None

module _ (space : Space) (s : ServerId) (st : ServerState) (shaped : Shaped s st) (May : Config → Type 0) where
  -- a post of the server
  abbrev Mine : ServerState → Post → Type 0
  Mine after p = (p.from ≡ Server s) × Tells s after p.to p.message

  -- nothing changes of it
  stays : Stays st st
  stays = record { config = refl; halted = λ e. e; installed = λ g i. i }

  -- posts alone
  says : (ps : List Post) → ((p : Post) → IsIn p ps → Mine st p) → Does s st May (saying st ps)
  says ps f = record { shaped = shaped; change = inl stays; posts = f; notes = λ epoch. refl }

  rests : Does s st May (unmoved st)
  rests = says [] (λ p i. absurd i)

  -- a slot's posts are the server's
  of-slot : (after : ServerState) (g : RegionId) → after.config ≡ st.config → (p : Post) → OfSlot (context_of space st g) p → Mine after p
  of-slot after g e p h = (h.0 ∙ ap Server shaped.id, slot-tells s after st.config p.to p.message (sym e) h.1)

  -- a step of one slot
  slot-does : (r : Replica) (t : KeyState) (step : SlotStep) → replica_of r.region st.replicas ≡ Some r
      → r.installed ≡ true → SlotTells (context_of space st r.region) step → Does s st May (at_slot st r t step)
  slot-does r t step found there tells = record {
    shaped = replaced-shaped s st shaped r (with_slot_at r (moved_all step.moves t)) found (λ e. absurd (false≢true (sym e ∙ there)));
    change = inl (record {
      config = refl;
      halted = λ e. e;
      installed = replaced-installed s st shaped r (with_slot_at r (moved_all step.moves t)) found (λ e. e);
    });
    posts = λ p i. of-slot (at_slot st r t step).state r.region refl p (tells.posts p i);
    notes = λ epoch. assigns-none epoch step.notes tells.notes;
  }

  -- a replica that takes messages is found by its own name
  own : (g : RegionId) (r : Replica) → replica_for st g ≡ Some r → replica_of r.region st.replicas ≡ Some r
  own g r e =
      let found = (replica_for-is st g r e).found in
      subst (λ (h : RegionId). replica_of h st.replicas ≡ Some r) (sym (replica-found g st.replicas r found).1) found

  -- where an epoch above the server's own is met, it asks first
  meets : (epoch : Epoch) (step : ServerStep) → Does s st May step → Does s st May (meeting st epoch step)
  meets epoch step does = record {
    shaped = does.shaped;
    change = does.change;
    posts = each-append (Mine step.state) _ step.posts
        (each-provided (Mine step.state) (ltb st.config.epoch.0 epoch.0) (poll_post st ∷ [])
        (each-one (Mine step.state) (poll_post st) (ap Server shaped.id, no-earlier))) does.posts;
    notes = does.notes;
  }
    where
      no-earlier : st.config.epoch.0 ≤ step.state.config.epoch.0
      no-earlier = elim does.change [
        | inl k ↦ (let e = ap (λ (x : Config). x.epoch.0) k.config in omega (arith, e))
        | inr (config, may, k) ↦ (let e = ap (λ (x : Config). x.epoch.0) k.config_is in let h = k.higher in omega (arith, h, e))
      ]

  -- a post that says that a joiner is ready
  ready-mine : (after : ServerState) (g : RegionId) → after.config ≡ st.config → Installed after g → (p : Post) → IsIn p (ready_post st g) → Mine after p
  ready-mine after g e h =
      each-provided (Mine after) (lists_joining st.config g st.id) _
      (each-one (Mine after) (post (Server st.id) Coordinator (a_message.Ready st.config.epoch g))
      (ap Server shaped.id, (ap (λ (c : Config). c.epoch) (sym e), h)))

  -- a replica that isn't installed goes on with a snapshot
  installs : (r : Replica) → replica_of r.region st.replicas ≡ Some r → (snapshot : List Kept) (pending : List Update)
      → Does s st May (with_slots st r (installed_slots (context_of space st r.region) snapshot pending))
  installs r found snapshot pending = record {
    shaped = replaced-shaped s st shaped r x found (λ e. absurd (false≢true (sym e)));
    change = inl (record { config = refl; halted = λ e. e; installed = replaced-installed s st shaped r x found (λ e. refl) });
    posts = each-append (Mine after) slots.posts (ready_post st r.region) (λ p i. of-slot after r.region refl p (joined p i))
        (ready-mine after r.region refl (record { replica = x; found = replica-here r.region x st.replicas r refl found; installed = refl }));
    notes = λ epoch. refl;
  }
    where
      slots : Slots
      slots = installed_slots (context_of space st r.region) snapshot pending

      x : Replica
      x = record { region = r.region; installed = true; states = slots.states }

      after : ServerState
      after = (with_slots st r slots).state

      joined : (p : Post) → IsIn p slots.posts → OfSlot (context_of space st r.region) p
      joined = joined-of (context_of space st r.region) pending (keys_of pending)
          (record { states = map (state_from (is_key_region space r.region)) snapshot; posts = [] }) (λ p i. absurd i)

  -- ---- halts

  halts : Does s st May (halting st)
  halts = record {
    shaped = record { id = shaped.id; there = shaped.there; only = shaped.only; once = shaped.once; empty = shaped.empty };
    change = inl (record { config = refl; halted = λ e. refl; installed = λ g i. record { replica = i.replica; found = i.found; installed = i.installed } });
    posts = each-one (Mine (record st { halted = true })) _ (ap Server shaped.id, refl);
    notes = λ epoch. refl;
  }

  -- ---- what is sent again, or anew

  -- a replica of the server is active where it is installed and its region isn't lost
  active-is : (r : Replica) → is_active st.config r ≡ true → (r.installed ≡ true) × (is_lost st.config r.region ≡ false)
  active-is r t = let a = and_parts r.installed (not (is_lost st.config r.region)) t in (a.0, not-true (is_lost st.config r.region) a.1)

  -- a snapshot to a joiner
  snap-mine : (after : ServerState) (r : Replica) → after.config ≡ st.config → Installed after r.region
      → is_lost st.config r.region ≡ false → (p : Post) → IsIn p (snap_posts st r) → Mine after p
  snap-mine after r e h l p = by (joiner_for st.config r.region st.id) refl
    where
      by : (o : Option ServerId) → joiner_for st.config r.region st.id ≡ o → IsIn p (snap_to st r o) → Mine after p
      by None q i = absurd i
      by (Some j) q i = each-one (Mine after) (post (Server st.id) (Server j)
          (a_message.Snap st.config.epoch r.region (snapshot_of r.region r.states) (pending_of_all r.states))) (
            ap Server shaped.id,
            (
              ap (λ (c : Config). c.epoch) (sym e),
              record {
                config = st.config;
                known = sym e;
                epoch_is = refl;
                sender = subst (λ (x : ServerId). joiner_for st.config r.region x ≡ Some j) shaped.id q;
                not_lost = l;
                installed = h;
              },
            ),
          ) p i

  -- what a replica of a list of the server's is found as
  listed-found : (r : Replica) → IsIn r st.replicas → replica_of r.region st.replicas ≡ Some r
  listed-found r i = once-found st.replicas shaped.once r i

  -- what an active replica posts, of a snapshot, of its slots, and that it is ready, with the server that it has become
  active-mine : (after : ServerState) → after.config ≡ st.config
      → ((g : RegionId) → Installed st g → Installed after g) → (r : Replica) → IsIn r st.replicas → (ps : List Post)
      → ((p : Post) → IsIn p ps → Mine after p)
      → (p : Post) → IsIn p (provided (is_active st.config r) (snap_posts st r ++ ps ++ ready_post st r.region)) → Mine after p
  active-mine after e up r i ps f p j =
      let a = in-provided (is_active st.config r) (snap_posts st r ++ ps ++ ready_post st r.region) p j in
      let b = active-is r a.0 in
      let h : Installed after r.region = up r.region (record { replica = r; found = listed-found r i; installed = b.0 }) in
      each-append (Mine after) (snap_posts st r ++ ps) (ready_post st r.region)
      (each-append (Mine after) (snap_posts st r) ps (snap-mine after r e h b.1) f) (ready-mine after r.region e h) p a.1

  -- what a replica sends again
  replica-mine : (r : Replica) → IsIn r st.replicas → (p : Post) → IsIn p (replica_tick space st r) → Mine st p
  replica-mine r i =
      active-mine st refl (λ g h. h) r i (pending_posts (context_of space st r.region) r.states)
      (each-flat (Mine st) (λ (t : KeyState). flat_map (passed_on (context_of space st r.region)) (pending_of t)) r.states
      (λ t j p k. of-slot st r.region refl p (pending-of (context_of space st r.region) (pending_of t) p k)))

  -- where anything is posted, it asks last
  asking-mine : (ps : List Post) → ((p : Post) → IsIn p ps → Mine st p) → (p : Post) → IsIn p (asking_last st ps) → Mine st p
  asking-mine [] f = f
  asking-mine (q ∷ rest) f = each-append (Mine st) (q ∷ rest) (poll_post st ∷ []) f (each-one (Mine st) (poll_post st) (ap Server shaped.id, omega arith))

  -- Tick
  ticks : Does s st May (tick_step space st)
  ticks = says _ (asking-mine (flat_map (replica_tick space st) st.replicas) (each-flat (Mine st) (replica_tick space st) st.replicas replica-mine))

  -- what a replica posts when a configuration is adopted, with the server that it has become
  adopted-mine : (after : ServerState) → after.config ≡ st.config
      → ((g : RegionId) → Installed st g → Installed after g) → (r : Replica) → IsIn r st.replicas → (p : Post)
      → IsIn p (adopted_posts space st r) → Mine after p
  adopted-mine after e up r i =
      active-mine after e up r i (flat_map (resumed_posts (context_of space st r.region)) r.states)
      (each-flat (Mine after) (resumed_posts (context_of space st r.region)) r.states
      (λ t j p k. of-slot after r.region e p (resumed-of (context_of space st r.region) t p k)))

-- each step of a server
pub server-does : (space : Space) (s : ServerId) (st : ServerState) → Shaped s st → ((g : RegionId) → leads space st.config st.id g ≡ true → Installed st g)
    → (May : Config → Type 0) (input : Input) → ((id : PostId) (from : Actor) (config : Config)
    → input ≡ Deliver id from (a_message.Install config) → May config) → Does s st May (server_step space st input)
server-does space s st shaped l May input f = server-cases space st input (Does s st May) (record {
  rests = rests space s st shaped May;
  met = meets space s st shaped May;
  ticks = ticks space s st shaped May;
  halts = λ e. halts space s st shaped May;
  dies = λ id from e. halts space s st shaped May;
  call = λ id u epoch number op key r e z q b. (let own = found (key_region space key) r q in
      at-slot r (state_in space r key) _ own (led r own (l r.region b))
      (call-tells (context_of space st r.region) (state_in space r key) (record { session = u; number = number }) op));
  update = λ id from epoch g u r e z t. (let i = installed-is (replica_for st g) r z in
      at-slot r (state_in space r u.key) _ (found g r i.0) i.1 (update-tells (context_of space st r.region) (state_in space r u.key) u));
  ack = λ id from epoch g by key v r u e z q t. (let i = installed-is (replica_for st g) r z in
      at-slot r (state_in space r key) _ (found g r i.0) i.1 (ack-tells (context_of space st r.region) (state_in space r key) v.0));
  ask = λ id from epoch number g terms r e z t. says space s st shaped May _ (each-one (Mine space s st shaped May st) _ (ap Server shaped.id, tt));
  ready = λ id from epoch g snapshot pending r e z t i. says space s st shaped May (ready_post st r.region)
      (ready-mine space s st shaped May st r.region refl (record { replica = r; found = found g r z; installed = i }));
  installs = λ id from epoch g snapshot pending r e z t i. installs space s st shaped May r (found g r z) snapshot pending;
  adopts = λ id from config e higher. record {
    shaped = done-shaped space s st shaped config;
    change = inr (
      config,
      f id from config e,
      record {
        higher = higher;
        config_is = refl;
        halted = λ e. e;
        installed = λ g l i. done-installed space s st shaped config g (mid-installed space s st shaped config g l i);
      },
    );
    posts = λ p i. (let next = with_config st config in
        let r = in-flat_map (adopted_posts space next) next.replicas p i in
        adopted-mine space s next (mid-shaped space s st shaped config) May (adopted space next).state refl
        (done-installed space s st shaped config) r.0 r.1 p r.2);
    notes = λ epoch. refl;
  };
})
  where
    found : (g : RegionId) (r : Replica) → replica_for st g ≡ Some r → replica_of r.region st.replicas ≡ Some r
    found = own space s st shaped May

    -- where a key's leader hears, it is installed
    led : (r : Replica) → replica_of r.region st.replicas ≡ Some r → Installed st r.region → r.installed ≡ true
    led r e i = let p : Some i.replica ≡ Some r = sym i.found ∙ e in let q : i.replica ≡ r = cc in sym (ap (λ (z : Replica). z.installed) q) ∙ i.installed

    at-slot : (r : Replica) (t : KeyState) (step : SlotStep) → replica_of r.region st.replicas ≡ Some r → r.installed ≡ true
        → SlotTells (context_of space st r.region) step → Does s st May (at_slot st r t step)
    at-slot = slot-does space s st shaped May
