-- A server's step, walked once: what each step of a slot keeps of the slots of its replica, each step of the server keeps of all.
use Rattle.hx_law_folds.proofs.Vocabulary.{[], accepting, ack_step, Actor, adopted_replica, adopted_state, AllByRecursion, ap, at_slot, Bool, call_step, Caller}
use Rattle.hx_law_folds.proofs.Vocabulary.{cond_both, Config, context_of, Deliver, eq_of_same_text, eqb-true, false, filter, if_installed, IfSome, Input}
use Rattle.hx_law_folds.proofs.Vocabulary.{is_active, is_key_region, is_lost, IsAfter, join_keys, join_slot, Kept, key_region, keys_of, KeyState, List}
use Rattle.hx_law_folds.proofs.Vocabulary.{listed_regions, map, Message, moved_all, None, offered_all, Op, Option, RegionId, Replica, replica_for, replica_of}
use Rattle.hx_law_folds.proofs.Vocabulary.{replica_or_new, same_region, same_text, server_step, ServerState, ServerStep, SlotContext, Slots, SlotStep, Some}
use Rattle.hx_law_folds.proofs.Vocabulary.{Space, state_among, state_from, state_in, subst, sym, Update, update_step, when_some, with_config, with_replica}
use Rattle.hx_law_folds.proofs.Vocabulary.{with_state, ℕ, ⊤, ◌∙◌, ◌∷◌, ◌≡◌}
use Rattle.hx_model.specs.Types.{PostId}
use Rattle.hx_model.proofs.Lemmas.{server-cases}
use Rattle.hx_types.specs.declared.messages.Message.TheVariants as a_message
use Rattle.hx_law_folds.proofs.Lists.{all-filter, all-made, all-map}
use Rattle.hx_law_folds.proofs.States.{among-key}

-- a replica among the others
pub with-replicas : (P : Replica → Type 0) (r : Replica) (rs : List Replica) → P r → AllByRecursion P rs → AllByRecursion P (with_replica r rs)
with-replicas P r [] p h = tt
with-replicas P r (x ∷ rest) p h =
    cond_both (same_region x.region r.region) (r ∷ rest) (x ∷ with_replica r rest) (AllByRecursion P) (λ e. (p, h.1)) (λ e. (h.0, with-replicas P r rest p h.1))

module _ (P : Replica → Type 0) where
  -- the replica that takes messages for a region is one of the server's, of that region
  pub record IsTaking (g : RegionId) (r : Replica) : Type 0 where
    pub replica : P r
    pub region : r.region ≡ g

  replica-taking : (g : RegionId) (rs : List Replica) → AllByRecursion P rs → IfSome (replica_of g rs) (IsTaking g)
  replica-taking g [] h = tt
  replica-taking g (r ∷ rest) h =
      cond_both (same_region r.region g) (Some r) (replica_of g rest) (λ (o : Option Replica). IfSome o (IsTaking g))
      (λ e. record { replica = h.0; region = λ j. record { 0 = eqb-true r.region.0 g.0 e j } })
      (λ e. replica-taking g rest h.1)

  pub taking : (s : ServerState) → AllByRecursion P s.replicas → (g : RegionId) → IfSome (replica_for s g) (IsTaking g)
  taking s h g = cond_both (is_lost s.config g) None (replica_of g s.replicas)
      (λ (o : Option Replica). IfSome o (IsTaking g)) (λ e. tt) (λ e. replica-taking g s.replicas h)

  -- so is the one that is installed
  pub taking_installed : (s : ServerState) → AllByRecursion P s.replicas → (g : RegionId) → IfSome (if_installed (replica_for s g)) (IsTaking g)
  taking_installed s h g = by (replica_for s g) (taking s h g)
    where
      by : (o : Option Replica) → IfSome o (IsTaking g) → IfSome (if_installed o) (IsTaking g)
      by None k = tt
      by (Some r) k = cond_both r.installed (Some r) None (λ (o : Option Replica). IfSome o (IsTaking g)) (λ e. k) (λ e. tt)

  -- the replicas of another configuration
  pub config-replicas : ((g : RegionId) → P (record { region = g; installed = false; states = [] })) → (s : ServerState) (config : Config)
      → AllByRecursion P s.replicas → AllByRecursion P (with_config s config).replicas
  config-replicas new s config h = all-made P (replica_or_new s.replicas)
      (λ g. by g (replica_of g s.replicas) (replica-taking g s.replicas h)) (listed_regions config s.id)
    where
      by : (g : RegionId) (o : Option Replica) → IfSome o (IsTaking g)
          → P (when_some o (record { region = g; installed = false; states = [] }) (λ (r : Replica). r))
      by g None k = new g
      by g (Some r) k = k.replica

-- the updates of a key
filter-keys : (key : List ℕ) (us : List Update) → AllByRecursion (λ (u : Update). u.key ≡ key) (filter (λ (u : Update). same_text u.key key) us)
filter-keys key [] = tt
filter-keys key (u ∷ us) =
    cond_both (same_text u.key key) (u ∷ filter (λ (w : Update). same_text w.key key) us)
    (filter (λ (w : Update). same_text w.key key) us) (AllByRecursion (λ (w : Update). w.key ≡ key))
    (λ e. (eq_of_same_text u.key key e, filter-keys key us))
    (λ e. filter-keys key us)

-- what is asked of the steps of a slot, where a replica is such as its list of slots is, each slot
-- of such a list is such, and so is a list that is made of what is sent
pub record SlotsStay (space : Space) (P : Replica → Type 0) (Has : RegionId → List KeyState → Type 0) (Slot : RegionId → KeyState → Type 0)
    (Sent : List Kept → Type 0) : Type 0 where
  pub shows : (r : Replica) → P r → Has r.region r.states
  pub makes : (r : Replica) → Has r.region r.states → P r
  pub none : (g : RegionId) → Has g []
  pub one : (g : RegionId) (key : List ℕ) (states : List KeyState) → Has g states → Slot g (state_among (is_key_region space g) key states)
  pub more : (g : RegionId) (t : KeyState) (states : List KeyState) → Slot g t → Has g states → Has g (with_state t states)
  pub sent : (g : RegionId) (snapshot : List Kept) → Sent snapshot → Has g (map (state_from (is_key_region space g)) snapshot)
  pub calls : (context : SlotContext) (s : KeyState) → Slot context.region s → context.region ≡ key_region context.space s.base.key
      → (caller : Caller) (op : Op) → Slot context.region (moved_all (call_step context s caller op).moves s)
  pub updates : (context : SlotContext) (s : KeyState) → Slot context.region s → (u : Update) → IsAfter u → u.key ≡ s.base.key
      → Slot context.region (moved_all (update_step context s u).moves s)
  pub acks : (context : SlotContext) (s : KeyState) → Slot context.region s → (v : ℕ) → Slot context.region (moved_all (ack_step context s v).moves s)
  pub joins : (context : SlotContext) (s : KeyState) → Slot context.region s → (us : List Update) → AllByRecursion IsAfter us
      → AllByRecursion (λ (u : Update). u.key ≡ s.base.key) us
      → Slot context.region (moved_all (accepting context s (offered_all context.region s us)) s)
  pub adopts : (context : SlotContext) (active : Bool) (states : List KeyState) → Has context.region states
      → Has context.region (map (adopted_state context active) states)

-- what a message brings to a server
abbrev pub Brings : (List Kept → Type 0) → Message → Type 0
Brings Sent (a_message.Update epoch g u) = IsAfter u
Brings Sent (a_message.Snap epoch g snapshot pending) = Sent snapshot × AllByRecursion IsAfter pending
Brings Sent other = ⊤

module _ {space : Space} {P : Replica → Type 0} {Has : RegionId → List KeyState → Type 0} {Slot : RegionId → KeyState → Type 0} {Sent : List Kept → Type 0}
    (w : SlotsStay space P Has Slot Sent) (s : ServerState) (h : AllByRecursion P s.replicas) where
  abbrev Stays : ServerStep → Type 0
  Stays step = AllByRecursion P step.state.replicas

  -- a step of one slot
  here : (r : Replica) → P r → (key : List ℕ) → Slot r.region (state_in space r key)
  here r k key = w.one r.region key r.states (w.shows r k)

  slot-stays : (r : Replica) → P r → (key : List ℕ) (step : SlotStep) → Slot r.region (moved_all step.moves (state_in space r key))
      → Stays (at_slot s r (state_in space r key) step)
  slot-stays r k key step j = with-replicas P _ s.replicas
      (w.makes _ (w.more r.region (moved_all step.moves (state_in space r key)) r.states j (w.shows r k))) h

  -- Snap: each key's slot takes its pending updates
  join-slots : (g : RegionId) (us : List Update) → AllByRecursion IsAfter us → (slots : Slots) (keys : List (List ℕ)) → Has g slots.states
      → Has g (join_keys (context_of space s g) us slots keys).states
  join-slots g us after slots [] k = k
  join-slots g us after slots (key ∷ rest) k =
      let context = context_of space s g in
      let state = state_among (is_key_region space g) key slots.states in
      let some = filter (λ (u : Update). same_text u.key key) us in
      let own = subst (λ (x : List ℕ). AllByRecursion (λ (u : Update). u.key ≡ x) some)
      (sym (among-key (is_key_region space g) key slots.states)) (filter-keys key us) in
      let goes = w.joins context state (w.one g key slots.states k) some (all-filter IsAfter (λ (u : Update). same_text u.key key) us after) own in
      join-slots g us after (join_slot context some slots state) rest
      (w.more g (moved_all (accepting context state (offered_all g state some)) state) slots.states goes k)

  -- a replica that takes messages is such
  takes : (g : RegionId) (r : Replica) → replica_for s g ≡ Some r → IsTaking P g r
  takes g r e = subst (λ (o : Option Replica). IfSome o (IsTaking P g)) e (taking P s h g)

  takes-installed : (g : RegionId) (r : Replica) → if_installed (replica_for s g) ≡ Some r → P r
  takes-installed g r e = (subst (λ (o : Option Replica). IfSome o (IsTaking P g)) e (taking_installed P s h g)).replica

  -- each input
  pub step-stays : (input : Input) → ((id : PostId) (from : Actor) (m : Message) → input ≡ Deliver id from m → Brings Sent m)
      → Stays (server_step space s input)
  step-stays input f = server-cases space s input Stays (record {
    rests = h;
    met = λ epoch step k. k;
    ticks = h;
    halts = λ e. h;
    dies = λ id from e. h;
    call = λ id u epoch number op key r e z q l. (let k = takes (key_region space key) r q in
        let caller : Caller = record { session = u; number = number } in
        slot-stays r k.replica key (call_step (context_of space s r.region) (state_in space r key) caller op)
        (w.calls (context_of space s r.region) (state_in space r key) (here r k.replica key)
        (k.region ∙ sym (ap (key_region space) (among-key (is_key_region space r.region) key r.states))) caller op));
    update = λ id from epoch g u r e z t. (let k = takes-installed g r z in
        slot-stays r k u.key (update_step (context_of space s r.region) (state_in space r u.key) u)
        (w.updates (context_of space s r.region) (state_in space r u.key) (here r k u.key) u (f id from _ e)
        (sym (among-key (is_key_region space r.region) u.key r.states))));
    ack = λ id from epoch g by key v r u e z q t. (let k = takes-installed g r z in
        slot-stays r k key (ack_step (context_of space s r.region) (state_in space r key) v.0)
        (w.acks (context_of space s r.region) (state_in space r key) (here r k key) v.0));
    ask = λ id from epoch number g terms r e z t. h;
    ready = λ id from epoch g snapshot pending r e z t i. h;
    installs = λ id from epoch g snapshot pending r e z t i. (let brings = f id from _ e in
        with-replicas P _ s.replicas
        (w.makes _ (join-slots r.region pending brings.1 (record { states = map (state_from (is_key_region space r.region)) snapshot; posts = [] })
        (keys_of pending) (w.sent r.region snapshot brings.0)))
        h);
    adopts = λ id from config e l. (let next = with_config s config in
        all-map P P (adopted_replica space next)
        (λ r k. w.makes _ (w.adopts (context_of space next r.region) (is_active config r) r.states (w.shows r k))) next.replicas
        (config-replicas P (λ g. w.makes _ (w.none g)) s config h));
  })
