-- The steps of a server from the server whose slots have no past.
use Rattle.hx_law_folds.proofs.Vocabulary.{[], ack_step, acked, acked_of, Actor, adopted, adopted_replica, AllByRecursion, ap, asked, at_slot, Bool, call_at}
use Rattle.hx_law_folds.proofs.Vocabulary.{call_step, called, called_by, Caller, cond, cond-false, cond-true, cond_both, Config, context_of, Coordinator}
use Rattle.hx_law_folds.proofs.Vocabulary.{Deliver, Epoch, eqb, false, find, flat_map, folded, folded_replica, folded_server, Halt, hears_ack, hears_snap}
use Rattle.hx_law_folds.proofs.Vocabulary.{hears_update, if_installed, IfSome, Input, input_step, InputFits, install_at, installed_slots, is_active}
use Rattle.hx_law_folds.proofs.Vocabulary.{is_key_region, is_lost, IsAfter, IsReplicaOf, IsServerOf, IsSlotOf, Kept, key_of, key_region, KeyState, leads, List}
use Rattle.hx_law_folds.proofs.Vocabulary.{listed_regions, ltb, map, Message, message_step, MessageFits, moved_all, None, not, Op, Option, option_map}
use Rattle.hx_law_folds.proofs.Vocabulary.{pending_with, place_number, Post, provided, ready_post, refl, RegionId, Replica, replica_for, replica_of}
use Rattle.hx_law_folds.proofs.Vocabulary.{replica_or_new, same_region, saying, Server, server_step, ServerId, ServerState, ServerStep, Session, SlotStep}
use Rattle.hx_law_folds.proofs.Vocabulary.{snapped, Some, Space, state_among, state_in, StepFolds, suc, sym, Term, Tick, true, unmoved, Update, update_step}
use Rattle.hx_law_folds.proofs.Vocabulary.{updated, when_some, with_config, with_replica, with_state, zero, ℕ, ◌&&◌, ◌++◌, ◌∙◌, ◌∷◌, ◌≡◌}
use Rattle.std.specs.List.{slice_get}
use Rattle.hx_types.specs.declared.messages.Message.TheVariants as a_message
use Rattle.hx_types.specs.Configs.{joiner_for, lists_ready}
use Rattle.hx_types.specs.Words.{post}
use Rattle.hx_model.specs.ServerSteps.{adopted_posts}
use Rattle.hx_model.specs.ServerSteps.{asking_last, halting}
use Rattle.hx_model.specs.ServerSteps.{meeting}
use Rattle.hx_model.specs.ServerSteps.{replica_tick, snap_posts, snap_to, tick_step}
use Rattle.hx_model.specs.ServerSteps.{with_slot}
use Rattle.hx_law_folds.specs.Folding.{folded_step}
use Rattle.hx_law_folds.proofs.Folds.{pending-folded}
use Rattle.hx_law_folds.proofs.ServerWalk.{IsTaking, config-replicas, taking, taking_installed}
use Rattle.hx_law_folds.proofs.Slots.{later-of}
use Rattle.std.proofs.lemmas.Option.{same_Some}
use Rattle.hx_law_folds.proofs.States.{adopted-all-folded, among-key, among-slot, folded-among, folded-put, folded-with, folded-states-twice, found-folded}
use Rattle.hx_law_folds.proofs.States.{pending-posts-folded, pending_all-folded, resumed-all-folded, snapshot-folded}
use Rattle.hx_law_folds.proofs.Steps.{ack-folds, call-folds, update-folds}

-- replicas without their past
pub folded-replicas-twice : (rs : List Replica) → map folded_replica (map folded_replica rs) ≡ map folded_replica rs
folded-replicas-twice [] = refl
folded-replicas-twice (r ∷ rest) = λ j. record r { states = folded-states-twice r.region r.states j } ∷ folded-replicas-twice rest j

replica-folded : (g : RegionId) (rs : List Replica) → replica_of g (map folded_replica rs) ≡ option_map folded_replica (replica_of g rs)
replica-folded g [] = refl
replica-folded g (r ∷ rest) =
    cond_both (same_region r.region g) (Some r) (replica_of g rest)
    (λ (o : Option Replica). replica_of g (map folded_replica (r ∷ rest)) ≡ option_map folded_replica o)
    (λ e. cond-true (same_region r.region g) _ _ e)
    (λ e. cond-false (same_region r.region g) _ _ e ∙ replica-folded g rest)

pub with-replica-folded : (r : Replica) (rs : List Replica) → map folded_replica (with_replica r rs) ≡ with_replica (folded_replica r) (map folded_replica rs)
with-replica-folded r [] = refl
with-replica-folded r (x ∷ rest) =
    cond_both (same_region x.region r.region) (r ∷ rest) (x ∷ with_replica r rest)
    (λ (l : List Replica). map folded_replica l ≡ with_replica (folded_replica r) (map folded_replica (x ∷ rest)))
    (λ e. sym (cond-true (same_region x.region r.region) _ _ e))
    (λ e. ap (λ (l : List Replica). folded_replica x ∷ l) (with-replica-folded r rest) ∙ sym (cond-false (same_region x.region r.region) _ _ e))

-- a replica put among replicas without their past
replica-put : (x y : Replica) (rs : List Replica) → folded_replica x ≡ folded_replica y
    → map folded_replica (with_replica x (map folded_replica rs)) ≡ map folded_replica (with_replica y rs)
replica-put x y rs e =
    with-replica-folded x (map folded_replica rs)
    ∙ (λ j. with_replica (e j) (folded-replicas-twice rs j))
    ∙ sym (with-replica-folded y rs)

pub folded-server-twice : (s : ServerState) → folded_server (folded_server s) ≡ folded_server s
folded-server-twice s = λ j. record s { replicas = folded-replicas-twice s.replicas j }

unmoved-folds : (s : ServerState) → folded_step (unmoved (folded_server s)) ≡ folded_step (unmoved s)
unmoved-folds s = ap (λ (x : ServerState). unmoved x) (folded-server-twice s)

saying-folds : (s : ServerState) (ps qs : List Post) → ps ≡ qs → folded_step (saying (folded_server s) ps) ≡ folded_step (saying s qs)
saying-folds s ps qs e = λ j. record { state = folded-server-twice s j; posts = e j; notes = [] }

-- a step by a test
cond-folds : (b : Bool) (x y z w : ServerStep) → folded_step x ≡ folded_step z → folded_step y ≡ folded_step w
    → folded_step (cond b x y) ≡ folded_step (cond b z w)
cond-folds true x y z w e f = e
cond-folds false x y z w e f = f

-- a step of a server that asks first where the message's epoch is above its own
meeting-folds : (s : ServerState) (epoch : Epoch) (x y : ServerStep) → folded_step x ≡ folded_step y
    → folded_step (meeting (folded_server s) epoch x) ≡ folded_step (meeting s epoch y)
meeting-folds s epoch x y e = ap (meeting s epoch) e

-- the replica that takes messages for a region
replica_for-folded : (s : ServerState) (g : RegionId) → replica_for (folded_server s) g ≡ option_map folded_replica (replica_for s g)
replica_for-folded s g =
    cond_both (is_lost s.config g) None (replica_of g s.replicas) (λ (o : Option Replica). replica_for (folded_server s) g ≡ option_map folded_replica o)
    (λ e. cond-true (is_lost s.config g) _ _ e)
    (λ e. cond-false (is_lost s.config g) _ _ e ∙ replica-folded g s.replicas)

installed-folded : (o : Option Replica) → if_installed (option_map folded_replica o) ≡ option_map folded_replica (if_installed o)
installed-folded None = refl
installed-folded (Some r) =
    cond_both r.installed (Some r) None (λ (o : Option Replica). cond r.installed (Some (folded_replica r)) None ≡ option_map folded_replica o)
    (λ e. cond-true r.installed _ _ e)
    (λ e. cond-false r.installed _ _ e)

installed_for-folded : (s : ServerState) (g : RegionId)
    → if_installed (replica_for (folded_server s) g) ≡ option_map folded_replica (if_installed (replica_for s g))
installed_for-folded s g = ap if_installed (replica_for-folded s g) ∙ installed-folded (replica_for s g)

-- a step of one slot, from what it is
state-folds : (s : ServerState) (r : Replica) (step : KeyState → SlotStep) (state : KeyState) → StepFolds r.region step state
    → folded_step (at_slot (folded_server s) (folded_replica r) (folded r.region state) (step (folded r.region state)))
    ≡ folded_step (at_slot s r state (step state))
state-folds s r step state h =
    let x = moved_all (step (folded r.region state)).moves (folded r.region state) in
    let y = moved_all (step state).moves state in
    let states = folded-put r.region x y r.states h.after in
    let lean : Replica = record (folded_replica r) { states = with_state x (map (folded r.region) r.states) } in
    let replicas = replica-put lean (record r { states = with_state y r.states }) s.replicas (λ j. record r { states = states j }) in
    let same = h.same in
    λ j. record { state = record s { replicas = replicas j }; posts = (same j).posts; notes = (same j).notes }

-- a step of one slot, by its key
slot-folds : (space : Space) (s : ServerState) (r : Replica) (key : List ℕ) (step : KeyState → SlotStep) → StepFolds r.region step (state_in space r key)
    → folded_step (at_slot (folded_server s) (folded_replica r) (state_in space (folded_replica r) key)
    (step (state_in space (folded_replica r) key)))
    ≡ folded_step (at_slot s r (state_in space r key) (step (state_in space r key)))
slot-folds space s r key step h =
    let state = state_in space r key in
    ap (λ (x : KeyState). folded_step (at_slot (folded_server s) (folded_replica r) x (step x)))
    (folded-among r.region (is_key_region space r.region) key r.states)
    ∙ state-folds s r step state h

pub and-left : (a b : Bool) → a && b ≡ true → a ≡ true
and-left true b e = refl
and-left false b e = e

-- Call
call_at-folds : (space : Space) (s : ServerState) (r : Replica) (key : List ℕ) (caller : Caller) (op : Op)
    → IsTaking (IsReplicaOf space) (key_region space key) r
    → folded_step (call_at space (folded_server s) (folded_replica r) key caller op) ≡ folded_step (call_at space s r key caller op)
call_at-folds space s r key caller op h =
    let context = context_of space s r.region in
    let state = state_in space r key in
    cond_both (leads space s.config s.id r.region) (at_slot s r state (call_step context state caller op)) (unmoved s)
    (λ (x : ServerStep). folded_step (call_at space (folded_server s) (folded_replica r) key caller op) ≡ folded_step x)
    (
    λ e. ap folded_step (cond-true (leads space s.config s.id r.region) _ _ e)
    ∙ slot-folds space s r key (λ x. call_step context x caller op)
    (
    let of_slot = among-slot r.region (is_key_region space r.region) key r.states h.replica in
    let kept = of_slot.marks ∙ and-left (is_key_region space r.region) _ (and-left _ _ e) in
    let at = h.region ∙ sym (ap (key_region space) (among-key (is_key_region space r.region) key r.states)) in
    call-folds context state of_slot.slot kept at caller op
    )
    )
    (λ e. ap folded_step (cond-false (leads space s.config s.id r.region) _ _ e) ∙ unmoved-folds s)

called-folds : (space : Space) (s : ServerState) → IsServerOf space s → (caller : Caller) (op : Op) (key : Option (List ℕ))
    → folded_step (called space (folded_server s) caller op key) ≡ folded_step (called space s caller op key)
called-folds space s h caller op None = unmoved-folds s
called-folds space s h caller op (Some key) =
    ap (λ (o : Option Replica). folded_step (when_some o (unmoved (folded_server s)) (λ (r : Replica). call_at space (folded_server s) r key caller op)))
    (replica_for-folded s (key_region space key))
    ∙ by (replica_for s (key_region space key)) (taking (IsReplicaOf space) s h (key_region space key))
  where
    by : (o : Option Replica) → IfSome o (IsTaking (IsReplicaOf space) (key_region space key))
        → folded_step (when_some (option_map folded_replica o) (unmoved (folded_server s))
        (λ (r : Replica). call_at space (folded_server s) r key caller op))
        ≡ folded_step (when_some o (unmoved s) (λ (r : Replica). call_at space s r key caller op))
    by None k = unmoved-folds s
    by (Some r) k = call_at-folds space s r key caller op k

called_by-folds : (space : Space) (s : ServerState) → IsServerOf space s → (from : Actor) (number : ℕ) (op : Op)
    → folded_step (called_by space (folded_server s) from number op) ≡ folded_step (called_by space s from number op)
called_by-folds space s h Coordinator number op = unmoved-folds s
called_by-folds space s h (Server other) number op = unmoved-folds s
called_by-folds space s h (Session session) number op = called-folds space s h (record { session = session; number = number }) op (key_of op)

-- Update: whom it hears stays the same
updated-folds : (space : Space) (s : ServerState) (from : Actor) (u : Update) → IsAfter u → (g : RegionId) (o : Option Replica)
    → IfSome o (IsTaking (IsReplicaOf space) g)
    → folded_step (updated space (folded_server s) from u (option_map folded_replica o)) ≡ folded_step (updated space s from u o)
updated-folds space s from u after g None k = unmoved-folds s
updated-folds space s from u after g (Some r) k =
    cond-folds (hears_update s.config u (place_number r.region u.places) s.id from) _ _ _ _
    (
    slot-folds space s r u.key (λ x. update_step (context_of space s r.region) x u)
    (update-folds (context_of space s r.region) (state_in space r u.key)
    (among-slot r.region (is_key_region space r.region) u.key r.states k.replica).slot u (later-of r.region u after))
    )
    (unmoved-folds s)

-- what is pending of a version stays the same
pending_with-folded : (g : RegionId) (v : ℕ) (state : KeyState) → pending_with v (folded g state) ≡ pending_with v state
pending_with-folded g v state = ap (find (λ (u : Update). eqb u.version.0 v)) (pending-folded g state)

-- Ack of a pending update
acked_of-folds : (space : Space) (s : ServerState) (from : Actor) (region : RegionId) (r : Replica) (state : KeyState) (v : ℕ)
    → IsSlotOf r.region state → (o : Option Update)
    → folded_step (acked_of space (folded_server s) from region (folded_replica r) (folded r.region state) v o)
    ≡ folded_step (acked_of space s from region r state v o)
acked_of-folds space s from region r state v h None = unmoved-folds s
acked_of-folds space s from region r state v h (Some u) =
    cond-folds (hears_ack s.config u (place_number r.region u.places) s.id from region) _ _ _ _
    (state-folds s r (λ x. ack_step (context_of space s r.region) x v) state (ack-folds (context_of space s r.region) state h v))
    (unmoved-folds s)

-- Ack
acked-folds : (space : Space) (s : ServerState) (from : Actor) (key : List ℕ) (v : ℕ) (region g : RegionId) (o : Option Replica)
    → IfSome o (IsTaking (IsReplicaOf space) g)
    → folded_step (acked space (folded_server s) from key v region (option_map folded_replica o)) ≡ folded_step (acked space s from key v region o)
acked-folds space s from key v region g None k = unmoved-folds s
acked-folds space s from key v region g (Some r) k =
    let at_key = is_key_region space r.region in
    let state = state_in space r key in
    ap (λ (x : KeyState). folded_step (acked_of space (folded_server s) from region (folded_replica r) x v (pending_with v x)))
    (folded-among r.region at_key key r.states)
    ∙ ap (λ (o : Option Update). folded_step (acked_of space (folded_server s) from region (folded_replica r) (folded r.region state) v o))
    (pending_with-folded r.region v state)
    ∙ acked_of-folds space s from region r state v (among-slot r.region at_key key r.states k.replica).slot (pending_with v state)

-- Ask
asked-folds : (s : ServerState) (from : Actor) (epoch : Epoch) (number : ℕ) (terms : List Term) (o : Option Replica)
    → folded_step (asked (folded_server s) from epoch number terms (option_map folded_replica o)) ≡ folded_step (asked s from epoch number terms o)
asked-folds s from epoch number terms None = unmoved-folds s
asked-folds s from epoch number terms (Some r) =
    saying-folds s _ _
    (ap (λ rows. provided (lists_ready s.config r.region s.id)
    (post (Server s.id) from (a_message.Found epoch number r.region rows) ∷ [])) (found-folded r.region terms r.states))

-- Snap
snapped-folds : (space : Space) (s : ServerState) (from : Actor) (snapshot : List Kept) (pending : List Update) (o : Option Replica)
    → folded_step (snapped space (folded_server s) from snapshot pending (option_map folded_replica o)) ≡ folded_step (snapped space s from snapshot pending o)
snapped-folds space s from snapshot pending None = unmoved-folds s
snapped-folds space s from snapshot pending (Some r) =
    let slots = installed_slots (context_of space s r.region) snapshot pending in
    let new : Replica = record { region = r.region; installed = true; states = slots.states } in
    let replicas = replica-put new new s.replicas refl in
    cond-folds (not (hears_snap s.config r.region s.id from)) _ _ _ _
    (unmoved-folds s)
    (
    cond-folds r.installed _ _ _ _
    (saying-folds s _ _ refl)
    (λ j. record { state = record s { replicas = replicas j }; posts = slots.posts ++ ready_post s r.region; notes = [] })
    )

-- Die and Halt
halting-folds : (s : ServerState) → folded_step (halting (folded_server s)) ≡ folded_step (halting s)
halting-folds s =
    let twice = folded-replicas-twice s.replicas in
    λ j. record { state = record s { halted = true; replicas = twice j }; posts = post (Server s.id) Coordinator a_message.Gone ∷ []; notes = [] }

-- Tick
snaps-folded : (s : ServerState) (r : Replica) → snap_posts (folded_server s) (folded_replica r) ≡ snap_posts s r
snaps-folded s r =
    by (joiner_for s.config r.region s.id)
  where
    by : (o : Option ServerId) → snap_to (folded_server s) (folded_replica r) o ≡ snap_to s r o
    by None = refl
    by (Some joiner) = λ j. post (Server s.id) (Server joiner)
        (a_message.Snap s.config.epoch r.region (snapshot-folded r.region r.states j)
        (pending_all-folded r.region r.states j)) ∷ []

replica-tick-folded : (space : Space) (s : ServerState) (r : Replica) → replica_tick space (folded_server s) (folded_replica r) ≡ replica_tick space s r
replica-tick-folded space s r =
    let snaps = snaps-folded s r in
    let pending = pending-posts-folded (context_of space s r.region) r.states in
    λ j. provided (is_active s.config r) (snaps j ++ pending j ++ ready_post s r.region)

ticks-folded : (space : Space) (s : ServerState) (rs : List Replica)
    → flat_map (replica_tick space (folded_server s)) (map folded_replica rs) ≡ flat_map (replica_tick space s) rs
ticks-folded space s [] = refl
ticks-folded space s (r ∷ rest) = λ j. replica-tick-folded space s r j ++ ticks-folded space s rest j

asking-folded : (s : ServerState) (ps : List Post) → asking_last (folded_server s) ps ≡ asking_last s ps
asking-folded s [] = refl
asking-folded s (p ∷ rest) = refl

tick-folds : (space : Space) (s : ServerState) → folded_step (tick_step space (folded_server s)) ≡ folded_step (tick_step space s)
tick-folds space s =
    saying-folds s _ _
    (ap (asking_last (folded_server s)) (ticks-folded space s s.replicas) ∙ asking-folded s (flat_map (replica_tick space s) s.replicas))

-- Install
pub new-folded : (rs : List Replica) (g : RegionId) → replica_or_new (map folded_replica rs) g ≡ folded_replica (replica_or_new rs g)
new-folded rs g =
    ap (λ (o : Option Replica). when_some o (record { region = g; installed = false; states = [] }) (λ (r : Replica). r)) (replica-folded g rs)
    ∙ by (replica_of g rs)
  where
    by : (o : Option Replica) → when_some (option_map folded_replica o)
        (record { region = g; installed = false; states = [] }) (λ (r : Replica). r)
        ≡ folded_replica (when_some o (record { region = g; installed = false; states = [] }) (λ (r : Replica). r))
    by None = refl
    by (Some r) = refl

news-folded : (rs : List Replica) (gs : List RegionId) → map (replica_or_new (map folded_replica rs)) gs ≡ map folded_replica (map (replica_or_new rs) gs)
news-folded rs [] = refl
news-folded rs (g ∷ gs) = λ j. new-folded rs g j ∷ news-folded rs gs j

config-folded : (s : ServerState) (config : Config) → with_config (folded_server s) config ≡ folded_server (with_config s config)
config-folded s config =
    let replicas = news-folded s.replicas (listed_regions config s.id) in
    λ j. record { id = s.id; config = config; halted = s.halted; replicas = replicas j }

adopted-posts-folded : (space : Space) (s : ServerState) (r : Replica) → IsReplicaOf space r
    → adopted_posts space (folded_server s) (folded_replica r) ≡ adopted_posts space s r
adopted-posts-folded space s r h =
    let snaps = snaps-folded s r in
    let posts = resumed-all-folded (is_key_region space r.region) (context_of space s r.region) r.states h in
    λ j. provided (is_active s.config r) (snaps j ++ posts j ++ ready_post s r.region)

adopted-all-posts : (space : Space) (s : ServerState) (rs : List Replica) → AllByRecursion (IsReplicaOf space) rs
    → flat_map (adopted_posts space (folded_server s)) (map folded_replica rs) ≡ flat_map (adopted_posts space s) rs
adopted-all-posts space s [] h = refl
adopted-all-posts space s (r ∷ rest) h =
    let a = adopted-posts-folded space s r h.0 in
    let b = adopted-all-posts space s rest h.1 in
    λ j. a j ++ b j

adopted-replicas : (space : Space) (s : ServerState) (rs : List Replica) → AllByRecursion (IsReplicaOf space) rs
    → map folded_replica (map (adopted_replica space (folded_server s)) (map folded_replica rs)) ≡ map folded_replica (map (adopted_replica space s) rs)
adopted-replicas space s [] h = refl
adopted-replicas space s (r ∷ rest) h =
    let a = adopted-all-folded (is_key_region space r.region) (context_of space s r.region) (is_active s.config r) r.states h.0 in
    let b = adopted-replicas space s rest h.1 in
    λ j. record r { states = a j } ∷ b j

adopted-folds : (space : Space) (s : ServerState) → IsServerOf space s → folded_step (adopted space (folded_server s)) ≡ folded_step (adopted space s)
adopted-folds space s h =
    let replicas = adopted-replicas space s s.replicas h in
    let posts = adopted-all-posts space s s.replicas h in
    λ j. record { state = record s { replicas = replicas j }; posts = posts j; notes = [] }

install-folds : (space : Space) (s : ServerState) → IsServerOf space s → (config : Config)
    → folded_step (install_at space (folded_server s) config) ≡ folded_step (install_at space s config)
install-folds space s h config =
    cond-folds (ltb s.config.epoch.0 config.epoch.0) _ _ _ _
    (ap (λ (x : ServerState). folded_step (adopted space x)) (config-folded s config)
    ∙ adopted-folds space (with_config s config) (config-replicas (IsReplicaOf space) (λ g. tt) s config h))
    (unmoved-folds s)

-- the rows of the table
message-folds : (space : Space) (s : ServerState) → IsServerOf space s → (from : Actor) (m : Message) → MessageFits m
    → folded_step (message_step space (folded_server s) from m) ≡ folded_step (message_step space s from m)
message-folds space s h from (a_message.Call epoch number op) f = meeting-folds s epoch _ _ (called_by-folds space s h from number op)
message-folds space s h from (a_message.Update epoch g u) f =
    meeting-folds s epoch _ _
    (
    ap (λ (o : Option Replica). folded_step (updated space (folded_server s) from u o)) (installed_for-folded s g)
    ∙ updated-folds space s from u f g (if_installed (replica_for s g)) (taking_installed (IsReplicaOf space) s h g)
    )
message-folds space s h from (a_message.Ack epoch g region key version) f =
    meeting-folds s epoch _ _
    (
    ap (λ (o : Option Replica). folded_step (acked space (folded_server s) from key version.0 region o)) (installed_for-folded s g)
    ∙ acked-folds space s from key version.0 region g (if_installed (replica_for s g)) (taking_installed (IsReplicaOf space) s h g)
    )
message-folds space s h from (a_message.Ask epoch number g terms) f =
    meeting-folds s epoch _ _
    (
    ap (λ (o : Option Replica). folded_step (asked (folded_server s) from epoch number terms o)) (installed_for-folded s g)
    ∙ asked-folds s from epoch number terms (if_installed (replica_for s g))
    )
message-folds space s h from (a_message.Install config) f = install-folds space s h config
message-folds space s h from a_message.Die f = halting-folds s
message-folds space s h from (a_message.Snap epoch g snapshot pending) f =
    meeting-folds s epoch _ _
    (
    ap (λ (o : Option Replica). folded_step (snapped space (folded_server s) from snapshot pending o)) (replica_for-folded s g)
    ∙ snapped-folds space s from snapshot pending (replica_for s g)
    )
message-folds space s h from other f = unmoved-folds s

input-folds : (space : Space) (s : ServerState) → IsServerOf space s → (input : Input) → InputFits input
    → folded_step (input_step space (folded_server s) input) ≡ folded_step (input_step space s input)
input-folds space s h Tick f = tick-folds space s
input-folds space s h Halt f = halting-folds s
input-folds space s h (Deliver id from m) f = message-folds space s h from m f

-- the step of a server without its past is that of the server, without its past
pub server-folds : (space : Space) (s : ServerState) → IsServerOf space s → (input : Input) → InputFits input
    → folded_step (server_step space (folded_server s) input) ≡ folded_step (server_step space s input)
server-folds space s h input f = cond-folds s.halted _ _ _ _ (unmoved-folds s) (input-folds space s h input f)

-- a server without a past: what a step of one of its slots leaves, without its past
pub with-slot-lean : (s : ServerState) (r : Replica) (x y : KeyState) → folded_server s ≡ s → folded_replica r ≡ r
    → folded r.region x ≡ y → folded_server (with_slot s r x) ≡ with_slot s r y
with-slot-lean s r x y bare here e =
    let states : map (folded r.region) (with_state x r.states) ≡ with_state y r.states =
    folded-with r.region x r.states ∙ (λ j. with_state (e j) (here j).states) in
    let replicas = with-replica-folded (record r { states = with_state x r.states }) s.replicas
    ∙ (λ j. with_replica (record r { states = states j }) (bare j).replicas) in
    λ j. record s { replicas = replicas j }

get-folded : (rs : List Replica) (place : ℕ) → slice_get (map folded_replica rs) place ≡ option_map folded_replica (slice_get rs place)
get-folded [] place = refl
get-folded (r ∷ rs) zero = refl
get-folded (r ∷ rs) (suc place) = get-folded rs place

-- each of its replicas has none
pub found-lean : (s : ServerState) (place : ℕ) (r : Replica) → folded_server s ≡ s → slice_get s.replicas place ≡ Some r → folded_replica r ≡ r
found-lean s place r bare e =
    let same = sym (ap (option_map folded_replica) e) ∙ sym (get-folded s.replicas place) ∙ ap (λ (x : ServerState). slice_get x.replicas place) bare ∙ e in
    same_Some (folded_replica r) r same

pub state-lean : (space : Space) (r : Replica) (key : List ℕ) → folded_replica r ≡ r → folded r.region (state_in space r key) ≡ state_in space r key
state-lean space r key e = sym (folded-among r.region (is_key_region space r.region) key r.states)
    ∙ ap (λ (x : Replica). state_among (is_key_region space r.region) key x.states) e
