-- What an actor is given on its own thread it can take.
use Rattle.std.proofs.Common.{◌≡◌, ℕ, ◌+◌, ◌<◌, ◌≤◌, inl, inr, List, [], ◌∷◌, length, sym, ap, ◌∙◌, subst, arith}
use Rattle.std.specs.List.{AllByRecursion}
use Rattle.hx_model.specs.Types.{Actor, Coordinator, Deliver, Halt, Input, Script, Server, ServerId, Session, SessionId, Space, Tick}
use Rattle.hx_types.specs.Subspaces.{is_key_region}
use Rattle.hx_types.specs.Words.{IsIn}
use Rattle.hx_model.specs.CoordinatorSteps.{CoordinatorState}
use Rattle.hx_model.specs.Runs.{coordinator_of, server_of, session_of}
use Rattle.hx_model.specs.ServerSteps.{Replica, ServerState}
use Rattle.hx_model.specs.SessionSteps.{SessionState}
use Rattle.hx_model.specs.Slots.{top_of}
use Rattle.hx_clock.specs.declared.parts.Stamped.{Stamped}
use Rattle.hx_law_folds.specs.Folding.{InputFits, IsReplicaOf, IsServerOf as AreInOrder, IsSlotIn, folded, folded_replica, folded_server}
use Rattle.hx_law_folds.proofs.Lemmas.{top-folded, sound-fits}
use Rattle.hx_law_lemmas.proofs.Lemmas.{in-map}
use Rattle.hx_law_threads.specs.Feeding.{IsFedBy, IsSoundAfter, entries_in, latest}
use Rattle.hx_law_threads.proofs.Lemmas.{actors_stay_sound}
use Rattle.hx_coord.specs.Coordinators as coordinator
use Rattle.hx_replica.specs.Servers as server
use Rattle.hx_session.specs.Sessions as session
use Rattle.hx_machine.specs.declared.machines.Machine.{Machine}
use Rattle.hx_machine.specs.declared.machines.Machine.TheVariants as a_machine
use Rattle.hx_machine.specs.Machines.{CanTake, IsMachine}

-- the slots of a server without their past have no higher versions
all_in : {A : Type 0} (P : A → Type 0) (xs : List A) (x : A) → AllByRecursion P xs → IsIn x xs → P x
all_in P [] x h i = absurd i
all_in P (y ∷ ys) x h (inl e) = subst P (sym e) h.0
all_in P (y ∷ ys) x h (inr i) = all_in P ys x h.1 i

small_folded : (space : Space) (s : ServerState) → AreInOrder space s → server.HasSmallVersions s → server.HasSmallVersions (folded_server s)
small_folded space s order small r i k j =
    let from = in-map folded_replica s.replicas r i in
    let state = in-map (folded from.0.region) from.0.states k (subst (λ (x : Replica). IsIn k x.states) from.2 j) in
    let slot = all_in (IsSlotIn (is_key_region space from.0.region) from.0.region) from.0.states state.0
    (all_in (IsReplicaOf space) s.replicas from.0 order from.1) state.1 in
    subst (λ n. n ≤ 4611686018427387904) (sym (ap top_of state.2 ∙ top-folded from.0.region state.0 slot.slot.floor)) (small from.0 from.1 state.0 state.1)

-- what an actor that is fed sound posts is after its entries
sound_after : (script : Script) (a : Actor) (past : List Stamped) (input : Input) → CanTake script a past input
    → IsSoundAfter script (latest past) (entries_in past) a
sound_after script a past input c = (actors_stay_sound script c.valid a c.exists past c.own c.fed).state

-- what it is fed comes after lower versions
pub fits : (script : Script) (n : ℕ) (a : Actor) (input : Input) → IsFedBy script n a input → InputFits input
fits script n a Tick h = tt
fits script n a Halt h = tt
fits script n a (Deliver id from m) h = sound-fits _ m h.1.message

input_to_server : (script : Script) (n : ℕ) (s : ServerId) (input : Input) → n < 2305843009213693952
    → IsFedBy script n (Server s) input → server.IsInputTo script.space s input
input_to_server script n s Tick few h = tt
input_to_server script n s Halt few h = tt
input_to_server script n s (Deliver id from m) few h =
    let within = h.0 in record { sessions = length script.sessions; entry = id.entry; few = omega (arith, within, few); sound = h.1 }

-- a server
serves : (script : Script) (s : ServerId) (past : List Stamped) (input : Input)
    → AreInOrder script.space (server_of script s (entries_in past)) → CanTake script (Server s) past input
    → server.CanTake script.space (folded_server (server_of script s (entries_in past))) input
serves script s past input order c =
    let sound = sound_after script (Server s) past input c in
    let later = c.later in
    let few = c.few in
    record {
      running = c.running;
      input_to = subst (λ (x : ServerId). server.IsInputTo script.space x input) (sym sound.0) (input_to_server script c.stamp s input few c.input_to);
      small = small_folded script.space (server_of script s (entries_in past)) order (λ r i t j. let top = sound.1 r i t j in omega (arith, top, later, few));
    }

-- a session
attends : (script : Script) (n : ℕ) (u : SessionId) (st : SessionState) (input : Input) → st.id ≡ u
    → n < 2305843009213693952 → IsFedBy script n (Session u) input → session.CanTake script.space st input
attends script n u st Tick same few h = tt
attends script n u st Halt same few h = h
attends script n u st (Deliver id from m) same few h =
    let within = h.0 in
    subst (λ (x : SessionId). session.IsSoundDelivery script.space x from m) (sym same)
    (record { sessions = length script.sessions; entry = id.entry; few = omega (arith, within, few); sound = h.1 })

-- the coordinator
coordinates : (script : Script) (n top : ℕ) (c : CoordinatorState) (input : Input) → c.config.epoch.0 ≤ top + 1
    → top ≤ n → n < 2305843009213693952 → IsFedBy script n Coordinator input → coordinator.CanTake c input
coordinates script n top c Tick epoch later few h = tt
coordinates script n top c Halt epoch later few h = h
coordinates script n top c (Deliver id from m) epoch later few h = omega (arith, epoch, later, few)

-- an actor with the state of its entries can take the input
pub coordinator_can : (script : Script) (past : List Stamped) (input : Input) (c : CoordinatorState)
    → c ≡ coordinator_of script (entries_in past) → CanTake script Coordinator past input → coordinator.CanTake c input
coordinator_can script past input c at can =
    subst (λ (x : CoordinatorState). coordinator.CanTake x input) (sym at)
    (coordinates script can.stamp (latest past) (coordinator_of script (entries_in past)) input
    (sound_after script Coordinator past input can) can.later can.few can.input_to)

pub server_can : (script : Script) (s : ServerId) (past : List Stamped) (input : Input) (v : server.ServerValue)
    → IsMachine script (Server s) (entries_in past) (a_machine.Server v) → CanTake script (Server s) past input
    → server.CanTake v.space v.state input
server_can script s past input v at can =
    subst (λ (x : Space). server.CanTake x v.state input) (sym at.0)
    (subst (λ (x : ServerState). server.CanTake script.space x input) (sym at.1) (serves script s past input at.2 can))

pub session_can : (script : Script) (u : SessionId) (past : List Stamped) (input : Input) (v : session.SessionValue)
    → IsMachine script (Session u) (entries_in past) (a_machine.Session v) → CanTake script (Session u) past input
    → session.CanTake v.space v.state input
session_can script u past input v at can =
    subst (λ (x : Space). session.CanTake x v.state input) (sym at.0)
    (
    subst (λ (x : SessionState). session.CanTake script.space x input) (sym at.1)
    (attends script can.stamp u (session_of script u (entries_in past)) input (sound_after script (Session u) past input can) can.few can.input_to)
    )

-- the input that an actor is given is one for its role
pub coordinator_ready : (script : Script) (a : Actor) (past : List Stamped) (input : Input) (m : Machine)
    (c : CoordinatorState) → m ≡ a_machine.Coordinator c → IsMachine script a (entries_in past) m → CanTake script a past input
    → coordinator.CanTake c input
coordinator_ready script Coordinator past input m c e at can =
    coordinator_can script past input c (subst (IsMachine script Coordinator (entries_in past)) e at) can
coordinator_ready script (Server s) past input m c e at can = absurd (subst (IsMachine script (Server s) (entries_in past)) e at)
coordinator_ready script (Session u) past input m c e at can = absurd (subst (IsMachine script (Session u) (entries_in past)) e at)

pub server_ready : (script : Script) (a : Actor) (past : List Stamped) (input : Input) (m : Machine)
    (v : server.ServerValue) → m ≡ a_machine.Server v → IsMachine script a (entries_in past) m → CanTake script a past input
    → server.CanTake v.space v.state input
server_ready script Coordinator past input m v e at can = absurd (subst (IsMachine script Coordinator (entries_in past)) e at)
server_ready script (Server s) past input m v e at can = server_can script s past input v (subst (IsMachine script (Server s) (entries_in past)) e at) can
server_ready script (Session u) past input m v e at can = absurd (subst (IsMachine script (Session u) (entries_in past)) e at)

pub session_ready : (script : Script) (a : Actor) (past : List Stamped) (input : Input) (m : Machine)
    (v : session.SessionValue) → m ≡ a_machine.Session v → IsMachine script a (entries_in past) m → CanTake script a past input
    → session.CanTake v.space v.state input
session_ready script Coordinator past input m v e at can = absurd (subst (IsMachine script Coordinator (entries_in past)) e at)
session_ready script (Server s) past input m v e at can = absurd (subst (IsMachine script (Server s) (entries_in past)) e at)
session_ready script (Session u) past input m v e at can = session_can script u past input v (subst (IsMachine script (Session u) (entries_in past)) e at) can
