-- What a step with lent lists makes and changes, and what the actor is once the change is made.
use Rattle.std.proofs.Common.{◌≡◌, Box, Global, List, ◌∷◌, refl, sym, ap, ◌∙◌, subst}
use Rattle.std.proofs.lemmas.Bool.{cond-true, eq-eqb}
use Rattle.hx_model.specs.Types.{Actor, Coordinator, Entry, Input, Script, Server, ServerId, Session}
use Rattle.hx_types.specs.Words.{same_server, same_session}
use Rattle.hx_model.specs.CoordinatorSteps.{CoordinatorState, coordinator_step}
use Rattle.hx_model.specs.Runs.{Output, entry_of, made_of, server_of, session_of}
use Rattle.hx_model.specs.ServerSteps.{ServerState, ServerStep, server_step}
use Rattle.hx_model.specs.SessionSteps.{SessionState, session_step}
use Rattle.hx_clock.specs.declared.parts.Stamped.{Stamped}
use Rattle.hx_law_folds.specs.Folding.{IsServerOf as AreInOrder, folded_server, folded_step}
use Rattle.hx_law_folds.proofs.Lemmas.{folded-server-twice, server-folds, server-stays}
use Rattle.hx_law_threads.specs.Feeding.{entries_in}
use Rattle.hx_coord.specs.declared.prepared.Plan.{Plan as CoordinatorPlan}
use Rattle.hx_replica.specs.declared.prepared.Change.{Change as ServerChange}
use Rattle.hx_replica.specs.declared.prepared.Change.TheVariants as a_server_change
use Rattle.hx_replica.specs.Plans as server_plan
use Rattle.hx_replica.specs.Servers as server
use Rattle.hx_session.specs.declared.prepared.Change.{Change as SessionChange}
use Rattle.hx_session.specs.Changes as session_plan
use Rattle.hx_session.specs.Sessions as session
use Rattle.hx_machine.specs.declared.changes.Change.{Change}
use Rattle.hx_machine.specs.declared.changes.Change.TheVariants as a_change
use Rattle.hx_machine.specs.declared.machines.Machine.{Machine}
use Rattle.hx_machine.specs.declared.machines.Machine.TheVariants as a_machine
use Rattle.hx_machine.specs.Machines.{CanTake, IsChangeOf, IsMachine}
use Rattle.hx_machine.proofs.Taking.{fits}

-- the entries of an actor once it has made its step
abbrev pub stepped : Script → Actor → List Stamped → Input → List Entry
stepped script a past input = entry_of a input (made_of script (entries_in past) a input) ∷ entries_in past

-- the actor is a server, with this value
abbrev pub Serves : Script → Actor → List Stamped → server.ServerValue → Type 0
Serves script a past v = IsMachine script a (entries_in past) (a_machine.Server v)

-- it has no past
pub server_bare : (script : Script) (a : Actor) (past : List Stamped) (m : Machine) (v : server.ServerValue)
    → m ≡ a_machine.Server v → IsMachine script a (entries_in past) m → folded_server v.state ≡ v.state
server_bare script a past m v e at = by a (subst (IsMachine script a (entries_in past)) e at)
  where
    by : (b : Actor) → Serves script b past v → folded_server v.state ≡ v.state
    by Coordinator h = absurd h
    by (Server s) h = ap folded_server h.1 ∙ folded-server-twice (server_of script s (entries_in past)) ∙ sym h.1
    by (Session u) h = absurd h

-- its step is that of the server with its past, without it
step_folds : (script : Script) (s : ServerId) (past : List Stamped) (input : Input) (v : server.ServerValue)
    → Serves script (Server s) past v → CanTake script (Server s) past input
    → folded_step (server_step v.space v.state input) ≡ folded_step (server_step script.space (server_of script s (entries_in past)) input)
step_folds script s past input v at can =
    (λ i. folded_step (server_step (at.0 i) (at.1 i) input))
    ∙ server-folds script.space (server_of script s (entries_in past)) at.2 input (fits script can.stamp (Server s) input can.input_to)

-- what it posts and notes
abbrev pub output_of : ServerStep → Output
output_of step = record { posts = step.posts; notes = step.notes }

pub server_made : (script : Script) (a : Actor) (past : List Stamped) (input : Input) (m : Machine) (v : server.ServerValue)
    → m ≡ a_machine.Server v → IsMachine script a (entries_in past) m → CanTake script a past input
    → output_of (server_step v.space v.state input) ≡ made_of script (entries_in past) a input
server_made script a past input m v e at can = by a (subst (IsMachine script a (entries_in past)) e at) can
  where
    by : (b : Actor) → Serves script b past v → CanTake script b past input
        → output_of (server_step v.space v.state input) ≡ made_of script (entries_in past) b input
    by Coordinator h may = absurd h
    by (Server s) h may = ap output_of (step_folds script s past input v h may)
    by (Session u) h may = absurd h

-- a change is as good for every state that differs in its past alone
same_change : (v : server.ServerValue) (x y : ServerState) (change : ServerChange) → folded_server x ≡ folded_server y
    → server_plan.IsChange v x change → server_plan.IsChange v y change
same_change v x y a_server_change.Nothing e is = sym e ∙ is
same_change v x y a_server_change.Halt e is = sym e ∙ is
same_change v x y (a_server_change.Adopt config replicas) e is = record { new = is.new; state = sym e ∙ is.state }
same_change v x y (a_server_change.Join number replica) e is =
    record { before = is.before; found = is.found; region = is.region; is = is.is; state = sym e ∙ is.state }
same_change v x y (a_server_change.Slot number place change) e is =
    record { key = is.key; replica = is.replica; found = is.found; room = is.room; fits = is.fits; state = sym e ∙ is.state }

-- and what it changes
pub server_changes : (script : Script) (a : Actor) (past : List Stamped) (input : Input) (m : Machine) (v after : server.ServerValue)
    → (change : ServerChange) → m ≡ a_machine.Server v
    → server_plan.IsChange after (server_step v.space v.state input).state change
    → IsMachine script a (entries_in past) m → CanTake script a past input
    → IsChangeOf script a (entries_in past) input (a_machine.Server after) (a_change.Server change)
server_changes script a past input m v after change e is at can = by a (subst (IsMachine script a (entries_in past)) e at) can
  where
    by : (b : Actor) → Serves script b past v → CanTake script b past input
        → IsChangeOf script b (entries_in past) input (a_machine.Server after) (a_change.Server change)
    by Coordinator h may = absurd h
    by (Server s) h may =
        let whole : ServerStep = server_step script.space (server_of script s (entries_in past)) input in
        same_change after (server_step v.space v.state input).state whole.state change
        (ap (λ (step : ServerStep). step.state) (step_folds script s past input v h may)) is
    by (Session u) h may = absurd h

-- a change that is ready to be made, and the machine once it is made
module _ (script : Script) (a : Actor) (past : List Stamped) (input : Input) (m m' : Machine) (p : Change)
    (at : IsMachine script a (entries_in past) m) (can : CanTake script a past input) (is : IsChangeOf script a (entries_in past) input m p) where
  change_at : (n : Machine) (q : Change) → m ≡ n → p ≡ q → IsChangeOf script a (entries_in past) input n q
  change_at n q e f =
      subst (IsChangeOf script a (entries_in past) input n) f (subst (λ (k : Machine). IsChangeOf script a (entries_in past) input k p) e is)

  pub server_can_make : (v : server.ServerValue) (change : ServerChange) → m ≡ a_machine.Server v → p ≡ a_change.Server change
      → server_plan.CanMake v change
  server_can_make v change e f = by a (change_at (a_machine.Server v) (a_change.Server change) e f)
    where
      by : (b : Actor) → IsChangeOf script b (entries_in past) input (a_machine.Server v) (a_change.Server change)
          → server_plan.CanMake v change
      by Coordinator h = absurd h
      by (Server s) h = record { after = (server_step script.space (server_of script s (entries_in past)) input).state; is = h }
      by (Session u) h = absurd h

  pub coordinator_changed : (c after : CoordinatorState) (plan : Box CoordinatorPlan Global) → m ≡ a_machine.Coordinator c
      → p ≡ a_change.Coordinator plan → m' ≡ a_machine.Coordinator after → after ≡ (coordinator_step c plan.value.entry.input).state
      → IsMachine script a (stepped script a past input) m'
  coordinator_changed c after plan e f g moves =
      subst (IsMachine script a (stepped script a past input)) (sym g)
      (by a (subst (IsMachine script a (entries_in past)) e at) (change_at (a_machine.Coordinator c) (a_change.Coordinator plan) e f))
    where
      by : (b : Actor) → IsMachine script b (entries_in past) (a_machine.Coordinator c)
          → IsChangeOf script b (entries_in past) input (a_machine.Coordinator c) (a_change.Coordinator plan)
          → IsMachine script b (stepped script b past input) (a_machine.Coordinator after)
      by Coordinator h i = moves ∙ (λ j. (coordinator_step (h j) (i.1 j).input).state)
      by (Server s) h i = absurd h
      by (Session u) h i = absurd h

  pub server_changed : (v after : server.ServerValue) (change : ServerChange) → m ≡ a_machine.Server v → p ≡ a_change.Server change
      → m' ≡ a_machine.Server after → after.space ≡ v.space
      → ((x : ServerState) → server_plan.IsChange v x change → after.state ≡ folded_server x)
      → IsMachine script a (stepped script a past input) m'
  server_changed v after change e f g space moves =
      subst (IsMachine script a (stepped script a past input)) (sym g)
      (by a (subst (IsMachine script a (entries_in past)) e at) can (change_at (a_machine.Server v) (a_change.Server change) e f))
    where
      by : (b : Actor) → Serves script b past v → CanTake script b past input
          → IsChangeOf script b (entries_in past) input (a_machine.Server v) (a_change.Server change)
          → IsMachine script b (stepped script b past input) (a_machine.Server after)
      by Coordinator h may i = absurd h
      by (Server s) h may i =
          let st : ServerState = server_of script s (entries_in past) in
          let step : ServerStep = server_step script.space st input in
          let next : step.state ≡ server_of script s (stepped script (Server s) past input) =
          sym (cond-true (same_server s s) step.state st (eq-eqb s.0 s.0 refl)) in (
            space ∙ h.0,
            moves step.state i ∙ ap folded_server next,
            subst (AreInOrder script.space) next (server-stays script.space st h.2 input (fits script may.stamp (Server s) input may.input_to)),
          )
      by (Session u) h may i = absurd h

  pub session_changed : (v after : session.SessionValue) (change : SessionChange) → m ≡ a_machine.Session v → p ≡ a_change.Session change
      → m' ≡ a_machine.Session after → after.space ≡ v.space
      → ((i : Input) → session_plan.IsChangeOn v i change → after.state ≡ (session_step v.space v.state i).state)
      → IsMachine script a (stepped script a past input) m'
  session_changed v after change e f g space moves =
      subst (IsMachine script a (stepped script a past input)) (sym g)
      (by a (subst (IsMachine script a (entries_in past)) e at) (change_at (a_machine.Session v) (a_change.Session change) e f))
    where
      by : (b : Actor) → IsMachine script b (entries_in past) (a_machine.Session v)
          → IsChangeOf script b (entries_in past) input (a_machine.Session v) (a_change.Session change)
          → IsMachine script b (stepped script b past input) (a_machine.Session after)
      by Coordinator h i = absurd h
      by (Server s) h i = absurd h
      by (Session u) h i =
          let st : SessionState = session_of script u (entries_in past) in
          let next : (session_step script.space st input).state ≡ session_of script u (stepped script (Session u) past input) =
          sym (cond-true (same_session u u) (session_step script.space st input).state st (eq-eqb u.0 u.0 refl)) in
          (space ∙ h.0, moves input i ∙ (λ j. (session_step (h.0 j) (h.1 j) input).state) ∙ next)
