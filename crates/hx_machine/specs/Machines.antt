-- An actor of any role after its own entries, newest first, and the inputs that it can take.
use Rattle.std.specs.Prelude.{◌≡◌, ◌≤◌, ◌<◌, ◌^◌, ℕ, true, false, Bool, List}
use Rattle.hx_model.specs.Types.{Actor, Coordinator, Entry, Input, Script, Server, Session}
use Rattle.hx_types.specs.Fitting.{IsScript}
use Rattle.hx_model.specs.Runs.{coordinator_of, entry_of, has_halted, is_actor, made_of, server_of, session_of}
use Rattle.hx_model.specs.ServerSteps.{server_step}
use Rattle.hx_law_folds.specs.Folding.{IsServerOf as AreInOrder, folded_server}
use Rattle.hx_clock.specs.declared.parts.Stamped.{Stamped}
use Rattle.hx_law_threads.specs.Own.{IsOwn}
use Rattle.hx_law_threads.specs.Feeding.{IsFed, IsFedBy, entries_in, latest}
use Rattle.hx_coord.specs.Changes as coordinator
use Rattle.hx_replica.specs.Plans as server
use Rattle.hx_session.specs.Changes as session
use Rattle.hx_session.specs.Sessions.{is_ended}
use Rattle.hx_machine.specs.declared.changes.Change.{Change}
use Rattle.hx_machine.specs.declared.changes.Change.TheVariants as a_change
use Rattle.hx_machine.specs.declared.machines.Machine.{Machine}
use Rattle.hx_machine.specs.declared.machines.Machine.TheVariants as a_machine

-- the actor has the state that is folded from its entries; a server's slots have no past
abbrev pub IsMachine : Script → Actor → List Entry → Machine → Type 0
IsMachine script Coordinator past (a_machine.Coordinator c) = c ≡ coordinator_of script past
IsMachine script (Server s) past (a_machine.Server v) =
    (v.space ≡ script.space) × (v.state ≡ folded_server (server_of script s past)) × AreInOrder script.space (server_of script s past)
IsMachine script (Session u) past (a_machine.Session v) = (v.space ≡ script.space) × (v.state ≡ session_of script u past)
IsMachine script other past machine = ⊥

-- the actor, which made these entries on its own, can take the input as the entry after those of number n
pub record CanTake (script : Script) (a : Actor) (past : List Stamped) (input : Input) : Type 0 where
  pub valid : IsScript script
  pub exists : is_actor script a ≡ true
  pub own : IsOwn script a (entries_in past)
  pub fed : IsFed script past
  pub running : has_halted script (entries_in past) a ≡ false
  pub stamp : ℕ
  pub later : latest past ≤ stamp
  pub few : stamp < 2 ^ 61
  pub input_to : IsFedBy script stamp a input

-- the change is ready to be made of the actor, and is that of its step on the input after its entries
abbrev pub IsChangeOf : Script → Actor → List Entry → Input → Machine → Change → Type 0
IsChangeOf script Coordinator past input (a_machine.Coordinator c) (a_change.Coordinator plan) =
    coordinator.IsPlanOn c plan.value × (plan.value.entry ≡ entry_of Coordinator input (made_of script past Coordinator input))
IsChangeOf script (Server s) past input (a_machine.Server v) (a_change.Server change) =
    server.IsChange v (server_step script.space (server_of script s past) input).state change
IsChangeOf script (Session u) past input (a_machine.Session v) (a_change.Session change) = session.IsChangeOn v input change
IsChangeOf script other past input machine change = ⊥

-- the actor is no session with a call left or under way
abbrev pub has_ended : Script → List Entry → Actor → Bool
has_ended script past (Session u) = is_ended (session_of script u past)
has_ended script past other = true
