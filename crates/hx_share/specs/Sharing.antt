-- What callers that share one store leave; traces stand here newest first, but that of `Shared`.
use Rattle.std.specs.Prelude.{List, reverse, Option, None, Some}
use Rattle.hx_types.specs.declared.ids.Actor.{Actor}
use Rattle.hx_types.specs.declared.traces.Entry.{Entry}
use Rattle.hx_types.specs.declared.traces.Script.{Script}
use Rattle.hx_model.specs.Runs.{IsRun}
use Rattle.hx_model.specs.Schedule.{IsQuiet}
use Rattle.hx_law_growing.specs.Growing.{GrowsTo}
use Rattle.hx_law_growing.specs.Serving.{IsServed}
use Rattle.hx_share.specs.declared.sharing.Shared.{Shared}
use Rattle.hx_world.specs.Worlds.{HasFewEntries, IsWornOut}

-- of the calls that were made up to there, the next entry is one of the actor, which has made 1,048,576 entries
pub record IsWornSharing (script : Script) (trace : List Entry) (a : Actor) : Type 0 where
  pub made : Script
  pub grows : GrowsTo made script
  pub run : IsRun made trace
  pub worn_out : IsWornOut made trace a

-- there is nothing left to do, or an actor is worn
abbrev pub EndsSharing : Script → List Entry → Option Actor → Type 0
EndsSharing script trace None = IsQuiet script trace
EndsSharing script trace (Some a) = IsWornSharing script trace a

-- a run of the script without its steps, in which each entry begins a call or delivers a post that none before it delivers
pub record IsShared (script : Script) (shared : Shared) : Type 0 where
  pub run : IsRun script (reverse shared.trace)
  pub served : IsServed (reverse shared.trace)
  pub few : HasFewEntries (reverse shared.trace)
  pub ends : EndsSharing script (reverse shared.trace) shared.worn
