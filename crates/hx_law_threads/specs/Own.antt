-- What one actor makes on its own thread: its entries, each its step after those before it, whatever was posted to it.
use Rattle.std.specs.Prelude.{◌≡◌, true, false, List, [], ◌∷◌, map, reverse, ⊤}
use Rattle.std.specs.List.{filter}
use Rattle.hx_model.specs.Types.{Actor, Deliver, Entry, Halt, Input, Script, Tick}
use Rattle.hx_types.specs.Words.{same_actor}
use Rattle.hx_model.specs.Runs.{has_halted, made_of, does_something, IsAServer}
use Rattle.hx_clock.specs.declared.parts.Stamped.{Stamped}

-- the entries of a part, the newest first
abbrev pub past_of : List Stamped → List Entry
past_of part = reverse (map (λ (x : Stamped). x.entry) part)

-- the actor's entries in a trace
abbrev pub own_entries : Actor → List Entry → List Entry
own_entries a trace = filter (λ (x : Entry). same_actor x.actor a) trace

-- only servers are halted; where a post comes from isn't asked
abbrev pub MayHalt : Actor → Input → Type 0
MayHalt a Tick = ⊤
MayHalt a Halt = IsAServer a
MayHalt a (Deliver id from message) = ⊤

-- the entry is the actor's step after its older entries, of which no one halted it, and a tick makes something
pub record IsOwnStep (script : Script) (a : Actor) (older : List Entry) (x : Entry) : Type 0 where
  pub actor : x.actor ≡ a
  pub running : has_halted script older a ≡ false
  pub input : MayHalt a x.input
  pub made : made_of script older a x.input ≡ record { posts = x.outputs; notes = x.notes }
  pub enough : does_something x.input (record { posts = x.outputs; notes = x.notes }) ≡ true

-- each entry is the actor's step after the older ones
abbrev pub IsOwn : Script → Actor → List Entry → Type 0
IsOwn script a [] = ⊤
IsOwn script a (x ∷ older) = IsOwnStep script a older x × IsOwn script a older
