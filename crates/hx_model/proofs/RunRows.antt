-- Traces that are no runs, one for each reason.
use Rattle.std.specs.Prelude.{◌≡◌, Bool, false, List, [], ◌∷◌, Option, None, Some, is_some, not}
use Rattle.hx_model.specs.Types.{Actor, Coordinator, Deliver, Entry, Get, Halt, Input, Message, Post, PostId, Script, Server, Session, Tick}
use Rattle.hx_types.specs.declared.messages.Message.TheVariants as a_message
use Rattle.hx_types.specs.Words.{same_actor, post}
use Rattle.hx_model.specs.Runs.{IsRun, Output, entry_of, is_empty, made_of, post_named}
use Rattle.std.proofs.Common.{refl, ap, sym}
use Rattle.hx_model.proofs.SmallSpace.{epoch, server, session}
use Rattle.hx_model.proofs.HandMade.{called, never, the_key}

-- one session that gets one key
abbrev script : Script
script = called ((Get the_key ∷ []) ∷ [])

-- an entry of what the actor makes of its input
abbrev made : List Entry → Actor → Input → Entry
made older a input = entry_of a input (made_of script older a input)

-- the session sends its call to the leader
abbrev first : Entry
first = made [] (Session (session 1)) Tick

abbrev call : Message
call = a_message.Call (epoch 1) 1 (Get the_key)

abbrev its_name : PostId
its_name = record { entry = 1; place = 0 }

abbrev to_leader : Input
to_leader = Deliver its_name (Session (session 1)) call

it_is_sent : post_named its_name (first ∷ []) ≡ Some (post (Session (session 1)) (Server (server 1)) call)
it_is_sent = refl

-- the session's tick and the delivery to the leader make a run
is_run : IsRun script (made (first ∷ []) (Server (server 1)) to_leader ∷ first ∷ [])
is_run = (
  record { actor = refl; running = refl; input = refl; made = refl; enough = refl },
  (record { actor = refl; running = refl; input = tt; made = refl; enough = refl }, tt),
)

-- a post goes to nobody but its addressee
abbrev is_for_the_second : Option Post → Bool
is_for_the_second None = false
is_for_the_second (Some p) = same_actor p.to (Server (server 2))

other_addressee : ¬ IsRun script (made (first ∷ []) (Server (server 2)) to_leader ∷ first ∷ [])
other_addressee = λ r. never (sym (ap is_for_the_second (r.0.input)))

-- nor from anybody but its sender
abbrev is_from_the_second : Option Post → Bool
is_from_the_second None = false
is_from_the_second (Some p) = same_actor p.from (Server (server 2))

other_sender : ¬ IsRun script (made (first ∷ []) (Server (server 1)) (Deliver its_name (Server (server 2)) call) ∷ first ∷ [])
other_sender = λ r. never (sym (ap is_from_the_second (r.0.input)))

-- a post that nobody made
never_posted : ¬ IsRun script (made [] (Server (server 1)) to_leader ∷ [])
never_posted = λ r. never (sym (ap (λ (p : Option Post). is_some p) (r.0.input)))

-- sessions and the coordinator don't halt
session_halts : ¬ IsRun script (made [] (Session (session 1)) Halt ∷ [])
session_halts = λ r. absurd (r.0.input)

coordinator_halts : ¬ IsRun script (made [] Coordinator Halt ∷ [])
coordinator_halts = λ r. absurd (r.0.input)

-- a server that has halted makes no step
abbrev halted : Entry
halted = made [] (Server (server 1)) Halt

step_of_halted : ¬ IsRun script (made (halted ∷ []) (Server (server 1)) Tick ∷ halted ∷ [])
step_of_halted = λ r. never (r.0.running)

-- a tick that makes nothing is no entry
idle_tick : ¬ IsRun script (made [] Coordinator Tick ∷ [])
idle_tick = λ r. never (sym (r.0.enough))

-- an actor that the script doesn't have
no_actor : ¬ IsRun script (made [] (Server (server 4)) Halt ∷ [])
no_actor = λ r. never (sym (r.0.actor))

no_session : ¬ IsRun script (made [] (Session (session 2)) Tick ∷ [])
no_session = λ r. never (sym (r.0.actor))

-- an entry of something else than the step makes
abbrev noted_otherwise : Entry
noted_otherwise = record first { notes = [] }

made_otherwise : ¬ IsRun script (noted_otherwise ∷ [])
made_otherwise = λ r. never (ap (λ (o : Output). not (is_empty o.notes)) (r.0.made))
