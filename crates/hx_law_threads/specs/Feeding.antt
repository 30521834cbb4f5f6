-- What one actor is given on its own thread, and what it makes of it.
use Rattle.std.specs.Prelude.{ℕ, ◌≡◌, ◌+◌, ◌≤◌, true, List, [], ◌∷◌, map, length, ⊤}
use Rattle.hx_model.specs.Types.{Actor, Coordinator, Deliver, Entry, Halt, Input, Post, Script, Server, Session, Tick}
use Rattle.hx_types.specs.Fitting.{IsScript}
use Rattle.hx_types.specs.Posts.{IsSoundPost}
use Rattle.hx_types.specs.Words.{post, IsIn}
use Rattle.hx_model.specs.Runs.{coordinator_of, is_actor, server_of, session_of}
use Rattle.hx_model.specs.ServerSteps.{Replica}
use Rattle.hx_model.specs.Slots.{KeyState, top_of}
use Rattle.hx_clock.specs.declared.parts.Stamped.{Stamped}
use Rattle.hx_law_threads.specs.Own.{IsOwn}

-- the number of the newest entry, or 0 where there is none
abbrev pub latest : List Stamped → ℕ
latest [] = 0
latest (x ∷ older) = x.stamp.0 + 1

-- a post that is delivered is of an entry of a number up to n, and sound; no driver halts an actor
abbrev pub IsFedBy : Script → ℕ → Actor → Input → Type 0
IsFedBy script n a Tick = ⊤
IsFedBy script n a Halt = ⊥
IsFedBy script n a (Deliver id from message) = (id.entry ≤ n) × IsSoundPost script.space (length script.sessions) id.entry (post from a message)

-- entries, the newest first: their stamps rise, and each ticks, or delivers a sound post of an entry with a smaller stamp
abbrev pub IsFed : Script → List Stamped → Type 0
IsFed script [] = ⊤
IsFed script (x ∷ older) = (latest older ≤ x.stamp.0) × IsFedBy script x.stamp.0 x.entry.actor x.entry.input × IsFed script older

abbrev pub entries_in : List Stamped → List Entry
entries_in xs = map (λ (x : Stamped). x.entry) xs

-- an actor after these entries
abbrev pub IsSoundAfter : Script → ℕ → List Entry → Actor → Type 0
IsSoundAfter script n past Coordinator = (coordinator_of script past).config.epoch.0 ≤ n + 1
IsSoundAfter script n past (Server s) =
    ((server_of script s past).id ≡ s) × ((r : Replica) → IsIn r (server_of script s past).replicas → (t : KeyState) → IsIn t r.states → top_of t ≤ n)
IsSoundAfter script n past (Session u) = (session_of script u past).id ≡ u

-- what an actor made on its own
pub record IsSoundOwn (script : Script) (a : Actor) (xs : List Stamped) : Type 0 where
  pub posts : (x : Stamped) → IsIn x xs → (p : Post) → IsIn p x.entry.outputs → IsSoundPost script.space (length script.sessions) (x.stamp.0 + 1) p
  pub state : IsSoundAfter script (latest xs) (entries_in xs) a

abbrev pub ActorsStaySound : Type 0
ActorsStaySound =
    (script : Script) → IsScript script → (a : Actor) → is_actor script a ≡ true → (xs : List Stamped)
    → IsOwn script a (entries_in xs) → IsFed script xs → IsSoundOwn script a xs
