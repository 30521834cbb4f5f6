-- Words that proofs share: all posts of a trace, a server's slot of a key, lines after notes, what a slot counts for.
use Rattle.std.specs.Prelude.{ℕ, true, false, List, [], ◌∷◌, ◌++◌, cond}
use Rattle.hx_model.specs.Types.{Config, Entry, Note, Post, RegionId, ServerId, Space, Update}
use Rattle.hx_types.specs.Words.{when_some}
use Rattle.hx_model.specs.Slots.{Forget, KeyState, moved, new_state}
use Rattle.hx_model.specs.ServerSteps.{Replica, ServerState, replica_of, state_in}
use Rattle.hx_model.specs.Histories.{line_notes}

-- what a slot is worth: where its server has halted, without acknowledgements and early updates
abbrev pub view : ServerState → KeyState → KeyState
view p t = cond p.halted (moved Forget t) t

-- a server that hasn't halted
abbrev pub standing : Config → ServerId → List Replica → ServerState
standing c i rs = record { id = i; config = c; halted = false; replicas = rs }

-- the lines after notes
abbrev pub noted : (List ℕ → List Update) → List Note → List ℕ → List Update
noted L notes key = line_notes key (L key) notes

-- a server's slot of a key in a region
abbrev pub slot_in : Space → RegionId → List ℕ → ServerState → KeyState
slot_in space g key s = when_some (replica_of g s.replicas) (new_state true key) (λ (r : Replica). state_in space r key)

-- all posts of a trace
abbrev pub posts_of : List Entry → List Post
posts_of [] = []
posts_of (x ∷ older) = x.outputs ++ posts_of older
