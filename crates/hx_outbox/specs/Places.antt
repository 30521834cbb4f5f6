-- The boxes of a script's actors in order: the coordinator's, those of the servers, those of the sessions.
use Rattle.std.specs.Prelude.{ℕ, ◌≡◌, ◌+◌, List, length, slice_index_or}
use Rattle.atomic_table.specs.Seated.{TableId}
use Rattle.hx_types.specs.declared.ids.Actor.{Actor}
use Rattle.hx_types.specs.declared.ids.Actor.TheVariants.{Coordinator, Server, Session}
use Rattle.hx_types.specs.declared.spaces.Space.{Space}
use Rattle.hx_types.specs.declared.traces.Script.{Script}
use Rattle.hx_types.specs.Posts.{ActorExists}
use Rattle.hx_mail.specs.declared.views.BoxNames.{BoxNames}
use Rattle.hx_mail.specs.Boxes.{Boxed}

-- the place of an actor's box, from 0
abbrev pub place_of : Space → Actor → ℕ
place_of space Coordinator = 0
place_of space (Server s) = s.0
place_of space (Session u) = space.servers + u.0

-- the actor is one of the script's
abbrev pub Exists : Script → Actor → Type 0
Exists script a = ActorExists (record { space = script.space; sessions = length script.sessions; most = 0 }) a

-- what the box of an actor is named by
abbrev pub names_for : Script → TableId → Actor → BoxNames
names_for script clock a = record { clock = clock; owner = a; space = script.space; sessions = length script.sessions }

-- these are the boxes of all actors of the script, of this clock, each at its actor's place
pub record AreBoxes (script : Script) (clock : TableId) (boxes : List Boxed) : Type 0 where
  pub count : length boxes ≡ 1 + script.space.servers + length script.sessions
  pub each : (a : Actor) → Exists script a → (box : Boxed) → box ≡ slice_index_or boxes (place_of script.space a) box → box.names ≡ names_for script clock a
