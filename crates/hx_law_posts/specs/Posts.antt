-- All runs: every post is sound, versions are at most the number of entries, and epochs at most one more.
use Rattle.std.specs.Prelude.{◌≡◌, ◌+◌, ◌≤◌, List, length, Some}
use Rattle.hx_model.specs.Types.{Config, Entry, Post, PostId, Script, ServerId, SessionId}
use Rattle.hx_types.specs.Words.{IsIn}
use Rattle.hx_types.specs.Spaces.{IsConfigOf}
use Rattle.hx_types.specs.Posts.{IsSoundPost}
use Rattle.hx_model.specs.Slots.{KeyState, top_of}
use Rattle.hx_model.specs.ServerSteps.{Replica}
use Rattle.hx_model.specs.Runs.{IsRun, coordinator_of, post_named, server_of, session_of}

-- each post is sound for the script's space and sessions and its own entry
abbrev pub PostsStaySound : Script → Type 0
PostsStaySound script =
    (trace : List Entry) → IsRun script trace
    → (id : PostId) (p : Post) → post_named id trace ≡ Some p → IsSoundPost script.space (length script.sessions) id.entry p

-- no slot of a server has a version above the number of entries
abbrev pub VersionsStaySmall : Script → Type 0
VersionsStaySmall script =
    (trace : List Entry) → IsRun script trace
    → (s : ServerId) (r : Replica) → IsIn r (server_of script s trace).replicas → (t : KeyState) → IsIn t r.states → top_of t ≤ length trace

-- a configuration of the space, whose epoch is at most the number of entries plus 1
abbrev pub IsConfigAfter : Script → List Entry → Config → Type 0
IsConfigAfter script trace config = IsConfigOf script.space config × (config.epoch.0 ≤ length trace + 1)

-- the configuration of each actor is such
abbrev pub EpochsStaySmall : Script → Type 0
EpochsStaySmall script =
    (trace : List Entry) → IsRun script trace
    → ((s : ServerId) → IsConfigAfter script trace (server_of script s trace).config)
    × ((u : SessionId) → IsConfigAfter script trace (session_of script u trace).config)
    × IsConfigAfter script trace (coordinator_of script trace).config
