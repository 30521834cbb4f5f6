-- What a server makes of a configuration that it adopts.
use Rattle.std.specs.Prelude.{◌≡◌, ℕ, zero, suc, Bool, true, false, IsSomeAnd, if◌then◌else◌, List, [], ◌∷◌, ◌++◌, map, nat_le, Option, None, Some, slice_get}
use Rattle.std.specs.List.{flat_map}
use Rattle.hx_model.specs.Types.{Config, Post, RegionId, Space, Update, Version}
use Rattle.hx_types.specs.Configs.{leads}
use Rattle.hx_types.specs.Words.{provided, when_some}
use Rattle.hx_model.specs.Leading.{StuckAt, stuck_among}
use Rattle.hx_model.specs.ServerSteps.{Replica as ReplicaState, ServerState, SlotContext as ModelContext, doubt_in}
use Rattle.hx_model.specs.ServerSteps.{tail_acks, is_active, listed_regions, move_posts, passed_on, replica_or_new}
use Rattle.hx_model.specs.ServerSteps.{resumed, context_of}
use Rattle.hx_model.specs.Slots.{Forget, KeyState, is_pending, moved, moved_all, pending_of}
use Rattle.hx_law_folds.specs.Folding.{folded}
use Rattle.hx_store.specs.Stores.{ArePending, acknowledging}
use Rattle.hx_replica.specs.Outputs.{tail_version}
use Rattle.hx_replica.specs.Ticking.{standing}

-- the caller of an update from a version on is told of a lost region
abbrev pub doubt_of : ModelContext → Version → RegionId → Update → List Post
doubt_of context first g u = provided (nat_le first.0 u.version.0) (doubt_in context u.caller u.version g ∷ [])

-- the callers of these pending updates from the lowest one on that has a place in a lost region, where the server leads the region
abbrev pub doubts_on : ModelContext → List Update → Option StuckAt → List Post
doubts_on context us None = []
doubts_on context us (Some x) = flat_map (doubt_of context x.version x.region) us

abbrev pub doubts_among : ModelContext → List Update → List Post
doubts_among context us = provided (leads context.space context.config context.server context.region) (doubts_on context us (stuck_among context.config us))

-- the pending updates were passed on and told of, and these versions end here
pub record IsCarriedOn (context : ModelContext) (s : KeyState) (old new : List Post) (tail_versions : List Version) : Type 0 where
  pub posts : new ≡ old ++ (flat_map (passed_on context) (pending_of s) ++ flat_map (move_posts context) (resumed context s))
  pub ends_are : acknowledging tail_versions ≡ tail_acks context (pending_of s)
  pub pending : ArePending s tail_versions

-- a slot when a configuration is adopted, without its past
abbrev pub lean_adopted : ModelContext → Bool → KeyState → KeyState
lean_adopted context active s = if active then folded context.region (moved_all (resumed context s) s) else moved Forget s

abbrev pub lean_replica : Space → ServerState → ReplicaState → ReplicaState
lean_replica space s r = record r { states = map (lean_adopted (context_of space s r.region) (is_active s.config r)) r.states }

-- a server that has adopted a configuration
abbrev pub lean_with_config : Space → ServerState → Config → ServerState
lean_with_config space s config =
    record s {
      config = config;
      replicas = map (λ (g : RegionId). lean_replica space (standing config s.id) (replica_or_new s.replicas g)) (listed_regions config s.id);
    }

-- the slot with this number changes so
abbrev pub changed_at : (KeyState → KeyState) → ℕ → List KeyState → List KeyState
changed_at f i [] = []
changed_at f zero (s ∷ rest) = f s ∷ rest
changed_at f (suc i) (s ∷ rest) = s ∷ changed_at f i rest

-- the version is pending at the slot with this number
abbrev pub IsPendingAt : ℕ → Version → List KeyState → Type 0
IsPendingAt i v states = IsSomeAnd (slice_get states i) (λ (s : KeyState). is_pending v.0 s ≡ true)

-- the pending update with a number is acknowledged, where its chain ends here
abbrev pub marked_end : ModelContext → ℕ → KeyState → KeyState
marked_end context k s = moved_all (acknowledging (when_some (slice_get (pending_of s) k) [] (tail_version context))) s
