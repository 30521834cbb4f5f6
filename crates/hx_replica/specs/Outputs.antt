-- What a step makes of one slot: its posts, and the change by which the slot makes the step's moves.
use Rattle.std.specs.Prelude.{◌≡◌, ℕ, ◌<◌, ◌≤◌, ◌==◌, ◌||◌, Bool, true, false, ⊤, Option, None, Some, IsSomeAnd, List, [], ◌∷◌, length, slice_get, take}
use Rattle.std.specs.Borrow.{Bor}
use Rattle.std.specs.List.{All, flat_map, list_any, prefix_len}
use Rattle.hx_model.specs.Types.{Actor, Place, Post, RegionId, Space, Update, Version}
use Rattle.hx_model.specs.Regions.{key_region}
use Rattle.hx_types.specs.Words.{provided}
use Rattle.hx_types.specs.declared.limits.TheConstants.{GREATEST_NUMBER, MOST_PLACES}
use Rattle.hx_model.specs.Hearing.{hears_ack}
use Rattle.hx_model.specs.ServerSteps.{SlotStep, SlotContext as ModelContext, accepting, by_moves, tail_acks, move_posts, next_at, prev_at, told_to}
use Rattle.hx_model.specs.Neighbours.{is_end, place_number}
use Rattle.hx_model.specs.Slots.{KeyState, Move, acknowledged, moved_all, offered, taken, top_of}
use Rattle.hx_slot.specs.States.{IsPlacedIn}
use Rattle.hx_store.specs.Stores.{ArePending, CanBeOffered, Room, accepted, accepted_at, acknowledged_at, acknowledging}
use Rattle.hx_replica.specs.declared.outputs.SlotChange.{SlotChange}
use Rattle.hx_replica.specs.declared.outputs.SlotChange.TheVariants.{Open, Accept, Acknowledge}
use Rattle.hx_replica.specs.declared.contexts.SlotContext.{SlotContext}

-- where a slot stands, as the definitions say it
abbrev pub context_seen : SlotContext → ModelContext
context_seen s = record { space = s.space.now; config = s.config.now; server = s.server; region = s.region }

-- the updates that are lent
abbrev pub seen : List (Bor Update) → List Update
seen [] = []
seen (b ∷ rest) = b.now ∷ seen rest

-- the version of an update whose chain ends here
abbrev pub tail_version : ModelContext → Update → List Version
tail_version context u = provided (is_end (next_at context u)) (u.version ∷ [])

-- how many of the lowest updates have one of these versions
abbrev pub ended_count : List Version → List Update → ℕ
ended_count tail_versions us = prefix_len (λ (u : Update). list_any (λ (e : Version). e.0 == u.version.0) tail_versions) us

-- what is posted of an update that is committed
abbrev pub told_of : ModelContext → Update → List Post
told_of context u = told_to context u (prev_at context u)

-- the moves of a change
abbrev pub moves_by : RegionId → KeyState → SlotChange → List Move
moves_by g s Open = []
moves_by g s (Accept u place tail_versions) = accepted g s u tail_versions.items
moves_by g s (Acknowledge v) = acknowledged s v.0

-- the slot after a change, without its past
abbrev pub stepped : SlotChange → RegionId → KeyState → KeyState
stepped Open g s = s
stepped (Accept u place tail_versions) g s = accepted_at u tail_versions.items g s
stepped (Acknowledge v) g s = acknowledged_at v.0 g s

-- for how many updates a change needs room
abbrev pub room_of : SlotChange → ℕ
room_of (Accept u place tail_versions) = 1
room_of other = 0

-- the place in a store is the key's, with room for n more updates at its slot
abbrev pub HasRoomFor : List ℕ → ℕ → ℕ → List Room → Type 0
HasRoomFor key n place rooms = IsSomeAnd (slice_get rooms place) (λ (r : Room). (r.key ≡ key) × (n ≤ r.spare))

-- the slot of the key can make the change
abbrev pub ChangeFits : RegionId → KeyState → List ℕ → SlotChange → Type 0
ChangeFits g s key Open = ⊤
ChangeFits g s key (Accept u place tail_versions) = (u.key ≡ key) × CanBeOffered g u place × ArePending (moved_all (offered g s u) s) tail_versions.items
ChangeFits g s key (Acknowledge v) = ⊤

-- the slot's change makes the moves of the step, and the slot can make it
pub record IsChangeOf (g : RegionId) (s : KeyState) (key : List ℕ) (step : SlotStep) (change : SlotChange) : Type 0 where
  pub moves : moves_by g s change ≡ step.moves
  pub fits : ChangeFits g s key change

-- the acknowledgement of a pending update is heard
abbrev pub hears_version : ModelContext → Actor → RegionId → Option Update → Bool
hears_version context from by None = false
hears_version context from by (Some u) = hears_ack context.config u (place_number context.region u.places) context.server from by

-- a version is acknowledged, or one of those that are being acknowledged
abbrev pub settles : List ℕ → List Version → Version → Bool
settles acked tail_versions v = list_any (λ (e : Version). e.0 == v.0) tail_versions || list_any (λ w. w == v.0) acked

-- the first updates of a list that are acknowledged
abbrev pub settled_among : List ℕ → List Version → List (Bor Update) → List (Bor Update)
settled_among acked tail_versions us = take (prefix_len (λ (b : Bor Update). settles acked tail_versions b.now.version) us) us

-- an update with a place in the region
pub record IsHere (g : RegionId) (b : Bor Update) : Type 0 where
  pub placed : IsPlacedIn g b.now
  pub few : length b.now.places ≤ MOST_PLACES

-- and above a version
pub record IsNew (g : RegionId) (floor : ℕ) (b : Bor Update) : Type 0 where
  pub placed : IsPlacedIn g b.now
  pub few : length b.now.places ≤ MOST_PLACES
  pub above : floor < b.now.version.0

-- an update that can be accepted after these
pub record IsComing (g : RegionId) (s : KeyState) (u : Update) : Type 0 where
  pub placed : IsPlacedIn g u
  pub few : length u.places ≤ MOST_PLACES
  pub after : All (λ (p : Place). p.after.0 < u.version.0) u.places
  pub above : top_of s < u.version.0
  pub floor : s.floor ≤ top_of s

-- what is posted where a slot is offered an update
abbrev pub accepting_posts : ModelContext → KeyState → Update → List Post
accepting_posts context s u = flat_map (move_posts context) (accepting context s (offered context.region s u))

-- the step of a slot that is offered an update
abbrev pub accept_step : ModelContext → KeyState → Update → SlotStep
accept_step context s u = by_moves context (accepting context s (offered context.region s u))

-- the versions of the updates that are then taken and whose chain ends here
pub record AreEnds (context : ModelContext) (s : KeyState) (u : Update) (tail_versions : List Version) : Type 0 where
  pub ends_are : acknowledging tail_versions ≡ tail_acks context (taken (offered context.region s u))
  pub pending : ArePending (moved_all (offered context.region s u) s) tail_versions

-- the slot of a key at its leader, with room for a further version
pub record IsLeading (space : Space) (g : RegionId) (s : KeyState) : Type 0 where
  pub marks : s.marks ≡ true
  pub region : g ≡ key_region space s.base.key
  pub small : top_of s ≤ GREATEST_NUMBER
