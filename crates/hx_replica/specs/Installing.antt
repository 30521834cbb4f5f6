-- What a replica becomes that installs a snapshot with its pending updates.
use Rattle.std.specs.Prelude.{◌≡◌, ℕ, ◌<◌, ◌≤◌, List, [], map, length, if◌then◌else◌}
use Rattle.std.specs.Borrow.{Bor}
use Rattle.std.specs.List.{All, filter}
use Rattle.hx_model.specs.Types.{Kept, Place, RegionId, Update}
use Rattle.hx_types.specs.Words.{same_text}
use Rattle.hx_types.specs.declared.limits.TheConstants.{MOST_PLACES}
use Rattle.hx_model.specs.ServerSteps.{Slots, SlotContext as ModelContext, accepting, join_keys, offered_all}
use Rattle.hx_model.specs.Slots.{KeyState, Move, offered}
use Rattle.hx_law_folds.specs.Folding.{KeptsAscend, folded}
use Rattle.hx_slot.specs.States.{IsOrderly, IsPlacedIn}

-- an update that a slot of the region can be offered
pub record CanCome (g : RegionId) (u : Update) : Type 0 where
  pub placed : IsPlacedIn g u
  pub few : length u.places ≤ MOST_PLACES
  pub after : All (λ (p : Place). p.after.0 < u.version.0) u.places

-- a snapshot of the region that can be installed, and pending updates that can come after it
pub record IsSnapshot (g : RegionId) (snapshot : List Kept) (pending : List Update) : Type 0 where
  pub ascend : KeptsAscend snapshot
  pub orderly : All IsOrderly snapshot
  pub coming : All (CanCome g) pending

-- a slot with its committed state alone
pub record IsFresh (g : RegionId) (s : KeyState) : Type 0 where
  pub accepted : s.accepted ≡ []
  pub acked : s.acked ≡ []
  pub early : s.early ≡ []
  pub floor : s.base.floor.0 ≡ s.floor
  pub bare : folded g s ≡ s

abbrev pub of_key : List ℕ → List Update → List Update
of_key key us = filter (λ (u : Update). same_text u.key key) us

-- what a slot makes of an update, if it is of its key
abbrev pub own_offer : RegionId → KeyState → Update → List Move
own_offer g s u = if same_text u.key s.base.key then offered g s u else []

-- the moves by which a slot takes the pending updates of its key
abbrev pub joining : ModelContext → List Update → KeyState → List Move
joining context us s = accepting context s (offered_all context.region s (of_key s.base.key us))

-- the slots after those of some keys have taken them
abbrev pub joined_slots : ModelContext → List Update → List KeyState → List (List ℕ) → Slots
joined_slots context us states keys = join_keys context us (record { states = states; posts = [] }) keys

-- texts that are lent
abbrev pub texts : List (Bor (List ℕ)) → List (List ℕ)
texts bs = map (λ (b : Bor (List ℕ)). b.now) bs
