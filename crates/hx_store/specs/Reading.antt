-- What is read of a slot.
use Rattle.std.specs.Prelude.{◌≡◌, ℕ, true, ⊤, Bool, List, [], ◌∷◌, map}
use Rattle.std.specs.List.{AllByRecursion}
use Rattle.std.specs.Option.{IfSome}
use Rattle.hx_model.specs.Types.{Kept, RegionId, Row}
use Rattle.hx_types.specs.Words.{list_of, text_below, when_some}
use Rattle.hx_law_folds.specs.Folding.{KeysAscend}
use Rattle.hx_model.specs.ServerSteps.{state_from}
use Rattle.hx_model.specs.Slots.{KeyState, new_state, object_of, snapshot_of, state_among}
use Rattle.hx_slot.specs.States.{SlotState, committed_state}

-- the committed state, where something is committed
abbrev pub committed_of : SlotState → List Kept
committed_of s = list_of (committed_state s.region s.state)

-- a slot with the committed state of a slot of the key, where something is committed, and nothing else
abbrev pub come_back : RegionId → Bool → List ℕ → KeyState → KeyState
come_back g marks key s = when_some (committed_state g s) (new_state marks key) (state_from marks)

-- a snapshot that is installed gives each key what was committed of it, and nothing pending
abbrev pub SnapshotsComeBack : Type 0
SnapshotsComeBack =
    (g : RegionId) (marks : Bool) (states : List KeyState) → KeysAscend states → (key : List ℕ)
    → state_among marks key (map (state_from marks) (snapshot_of g states)) ≡ come_back g marks key (state_among marks key states)

-- the committed object of a slot is of its key
abbrev pub HasOwnRow : RegionId → KeyState → Type 0
HasOwnRow g s = IfSome (object_of g s) (λ (r : Row). r.key ≡ s.base.key)

-- rows in byte order of their own keys
abbrev pub RowsAscend : List Row → Type 0
RowsAscend [] = ⊤
RowsAscend (r ∷ rest) = AllByRecursion (λ (x : Row). text_below r.key x.key ≡ true) rest × RowsAscend rest
