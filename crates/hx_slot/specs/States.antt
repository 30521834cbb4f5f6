-- What contracts see of a slot, and what always holds of it.
use Rattle.std.specs.Prelude.{◌≡◌, ℕ, ◌<◌, ◌≤◌, ⊤, List, map, length, if◌then◌else◌, ◌==◌, Option, None, Some}
use Rattle.std.specs.Borrow.{Bor}
use Rattle.std.specs.List.{All}
use Rattle.std.specs.Option.{IfSome, option_map}
use Rattle.hx_model.specs.Types.{Acked, Answer, Kept, Mark, Offer, RegionId, Row, Touch, Update, Value, Version}
use Rattle.hx_types.specs.declared.outcomes.Acked.TheVariants as an_ack
use Rattle.hx_types.specs.declared.outcomes.Offer.TheVariants.{Accepted, Known, Early}
use Rattle.hx_types.specs.Spaces.{IsAscending}
use Rattle.hx_types.specs.declared.limits.TheConstants.{MOST_PLACES}
use Rattle.hx_model.specs.Neighbours.{place_number}
use Rattle.hx_model.specs.Slots.{KeyState, after_at, kept_of}

-- a key at a replica of a region, for how many offers there is room, and how many committed updates aren't in the base: those
-- for whose marks and touches there is no room yet, and where a count of owners was full when they were to go there
pub record SlotState : Type 0 where
  pub region : RegionId
  pub state : KeyState
  pub spare : ℕ
  pub held : ℕ

-- the same slot, with no more committed updates outside of its base
pub record IsSettledInto (old new : SlotState) : Type 0 where
  pub region : new.region ≡ old.region
  pub state : new.state ≡ old.state
  pub spare : new.spare ≡ old.spare
  pub held : new.held ≤ old.held

-- and still with some of them there
pub record IsHeldUp (old new : SlotState) : Type 0 where
  pub same : IsSettledInto old new
  pub some : 0 < new.held

-- the update has a place in the region
abbrev pub IsPlacedIn : RegionId → Update → Type 0
IsPlacedIn g u = place_number g u.places < length u.places

-- the update has few places
abbrev pub HasFewPlaces : Update → Type 0
HasFewPlaces u = length u.places ≤ MOST_PLACES

-- the update's turn comes after a lower version
abbrev pub IsLater : RegionId → Update → Type 0
IsLater g u = IfSome (after_at g u) (λ after. after < u.version.0)

abbrev pub IsRowUpTo : ℕ → Option Row → Type 0
IsRowUpTo floor None = ⊤
IsRowUpTo floor (Some r) = r.version.0 ≤ floor

-- no version of the row, the marks and the touches is above the floor; sessions and regions ascend
pub record IsOrderly (k : Kept) : Type 0 where
  pub row : IsRowUpTo k.floor.0 k.object
  pub marks : All (λ (m : Mark). m.version.0 ≤ k.floor.0) k.marks
  pub touches : All (λ (t : Touch). t.version.0 ≤ k.floor.0) k.touches
  pub sessions_ascend : IsAscending (map (λ (m : Mark). m.session.0) k.marks)
  pub regions_ascend : IsAscending (map (λ (t : Touch). t.region.0) k.touches)

-- a row without its key
abbrev pub object_at : Option Row → Option (Version × List Value)
object_at row = option_map (λ (r : Row). (r.version, r.object)) row

-- a mark without its session
abbrev pub call_at : Option Mark → Option (ℕ × Version × Answer)
call_at mark = option_map (λ (m : Mark). (m.number, m.version, m.answer)) mark

-- what is lent of them
abbrev pub object_seen : Option (Version × Bor (List Value)) → Option (Version × List Value)
object_seen lent = option_map (λ (o : Version × Bor (List Value)). (o.0, o.1.now)) lent

abbrev pub call_seen : Option (ℕ × Version × Bor Answer) → Option (ℕ × Version × Answer)
call_seen lent = option_map (λ (c : ℕ × Version × Bor Answer). (c.0, c.1, c.2.now)) lent

-- how many updates an offer made pending, and how many an acknowledgement committed
abbrev pub accepted_count : Offer → ℕ
accepted_count (Accepted n) = n
accepted_count Known = 0
accepted_count Early = 0

abbrev pub committed_count : Acked → ℕ
committed_count (an_ack.Committed n) = n
committed_count an_ack.Kept = 0
committed_count an_ack.Unknown = 0

-- the committed state, where something is committed
abbrev pub committed_state : RegionId → KeyState → Option Kept
committed_state g s = if s.floor == 0 then None else Some (kept_of g s)
