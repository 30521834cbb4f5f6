-- The newest call of each session, and the last touch of each region.
use Rattle.std.specs.Prelude.{◌≡◌, ℕ, zero, suc, ◌<◌, ⊤, Bool, List, [], ◌∷◌, map, if◌then◌else◌, nat_lt, Option, None, Some}
use Rattle.std.specs.List.{list_any}
use Rattle.hx_model.specs.Types.{Mark, Place, RegionId, SessionId, Touch}
use Rattle.hx_types.specs.Spaces.{IsAscending}
use Rattle.hx_types.specs.Words.{same_region, same_session}
use Rattle.hx_model.specs.Slots.{mark_by, with_mark, with_touches}
use Rattle.hx_slot.specs.declared.updates.AcceptedUpdate.{AcceptedUpdate}

abbrev pub AscendByRegion : List Touch → Type 0
AscendByRegion touches = IsAscending (map (λ (t : Touch). t.region.0) touches)

-- the touch at a place is of the region, after those of lower ones
abbrev pub IsAt : ℕ → List Touch → ℕ → Type 0
IsAt g [] i = ⊥
IsAt g (t ∷ rest) zero = t.region.0 ≡ g
IsAt g (t ∷ rest) (suc i) = (t.region.0 < g) × IsAt g rest i

-- a touch of the region would stand at the place, between those of lower and those of higher regions
abbrev pub IsGap : ℕ → List Touch → ℕ → Type 0
IsGap g [] zero = ⊤
IsGap g [] (suc i) = ⊥
IsGap g (t ∷ rest) zero = (g < t.region.0) × IsGap g rest zero
IsGap g (t ∷ rest) (suc i) = (t.region.0 < g) × IsGap g rest i

-- the version of a region's touch
abbrev pub touch_among : RegionId → List Touch → Option ℕ
touch_among g [] = None
touch_among g (t ∷ rest) = if same_region t.region g then Some t.version.0 else touch_among g rest

-- of a mark and an older one that of the higher call number, or the newer one
abbrev pub newer_of : Option Mark → Option Mark → Option Mark
newer_of None older = older
newer_of (Some m) None = Some m
newer_of (Some m) (Some x) = if nat_lt m.number x.number then Some x else Some m

-- the newest mark of a session after a mark more, and after updates
abbrev pub newest_with : SessionId → Mark → Option Mark → Option Mark
newest_with session m newest = if same_session m.session session then newer_of (Some m) newest else newest

abbrev pub newest_over : SessionId → Option Mark → List AcceptedUpdate → Option Mark
newest_over session newest [] = newest
newest_over session newest (t ∷ rest) = newest_over session (newest_with session (mark_by t.update) newest) rest

-- the last version at a region after updates, from the one before them
abbrev pub has_touched : RegionId → AcceptedUpdate → Bool
has_touched g t = list_any (λ (p : Place). same_region p.region g) t.update.places

abbrev pub touched_over : RegionId → ℕ → List AcceptedUpdate → ℕ
touched_over g v [] = v
touched_over g v (t ∷ rest) = touched_over g (if has_touched g t then t.update.version.0 else v) rest

-- the marks and the touches after updates, from those before them
abbrev pub marks_over : List Mark → List AcceptedUpdate → List Mark
marks_over marks [] = marks
marks_over marks (t ∷ rest) = marks_over (with_mark (mark_by t.update) marks) rest

abbrev pub touches_over : List Touch → List AcceptedUpdate → List Touch
touches_over touches [] = touches
touches_over touches (t ∷ rest) = touches_over (with_touches t.update.version t.update.places touches) rest
