-- Stretches: entries of one part whose stamps follow one another.
use Rattle.std.specs.Prelude.{ℕ, suc, ◌+◌, ◌<◌, ◌≤◌, ◌^◌, cond, eqb, List, [], ◌∷◌, length, map, nat_lt}
use Rattle.std.specs.List.{AllByRecursion}
use Rattle.hx_clock.specs.declared.parts.Stamped.{Stamped}
use Rattle.hx_law_threads.specs.Merged.{IsMerged}
use Rattle.hx_trace.specs.declared.places.EntryPlace.{EntryPlace}
use Rattle.hx_trace.specs.Places.{IsPlaceIn, stamped_at}

-- the place of the part, the place in it of the first entry, that entry's stamp, and the entries
pub record StretchSeen : Type 0 where
  pub part : ℕ
  pub at : ℕ
  pub stamp : ℕ
  pub entries : List Stamped

-- the places of the run lie in the part, which has few entries
pub record IsRunIn (part : List Stamped) (at end : ℕ) : Type 0 where
  pub order : at ≤ end
  pub within : end ≤ length part
  pub few : length part < 2 ^ 32

-- f of each item with its number, of which the first is n
abbrev pub numbered : {A B : Type 0} → (ℕ → A → B) → ℕ → List A → List B
numbered f n [] = []
numbered f n (x ∷ xs) = f n x ∷ numbered f (n + 1) xs

-- the stretch that begins with an entry, and goes on with these
abbrev pub begun_with : ℕ → ℕ → Stamped → List Stamped → StretchSeen
begun_with part at x more = record { part = part; at = at; stamp = x.stamp.0; entries = x ∷ more }

-- an entry more before stretches: it belongs to the first of them where that one's stamp follows its own
abbrev pub with_first : ℕ → ℕ → Stamped → List StretchSeen → List StretchSeen
with_first part at x [] = begun_with part at x [] ∷ []
with_first part at x (s ∷ ss) = cond (eqb s.stamp (x.stamp.0 + 1)) (begun_with part at x s.entries ∷ ss) (begun_with part at x [] ∷ s ∷ ss)

-- the stretches of the entries of a part, of which the first stands at a place
abbrev pub stretches_from : ℕ → ℕ → List Stamped → List StretchSeen
stretches_from part at [] = []
stretches_from part at (x ∷ xs) = with_first part at x (stretches_from part (at + 1) xs)

-- the stretches of each part
abbrev pub stretches_of : List (List Stamped) → List (List StretchSeen)
stretches_of parts = numbered (λ place part. stretches_from place 0 part) 0 parts

-- how many entries at the front have stamps that follow one another from n on
abbrev pub following : ℕ → List Stamped → ℕ
following n [] = 0
following n (x ∷ xs) = cond (eqb x.stamp.0 n) (suc (following (n + 1) xs)) 0

-- the place of an entry, by the numbers of its part and of it in the part
abbrev pub place_at : ℕ → ℕ → Stamped → EntryPlace
place_at part at x = record { part = part; at = at; has_notes = nat_lt 0 (length x.entry.notes) }

-- the places of the entries of a stretch
abbrev pub places_in : StretchSeen → List EntryPlace
places_in s = numbered (place_at s.part) s.at s.entries

-- the places are those of all entries of the parts, in the order of their stamps
pub record ArePlaces (places : List EntryPlace) (parts : List (List Stamped)) : Type 0 where
  pub each : AllByRecursion (IsPlaceIn parts) places
  pub merged : IsMerged parts (map (stamped_at parts) places)
