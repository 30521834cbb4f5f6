-- The entries of parts, one at each place.
use Rattle.std.specs.Prelude.{◌≡◌, ℕ, ◌<◌, List, [], length, nat_lt, slice_index_or}
use Rattle.hx_model.specs.Types.{Coordinator, Entry, Tick}
use Rattle.hx_clock.specs.declared.parts.Stamped.{Stamped}
use Rattle.hx_clock.specs.Parts.{stamped}
use Rattle.hx_trace.specs.declared.places.EntryPlace.{EntryPlace}

-- the part at the place, or one without entries
abbrev pub part_at : List (List Stamped) → ℕ → List Stamped
part_at parts place = slice_index_or parts place []

-- an entry of nothing, which no trace shows: each place of one names an entry
abbrev pub no_entry : Stamped
no_entry = stamped 0 (record { actor = Coordinator; input = Tick; outputs = []; notes = [] })

-- the entry at a place with its stamp
abbrev pub stamped_at : List (List Stamped) → EntryPlace → Stamped
stamped_at parts p = slice_index_or (part_at parts p.part) p.at no_entry

-- the entry at a place
abbrev pub placed : List (List Stamped) → EntryPlace → Entry
placed parts p = (stamped_at parts p).entry

-- the place names an entry of its part, and tells whether it has notes
pub record IsPlaceIn (parts : List (List Stamped)) (p : EntryPlace) : Type 0 where
  pub there : p.at < length (part_at parts p.part)
  pub notes : p.has_notes ≡ nat_lt 0 (length (placed parts p).notes)
