-- What an entry of a trace says, as the trace lends it.
use Rattle.std.specs.Prelude.{List, [], ◌∷◌, Option, None, Some}
use Rattle.hx_model.specs.Types.{Entry, Note}
use Rattle.hx_types.specs.Words.{when_some}
pub use Rattle.hx_clock.specs.Lent.{entry_seen, input_seen}

-- an entry with these notes, if there are any
abbrev pub with_notes : List Note → Entry → Option Entry
with_notes [] e = None
with_notes (n ∷ ns) e = Some e

-- the entry, if there is one and it has notes
abbrev pub if_noted : Option Entry → Option Entry
if_noted o = when_some o None (λ (e : Entry). with_notes e.notes e)
