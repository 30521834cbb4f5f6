-- The configurations that a trace says were issued.
use Rattle.std.specs.Prelude.{List, [], ◌∷◌}
use Rattle.std.specs.List.{flat_map}
use Rattle.hx_model.specs.Types.{Config, Entry, Note}
use Rattle.hx_types.specs.declared.traces.Note.TheVariants as a_note

-- the configuration that a note says was issued
abbrev pub issued_by : Note → List Config
issued_by (a_note.Began number) = []
issued_by (a_note.Ended number version answer) = []
issued_by (a_note.Assigned update) = []
issued_by (a_note.Issued config) = config ∷ []

-- those that the notes of a trace say were issued, in order
abbrev pub issued_in : List Entry → List Config
issued_in trace = flat_map (λ (x : Entry). flat_map issued_by x.notes) trace
