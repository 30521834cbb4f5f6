-- Entries made by hand, of notes alone, for histories and searches that no run makes.
use Rattle.std.specs.Prelude.{◌≡◌, ℕ, Bool, true, false, List, [], ◌∷◌, codes, Option, Some}
use Rattle.hx_model.specs.Types.{Actor, Answer, Caller, Entry, Item, Note, Op, Put, Script, Server, Session, Tick, Update, Value}
use Rattle.hx_types.specs.declared.calls.Answer.TheVariants as an_answer
use Rattle.hx_types.specs.declared.traces.Note.TheVariants as a_note
use Rattle.hx_types.specs.declared.values.Value.TheVariants as a_value
use Rattle.hx_types.specs.Words.{same_text}
use Rattle.hx_model.proofs.SmallSpace.{blue, caller, server, session, shop, version}

abbrev pub the_key : List ℕ
the_key = codes "k"

-- an object of one color
abbrev pub of_color : List ℕ → List Value
of_color color = a_value.Text color ∷ []

abbrev pub put_color : List ℕ → Op
put_color color = Put the_key (record { attribute = 1; value = a_value.Text color } ∷ [])

-- a script of the shop with these calls of each session
abbrev pub called : List (List Op) → Script
called sessions = record { space = shop; sessions = sessions; steps = [] }

abbrev pub noted : Actor → Note → Entry
noted a note = record { actor = a; input = Tick; outputs = []; notes = note ∷ [] }

abbrev pub began : ℕ → ℕ → Entry
began u number = noted (Session (session u)) (a_note.Began number)

abbrev pub ended : ℕ → ℕ → ℕ → Answer → Entry
ended u number v answer = noted (Session (session u)) (a_note.Ended number (version v) answer)

-- an update of a put of this color
abbrev pub update_of : ℕ → Caller → List ℕ → Update
update_of v c color =
    record {
      key = the_key;
      version = version v;
      caller = c;
      answer = an_answer.Done;
      changes = true;
      object = Some (of_color color);
      places = [];
    }

abbrev pub assigned : ℕ → ℕ → ℕ → List ℕ → Entry
assigned v u number color = noted (Server (server 1)) (a_note.Assigned (update_of v (caller u number) color))

-- the item of a put that was done
abbrev pub put_item : ℕ → ℕ → ℕ → List ℕ → Item
put_item v u number color =
    record { version = version v; caller = caller u number; op = put_color color; answer = an_answer.Done; object = Some (of_color color) }

-- the answer shows an object whose color is blue
abbrev pub finds_blue : Answer → Bool
finds_blue (an_answer.Found (a_value.Text color ∷ rest)) = same_text color blue
finds_blue other = false

-- the object is there, and its color is blue
abbrev pub is_blue : Option (List Value) → Bool
is_blue (Some (a_value.Text color ∷ rest)) = same_text color blue
is_blue other = false

pub never : true ≡ false → ⊥
never e = absurd (cc)
