-- The script of a seed: calls dealt out in turn to four sessions, on a space of its own.
use Rattle.std.specs.Prelude.{ℕ, ◌+◌, ◌%◌, List, [], ◌∷◌, map, codes, ◌==◌, pos}
use Rattle.std.specs.List.{filter}
use Rattle.hx_model.specs.Types.{Attribute, Op, Script, Space}
use Rattle.hx_types.specs.declared.spaces.Kind.TheVariants as a_kind
use Rattle.hx_types.specs.Words.{below}
use Rattle.hx_soak.specs.Calling.{call_drawn}
use Rattle.hx_soak.specs.Drawing.{draw_of}

abbrev pub attributes_of_soak : List Attribute
attributes_of_soak =
    record { name = codes "color"; kind = a_kind.Text } ∷ record { name = codes "size"; kind = a_kind.Int (pos 0) (pos 999) } ∷ []

-- objects with a color and a size, spread by each of them, on four servers
abbrev pub soak : Space
soak =
    record {
      name = codes "soak";
      key_name = codes "k";
      key_parts = 4;
      attributes = attributes_of_soak;
      subspaces = (record { attribute = 1; parts = 4 } ∷ []) ∷ (record { attribute = 2; parts = 4 } ∷ []) ∷ [];
      servers = 4;
      tolerate = 1;
    }

-- the session whose turn it is, from 1
abbrev pub session_at : ℕ → ℕ
session_at turn = turn % 4 + 1

-- the turns of a session among so many
abbrev pub turns_of : ℕ → ℕ → List ℕ
turns_of calls session = filter (λ turn. session_at turn == session) (below calls)

-- the calls of a session: each turn takes one draw
abbrev pub calls_drawn : ℕ → ℕ → ℕ → List Op
calls_drawn seed calls session = map (λ turn. call_drawn session (draw_of seed turn)) (turns_of calls session)

abbrev pub script_drawn : ℕ → ℕ → Script
script_drawn seed calls =
    record {
      space = soak;
      sessions = calls_drawn seed calls 1 ∷ calls_drawn seed calls 2 ∷ calls_drawn seed calls 3 ∷ calls_drawn seed calls 4 ∷ [];
      steps = [];
    }
