-- The call that a draw stands for: which one and of what is told by the bits of the draw.
use Rattle.std.specs.Prelude.{ℕ, ◌+◌, ◌/◌, ◌%◌, ◌^◌, List, [], ◌∷◌, ◌++◌, codes, if◌then◌else◌, nat_lt, ◌==◌, pos}
use Rattle.std.specs.Fmt.{decimal}
use Rattle.hx_model.specs.Types.{Assign, Cput, Del, Get, Op, Put, Range, Search, Term}
use Rattle.hx_types.specs.declared.values.Value.TheVariants as a_value

-- `sSkK`: one of the 64 keys of a session
abbrev pub key_drawn : ℕ → ℕ → List ℕ
key_drawn session draw = (codes "s" ++ decimal session) ++ codes "k" ++ decimal (draw % 64)

-- `cX`: one of four colors, of attribute 1
abbrev pub color_drawn : ℕ → Assign
color_drawn draw = record { attribute = 1; value = a_value.Text (codes "c" ++ decimal ((draw / 2 ^ 16) % 4)) }

-- a size from 0 to 999, of attribute 2
abbrev pub size_drawn : ℕ → Assign
size_drawn draw = record { attribute = 2; value = a_value.Int (pos ((draw / 2 ^ 24) % 1000)) }

-- a hundred sizes in a row
abbrev pub sizes_drawn : ℕ → Term
sizes_drawn draw = let low = (draw / 2 ^ 24) % 900 in Range 2 (pos low) (pos (low + 99))

-- the call of a kind from 0 to 7
abbrev pub call_of_kind : ℕ → ℕ → ℕ → Op
call_of_kind kind session draw =
    if nat_lt kind 4 then Put (key_drawn session draw) (color_drawn draw ∷ size_drawn draw ∷ [])
    else if kind == 4 then Get (key_drawn session draw)
    else if kind == 5 then Del (key_drawn session draw)
    else if kind == 6 then Cput (key_drawn session draw) (color_drawn draw ∷ []) (size_drawn draw ∷ [])
    else Search (sizes_drawn draw ∷ [])

abbrev pub call_drawn : ℕ → ℕ → Op
call_drawn session draw = call_of_kind ((draw / 2 ^ 8) % 8) session draw
