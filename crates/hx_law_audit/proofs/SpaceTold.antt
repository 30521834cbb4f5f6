-- The lines of a space are as many as are counted.
use Rattle.std.proofs.Common.{ℕ, ◌+◌, ◌^◌, ◌<◌, ◌≤◌, List, [], ◌∷◌, ◌++◌, length, refl, arith}
use Rattle.std.specs.Prelude.{codes}
use Rattle.std.specs.Fmt.{decimal, signed_decimal}
use Rattle.std.specs.List.{All, flat_map}
use Rattle.std.proofs.lemmas.List.Elements.{All-head, All-tail}
use Rattle.hx_model.specs.Types.{Attribute, Axis, Kind, Space}
use Rattle.hx_types.specs.declared.limits.TheConstants.{MOST_FAILURES, MOST_SERVERS}
use Rattle.hx_types.specs.declared.spaces.Kind.TheVariants as a_kind
use Rattle.hx_types.specs.Spaces.{ArePart, IsKind, IsName, IsSpace, IsSubspaceOf}
use Rattle.hx_law_texts.specs.Sayable.{BoundsAreSayable}
use Rattle.hx_print.specs.Printing.{attribute_line, axes_text, axis_text, bounds_text, int_line, key_line, name_of, next_axis_text}
use Rattle.hx_print.specs.Printing.{servers_line, space_line, space_text, string_line, subspace_line, tolerate_line}
use Rattle.hx_report_lines.specs.Values.{IsSpaceValue}
use Rattle.hx_report_lines.proofs.Lemmas.{Runs, all_run, decimal_runs, joined, name_of_runs, name_runs, nothing_runs, one_line_of, signed_runs, words_run}
use Rattle.hx_audit.specs.Verdicts.{space_lines}
use Rattle.hx_law_audit.proofs.TextLines.{HasLines, has_as, has_both, has_each, has_one}

-- bytes that have no newline, and one behind them
one_of : (line : List ℕ) → Runs line → HasLines 1 (line ++ 10 ∷ [])
one_of line runs = has_one line (line ++ 10 ∷ []) refl (one_line_of line runs.clean)

name_is : (w name : List ℕ) → Runs w → IsName name → Runs (w ++ name)
name_is w name runs is = joined w name runs (name_runs name is)

-- a word, and a number behind it
number_is : (w : List ℕ) (n : ℕ) → Runs w → n < 2 ^ 64 → Runs (w ++ decimal n)
number_is w n runs small = joined w (decimal n) runs (decimal_runs n small)

first_is : (name : List ℕ) → IsName name → HasLines 1 (space_line name)
unfolding space_line
first_is name is = one_of (codes "space " ++ name) (name_is (codes "space ") name (words_run (codes "space ") refl) is)

key_is : (name : List ℕ) (parts : ℕ) → IsName name → ArePart parts → HasLines 1 (key_line name parts)
unfolding key_line
key_is name parts is few =
    let within = few.1 in
    one_of (codes "key " ++ name ++ codes " " ++ decimal parts)
    (number_is (codes "key " ++ name ++ codes " ") parts
    (joined (codes "key " ++ name) (codes " ") (name_is (codes "key ") name (words_run (codes "key ") refl) is) (words_run (codes " ") refl))
    (omega (arith, within)))

abbrev IsDeclared : Attribute → Type 0
IsDeclared a = IsName a.name × BoundsAreSayable a.kind

kind_is : (name : List ℕ) (k : Kind) → IsName name → BoundsAreSayable k → HasLines 1 (attribute_line (record { name = name; kind = k }))
unfolding string_line int_line bounds_text
kind_is name a_kind.Text is said = one_of (codes "string " ++ name) (name_is (codes "string ") name (words_run (codes "string ") refl) is)
kind_is name (a_kind.Int lo hi) is said =
    let low = joined (codes " ") (signed_decimal lo) (words_run (codes " ") refl) (signed_runs lo said.0) in
    let bounds = joined (codes " " ++ signed_decimal lo ++ codes " ") (signed_decimal hi)
    (joined (codes " " ++ signed_decimal lo) (codes " ") low (words_run (codes " ") refl)) (signed_runs hi said.1) in
    one_of (codes "int " ++ name ++ (codes " " ++ signed_decimal lo ++ codes " " ++ signed_decimal hi))
    (joined (codes "int " ++ name) (codes " " ++ signed_decimal lo ++ codes " " ++ signed_decimal hi)
    (name_is (codes "int ") name (words_run (codes "int ") refl) is) bounds)

attribute_is : (a : Attribute) → IsDeclared a → HasLines 1 (attribute_line a)
attribute_is a is = kind_is a.name a.kind is.0 is.1

are_declared : (attributes : List Attribute) → All (λ (a : Attribute). IsName a.name × IsKind a.kind) attributes
    → All (λ (a : Attribute). BoundsAreSayable a.kind) attributes → All IsDeclared attributes
are_declared attributes names bounds = λ k d lt. (let named = names k d lt in named.0, bounds k d lt)

abbrev IsAxis : Space → Axis → Type 0
IsAxis s a = (0 < a.attribute) × (a.attribute ≤ length s.attributes) × ArePart a.parts

axis_is : (s : Space) (a : Axis) → IsSpace s → IsAxis s a → Runs (axis_text s a)
unfolding axis_text
axis_is s a valid is =
    let within = is.2.1 in
    number_is (name_of s a.attribute ++ codes " ") a.parts
    (joined (name_of s a.attribute) (codes " ") (name_of_runs s a.attribute valid) (words_run (codes " ") refl)) (omega (arith, within))

next_is : (s : Space) (a : Axis) → IsSpace s → IsAxis s a → Runs (next_axis_text s a)
unfolding next_axis_text
next_is s a valid is = joined (codes ", ") (axis_text s a) (words_run (codes ", ") refl) (axis_is s a valid is)

axes_are : (s : Space) (axes : List Axis) → IsSpace s → All (IsAxis s) axes → Runs (axes_text s axes)
unfolding axes_text
axes_are s [] valid all = nothing_runs
axes_are s (a ∷ axes) valid all =
    joined (codes " " ++ axis_text s a) (flat_map (next_axis_text s) axes)
    (joined (codes " ") (axis_text s a) (words_run (codes " ") refl) (axis_is s a valid (All-head (IsAxis s) a axes all)))
    (all_run (next_axis_text s) (IsAxis s) (λ x h. next_is s x valid h) axes (All-tail (IsAxis s) a axes all))

subspace_is : (s : Space) (axes : List Axis) → IsSpace s → IsSubspaceOf s axes → HasLines 1 (subspace_line s axes)
unfolding subspace_line
subspace_is s axes valid is = one_of (codes "subspace" ++ axes_text s axes)
    (joined (codes "subspace") (axes_text s axes) (words_run (codes "subspace") refl) (axes_are s axes valid is.declared))

servers_are : (n : ℕ) → n ≤ MOST_SERVERS → HasLines 1 (servers_line n)
unfolding servers_line
servers_are n few = one_of (codes "servers " ++ decimal n) (number_is (codes "servers ") n (words_run (codes "servers ") refl) (omega (arith, few)))

tolerate_is : (n : ℕ) → n ≤ MOST_FAILURES → HasLines 1 (tolerate_line n)
unfolding tolerate_line
tolerate_is n few = one_of (codes "tolerate " ++ decimal n) (number_is (codes "tolerate ") n (words_run (codes "tolerate ") refl) (omega (arith, few)))

pub space_has : (s : Space) → IsSpaceValue s → HasLines (space_lines s) (space_text s)
unfolding space_text
space_has s is =
    let t1 : List ℕ = space_line s.name in
    let t2 : List ℕ = key_line s.key_name s.key_parts in
    let t3 : List ℕ = flat_map attribute_line s.attributes in
    let t4 : List ℕ = flat_map (subspace_line s) s.subspaces in
    let t5 : List ℕ = servers_line s.servers in
    let t6 : List ℕ = tolerate_line s.tolerate in
    let na : ℕ = length s.attributes in
    let ns : ℕ = length s.subspaces in
    let many = is.valid.servers in
    let few = is.valid.tolerate in
    let h2 = has_both 1 1 t1 t2 (first_is s.name is.valid.name) (key_is s.key_name s.key_parts is.valid.key_name is.valid.key_parts) in
    let h3 = has_both 2 na (t1 ++ t2) t3 h2
    (has_each attribute_line IsDeclared attribute_is s.attributes (are_declared s.attributes is.valid.names is.bounds)) in
    let h4 = has_both (2 + na) ns (t1 ++ t2 ++ t3) t4 h3
    (has_each (subspace_line s) (IsSubspaceOf s) (λ axes h. subspace_is s axes is.valid h) s.subspaces is.valid.subspaces) in
    let h5 = has_both (2 + na + ns) 1 (t1 ++ t2 ++ t3 ++ t4) t5 h4 (servers_are s.servers many.1) in
    let h6 = has_both (2 + na + ns + 1) 1 (t1 ++ t2 ++ t3 ++ t4 ++ t5) t6 h5 (tolerate_is s.tolerate few.0) in
    has_as (2 + na + ns + 1 + 1) (space_lines s) (t1 ++ t2 ++ t3 ++ t4 ++ t5 ++ t6) (omega arith) h6
