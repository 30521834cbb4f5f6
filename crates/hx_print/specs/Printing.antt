-- The plain text of a script: single spaces between parts, none round `=`, `.` and `..`, none before `,` and one after it.
use Rattle.std.specs.Prelude.{ℕ, ◌+◌, ◌-◌, ℤ, List, [], ◌∷◌, ◌++◌, codes, ◌==◌, if◌then◌else◌, slice_get}
use Rattle.std.specs.List.{flat_map}
use Rattle.std.specs.Fmt.{decimal, signed_decimal}
use Rattle.hx_types.specs.declared.ids.Actor.{Actor}
use Rattle.hx_types.specs.declared.values.Assign.{Assign}
use Rattle.hx_types.specs.declared.spaces.Attribute.{Attribute}
use Rattle.hx_types.specs.declared.spaces.Axis.{Axis}
use Rattle.hx_types.specs.declared.values.Edit.{Edit}
use Rattle.hx_types.specs.declared.values.EditKind.{EditKind}
use Rattle.hx_types.specs.declared.values.EditKind.TheVariants as an_edit
use Rattle.hx_types.specs.declared.spaces.Kind.{Kind}
use Rattle.hx_types.specs.declared.calls.Caller.{Caller}
use Rattle.hx_types.specs.declared.calls.Op.{Op}
use Rattle.hx_types.specs.declared.messages.PostId.{PostId}
use Rattle.hx_types.specs.declared.ids.RegionId.{RegionId}
use Rattle.hx_types.specs.declared.traces.Script.{Script}
use Rattle.hx_types.specs.declared.ids.ServerId.{ServerId}
use Rattle.hx_types.specs.declared.spaces.Space.{Space}
use Rattle.hx_types.specs.declared.traces.Step.{Step}
use Rattle.hx_types.specs.declared.values.Term.{Term}
use Rattle.hx_types.specs.declared.values.Value.{Value}
use Rattle.hx_types.specs.declared.spaces.Kind.TheVariants as a_kind
use Rattle.hx_types.specs.declared.values.Value.TheVariants as a_value
use Rattle.hx_types.specs.declared.traces.Step.TheVariants as a_step
use Rattle.hx_types.specs.declared.calls.Op.TheVariants.{Put, Get, Del, Cput, Search, Stop, Add, Atomic}
use Rattle.hx_types.specs.declared.values.Term.TheVariants.{Equal, Range}
use Rattle.hx_types.specs.declared.ids.Actor.TheVariants.{Coordinator, Server, Session}
use Rattle.hx_types.specs.Words.{when_some}

-- a number after another
unfoldable pub next_number_text : ℕ → List ℕ
next_number_text n = codes "," ++ decimal n

-- numbers with commas between them; none is `-`
unfoldable pub numbers_text : List ℕ → List ℕ
numbers_text [] = codes "-"
numbers_text (n ∷ rest) = decimal n ++ flat_map next_number_text rest

-- a byte of a text, as it stands between quotes
abbrev pub escape : ℕ → List ℕ
escape b =
    if b == 34 then codes "\\\""
    else if b == 92 then codes "\\\\"
    else if b == 10 then codes "\\n"
    else if b == 9 then codes "\\t"
    else b ∷ []

-- a text in quotes
unfoldable pub quoted : List ℕ → List ℕ
quoted bytes = codes "\"" ++ flat_map escape bytes ++ codes "\""

unfoldable pub value_text : Value → List ℕ
value_text (a_value.Text bytes) = quoted bytes
value_text (a_value.Int n) = signed_decimal n

-- the name of an attribute: attribute 0 is the key
abbrev pub name_of : Space → ℕ → List ℕ
name_of space attribute =
    if attribute == 0 then space.key_name else when_some (slice_get space.attributes (attribute - 1)) [] (λ (a : Attribute). a.name)

-- ` N=V`
unfoldable pub named_text : List ℕ → Value → List ℕ
named_text name value = codes " " ++ name ++ codes "=" ++ value_text value

abbrev pub assign_text : Space → Assign → List ℕ
assign_text space a = named_text (name_of space a.attribute) a.value

abbrev pub assigns_text : Space → List Assign → List ℕ
assigns_text space assigns = flat_map (assign_text space) assigns

-- ` N=I..I`
unfoldable pub range_text : List ℕ → ℤ → ℤ → List ℕ
range_text name lo hi = codes " " ++ name ++ codes "=" ++ signed_decimal lo ++ codes ".." ++ signed_decimal hi

abbrev pub term_text : Space → Term → List ℕ
term_text space (Equal attribute value) = named_text (name_of space attribute) value
term_text space (Range attribute lo hi) = range_text (name_of space attribute) lo hi

abbrev pub terms_text : Space → List Term → List ℕ
terms_text space terms = flat_map (term_text space) terms

unfoldable pub cput_text : Space → List ℕ → List Assign → List Assign → List ℕ
cput_text space key tests sets = codes "cput " ++ quoted key ++ codes " if" ++ assigns_text space tests ++ codes " set" ++ assigns_text space sets

unfoldable pub add_text : ServerId → RegionId → List ℕ
add_text server region = codes "add " ++ decimal server.0 ++ codes " " ++ decimal region.0

abbrev pub edit_word : EditKind → List ℕ
edit_word an_edit.Add = codes "add"
edit_word an_edit.Append = codes "append"
edit_word an_edit.Min = codes "min"
edit_word an_edit.Max = codes "max"

-- ` add N=V`
unfoldable pub edit_text : Space → Edit → List ℕ
edit_text space e = codes " " ++ edit_word e.what ++ named_text (name_of space e.attribute) e.value

abbrev pub edits_text : Space → List Edit → List ℕ
edits_text space edits = flat_map (edit_text space) edits

-- a call, without its newline
unfoldable pub op_text : Space → Op → List ℕ
op_text space (Put key sets) = codes "put " ++ quoted key ++ assigns_text space sets
op_text space (Get key) = codes "get " ++ quoted key
op_text space (Del key) = codes "del " ++ quoted key
op_text space (Cput key tests sets) = cput_text space key tests sets
op_text space (Search terms) = codes "search" ++ terms_text space terms
op_text space (Stop server) = codes "stop " ++ decimal server.0
op_text space (Add server region) = add_text server region
op_text space (Atomic key edits) = codes "atomic " ++ quoted key ++ edits_text space edits

unfoldable pub string_line : List ℕ → List ℕ
string_line name = codes "string " ++ name ++ codes "\n"

-- ` I I`
unfoldable pub bounds_text : ℤ → ℤ → List ℕ
bounds_text lo hi = codes " " ++ signed_decimal lo ++ codes " " ++ signed_decimal hi

unfoldable pub int_line : List ℕ → ℤ → ℤ → List ℕ
int_line name lo hi = codes "int " ++ name ++ bounds_text lo hi ++ codes "\n"

abbrev pub kind_line : List ℕ → Kind → List ℕ
kind_line name a_kind.Text = string_line name
kind_line name (a_kind.Int lo hi) = int_line name lo hi

abbrev pub attribute_line : Attribute → List ℕ
attribute_line a = kind_line a.name a.kind

-- `N I`
unfoldable pub axis_text : Space → Axis → List ℕ
axis_text space a = name_of space a.attribute ++ codes " " ++ decimal a.parts

-- an axis after another
unfoldable pub next_axis_text : Space → Axis → List ℕ
next_axis_text space a = codes ", " ++ axis_text space a

unfoldable pub axes_text : Space → List Axis → List ℕ
axes_text space [] = []
axes_text space (a ∷ rest) = codes " " ++ axis_text space a ++ flat_map (next_axis_text space) rest

unfoldable pub subspace_line : Space → List Axis → List ℕ
subspace_line space axes = codes "subspace" ++ axes_text space axes ++ codes "\n"

unfoldable pub space_line : List ℕ → List ℕ
space_line name = codes "space " ++ name ++ codes "\n"

unfoldable pub key_line : List ℕ → ℕ → List ℕ
key_line name parts = codes "key " ++ name ++ codes " " ++ decimal parts ++ codes "\n"

unfoldable pub servers_line : ℕ → List ℕ
servers_line n = codes "servers " ++ decimal n ++ codes "\n"

unfoldable pub tolerate_line : ℕ → List ℕ
tolerate_line n = codes "tolerate " ++ decimal n ++ codes "\n"

-- the lines from `space` to `tolerate`
unfoldable pub space_text : Space → List ℕ
space_text space =
    space_line space.name
    ++ key_line space.key_name space.key_parts
    ++ flat_map attribute_line space.attributes
    ++ flat_map (subspace_line space) space.subspaces
    ++ servers_line space.servers
    ++ tolerate_line space.tolerate

unfoldable pub call_line : Space → Op → List ℕ
call_line space op = op_text space op ++ codes "\n"

-- the line of a session, and its calls
unfoldable pub session_text : Space → ℕ → List Op → List ℕ
session_text space number calls = codes "session " ++ decimal number ++ codes "\n" ++ flat_map (call_line space) calls

-- the sessions from a number on
unfoldable pub sessions_text : Space → ℕ → List (List Op) → List ℕ
sessions_text space number [] = []
sessions_text space number (calls ∷ rest) = session_text space number calls ++ sessions_text space (number + 1) rest

-- c, s1 or u1
unfoldable pub actor_text : Actor → List ℕ
actor_text Coordinator = codes "c"
actor_text (Server s) = codes "s" ++ decimal s.0
actor_text (Session u) = codes "u" ++ decimal u.0

-- `uS.N`
unfoldable pub caller_text : Caller → List ℕ
caller_text c = codes "u" ++ decimal c.session.0 ++ codes "." ++ decimal c.number

unfoldable pub post_name : PostId → List ℕ
post_name id = decimal id.entry ++ codes "." ++ decimal id.place

unfoldable pub step_text : Step → List ℕ
step_text (a_step.Deliver id) = codes "deliver " ++ post_name id
step_text (a_step.Tick a) = codes "tick " ++ actor_text a
step_text (a_step.Halt a) = codes "halt " ++ actor_text a

unfoldable pub step_line : ℕ × Step → List ℕ
step_line s = step_text s.1 ++ codes "\n"

-- the last section, left out where there are no steps
unfoldable pub steps_text : List (ℕ × Step) → List ℕ
steps_text [] = []
steps_text (s ∷ rest) = codes "steps\n" ++ flat_map step_line (s ∷ rest)

-- the whole script
unfoldable pub script_text : Script → List ℕ
script_text script = codes "hx 1\n" ++ space_text script.space ++ sessions_text script.space 1 script.sessions ++ steps_text script.steps
