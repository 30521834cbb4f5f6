-- The lines of a space that are printed are read again: behind each of them some space goes on.
use Rattle.std.proofs.Common.{◌≡◌, ◌≢◌, ℕ, ◌+◌, ◌-◌, ◌*◌, ◌<◌, ◌≤◌, cond, List, [], ◌∷◌}
use Rattle.std.proofs.Common.{◌++◌, map, length, None, Some, refl, sym, ap, subst, ◌∙◌, arith}
use Rattle.std.specs.Prelude.{codes, ◌≢◌}
use Rattle.std.specs.List.{All, flat_map}
use Rattle.std.specs.Fmt.{decimal, signed_decimal}
use Rattle.std.proofs.lemmas.Fmt.{decimal_digit}
use Rattle.std.proofs.lemmas.List.{append_assoc, append-nil, length-append}
use Rattle.std.proofs.lemmas.List.Elements.{All-cons, All-head, All-nil, All-tail}
use Rattle.hx_model.specs.Types.{Attribute, Axis, Kind, Script, Space}
use Rattle.hx_types.specs.declared.limits.TheConstants.{MOST_ATTRIBUTES, MOST_FAILURES, MOST_PARTS, MOST_REGIONS, MOST_SERVERS, MOST_SUBSPACES}
use Rattle.hx_types.specs.declared.spaces.Kind.TheVariants as a_kind
use Rattle.hx_types.specs.Spaces.{ArePart, IsKind, IsName, IsSpace, IsSubspaceOf, NamesDiffer}
use Rattle.hx_types.specs.Subspaces.{region_count, sizes_sum}
use Rattle.hx_law_texts.specs.Sayable.{BoundsAreSayable}
use Rattle.hx_law_texts.proofs.Lemmas.{all_here, reads_back}
use Rattle.hx_print.specs.Printing.{attribute_line, axes_text, axis_text, bounds_text, int_line, key_line, name_of}
use Rattle.hx_print.specs.Printing.{next_axis_text, script_text, servers_line, sessions_text, space_line, space_text}
use Rattle.hx_print.specs.Printing.{steps_text, string_line, subspace_line, tolerate_line}
use Rattle.hx_script.specs.Texts.{script_of}
use Rattle.hx_report_lines.specs.declared.blocks.Block.{Block}
use Rattle.hx_report_lines.specs.declared.drafts.Draft.{Draft}
use Rattle.hx_report_lines.specs.declared.drafts.Open.TheVariants as opens
use Rattle.hx_report_lines.specs.declared.drafts.Section.TheVariants as sections
use Rattle.hx_report_lines.specs.Drafts.{after_line, block_of, empty_space, head_with, with_space}
use Rattle.hx_report_lines.specs.Readers.{on_some}
use Rattle.hx_report_lines.specs.Tailing.{rest_of_head, same_space, space_of}
use Rattle.hx_report_lines.specs.Values.{IsSpaceValue}
use Rattle.hx_report_lines.proofs.DraftsRead.{IsOneLine, least_fits, least_space}
use Rattle.hx_report_lines.proofs.Goes.{Steps, no_step, one_step, steps_then}
use Rattle.hx_report_lines.proofs.Scans.{Runs, all_run, decimal_runs, joined, name_of_runs, name_runs, nothing_runs, one_line_of, signed_runs, words_run}
use Rattle.hx_report_lines.proofs.Takes.{bytes_same}
use Rattle.hx_report_lines.proofs.TextsRead.{behind, with_newline}

-- ---- a whole space

alone : Space → Script
alone space = record { space = space; sessions = []; steps = [] }

alone_text : (space : Space) → script_text (alone space) ≡ codes "hx 1\n" ++ space_text space
unfolding alone script_text sessions_text steps_text
alone_text space = append-nil (codes "hx 1\n" ++ space_text space ++ []) ∙ append-nil (codes "hx 1\n" ++ space_text space)

pub space_taken : (space : Space) → IsSpaceValue space → space_of (space_text space) ≡ Some space
unfolding space_of alone
space_taken space is =
    let read = reads_back (alone space)
    (record { space = is.valid; sessions = omega arith; calls = λ k d lt. absurd (omega (arith, lt)); few_calls = omega arith; few_steps = omega arith })
    (record { bounds = is.bounds; calls = λ k d lt. absurd (omega (arith, lt)); steps = λ k d lt. absurd (omega (arith, lt)) }) in
    ap (λ t. same_space (space_text space) (script_of t)) (sym (alone_text space)) ∙ ap (same_space (space_text space)) read
    ∙ ap (λ b. cond b (Some space) None) (bytes_same (space_text space))

-- ---- spaces of which the last lines are others

-- a space with fewer attributes and subspaces, other servers and losses
abbrev cut : Space → List Attribute → List (List Axis) → ℕ → ℕ → Space
cut s attributes subspaces servers tolerate = record s { attributes = attributes; subspaces = subspaces; servers = servers; tolerate = tolerate }

all_front : {A : Type 0} (P : A → Type 0) (front more : List A) → All P (front ++ more) → All P front
all_front P [] more h = All-nil P
all_front P (x ∷ front) more h = All-cons P x front (All-head P x (front ++ more) h) (all_front P front more (All-tail P x (front ++ more) h))

mapped_front : (P : List ℕ → Type 0) (front more : List Attribute)
    → All P (map (λ (a : Attribute). a.name) (front ++ more)) → All P (map (λ (a : Attribute). a.name) front)
mapped_front P [] more h = All-nil P
mapped_front P (x ∷ front) more h =
    All-cons P x.name (map (λ (a : Attribute). a.name) front) (All-head P x.name (map (λ (a : Attribute). a.name) (front ++ more)) h)
    (mapped_front P front more (All-tail P x.name (map (λ (a : Attribute). a.name) (front ++ more)) h))

differ_front : (front more : List Attribute) → NamesDiffer (map (λ (a : Attribute). a.name) (front ++ more))
    → NamesDiffer (map (λ (a : Attribute). a.name) front)
differ_front [] more h = tt
differ_front (x ∷ front) more h = (mapped_front (λ (m : List ℕ). m ≢ x.name) front more h.0, differ_front front more h.1)

record IsEnd (n t : ℕ) : Type 0 where
  servers : (0 < n) × (n ≤ MOST_SERVERS)
  tolerate : (t ≤ MOST_FAILURES) × (t < n)

least_end : IsEnd 1 0
least_end = record { servers = (omega arith, omega arith); tolerate = (omega arith, omega arith) }

cut_valid : (s : Space) (front more : List Attribute) (subspaces : List (List Axis)) (n t : ℕ) → IsSpaceValue s
    → s.attributes ≡ front ++ more → All (IsSubspaceOf (cut s front subspaces n t)) subspaces → length subspaces ≤ MOST_SUBSPACES
    → region_count (cut s front subspaces n t) ≤ MOST_REGIONS → IsEnd n t → IsSpaceValue (cut s front subspaces n t)
cut_valid s front more subspaces n t is split all few regions end =
    let names : All (λ (a : Attribute). IsName a.name × IsKind a.kind) (front ++ more) =
    subst (All (λ (a : Attribute). IsName a.name × IsKind a.kind)) split is.valid.names in
    let differ : NamesDiffer (s.key_name ∷ map (λ (a : Attribute). a.name) (front ++ more)) =
    subst (λ (xs : List Attribute). NamesDiffer (s.key_name ∷ map (λ (a : Attribute). a.name) xs)) split
    is.valid.names_differ in
    let many : length (front ++ more) ≤ MOST_ATTRIBUTES = subst (λ (xs : List Attribute). length xs ≤ MOST_ATTRIBUTES) split is.valid.attributes in
    let long = length-append front more in
    record {
      valid = record {
        name = is.valid.name;
        key_name = is.valid.key_name;
        names = all_front (λ (a : Attribute). IsName a.name × IsKind a.kind) front more names;
        names_differ = (mapped_front (λ (m : List ℕ). m ≢ s.key_name) front more differ.0, differ_front front more differ.1);
        attributes = omega (arith, many, long);
        key_parts = is.valid.key_parts;
        subspaces = all;
        few_subspaces = few;
        regions = regions;
        servers = end.servers;
        tolerate = end.tolerate;
      };
      bounds = all_front (λ (a : Attribute). BoundsAreSayable a.kind) front more (subst (All (λ (a : Attribute). BoundsAreSayable a.kind)) split is.bounds);
    }

key_regions : (p : ℕ) → p ≤ MOST_PARTS → p * 1 + 0 ≤ MOST_REGIONS
key_regions p h = omega (arith, h)

-- no subspaces, and so many attributes
fewer_attributes : (s : Space) (front more : List Attribute) → IsSpaceValue s → s.attributes ≡ front ++ more → IsSpaceValue (cut s front [] 1 0)
fewer_attributes s front more is split = cut_valid s front more [] 1 0 is split
    (All-nil (IsSubspaceOf (cut s front [] 1 0))) (omega arith) (key_regions s.key_parts is.valid.key_parts.1) least_end

subspaces_of_cut : (s : Space) (subspaces all : List (List Axis)) (n t : ℕ) → All (IsSubspaceOf s) all
    → All (IsSubspaceOf (cut s s.attributes subspaces n t)) all
subspaces_of_cut s subspaces all n t h = λ k d lt. let x = h k d lt in record { some = x.some; few = x.few; declared = x.declared; once = x.once }

sizes_front : (front more : List (List Axis)) → sizes_sum front ≤ sizes_sum (front ++ more)
sizes_front [] more = omega arith
sizes_front (axes ∷ front) more = let k = sizes_front front more in omega (arith, k)

-- all attributes, so many subspaces, and the last two lines
fewer_subspaces : (s : Space) (front more : List (List Axis)) (n t : ℕ) → IsSpaceValue s → s.subspaces ≡ front ++ more
    → IsEnd n t → IsSpaceValue (cut s s.attributes front n t)
fewer_subspaces s front more n t is split end =
    let all : All (IsSubspaceOf s) (front ++ more) = subst (All (IsSubspaceOf s)) split is.valid.subspaces in
    let few : length (front ++ more) ≤ MOST_SUBSPACES = subst (λ (xs : List (List Axis)). length xs ≤ MOST_SUBSPACES) split is.valid.few_subspaces in
    let long = length-append front more in
    let regions : s.key_parts * 1 + sizes_sum (front ++ more) ≤ MOST_REGIONS =
    subst (λ (xs : List (List Axis)). s.key_parts * 1 + sizes_sum xs ≤ MOST_REGIONS) split is.valid.regions in
    let less = sizes_front front more in
    cut_valid s s.attributes [] front n t is (sym (append-nil s.attributes))
    (subspaces_of_cut s front front n t (all_front (IsSubspaceOf s) front more all)) (omega (arith, few, long))
    (omega (arith, regions, less)) end

-- of a space its name alone
abbrev named : List ℕ → Space
named name = record least_space { name = name }

named_valid : (name : List ℕ) → IsName name → IsSpaceValue (named name)
named_valid name is =
    let least = least_fits.valid in
    record {
      valid = record {
        name = is;
        key_name = least.key_name;
        names = least.names;
        names_differ = least.names_differ;
        attributes = least.attributes;
        key_parts = least.key_parts;
        subspaces = All-nil (IsSubspaceOf (named name));
        few_subspaces = least.few_subspaces;
        regions = least.regions;
        servers = least.servers;
        tolerate = least.tolerate;
      };
      bounds = least_fits.bounds;
    }

-- ---- the texts of such spaces

last_one : servers_line 1 ++ tolerate_line 0 ≡ codes "servers 1\ntolerate 0\n"
unfolding servers_line tolerate_line
last_one = rw (decimal_digit 1 (omega arith), decimal_digit 0 (omega arith)) refl

last_zero : tolerate_line 0 ≡ codes "tolerate 0\n"
unfolding tolerate_line
last_zero = rw (decimal_digit 0 (omega arith)) refl

key_one : key_line (codes "k") 1 ≡ codes "key k 1\n"
unfolding key_line
key_one = rw (decimal_digit 1 (omega arith)) refl

-- the lines before those of servers
abbrev pub heads : Space → List Attribute → List (List Axis) → List ℕ
heads s attributes subspaces = space_line s.name ++ key_line s.key_name s.key_parts
    ++ flat_map attribute_line attributes ++ flat_map (subspace_line s) subspaces

parts_alike : (s : Space) (subspaces all : List (List Axis)) (n t : ℕ)
    → flat_map (subspace_line (cut s s.attributes subspaces n t)) all ≡ flat_map (subspace_line s) all
unfolding subspace_line axes_text axis_text next_axis_text
parts_alike s subspaces all n t = refl

attributes_text : (s : Space) (front : List Attribute)
    → space_text (cut s front [] 1 0) ≡ (space_line s.name ++ key_line s.key_name s.key_parts
    ++ flat_map attribute_line front) ++ codes "servers 1\ntolerate 0\n"
unfolding space_text
attributes_text s front =
    let a : List ℕ = space_line s.name ++ key_line s.key_name s.key_parts ++ flat_map attribute_line front in
    append_assoc (a ++ []) (servers_line 1) (tolerate_line 0) ∙ ap (λ t. t ++ (servers_line 1 ++ tolerate_line 0)) (append-nil a) ∙ ap (λ t. a ++ t) last_one

subspaces_text : (s : Space) (front : List (List Axis))
    → space_text (cut s s.attributes front 1 0) ≡ heads s s.attributes front ++ codes "servers 1\ntolerate 0\n"
unfolding space_text
subspaces_text s front =
    let a : List ℕ = space_line s.name ++ key_line s.key_name s.key_parts ++ flat_map attribute_line s.attributes in
    append_assoc (a ++ flat_map (subspace_line (cut s s.attributes front 1 0)) front) (servers_line 1) (tolerate_line 0)
    ∙ ap (λ t. (a ++ t) ++ (servers_line 1 ++ tolerate_line 0)) (parts_alike s front front 1 0) ∙ ap (λ t. heads s s.attributes front ++ t) last_one

servers_text : (s : Space) → space_text (cut s s.attributes s.subspaces s.servers 0)
    ≡ (heads s s.attributes s.subspaces ++ servers_line s.servers) ++ codes "tolerate 0\n"
unfolding space_text
servers_text s =
    let a : List ℕ = space_line s.name ++ key_line s.key_name s.key_parts ++ flat_map attribute_line s.attributes in
    ap (λ t. (a ++ t ++ servers_line s.servers) ++ tolerate_line 0)
    (parts_alike s s.subspaces s.subspaces s.servers 0)
    ∙ ap (λ t. (heads s s.attributes s.subspaces ++ servers_line s.servers) ++ t) last_zero

whole_text : (s : Space) → space_text s ≡ (heads s s.attributes s.subspaces ++ servers_line s.servers) ++ tolerate_line s.tolerate
unfolding space_text
whole_text s = refl

named_text : (name : List ℕ) → space_text (named name) ≡ space_line name ++ codes "key k 1\nservers 1\ntolerate 0\n"
unfolding space_text
named_text name =
    let a : List ℕ = space_line name ++ key_line (codes "k") 1 in
    append_assoc (a ++ [] ++ []) (servers_line 1) (tolerate_line 0)
    ∙ ap (λ t. t ++ (servers_line 1 ++ tolerate_line 0)) (append-nil (a ++ []) ∙ append-nil a)
    ∙ ap (λ t. a ++ t) last_one ∙ ap (λ k. (space_line name ++ k) ++ codes "servers 1\ntolerate 0\n") key_one
    ∙ append_assoc (space_line name) (codes "key k 1\n") (codes "servers 1\ntolerate 0\n")

-- ---- drafts of which lines of a space were read

abbrev pub head_draft : ℕ → List Block → List ℕ → Draft
head_draft version blocks head = record {
  section = sections.Head;
  version = version;
  blocks = blocks;
  head = head;
  block = block_of empty_space;
  pending = opens.Nothing;
}

abbrev pub body : ℕ → List Block → Block → Draft
body version blocks b = record { section = sections.Body; version = version; blocks = blocks; head = []; block = b; pending = opens.Nothing }

head_read : (v : ℕ) (bs : List Block) (head line rest : List ℕ) (s : Space) → rest_of_head line ≡ Some rest
    → IsSpaceValue s → space_text s ≡ (head ++ with_newline line) ++ rest
    → after_line (head_draft v bs head) line ≡ Some (with_space (head_draft v bs head) (head ++ with_newline line) rest s)
head_read v bs head line rest s known is text =
    let d : Draft = head_draft v bs head in
    ap (λ o. on_some o (head_with d (head ++ line ++ 10 ∷ []))) known
    ∙ ap (λ h. head_with d h rest) (append_assoc head line (10 ∷ []))
    ∙ ap (λ t. on_some (space_of t) (λ x. Some (with_space d (head ++ with_newline line) rest x))) (sym text)
    ∙ ap (λ o. on_some o (λ x. Some (with_space d (head ++ with_newline line) rest x))) (space_taken s is)

-- a line of the space, and what may stand behind the first lines up to it
record IsHeadLine (text rest : List ℕ) : Type 0 where
  line : List ℕ
  cut_off : text ≡ with_newline line
  one : IsOneLine line
  known : rest_of_head line ≡ Some rest

head_step : (v : ℕ) (bs : List Block) (head text rest : List ℕ) (s : Space) (e : Draft) → IsHeadLine text rest
    → IsSpaceValue s → space_text s ≡ (head ++ text) ++ rest → with_space (head_draft v bs head) (head ++ text) rest s ≡ e
    → Steps (head_draft v bs head) text e
head_step v bs head text rest s e is valid whole shape =
    let d : Draft = head_draft v bs head in
    let same : with_newline is.line ≡ text = sym is.cut_off in
    let read = head_read v bs head is.line rest s is.known valid (whole ∙ ap (λ t. (head ++ t) ++ rest) is.cut_off) in
    let after : after_line d is.line ≡ Some e = read ∙ ap (λ t. Some (with_space d (head ++ t) rest s)) same ∙ ap (λ x. Some x) shape in
    subst (λ t. Steps d t e) same (one_step d e is.line is.one after)

-- ---- each line is one

name_line : (w name : List ℕ) → Runs w → IsName name → IsOneLine (w ++ name)
name_line w name run is = one_line_of (w ++ name) (joined w name run (name_runs name is)).clean

key_front_is : (name : List ℕ) (parts : ℕ) → IsName name → ArePart parts → IsHeadLine (key_line name parts) (codes "servers 1\ntolerate 0\n")
unfolding key_line
key_front_is name parts is few =
    let within = few.1 in
    record {
      line = codes "key " ++ name ++ codes " " ++ decimal parts;
      cut_off = refl;
      one = one_line_of (codes "key " ++ name ++ codes " " ++ decimal parts)
          (joined (codes "key " ++ name ++ codes " ") (decimal parts)
          (joined (codes "key " ++ name) (codes " ")
          (joined (codes "key ") name (words_run (codes "key ") refl) (name_runs name is))
          (words_run (codes " ") refl)) (decimal_runs parts (omega (arith, within)))).clean;
      known = refl;
    }

attribute_front_is : (name : List ℕ) (k : Kind) → IsName name → BoundsAreSayable k
    → IsHeadLine (attribute_line (record { name = name; kind = k })) (codes "servers 1\ntolerate 0\n")
unfolding string_line int_line bounds_text
attribute_front_is name a_kind.Text is said = record {
  line = codes "string " ++ name;
  cut_off = refl;
  one = name_line (codes "string ") name (words_run (codes "string ") refl) is;
  known = refl;
}
attribute_front_is name (a_kind.Int lo hi) is said =
    let bounds : List ℕ = codes " " ++ signed_decimal lo ++ codes " " ++ signed_decimal hi in
    let first = joined (codes " " ++ signed_decimal lo) (codes " ")
    (joined (codes " ") (signed_decimal lo) (words_run (codes " ") refl) (signed_runs lo said.0)) (words_run (codes " ") refl) in
    let both = joined (codes " " ++ signed_decimal lo ++ codes " ") (signed_decimal hi) first (signed_runs hi said.1) in
    record {
      line = codes "int " ++ name ++ bounds;
      cut_off = refl;
      one = one_line_of (codes "int " ++ name ++ bounds)
          (joined (codes "int " ++ name) bounds (joined (codes "int ") name (words_run (codes "int ") refl) (name_runs name is)) both).clean;
      known = refl;
    }

abbrev IsAxis : Space → Axis → Type 0
IsAxis s a = (0 < a.attribute) × (a.attribute ≤ length s.attributes) × ArePart a.parts

axis_runs : (s : Space) (a : Axis) → IsSpace s → IsAxis s a → Runs (axis_text s a)
unfolding axis_text
axis_runs s a valid is =
    let within = is.2.1 in
    joined (name_of s a.attribute ++ codes " ") (decimal a.parts)
    (joined (name_of s a.attribute) (codes " ") (name_of_runs s a.attribute valid) (words_run (codes " ") refl))
    (decimal_runs a.parts (omega (arith, within)))

next_axis_runs : (s : Space) (a : Axis) → IsSpace s → IsAxis s a → Runs (next_axis_text s a)
unfolding next_axis_text
next_axis_runs s a valid is = joined (codes ", ") (axis_text s a) (words_run (codes ", ") refl) (axis_runs s a valid is)

axes_run : (s : Space) (axes : List Axis) → IsSpace s → All (IsAxis s) axes → Runs (axes_text s axes)
unfolding axes_text
axes_run s [] valid all = nothing_runs
axes_run s (a ∷ axes) valid all =
    joined (codes " " ++ axis_text s a) (flat_map (next_axis_text s) axes)
    (joined (codes " ") (axis_text s a) (words_run (codes " ") refl) (axis_runs s a valid (All-head (IsAxis s) a axes all)))
    (all_run (next_axis_text s) (IsAxis s) (λ x h. next_axis_runs s x valid h) axes (All-tail (IsAxis s) a axes all))

subspace_known : (s : Space) (axes : List Axis) → 0 < length axes → rest_of_head (codes "subspace" ++ axes_text s axes) ≡ Some (codes "servers 1\ntolerate 0\n")
unfolding axes_text
subspace_known s [] some = absurd (omega (arith, some))
subspace_known s (a ∷ axes) some = refl

subspace_front_is : (s : Space) (axes : List Axis) → IsSpace s → IsSubspaceOf s axes → IsHeadLine (subspace_line s axes) (codes "servers 1\ntolerate 0\n")
unfolding subspace_line
subspace_front_is s axes valid is = record {
  line = codes "subspace" ++ axes_text s axes;
  cut_off = refl;
  one = one_line_of (codes "subspace" ++ axes_text s axes)
      (joined (codes "subspace") (axes_text s axes) (words_run (codes "subspace") refl)
      (axes_run s axes valid is.declared)).clean;
  known = subspace_known s axes is.some;
}

servers_front_is : (n : ℕ) → n ≤ MOST_SERVERS → IsHeadLine (servers_line n) (codes "tolerate 0\n")
unfolding servers_line
servers_front_is n few = record {
  line = codes "servers " ++ decimal n;
  cut_off = refl;
  one = one_line_of (codes "servers " ++ decimal n)
      (joined (codes "servers ") (decimal n) (words_run (codes "servers ") refl) (decimal_runs n (omega (arith, few)))).clean;
  known = refl;
}

tolerate_front_is : (n : ℕ) → n ≤ MOST_FAILURES → IsHeadLine (tolerate_line n) []
unfolding tolerate_line
tolerate_front_is n few = record {
  line = codes "tolerate " ++ decimal n;
  cut_off = refl;
  one = one_line_of (codes "tolerate " ++ decimal n)
      (joined (codes "tolerate ") (decimal n) (words_run (codes "tolerate ") refl) (decimal_runs n (omega (arith, few)))).clean;
  known = refl;
}

-- ---- all lines of a space

abbrev first_two : Space → List ℕ
first_two s = space_line s.name ++ key_line s.key_name s.key_parts

to_head : (v : ℕ) (bs : List Block) (d : Draft) (text a b : List ℕ) → a ≡ b → Steps d text (head_draft v bs a) → Steps d text (head_draft v bs b)
to_head v bs d text a b same steps = subst (λ h. Steps d text (head_draft v bs h)) same steps

from_head : (v : ℕ) (bs : List Block) (e : Draft) (text a b : List ℕ) → a ≡ b → Steps (head_draft v bs a) text e → Steps (head_draft v bs b) text e
from_head v bs e text a b same steps = subst (λ h. Steps (head_draft v bs h) text e) same steps

attributes_step : (v : ℕ) (bs : List Block) (s : Space) (front left : List Attribute) → IsSpaceValue s → s.attributes ≡ front ++ left
    → Steps (head_draft v bs (first_two s ++ flat_map attribute_line front)) (flat_map attribute_line left)
    (head_draft v bs (first_two s ++ flat_map attribute_line (front ++ left)))
attributes_step v bs s front [] is split =
    to_head v bs (head_draft v bs (first_two s ++ flat_map attribute_line front)) []
    (first_two s ++ flat_map attribute_line front) (first_two s ++ flat_map attribute_line (front ++ []))
    (ap (λ (xs : List Attribute). first_two s ++ flat_map attribute_line xs) (sym (append-nil front)))
    (no_step (head_draft v bs (first_two s ++ flat_map attribute_line front)))
attributes_step v bs s front (a ∷ left) is split =
    let head : List ℕ = first_two s ++ flat_map attribute_line front in
    let more : List ℕ = first_two s ++ flat_map attribute_line (front ++ a ∷ []) in
    let same : more ≡ head ++ attribute_line a = behind attribute_line (first_two s) front a in
    let next : s.attributes ≡ (front ++ a ∷ []) ++ left = split ∙ sym (append_assoc front (a ∷ []) left) in
    let names : All (λ (x : Attribute). IsName x.name × IsKind x.kind) (front ++ a ∷ left) =
    subst (All (λ (x : Attribute). IsName x.name × IsKind x.kind)) split is.valid.names in
    let bounds : All (λ (x : Attribute). BoundsAreSayable x.kind) (front ++ a ∷ left) =
    subst (All (λ (x : Attribute). BoundsAreSayable x.kind)) split is.bounds in
    let line = attribute_front_is a.name a.kind (all_here
    (λ (x : Attribute). IsName x.name × IsKind x.kind) front a left names).0
    (all_here (λ (x : Attribute). BoundsAreSayable x.kind) front a left bounds) in
    let one : Steps (head_draft v bs head) (attribute_line a) (head_draft v bs (head ++ attribute_line a)) =
    head_step v bs head (attribute_line a) (codes "servers 1\ntolerate 0\n") (cut s (front ++ a ∷ []) [] 1 0) (head_draft v bs (head ++ attribute_line a)) line
    (fewer_attributes s (front ++ a ∷ []) left is next) (attributes_text s (front ++ a ∷ []) ∙ ap (λ t. t ++ codes "servers 1\ntolerate 0\n") same) refl in
    let on = attributes_step v bs s (front ++ a ∷ []) left is next in
    to_head v bs (head_draft v bs head) (flat_map attribute_line (a ∷ left))
    (first_two s ++ flat_map attribute_line ((front ++ a ∷ []) ++ left))
    (first_two s ++ flat_map attribute_line (front ++ a ∷ left))
    (ap (λ (xs : List Attribute). first_two s ++ flat_map attribute_line xs) (append_assoc front (a ∷ []) left))
    (steps_then (head_draft v bs head) (head_draft v bs (head ++ attribute_line a))
    (head_draft v bs (first_two s ++ flat_map attribute_line ((front ++ a ∷ []) ++ left))) (attribute_line a)
    (flat_map attribute_line left) one
    (from_head v bs (head_draft v bs (first_two s ++ flat_map attribute_line ((front ++ a ∷ []) ++ left)))
    (flat_map attribute_line left) more (head ++ attribute_line a) same on))

abbrev upto_attributes : Space → List ℕ
upto_attributes s = first_two s ++ flat_map attribute_line s.attributes

subspaces_step : (v : ℕ) (bs : List Block) (s : Space) (front left : List (List Axis)) → IsSpaceValue s → s.subspaces ≡ front ++ left
    → Steps (head_draft v bs (upto_attributes s ++ flat_map (subspace_line s) front))
    (flat_map (subspace_line s) left) (head_draft v bs (upto_attributes s ++ flat_map (subspace_line s) (front ++ left)))
subspaces_step v bs s front [] is split =
    to_head v bs (head_draft v bs (upto_attributes s ++ flat_map (subspace_line s) front)) []
    (upto_attributes s ++ flat_map (subspace_line s) front) (upto_attributes s ++ flat_map (subspace_line s) (front ++ []))
    (ap (λ (xs : List (List Axis)). upto_attributes s ++ flat_map (subspace_line s) xs) (sym (append-nil front)))
    (no_step (head_draft v bs (upto_attributes s ++ flat_map (subspace_line s) front)))
subspaces_step v bs s front (a ∷ left) is split =
    let head : List ℕ = upto_attributes s ++ flat_map (subspace_line s) front in
    let more : List ℕ = upto_attributes s ++ flat_map (subspace_line s) (front ++ a ∷ []) in
    let same : more ≡ head ++ subspace_line s a = behind (subspace_line s) (upto_attributes s) front a in
    let next : s.subspaces ≡ (front ++ a ∷ []) ++ left = split ∙ sym (append_assoc front (a ∷ []) left) in
    let all : All (IsSubspaceOf s) (front ++ a ∷ left) = subst (All (IsSubspaceOf s)) split is.valid.subspaces in
    let line = subspace_front_is s a is.valid (all_here (IsSubspaceOf s) front a left all) in
    let one : Steps (head_draft v bs head) (subspace_line s a) (head_draft v bs (head ++ subspace_line s a)) =
    head_step v bs head (subspace_line s a) (codes "servers 1\ntolerate 0\n")
    (cut s s.attributes (front ++ a ∷ []) 1 0) (head_draft v bs (head ++ subspace_line s a)) line
    (fewer_subspaces s (front ++ a ∷ []) left 1 0 is next least_end)
    (subspaces_text s (front ++ a ∷ []) ∙ ap (λ t. t ++ codes "servers 1\ntolerate 0\n") same) refl in
    let on = subspaces_step v bs s (front ++ a ∷ []) left is next in
    let end : Draft = head_draft v bs (upto_attributes s ++ flat_map (subspace_line s) ((front ++ a ∷ []) ++ left)) in
    to_head v bs (head_draft v bs head) (flat_map (subspace_line s) (a ∷ left))
    (upto_attributes s ++ flat_map (subspace_line s) ((front ++ a ∷ []) ++ left))
    (upto_attributes s ++ flat_map (subspace_line s) (front ++ a ∷ left))
    (ap (λ (xs : List (List Axis)). upto_attributes s ++ flat_map (subspace_line s) xs) (append_assoc front (a ∷ []) left))
    (steps_then (head_draft v bs head) (head_draft v bs (head ++ subspace_line s a)) end (subspace_line s a) (flat_map (subspace_line s) left) one
    (from_head v bs end (flat_map (subspace_line s) left) more (head ++ subspace_line s a) same on))

-- the first line of a space may come next, behind these blocks
pub record Starts (d : Draft) (v : ℕ) (bs : List Block) : Type 0 where
  pub first : (name : List ℕ) → IsName name → after_line d (codes "space " ++ name) ≡ Some (head_draft v bs (space_line name))

-- behind the first line of the text
pub starts_first : (v : ℕ) (bs : List Block) → Starts (head_draft v bs []) v bs
unfolding space_line
starts_first v bs = record {
  first = λ name is. head_read v bs [] (codes "space " ++ name)
      (codes "key k 1\nservers 1\ntolerate 0\n") (named name) refl (named_valid name is) (named_text name);
}

first_step : (d : Draft) (v : ℕ) (bs : List Block) (name : List ℕ) → IsName name → Starts d v bs → Steps d (space_line name) (head_draft v bs (space_line name))
unfolding space_line
first_step d v bs name is starts = one_step d (head_draft v bs (space_line name)) (codes "space " ++ name)
    (name_line (codes "space ") name (words_run (codes "space ") refl) is) (starts.first name is)

pub space_steps : (d : Draft) (v : ℕ) (bs : List Block) (s : Space) → IsSpaceValue s → Starts d v bs → Steps d (space_text s) (body v bs (block_of s))
unfolding space_text
space_steps d v bs s is starts =
    let t1 : List ℕ = space_line s.name in
    let t2 : List ℕ = key_line s.key_name s.key_parts in
    let t3 : List ℕ = flat_map attribute_line s.attributes in
    let t4 : List ℕ = flat_map (subspace_line s) s.subspaces in
    let t5 : List ℕ = servers_line s.servers in
    let t6 : List ℕ = tolerate_line s.tolerate in
    let d1 : Draft = head_draft v bs t1 in
    let d2 : Draft = head_draft v bs (t1 ++ t2) in
    let d3 : Draft = head_draft v bs (t1 ++ t2 ++ t3) in
    let d4 : Draft = head_draft v bs (t1 ++ t2 ++ t3 ++ t4) in
    let d5 : Draft = head_draft v bs (t1 ++ t2 ++ t3 ++ t4 ++ t5) in
    let e : Draft = body v bs (block_of s) in
    let s1 : Steps d t1 d1 = first_step d v bs s.name is.valid.name starts in
    let none : s.attributes ≡ [] ++ s.attributes = refl in
    let s2 : Steps d1 t2 d2 = head_step v bs t1 t2 (codes "servers 1\ntolerate 0\n") (cut s [] [] 1 0) d2
    (key_front_is s.key_name s.key_parts is.valid.key_name is.valid.key_parts)
    (fewer_attributes s [] s.attributes is refl) (attributes_text s [] ∙ ap (λ t. t ++ codes "servers 1\ntolerate 0\n") (append-nil (t1 ++ t2))) refl in
    let s3 : Steps d2 t3 d3 = from_head v bs d3 t3 (t1 ++ t2 ++ []) (t1 ++ t2) (append-nil (t1 ++ t2)) (attributes_step v bs s [] s.attributes is refl) in
    let s4 : Steps d3 t4 d4 = from_head v bs d4 t4 (t1 ++ t2 ++ t3 ++ []) (t1 ++ t2 ++ t3)
    (append-nil (t1 ++ t2 ++ t3)) (subspaces_step v bs s [] s.subspaces is refl) in
    let high = is.valid.servers in
    let low = is.valid.tolerate in
    let last : IsEnd s.servers 0 = record { servers = high; tolerate = (omega arith, high.0) } in
    let s5 : Steps d4 t5 d5 = head_step v bs (t1 ++ t2 ++ t3 ++ t4) t5 (codes "tolerate 0\n")
    (cut s s.attributes s.subspaces s.servers 0) d5 (servers_front_is s.servers high.1)
    (fewer_subspaces s s.subspaces [] s.servers 0 is (sym (append-nil s.subspaces)) last) (servers_text s) refl in
    let s6 : Steps d5 t6 e = head_step v bs (t1 ++ t2 ++ t3 ++ t4 ++ t5) t6 [] s e
    (tolerate_front_is s.tolerate low.0) is (whole_text s ∙ sym (append-nil (t1 ++ t2 ++ t3 ++ t4 ++ t5 ++ t6))) refl in
    steps_then d d5 e (t1 ++ t2 ++ t3 ++ t4 ++ t5) t6
    (steps_then d d4 d5 (t1 ++ t2 ++ t3 ++ t4) t5
    (steps_then d d3 d4 (t1 ++ t2 ++ t3) t4 (steps_then d d2 d3 (t1 ++ t2) t3 (steps_then d d1 d2 t1 t2 s1 s2) s3) s4) s5) s6
