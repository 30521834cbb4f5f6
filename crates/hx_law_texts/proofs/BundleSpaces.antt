-- The lines of each space are read again.
use Rattle.hx_law_texts.proofs.Vocabulary.{[], All, All-head, All-tail, ap, append-nil, append_assoc, ArePart, arith, Attribute, Axis, BoundsAreSayable, Bundle}
use Rattle.hx_law_texts.proofs.Vocabulary.{bundle_line_of_toks, BundleDraft, BundleSection, bytes_eq, codes, decimal, Draft, false, flat_map, flat_map-cons}
use Rattle.hx_law_texts.proofs.Vocabulary.{have_keys, Heading, heading_line, in_last_space, inl, inr, is_space, IsSpace, keyword_of, Kind, kind_line, le-leb}
use Rattle.hx_law_texts.proofs.Vocabulary.{length, length-append, length-map, lines_of_space, List, list_any, lt-ltb, map, MOST_ATTRIBUTES, MOST_PARTS}
use Rattle.hx_law_texts.proofs.Vocabulary.{MOST_REGIONS, MOST_SPACES, MOST_SUBSPACES, named_draft, NamesDiffer, Number, Ok, own_lines, pos, refl, region_count}
use Rattle.hx_law_texts.proofs.Vocabulary.{Script, Section, signed_decimal, size_of, sizes_sum, slice_get, slice_set, Some, Space, spaces_line, subst, sum_by}
use Rattle.hx_law_texts.proofs.Vocabulary.{sum_by-cons, sym, Tok, true, Word, ℕ, ◌*◌, ◌++◌, ◌+◌, ◌-◌, ◌<◌, ◌∙◌, ◌∷◌, ◌≡◌, ◌≤◌, ◌⊎◌}
use Rattle.std.proofs.lemmas.List.{map-append}
use Rattle.hx_types.specs.declared.spaces.Kind.TheVariants as kinds
use Rattle.hx_print.specs.Printing.{attribute_line as attribute_text, axes_text, axis_text, bounds_text, int_line, key_line as key_text, next_axis_text}
use Rattle.hx_print.specs.Printing.{space_line as space_text, string_line, subspace_line as subspace_text}
use Rattle.hx_print.specs.BundlePrinting.{own_text}
use Rattle.hx_script.specs.declared.bundle_draft.BundleSection.TheVariants as stages
use Rattle.hx_script.specs.declared.draft.Section.TheVariants as sections
use Rattle.hx_script.specs.declared.keyword.Heading.TheVariants as headings
use Rattle.hx_script.specs.declared.keyword.Keyword.TheVariants as keywords
use Rattle.hx_script.specs.BundleGrammar.{behind_keys, bundle_command, has_key, is_keyed, last_space_line, new_space_name, next_space_line}
use Rattle.hx_script.specs.Grammar.{attribute_line, int_attribute, key_line, string_attribute, subspace_line}
use Rattle.hx_script.specs.Readers.{number_from, number_in}
use Rattle.hx_script.specs.Words.{name, named, new_name}
use Rattle.hx_law_texts.proofs.Attributes.{IsNext, in_order, int_parts, int_says, may_follow, with_one}
use Rattle.hx_law_texts.proofs.BundleReading.{ReadsAll, all_line_reads, at_spaces}
use Rattle.hx_law_texts.proofs.Heads.{one_part, two_parts, word_word}
use Rattle.hx_law_texts.proofs.Names.{IsNamed, a_name, none_named}
use Rattle.hx_law_texts.proofs.Numbers.{number_says}
use Rattle.hx_law_texts.proofs.Says.{nil_says, word_and_blank}
use Rattle.hx_law_texts.proofs.Subspaces.{IsNextCut, MayCut, axis_toks, line_parts, may_cut, more_toks, subspace_again, subspace_says}

-- ---- the space that was named last

get_at : (front : List Draft) (d : Draft) → slice_get (front ++ d ∷ []) (length front) ≡ Some d
get_at [] d = refl
get_at (x ∷ front) d = get_at front d

set_at : (front : List Draft) (d e : Draft) → slice_set (front ++ d ∷ []) (length front) e ≡ front ++ e ∷ []
set_at [] d e = refl
set_at (x ∷ front) d e = ap (λ (l : List Draft). x ∷ l) (set_at front d e)

last_number : (front : List Draft) (d : Draft) → length (front ++ d ∷ []) - 1 ≡ length front
last_number front d = omega (arith, length-append front (d ∷ []))

in_last_again : (front : List Draft) (d e : Draft) (h : Heading) (ts us : List Tok)
    → heading_line d d.section h ts ≡ Ok (e, us) → in_last_space (front ++ d ∷ []) h ts ≡ Ok (front ++ e ∷ [], us)
in_last_again front d e h ts us got = rw (last_number front d, get_at front d, got, set_at front d e) refl

head_toks : (n servers tolerate : ℕ) (front : List Draft) (d e : Draft) (h : Heading) (w : List ℕ) (ts : List Tok)
    → keyword_of w ≡ Some (keywords.Heading h) → ((b : BundleDraft) → spaces_line b h ≡ last_space_line b h)
    → heading_line d d.section h ts ≡ Ok (e, [])
    → bundle_line_of_toks n (at_spaces stages.Spaces servers tolerate (front ++ d ∷ [])) (Word w ∷ ts)
    ≡ Ok (at_spaces stages.Spaces servers tolerate (front ++ e ∷ []))
unfolding bundle_command last_space_line
head_toks n servers tolerate front d e h w ts k same got =
    rw (k, same (at_spaces stages.Spaces servers tolerate (front ++ d ∷ [])), in_last_again front d e h ts [] got) refl

-- ---- its drafts

abbrev pub attr_draft : Space → List Attribute → Draft
attr_draft s attributes = record {
  section = sections.Attributes;
  space = record s { attributes = attributes; subspaces = [] };
  regions = s.key_parts;
  sessions = [];
  calls = 0;
  steps = [];
}

abbrev pub cut_draft : Section → Space → List (List Axis) → ℕ → Draft
cut_draft at s subspaces regions = record { section = at; space = record s { subspaces = subspaces }; regions = regions; sessions = []; calls = 0; steps = [] }

-- the section behind some subspaces
abbrev pub cut_to : Section → List (List Axis) → Section
cut_to at [] = at
cut_to at (x ∷ xs) = sections.Subspaces

-- a space that was read
abbrev pub whole : Script → Draft
whole s = cut_draft (cut_to sections.Attributes s.space.subspaces) s.space s.space.subspaces (s.space.key_parts + sizes_sum s.space.subspaces)

-- ---- space N

-- where a space may be named
abbrev pub MayName : BundleSection → List Draft → Type 0
MayName at spaces = ((at ≡ stages.Naming) × (spaces ≡ [])) ⊎ ((at ≡ stages.Spaces) × (have_keys spaces ≡ true))

space_toks : (n : ℕ) (at : BundleSection) (s : Space) (spaces : List Draft) → MayName at spaces → IsNamed s.name
    → length spaces < MOST_SPACES → list_any (is_space s.name) spaces ≡ false
    → bundle_line_of_toks n (at_spaces at s.servers s.tolerate spaces) (Word (codes "space") ∷ Word s.name ∷ [])
    ≡ Ok (at_spaces stages.Spaces s.servers s.tolerate (spaces ++ named_draft s.servers s.tolerate s.name ∷ []))
unfolding bundle_command behind_keys next_space_line new_space_name named
space_toks n at s spaces (inl e) is room new = rw (e.0, lt-ltb (length spaces) MOST_SPACES room, is.free, new, is.short) refl
space_toks n at s spaces (inr e) is room new = rw (e.0, e.1, lt-ltb (length spaces) MOST_SPACES room, is.free, new, is.short) refl

space_reads : (n : ℕ) (at : BundleSection) (s : Space) (spaces : List Draft) (rest : List ℕ) (a : Bundle)
    → MayName at spaces → IsSpace s → length spaces < MOST_SPACES → list_any (is_space s.name) spaces ≡ false
    → ReadsAll (n + 1) (at_spaces stages.Spaces s.servers s.tolerate
    (spaces ++ named_draft s.servers s.tolerate s.name ∷ [])) rest a
    → ReadsAll n (at_spaces at s.servers s.tolerate spaces) (space_text s.name ++ rest) a
unfolding space_text
space_reads n at s spaces rest a here is room new next =
    let named : IsNamed s.name = a_name s.name is.name in
    all_line_reads n (at_spaces at s.servers s.tolerate spaces)
    (at_spaces stages.Spaces s.servers s.tolerate (spaces ++ named_draft s.servers s.tolerate s.name ∷ []))
    (space_text s.name ++ rest) (codes "space" ++ (32 ∷ (s.name ++ []))) rest (Word (codes "space") ∷ Word s.name ∷ []) a
    (one_part (codes "space ") s.name (codes "\n") rest)
    (word_word (codes "space") s.name (record { letter = refl; parts = refl }) named.word)
    (space_toks (n + 1) at s spaces here named room new) next

-- ---- key N I

key_again : (s : Space) → IsNamed s.key_name → ArePart s.key_parts
    → heading_line (named_draft s.servers s.tolerate s.name) sections.Keying headings.Key
    (Word s.key_name ∷ Number (pos s.key_parts) ∷ []) ≡ Ok (attr_draft s [], [])
unfolding key_line named name number_in
key_again s is part = rw (is.free, is.short, le-leb 1 s.key_parts part.0, le-leb s.key_parts MOST_PARTS part.1) refl

key_reads : (n : ℕ) (s : Space) (front : List Draft) (rest : List ℕ) (a : Bundle) → IsSpace s
    → ReadsAll (n + 1) (at_spaces stages.Spaces s.servers s.tolerate (front ++ attr_draft s [] ∷ [])) rest a
    → ReadsAll n (at_spaces stages.Spaces s.servers s.tolerate
    (front ++ named_draft s.servers s.tolerate s.name ∷ [])) (key_text s.key_name s.key_parts ++ rest) a
unfolding key_text
key_reads n s front rest a is next =
    let named : IsNamed s.key_name = a_name s.key_name is.key_name in
    let high : s.key_parts ≤ MOST_PARTS = is.key_parts.1 in
    let tail : List ℕ = decimal s.key_parts ++ [] in
    let b : BundleDraft = at_spaces stages.Spaces s.servers s.tolerate (front ++ named_draft s.servers s.tolerate s.name ∷ []) in
    all_line_reads n b (at_spaces stages.Spaces s.servers s.tolerate (front ++ attr_draft s [] ∷ []))
    (key_text s.key_name s.key_parts ++ rest) (codes "key" ++ (32 ∷ (s.key_name ++ (32 ∷ tail)))) rest
    (Word (codes "key") ∷ Word s.key_name ∷ Number (pos s.key_parts) ∷ []) a
    (two_parts (codes "key ") s.key_name (codes " ") (decimal s.key_parts) (codes "\n") rest)
    (word_and_blank (codes "key") (Word s.key_name ∷ Number (pos s.key_parts) ∷ []) (s.key_name ++ (32 ∷ tail))
    (record { letter = refl; parts = refl }) (word_and_blank s.key_name
    (Number (pos s.key_parts) ∷ []) tail named.word (number_says s.key_parts [] [] (omega (arith, high)) refl nil_says)))
    (head_toks (n + 1) s.servers s.tolerate front (named_draft s.servers s.tolerate s.name)
    (attr_draft s []) headings.Key (codes "key") (Word s.key_name ∷ Number (pos s.key_parts) ∷ []) refl
    (λ x. refl) (key_again s named is.key_parts)) next

-- ---- attributes

string_again : (s : Space) (front : List Attribute) (w : List ℕ) → IsNext s front w kinds.Text
    → heading_line (attr_draft s front) sections.Attributes headings.String (Word w ∷ [])
    ≡ Ok (attr_draft s (with_one front w kinds.Text), [])
unfolding attribute_line string_attribute new_name named
string_again s front w is = rw (lt-ltb (length front) MOST_ATTRIBUTES is.room, is.name.free, is.new, is.name.short) refl

int_again : (s : Space) (front : List Attribute) (w : List ℕ) (lo hi : _) → IsNext s front w (kinds.Int lo hi)
    → heading_line (attr_draft s front) sections.Attributes headings.Int (Word w ∷ Number lo ∷ Number hi ∷ [])
    ≡ Ok (attr_draft s (with_one front w (kinds.Int lo hi)), [])
unfolding attribute_line int_attribute new_name named number_from
int_again s front w lo hi is = rw (lt-ltb (length front) MOST_ATTRIBUTES is.room, is.name.free, is.new, is.name.short, in_order lo hi is.kind) refl

attribute_reads : (n : ℕ) (s : Space) (spaces : List Draft) (front : List Attribute) (w : List ℕ) (k : Kind) (rest : List ℕ) (a : Bundle) → IsNext s front w k
    → ReadsAll (n + 1) (at_spaces stages.Spaces s.servers s.tolerate
    (spaces ++ attr_draft s (with_one front w k) ∷ [])) rest a
    → ReadsAll n (at_spaces stages.Spaces s.servers s.tolerate (spaces ++ attr_draft s front ∷ [])) (kind_line w k ++ rest) a
unfolding string_line int_line bounds_text
attribute_reads n s spaces front w kinds.Text rest a is next =
    all_line_reads n (at_spaces stages.Spaces s.servers s.tolerate (spaces ++ attr_draft s front ∷ []))
    (at_spaces stages.Spaces s.servers s.tolerate (spaces ++ attr_draft s (with_one front w kinds.Text) ∷ []))
    (string_line w ++ rest) (codes "string" ++ (32 ∷ (w ++ []))) rest (Word (codes "string") ∷ Word w ∷ []) a
    (one_part (codes "string ") w (codes "\n") rest) (word_word (codes "string") w (record { letter = refl; parts = refl }) is.name.word)
    (head_toks (n + 1) s.servers s.tolerate spaces (attr_draft s front)
    (attr_draft s (with_one front w kinds.Text)) headings.String (codes "string") (Word w ∷ []) refl (λ x. refl)
    (string_again s front w is)) next
attribute_reads n s spaces front w (kinds.Int lo hi) rest a is next =
    all_line_reads n (at_spaces stages.Spaces s.servers s.tolerate (spaces ++ attr_draft s front ∷ []))
    (at_spaces stages.Spaces s.servers s.tolerate
    (spaces ++ attr_draft s (with_one front w (kinds.Int lo hi)) ∷ [])) (int_line w lo hi ++ rest)
    (codes "int" ++ (32 ∷ (w ++ (32 ∷ (signed_decimal lo ++ (32 ∷ (signed_decimal hi ++ []))))))) rest
    (Word (codes "int") ∷ Word w ∷ Number lo ∷ Number hi ∷ []) a
    (int_parts (codes "int ") w (codes " ") (signed_decimal lo) (signed_decimal hi) (codes "\n") rest) (int_says w lo hi is.name is.bounds.0 is.bounds.1)
    (head_toks (n + 1) s.servers s.tolerate spaces (attr_draft s front)
    (attr_draft s (with_one front w (kinds.Int lo hi))) headings.Int (codes "int")
    (Word w ∷ Number lo ∷ Number hi ∷ []) refl (λ x. refl) (int_again s front w lo hi is)) next

attributes_read : (more : List Attribute) (n : ℕ) (s : Space) (spaces : List Draft) (front : List Attribute)
    (rest : List ℕ) (a : Bundle) → IsSpace s → All (λ (x : Attribute). BoundsAreSayable x.kind) s.attributes
    → front ++ more ≡ s.attributes
    → ReadsAll (n + length more) (at_spaces stages.Spaces s.servers s.tolerate
    (spaces ++ attr_draft s s.attributes ∷ [])) rest a
    → ReadsAll n (at_spaces stages.Spaces s.servers s.tolerate (spaces ++ attr_draft s front ∷ []))
    (flat_map attribute_text more ++ rest) a
attributes_read [] n s spaces front rest a is bounds split next =
    let k : n + length {A = Attribute} [] ≡ n = omega arith in
    let all : s.attributes ≡ front = sym split ∙ append-nil front in
    let at : List Attribute → BundleDraft = λ xs. at_spaces stages.Spaces s.servers s.tolerate (spaces ++ attr_draft s xs ∷ []) in
    subst (λ (xs : List Attribute). ReadsAll n (at xs) rest a) all (subst (λ (m : ℕ). ReadsAll m (at s.attributes) rest a) k next)
attributes_read (x ∷ more) n s spaces front rest a is bounds split next =
    let text : flat_map attribute_text (x ∷ more) ++ rest ≡ attribute_text x
    ++ (flat_map attribute_text more ++ rest) = ap (λ (t : List ℕ). t ++ rest)
    (flat_map-cons attribute_text x more) ∙ append_assoc (attribute_text x) (flat_map attribute_text more) rest in
    let k : n + length (x ∷ more) ≡ n + 1 + length more = omega arith in
    let moved : (front ++ x ∷ []) ++ more ≡ s.attributes = append_assoc front (x ∷ []) more ∙ split in
    let at : List Attribute → BundleDraft = λ xs. at_spaces stages.Spaces s.servers s.tolerate (spaces ++ attr_draft s xs ∷ []) in
    subst (λ (t : List ℕ). ReadsAll n (at front) t a) (sym text)
    (attribute_reads n s spaces front x.name x.kind (flat_map attribute_text more ++ rest) a (may_follow s front x more is bounds split)
    (attributes_read more (n + 1) s spaces (front ++ x ∷ []) rest a is bounds moved (subst (λ (m : ℕ). ReadsAll m (at s.attributes) rest a) k next)))

-- ---- subspaces

cut_again : (at : Section) (s : Space) (front : List (List Axis)) (regions : ℕ) (x : Axis) (left : List Axis) → MayCut at → IsNextCut s front regions (x ∷ left)
    → heading_line (cut_draft at s front regions) at headings.Subspace (axis_toks s x (more_toks s left))
    ≡ Ok (cut_draft sections.Subspaces s (front ++ (x ∷ left) ∷ []) (regions + size_of (x ∷ left)), [])
unfolding subspace_line
cut_again at s front regions x left (inl e) is =
    rw (
      e,
      lt-ltb (length front) MOST_SUBSPACES is.room,
      subspace_again x left s
          (cut_draft at s front regions).space regions is.left is.finds,
    ) refl
cut_again at s front regions x left (inr e) is =
    rw (
      e,
      lt-ltb (length front) MOST_SUBSPACES is.room,
      subspace_again x left s
          (cut_draft at s front regions).space regions is.left is.finds,
    ) refl

cut_reads : (n : ℕ) (at : Section) (s : Space) (spaces : List Draft) (front : List (List Axis)) (regions : ℕ)
    (axes : List Axis) (rest : List ℕ) (a : Bundle) → MayCut at → IsNextCut s front regions axes
    → ReadsAll (n + 1) (at_spaces stages.Spaces s.servers s.tolerate
    (spaces ++ cut_draft sections.Subspaces s (front ++ axes ∷ []) (regions + size_of axes) ∷ [])) rest a
    → ReadsAll n (at_spaces stages.Spaces s.servers s.tolerate (spaces ++ cut_draft at s front regions ∷ []))
    (subspace_text s axes ++ rest) a
unfolding subspace_text axes_text
cut_reads n at s spaces front regions [] rest a here is next = absurd (let some : 0 < length {A = Axis} [] = is.some in omega (arith, some))
cut_reads n at s spaces front regions (x ∷ left) rest a here is next =
    all_line_reads n (at_spaces stages.Spaces s.servers s.tolerate (spaces ++ cut_draft at s front regions ∷ []))
    (at_spaces stages.Spaces s.servers s.tolerate
    (spaces ++ cut_draft sections.Subspaces s (front ++ (x ∷ left) ∷ []) (regions + size_of (x ∷ left)) ∷ []))
    (subspace_text s (x ∷ left) ++ rest)
    (codes "subspace" ++ (32 ∷ (axis_text s x ++ (flat_map (next_axis_text s) left ++ [])))) rest (Word (codes "subspace") ∷ axis_toks s x (more_toks s left)) a
    (line_parts (codes "subspace") (codes " ") (axis_text s x) (flat_map (next_axis_text s) left) (codes "\n") rest) (subspace_says s x left is.left.each)
    (head_toks (n + 1) s.servers s.tolerate spaces (cut_draft at s front regions)
    (cut_draft sections.Subspaces s (front ++ (x ∷ left) ∷ []) (regions + size_of (x ∷ left))) headings.Subspace
    (codes "subspace") (axis_toks s x (more_toks s left)) refl (λ y. refl) (cut_again at s front regions x left here is)) next

cuts_read : (more : List (List Axis)) (n : ℕ) (at : Section) (s : Space) (spaces : List Draft)
    (front : List (List Axis)) (regions : ℕ) (rest : List ℕ) (a : Bundle) → MayCut at → IsSpace s
    → front ++ more ≡ s.subspaces → regions + sizes_sum more ≤ MOST_REGIONS
    → ReadsAll (n + length more) (at_spaces stages.Spaces s.servers s.tolerate
    (spaces ++ cut_draft (cut_to at more) s s.subspaces (regions + sizes_sum more) ∷ [])) rest a
    → ReadsAll n (at_spaces stages.Spaces s.servers s.tolerate (spaces ++ cut_draft at s front regions ∷ []))
    (flat_map (subspace_text s) more ++ rest) a
cuts_read [] n at s spaces front regions rest a here is split room next =
    let k : n + length {A = List Axis} [] ≡ n = omega arith in
    let r : regions + 0 ≡ regions = omega arith in
    let all : s.subspaces ≡ front = sym split ∙ append-nil front in
    let d : List (List Axis) → ℕ → BundleDraft = λ xs m. at_spaces stages.Spaces s.servers s.tolerate (spaces ++ cut_draft at s xs m ∷ []) in
    subst (λ (m : ℕ). ReadsAll m (d front regions) rest a) k
    (subst (λ (m : ℕ). ReadsAll (n + length {A = List Axis} []) (d front m) rest a) r
    (subst (λ (xs : List (List Axis)). ReadsAll (n + length {A = List Axis} []) (d xs (regions + 0)) rest a) all next))
cuts_read (axes ∷ more) n at s spaces front regions rest a here is split room next =
    let text : flat_map (subspace_text s) (axes ∷ more) ++ rest ≡ subspace_text s axes
    ++ (flat_map (subspace_text s) more ++ rest) =
    ap (λ (x : List ℕ). x ++ rest) (flat_map-cons (subspace_text s) axes more)
    ∙ append_assoc (subspace_text s axes) (flat_map (subspace_text s) more) rest in
    let k : n + length (axes ∷ more) ≡ n + 1 + length more = omega arith in
    let all_of : regions + (size_of axes + sizes_sum more) ≤ MOST_REGIONS = room in
    let r : regions + (size_of axes + sizes_sum more) ≡ regions + size_of axes + sizes_sum more = omega arith in
    let moved : (front ++ axes ∷ []) ++ more ≡ s.subspaces = append_assoc front (axes ∷ []) more ∙ split in
    let here_on : cut_to sections.Subspaces more ≡ sections.Subspaces = stays more in
    let d : Section → ℕ → BundleDraft = λ last m. at_spaces stages.Spaces s.servers s.tolerate (spaces ++ cut_draft last s s.subspaces m ∷ []) in
    subst (λ (x : List ℕ). ReadsAll n (at_spaces stages.Spaces s.servers s.tolerate (spaces ++ cut_draft at s front regions ∷ [])) x a) (sym text)
    (cut_reads n at s spaces front regions axes (flat_map (subspace_text s) more ++ rest) a here
    (may_cut s front regions axes more is split (omega (arith, all_of)))
    (cuts_read more (n + 1) sections.Subspaces s spaces (front ++ axes ∷ []) (regions + size_of axes) rest a (inr refl) is moved (omega (arith, all_of))
    (subst (λ (last : Section). ReadsAll (n + 1 + length more) (d last (regions + size_of axes + sizes_sum more)) rest a) (sym here_on)
    (subst (λ (m : ℕ). ReadsAll m (d sections.Subspaces (regions + size_of axes + sizes_sum more)) rest a) k
    (subst (λ (m : ℕ). ReadsAll (n + length (axes ∷ more)) (d sections.Subspaces m) rest a) r next)))))
  where
    stays : (xs : List (List Axis)) → cut_to sections.Subspaces xs ≡ sections.Subspaces
    stays [] = refl
    stays (x ∷ xs) = refl

-- ---- a space, and all of them

-- a space that may be said, on these servers
pub record IsSaid (servers tolerate : ℕ) (s : Script) : Type 0 where
  pub space : IsSpace s.space
  pub bounds : All (λ (x : Attribute). BoundsAreSayable x.kind) s.space.attributes
  pub servers_are : s.space.servers ≡ servers
  pub tolerate_is : s.space.tolerate ≡ tolerate

own_parts : (a b c d r : List ℕ) → (a ++ b ++ c ++ d) ++ r ≡ a ++ (b ++ (c ++ (d ++ r)))
own_parts a b c d r = simp append_assoc

own_reads : (n : ℕ) (at : BundleSection) (s : Space) (spaces : List Draft) (rest : List ℕ) (a : Bundle)
    → MayName at spaces → IsSpace s → All (λ (x : Attribute). BoundsAreSayable x.kind) s.attributes
    → length spaces < MOST_SPACES → list_any (is_space s.name) spaces ≡ false
    → ReadsAll (n + (length s.attributes + length s.subspaces + 2))
    (at_spaces stages.Spaces s.servers s.tolerate
    (spaces ++ cut_draft (cut_to sections.Attributes s.subspaces) s s.subspaces
    (s.key_parts + sizes_sum s.subspaces) ∷ [])) rest a
    → ReadsAll n (at_spaces at s.servers s.tolerate spaces) (own_text s ++ rest) a
unfolding own_text
own_reads n at s spaces rest a here is bounds room new next =
    let few : s.key_parts + sizes_sum s.subspaces ≤ MOST_REGIONS = rw (all_regions s) is.regions in
    let cuts : List ℕ = flat_map (subspace_text s) s.subspaces ++ rest in
    let attributes : List ℕ = flat_map attribute_text s.attributes ++ cuts in
    let k : n + (length s.attributes + length s.subspaces + 2) ≡ n + 1 + 1 + length s.attributes + length s.subspaces = omega arith in
    let d : BundleDraft = at_spaces stages.Spaces s.servers s.tolerate
    (spaces ++ cut_draft (cut_to sections.Attributes s.subspaces) s s.subspaces (s.key_parts + sizes_sum s.subspaces) ∷ []) in
    subst (λ (x : List ℕ). ReadsAll n (at_spaces at s.servers s.tolerate spaces) x a)
    (sym (own_parts (space_text s.name) (key_text s.key_name s.key_parts) (flat_map attribute_text s.attributes)
    (flat_map (subspace_text s) s.subspaces) rest))
    (space_reads n at s spaces (key_text s.key_name s.key_parts ++ attributes) a here is room new
    (key_reads (n + 1) s spaces attributes a is
    (attributes_read s.attributes (n + 1 + 1) s spaces [] cuts a is bounds refl
    (cuts_read s.subspaces (n + 1 + 1 + length s.attributes) sections.Attributes s spaces [] s.key_parts rest a
    (inl refl) is refl few (subst (λ (m : ℕ). ReadsAll m d rest a) k next)))))
  where
    all_regions : (s : Space) → s.key_parts + sizes_sum s.subspaces ≡ region_count s
    all_regions s = times_one s.key_parts (sizes_sum s.subspaces)
      where
        times_one : (p q : ℕ) → p + q ≡ p * 1 + q
        times_one p q = omega arith

keyed_whole : (s : Script) → has_key (whole s) ≡ true
keyed_whole s = by s.space.subspaces
  where
    by : (xs : List (List Axis)) → is_keyed (cut_to sections.Attributes xs) ≡ true
    by [] = refl
    by (x ∷ xs) = refl

pub all_keyed : (front : List Script) → have_keys (map whole front) ≡ true
all_keyed [] = refl
all_keyed (s ∷ front) = rw (keyed_whole s) (all_keyed front)

named_in : (front : List Script) (w : List ℕ) → list_any (is_space w) (map whole front) ≡ list_any (λ (s : Script). bytes_eq s.space.name w) front
named_in [] w = refl
named_in (s ∷ front) w = rw (named_in front w) refl

abbrev name_in : Script → List ℕ
name_in s = s.space.name

-- the lines of one more space
own_step : (n : ℕ) (at : BundleSection) (servers tolerate : ℕ) (front : List Script) (s : Script) (rest : List ℕ)
    (a : Bundle) → MayName at (map whole front) → IsSaid servers tolerate s → length (map whole front) < MOST_SPACES
    → list_any (is_space s.space.name) (map whole front) ≡ false
    → ReadsAll (n + lines_of_space s) (at_spaces stages.Spaces servers tolerate (map whole (front ++ s ∷ []))) rest a
    → ReadsAll n (at_spaces at servers tolerate (map whole front)) (own_lines s ++ rest) a
own_step n at servers tolerate front s rest a here is room new next =
    let grown : map whole (front ++ s ∷ []) ≡ map whole front ++ whole s ∷ [] = map-append whole front (s ∷ []) in
    let of_list : ReadsAll (n + lines_of_space s) (at_spaces stages.Spaces servers tolerate
    (map whole front ++ whole s ∷ [])) rest a = subst
    (λ (l : List Draft). ReadsAll (n + lines_of_space s) (at_spaces stages.Spaces servers tolerate l) rest a) grown next in
    let of_tolerate : ReadsAll (n + lines_of_space s)
    (at_spaces stages.Spaces servers s.space.tolerate (map whole front ++ whole s ∷ [])) rest a =
    subst (λ (t : ℕ). ReadsAll (n + lines_of_space s)
    (at_spaces stages.Spaces servers t (map whole front ++ whole s ∷ [])) rest a) (sym is.tolerate_is) of_list in
    let of_servers : ReadsAll (n + lines_of_space s)
    (at_spaces stages.Spaces s.space.servers s.space.tolerate (map whole front ++ whole s ∷ [])) rest a =
    subst (λ (m : ℕ). ReadsAll (n + lines_of_space s)
    (at_spaces stages.Spaces m s.space.tolerate (map whole front ++ whole s ∷ [])) rest a) (sym is.servers_are) of_tolerate in
    subst (λ (m : ℕ). ReadsAll n (at_spaces at m tolerate (map whole front)) (own_lines s ++ rest) a) is.servers_are
    (subst (λ (t : ℕ). ReadsAll n (at_spaces at s.space.servers t (map whole front)) (own_lines s ++ rest) a) is.tolerate_is
    (own_reads n at s.space (map whole front) rest a here is.space is.bounds room new of_servers))

-- those of the spaces that are left, behind a first one
spaces_on : (more : List Script) (n servers tolerate : ℕ) (front : List Script) (rest : List ℕ) (a : Bundle)
    → All (IsSaid servers tolerate) more → NamesDiffer (map name_in (front ++ more)) → length front + length more ≤ MOST_SPACES
    → ReadsAll (n + sum_by lines_of_space more) (at_spaces stages.Spaces servers tolerate (map whole (front ++ more)))
    rest a → ReadsAll n (at_spaces stages.Spaces servers tolerate (map whole front)) (flat_map own_lines more ++ rest) a
spaces_on [] n servers tolerate front rest a said differ few next =
    let k : n + sum_by lines_of_space [] ≡ n = omega arith in
    subst (λ (m : ℕ). ReadsAll m (at_spaces stages.Spaces servers tolerate (map whole front)) rest a) k
    (subst (λ (l : List Script). ReadsAll (n + sum_by lines_of_space [])
    (at_spaces stages.Spaces servers tolerate (map whole l)) rest a) (append-nil front) next)
spaces_on (s ∷ more) n servers tolerate front rest a said differ few next =
    let text : flat_map own_lines (s ∷ more) ++ rest ≡ own_lines s ++ (flat_map own_lines more ++ rest) =
    ap (λ (x : List ℕ). x ++ rest) (flat_map-cons own_lines s more)
    ∙ append_assoc (own_lines s) (flat_map own_lines more) rest in
    let k : n + sum_by lines_of_space (s ∷ more) ≡ n + lines_of_space s + sum_by lines_of_space more = omega (arith, sum_by-cons lines_of_space s more) in
    let moved : (front ++ s ∷ []) ++ more ≡ front ++ s ∷ more = append_assoc front (s ∷ []) more in
    subst (λ (x : List ℕ). ReadsAll n (at_spaces stages.Spaces servers tolerate (map whole front)) x a) (sym text)
    (own_step n stages.Spaces servers tolerate front s (flat_map own_lines more ++ rest) a
    (inr (refl, all_keyed front)) (All-head (IsSaid servers tolerate) s more said)
    (omega (arith, few, length-map front whole)) (named_in front s.space.name ∙ none_named name_in front s more differ)
    (spaces_on more (n + lines_of_space s) servers tolerate (front ++ s ∷ []) rest a (All-tail (IsSaid servers tolerate) s more said)
    (subst (λ (l : List Script). NamesDiffer (map name_in l)) (sym moved) differ) (omega (arith, few, length-append front (s ∷ [])))
    (subst (λ (l : List Script). ReadsAll (n + lines_of_space s + sum_by lines_of_space more)
    (at_spaces stages.Spaces servers tolerate (map whole l)) rest a) (sym moved)
    (subst (λ (m : ℕ). ReadsAll m (at_spaces stages.Spaces servers tolerate (map whole (front ++ s ∷ more))) rest
    a) k next))))

-- those of all spaces
pub spaces_read : (s : Script) (more : List Script) (n servers tolerate : ℕ) (rest : List ℕ) (a : Bundle)
    → All (IsSaid servers tolerate) (s ∷ more) → NamesDiffer (map name_in (s ∷ more)) → length (s ∷ more) ≤ MOST_SPACES
    → ReadsAll (n + sum_by lines_of_space (s ∷ more))
    (at_spaces stages.Spaces servers tolerate (map whole (s ∷ more))) rest a
    → ReadsAll n (at_spaces stages.Naming servers tolerate []) (flat_map own_lines (s ∷ more) ++ rest) a
spaces_read s more n servers tolerate rest a said differ few next =
    let text : flat_map own_lines (s ∷ more) ++ rest ≡ own_lines s ++ (flat_map own_lines more ++ rest) =
    ap (λ (x : List ℕ). x ++ rest) (flat_map-cons own_lines s more)
    ∙ append_assoc (own_lines s) (flat_map own_lines more) rest in
    let k : n + sum_by lines_of_space (s ∷ more) ≡ n + lines_of_space s + sum_by lines_of_space more = omega (arith, sum_by-cons lines_of_space s more) in
    subst (λ (x : List ℕ). ReadsAll n (at_spaces stages.Naming servers tolerate []) x a) (sym text)
    (own_step n stages.Naming servers tolerate [] s (flat_map own_lines more ++ rest) a (inl (refl, refl))
    (All-head (IsSaid servers tolerate) s more said) (omega arith) refl
    (spaces_on more (n + lines_of_space s) servers tolerate (s ∷ []) rest a (All-tail (IsSaid servers tolerate) s more said) differ (omega (arith, few))
    (subst (λ (m : ℕ). ReadsAll m (at_spaces stages.Spaces servers tolerate (map whole (s ∷ more))) rest a) k next)))
