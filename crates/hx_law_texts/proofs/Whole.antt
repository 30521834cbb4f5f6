-- A whole script is read again.
use Rattle.hx_law_texts.proofs.Vocabulary.{[], All, ap, append_assoc, arith, Attribute, BoundsAreSayable, codes, empty_draft, first_step_line, flat_map}
use Rattle.hx_law_texts.proofs.Vocabulary.{flat_map-cons, inl, IsSayableScript, IsScript, IsSpace, length, List, MOST_REGIONS, Ok, on_lines_from}
use Rattle.hx_law_texts.proofs.Vocabulary.{on_printed_lines, refl, region_count, Script, script_of, sizes_sum, Space, Step, subst, sym, ℕ, ◌*◌, ◌++◌, ◌+◌, ◌∷◌}
use Rattle.hx_law_texts.proofs.Vocabulary.{◌≡◌, ◌≤◌}
use Rattle.hx_print.specs.Printing.{space_line, key_line, attribute_line, subspace_line, servers_line, tolerate_line, space_text, sessions_text, step_line}
use Rattle.hx_print.specs.Printing.{steps_text, script_text}
use Rattle.hx_script.specs.declared.draft.Section.TheVariants as sections
use Rattle.hx_law_texts.proofs.Attributes.{attributes_read}
use Rattle.hx_law_texts.proofs.Drafts.{calling}
use Rattle.hx_law_texts.proofs.Heads.{hx_reads, space_reads, key_reads, servers_read, tolerate_reads}
use Rattle.hx_law_texts.proofs.Reading.{ReadsTo}
use Rattle.hx_law_texts.proofs.Sections.{lines_in, sections_read}
use Rattle.hx_law_texts.proofs.Steps.{with_steps}
use Rattle.hx_law_texts.proofs.Subspaces.{subspaces_read}

space_parts : (a b c d e f r : List ℕ) → (a ++ b ++ c ++ d ++ e ++ f) ++ r ≡ a ++ (b ++ (c ++ (d ++ (e ++ (f ++ r)))))
space_parts a b c d e f r = simp append_assoc

all_regions : (s : Space) → s.key_parts + sizes_sum s.subspaces ≡ region_count s
all_regions s = times_one s.key_parts (sizes_sum s.subspaces)
  where
    times_one : (p q : ℕ) → p + q ≡ p * 1 + q
    times_one p q = omega arith

-- the lines of a space
space_is_read : (s : Space) (rest : List ℕ) (script : Script) → IsSpace s → All (λ (a : Attribute). BoundsAreSayable a.kind) s.attributes
    → ReadsTo (3 + length s.attributes + length s.subspaces + 1 + 1)
    (calling sections.Sessions s (s.key_parts + sizes_sum s.subspaces) [] 0) rest script
    → ReadsTo 1 (record empty_draft { section = sections.Naming }) (space_text s ++ rest) script
unfolding space_text
space_is_read s rest script is bounds next =
    let regions : ℕ = s.key_parts + sizes_sum s.subspaces in
    let n : ℕ = 3 + length s.attributes + length s.subspaces in
    let few : s.key_parts + sizes_sum s.subspaces ≤ MOST_REGIONS = rw (all_regions s) is.regions in
    let last : List ℕ = tolerate_line s.tolerate ++ rest in
    let servers : List ℕ = servers_line s.servers ++ last in
    let cuts : List ℕ = flat_map (subspace_line s) s.subspaces ++ servers in
    let attributes : List ℕ = flat_map attribute_line s.attributes ++ cuts in
    let text : (space_line s.name ++ key_line s.key_name s.key_parts ++ flat_map attribute_line s.attributes
    ++ flat_map (subspace_line s) s.subspaces ++ servers_line s.servers ++ tolerate_line s.tolerate) ++ rest
    ≡ space_line s.name ++ (key_line s.key_name s.key_parts ++ attributes) =
    space_parts (space_line s.name) (key_line s.key_name s.key_parts) (flat_map attribute_line s.attributes)
    (flat_map (subspace_line s) s.subspaces) (servers_line s.servers) (tolerate_line s.tolerate) rest in
    subst (λ (x : List ℕ). ReadsTo 1 (record empty_draft { section = sections.Naming }) x script) (sym text)
    (space_reads 1 s (key_line s.key_name s.key_parts ++ attributes) script is
    (key_reads 2 s attributes script is
    (attributes_read s.attributes 3 s [] cuts script is bounds refl
    (subspaces_read s.subspaces (3 + length s.attributes) sections.Attributes s [] s.key_parts servers script (inl refl) is refl few
    (λ at may. servers_read n at s regions last script may is (tolerate_reads (n + 1) s regions rest script is next))))))

script_parts : (a b c d : List ℕ) → a ++ b ++ c ++ d ≡ a ++ (b ++ (c ++ d))
script_parts a b c d = simp append_assoc

script_is_read : (s : Script) → IsScript s → IsSayableScript s
    → ReadsTo 0 empty_draft (script_text s) (with_steps s.space s.sessions
    (on_lines_from (3 + length s.space.attributes + length s.space.subspaces + 1 + 1 + lines_in s.sessions + 1 + 1) s.steps))
unfolding script_text
script_is_read s is said =
    let tail : List ℕ = sessions_text s.space 1 s.sessions ++ steps_text s.steps in
    let n : ℕ = 3 + length s.space.attributes + length s.space.subspaces + 1 + 1 in
    let script : Script = with_steps s.space s.sessions (on_lines_from (n + lines_in s.sessions + 1 + 1) s.steps) in
    subst (λ (x : List ℕ). ReadsTo 0 empty_draft x script)
    (sym (script_parts (codes "hx 1\n") (space_text s.space) (sessions_text s.space 1 s.sessions) (steps_text s.steps)))
    (hx_reads 0 (space_text s.space ++ tail) script
    (space_is_read s.space tail script is.space said.bounds
    (sections_read n s.space (s.space.key_parts + sizes_sum s.space.subspaces) s.sessions s.steps is.space
    (all_regions s.space) is.sessions is.few_calls is.calls said.calls said.steps is.few_steps)))

-- the print of a script is read as that script
pub reads_back : (s : Script) → IsScript s → IsSayableScript s → script_of (script_text s) ≡ Ok (on_printed_lines s)
reads_back s is said =
    let n : 3 + length s.space.attributes + length s.space.subspaces + 1 + 1 + lines_in s.sessions + 1 + 1
    ≡ first_step_line s = same (length s.space.attributes) (length s.space.subspaces) (lines_in s.sessions) in
    subst (λ (m : ℕ). script_of (script_text s) ≡ Ok (with_steps s.space s.sessions (on_lines_from m s.steps))) n (script_is_read s is said).reads
  where
    same : (a b l : ℕ) → 3 + a + b + 1 + 1 + l + 1 + 1 ≡ a + b + l + 7
    same a b l = omega arith

-- the numbers of lines don't stand in the print
steps_alike : (n : ℕ) (steps : List (ℕ × Step)) → flat_map step_line (on_lines_from n steps) ≡ flat_map step_line steps
unfolding step_line
steps_alike n [] = refl
steps_alike n (x ∷ rest) = rw (flat_map-cons step_line (n, x.1) (on_lines_from (n + 1) rest), flat_map-cons step_line x rest, steps_alike (n + 1) rest) refl

section_alike : (n : ℕ) (steps : List (ℕ × Step)) → steps_text (on_lines_from n steps) ≡ steps_text steps
unfolding steps_text
section_alike n [] = refl
section_alike n (x ∷ rest) = ap (λ (t : List ℕ). codes "steps\n" ++ t) (steps_alike n (x ∷ rest))

pub prints_alike : (s : Script) → script_text (on_printed_lines s) ≡ script_text s
unfolding script_text
prints_alike s = ap (λ (t : List ℕ). codes "hx 1\n" ++ space_text s.space ++ sessions_text s.space 1 s.sessions ++ t)
    (section_alike (first_step_line s) s.steps)
