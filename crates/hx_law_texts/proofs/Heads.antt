-- The lines `hx`, `space`, `key`, `servers` and `tolerate` are read again.
use Rattle.hx_law_texts.proofs.Vocabulary.{[], ap, append-nil, append_assoc, ArePart, arith, codes, decimal, decimal_digit, empty_draft, inl, inr, IsSpace}
use Rattle.hx_law_texts.proofs.Vocabulary.{IsWord, le-leb, line_of_toks, List, lit<, min, MOST_FAILURES, MOST_PARTS, MOST_SERVERS, Number, Ok, pos, refl}
use Rattle.hx_law_texts.proofs.Vocabulary.{Script, Section, Space, sym, Word, ℕ, ◌++◌, ◌+◌, ◌-◌, ◌<◌, ◌^◌, ◌∷◌, ◌≡◌, ◌≤◌, ◌⊎◌}
use Rattle.hx_print.specs.Printing.{space_line as space_text, key_line as key_text, servers_line as servers_text, tolerate_line as tolerate_text}
use Rattle.hx_script.specs.declared.draft.Section.TheVariants as sections
use Rattle.hx_script.specs.Grammar.{command, hx_line, space_line, key_line, servers_line, tolerate_line}
use Rattle.hx_script.specs.Readers.{number_in}
use Rattle.hx_script.specs.Words.{named, name}
use Rattle.hx_law_texts.proofs.Drafts.{naming, keying, attributing, cutting, tolerating, calling}
use Rattle.hx_law_texts.proofs.Names.{IsNamed, a_name}
use Rattle.hx_law_texts.proofs.Numbers.{number_says}
use Rattle.hx_law_texts.proofs.Reading.{ReadsTo, line_reads}
use Rattle.hx_law_texts.proofs.Says.{Says, nil_says, word_says, word_and_blank}

pub word_word : (k w : List ℕ) → IsWord k → IsWord w → Says (Word k ∷ Word w ∷ []) (k ++ (32 ∷ (w ++ [])))
word_word k w h is = word_and_blank k (Word w ∷ []) (w ++ []) h (word_says w [] [] is refl nil_says)

pub word_number : (k : List ℕ) (n : ℕ) → IsWord k → n < 2 ^ 63 → Says (Word k ∷ Number (pos n) ∷ []) (k ++ (32 ∷ (decimal n ++ [])))
word_number k n h lt = word_and_blank k (Number (pos n) ∷ []) (decimal n ++ []) h (number_says n [] [] lt refl nil_says)

pub one_part : (a x n r : List ℕ) → (a ++ x ++ n) ++ r ≡ (a ++ (x ++ [])) ++ (n ++ r)
one_part a x n r = simp (append_assoc, append-nil)

pub two_parts : (a x o y n r : List ℕ) → (a ++ x ++ o ++ y ++ n) ++ r ≡ (a ++ (x ++ (o ++ (y ++ [])))) ++ (n ++ r)
two_parts a x o y n r = simp (append_assoc, append-nil)

-- ---- hx 1

hx_toks : (n : ℕ) → line_of_toks n empty_draft (Word (codes "hx") ∷ Number (pos 1) ∷ []) ≡ Ok naming
unfolding command hx_line number_in
hx_toks n = refl

pub hx_reads : (n : ℕ) (rest : List ℕ) (script : Script) → ReadsTo (n + 1) naming rest script → ReadsTo n empty_draft (codes "hx 1\n" ++ rest) script
hx_reads n rest script next =
    let says : Says (Word (codes "hx") ∷ Number (pos 1) ∷ []) (codes "hx" ++ (32 ∷ (decimal 1 ++ []))) =
    word_number (codes "hx") 1 (record { letter = refl; parts = refl }) (omega arith) in
    let text : codes "hx 1\n" ++ rest ≡ (codes "hx" ++ (32 ∷ (decimal 1 ++ []))) ++ 10 ∷ rest =
    ap (λ (d : List ℕ). (codes "hx" ++ (32 ∷ (d ++ []))) ++ 10 ∷ rest) (sym (decimal_digit 1 (lit< tt))) in
    line_reads n empty_draft naming (codes "hx 1\n" ++ rest) (codes "hx" ++ (32 ∷ (decimal 1 ++ []))) rest
    (Word (codes "hx") ∷ Number (pos 1) ∷ []) script text says (hx_toks (n + 1)) next

-- ---- space N

space_toks : (n : ℕ) (s : Space) → IsNamed s.name → line_of_toks n naming (Word (codes "space") ∷ Word s.name ∷ []) ≡ Ok (keying s)
unfolding command space_line named name
space_toks n s is = rw (is.free, is.short) refl

pub space_reads : (n : ℕ) (s : Space) (rest : List ℕ) (script : Script) → IsSpace s
    → ReadsTo (n + 1) (keying s) rest script → ReadsTo n naming (space_text s.name ++ rest) script
unfolding space_text
space_reads n s rest script is next =
    let named : IsNamed s.name = a_name s.name is.name in
    line_reads n naming (keying s) (space_text s.name ++ rest) (codes "space" ++ (32 ∷ (s.name ++ []))) rest (Word (codes "space") ∷ Word s.name ∷ []) script
    (one_part (codes "space ") s.name (codes "\n") rest)
    (word_word (codes "space") s.name (record { letter = refl; parts = refl }) named.word) (space_toks (n + 1) s named) next

-- ---- key N I

key_toks : (n : ℕ) (s : Space) → IsNamed s.key_name → ArePart s.key_parts
    → line_of_toks n (keying s) (Word (codes "key") ∷ Word s.key_name ∷ Number (pos s.key_parts) ∷ []) ≡ Ok (attributing s [])
unfolding command key_line named name number_in
key_toks n s is part = rw (is.free, is.short, le-leb 1 s.key_parts part.0, le-leb s.key_parts MOST_PARTS part.1) refl

pub key_reads : (n : ℕ) (s : Space) (rest : List ℕ) (script : Script) → IsSpace s
    → ReadsTo (n + 1) (attributing s []) rest script → ReadsTo n (keying s) (key_text s.key_name s.key_parts ++ rest) script
unfolding key_text
key_reads n s rest script is next =
    let named : IsNamed s.key_name = a_name s.key_name is.key_name in
    let high : s.key_parts ≤ MOST_PARTS = is.key_parts.1 in
    let tail : List ℕ = decimal s.key_parts ++ [] in
    line_reads n (keying s) (attributing s []) (key_text s.key_name s.key_parts ++ rest)
    (codes "key" ++ (32 ∷ (s.key_name ++ (32 ∷ tail)))) rest
    (Word (codes "key") ∷ Word s.key_name ∷ Number (pos s.key_parts) ∷ []) script
    (two_parts (codes "key ") s.key_name (codes " ") (decimal s.key_parts) (codes "\n") rest)
    (word_and_blank (codes "key") (Word s.key_name ∷ Number (pos s.key_parts) ∷ []) (s.key_name ++ (32 ∷ tail))
    (record { letter = refl; parts = refl }) (word_and_blank s.key_name
    (Number (pos s.key_parts) ∷ []) tail named.word (number_says s.key_parts [] [] (omega (arith, high)) refl nil_says)))
    (key_toks (n + 1) s named is.key_parts) next

-- ---- servers I

servers_toks : (n : ℕ) (at : Section) (s : Space) (regions : ℕ) → (at ≡ sections.Attributes)
    ⊎ (at ≡ sections.Subspaces) → (0 < s.servers) × (s.servers ≤ MOST_SERVERS)
    → line_of_toks n (cutting at s s.subspaces regions) (Word (codes "servers") ∷ Number (pos s.servers) ∷ []) ≡ Ok (tolerating s regions)
unfolding command servers_line number_in
servers_toks n at s regions (inl e) few = rw (e, le-leb 1 s.servers few.0, le-leb s.servers MOST_SERVERS few.1) refl
servers_toks n at s regions (inr e) few = rw (e, le-leb 1 s.servers few.0, le-leb s.servers MOST_SERVERS few.1) refl

pub servers_read : (n : ℕ) (at : Section) (s : Space) (regions : ℕ) (rest : List ℕ) (script : Script)
    → (at ≡ sections.Attributes) ⊎ (at ≡ sections.Subspaces) → IsSpace s
    → ReadsTo (n + 1) (tolerating s regions) rest script
    → ReadsTo n (cutting at s s.subspaces regions) (servers_text s.servers ++ rest) script
unfolding servers_text
servers_read n at s regions rest script here is next =
    let high : s.servers ≤ MOST_SERVERS = is.servers.1 in
    line_reads n (cutting at s s.subspaces regions) (tolerating s regions) (servers_text s.servers ++ rest)
    (codes "servers" ++ (32 ∷ (decimal s.servers ++ []))) rest (Word (codes "servers") ∷ Number (pos s.servers) ∷ []) script
    (one_part (codes "servers ") (decimal s.servers) (codes "\n") rest)
    (word_number (codes "servers") s.servers (record { letter = refl; parts = refl }) (omega (arith, high)))
    (servers_toks (n + 1) at s regions here is.servers) next

-- ---- tolerate I

tolerate_toks : (n : ℕ) (s : Space) (regions : ℕ) → s.tolerate ≤ min (s.servers - 1) MOST_FAILURES
    → line_of_toks n (tolerating s regions) (Word (codes "tolerate") ∷ Number (pos s.tolerate) ∷ [])
    ≡ Ok (calling sections.Sessions s regions [] 0)
unfolding command tolerate_line number_in
tolerate_toks n s regions few = rw (le-leb 0 s.tolerate (omega arith), le-leb s.tolerate (min (s.servers - 1) MOST_FAILURES) few) refl

pub tolerate_reads : (n : ℕ) (s : Space) (regions : ℕ) (rest : List ℕ) (script : Script) → IsSpace s
    → ReadsTo (n + 1) (calling sections.Sessions s regions [] 0) rest script
    → ReadsTo n (tolerating s regions) (tolerate_text s.tolerate ++ rest) script
unfolding tolerate_text
tolerate_reads n s regions rest script is next =
    let small : s.tolerate ≤ MOST_FAILURES = is.tolerate.0 in
    let below : s.tolerate < s.servers = is.tolerate.1 in
    line_reads n (tolerating s regions) (calling sections.Sessions s regions [] 0) (tolerate_text s.tolerate ++ rest)
    (codes "tolerate" ++ (32 ∷ (decimal s.tolerate ++ []))) rest (Word (codes "tolerate") ∷ Number (pos s.tolerate) ∷ []) script
    (one_part (codes "tolerate ") (decimal s.tolerate) (codes "\n") rest)
    (word_number (codes "tolerate") s.tolerate (record { letter = refl; parts = refl }) (omega (arith, small)))
    (tolerate_toks (n + 1) s regions (omega (arith, small, below))) next
