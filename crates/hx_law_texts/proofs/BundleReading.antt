-- A text of several spaces, read a line at a time, and its first three lines.
use Rattle.hx_law_texts.proofs.Vocabulary.{[], ap, arith, Bundle, bundle_line_of, bundle_line_of_toks, BundleDraft, BundleSection, codes, decimal}
use Rattle.hx_law_texts.proofs.Vocabulary.{decimal_digit, Draft, empty_bundle_draft, le-leb, lines_of, List, lit<, min, MOST_FAILURES, MOST_SERVERS, Number, Ok}
use Rattle.hx_law_texts.proofs.Vocabulary.{pos, refl, subst, sym, Tok, Word, ℕ, ◌++◌, ◌+◌, ◌-◌, ◌<◌, ◌∷◌, ◌≡◌, ◌≤◌}
use Rattle.hx_print.specs.Printing.{servers_line as servers_text, tolerate_line as tolerate_text}
use Rattle.hx_script.specs.declared.bundle_draft.BundleSection.TheVariants as stages
use Rattle.hx_script.specs.BundleGrammar.{all_servers_line, all_tolerate_line, bundle_command, second_hx_line}
use Rattle.hx_script.specs.BundleTexts.{read_bundle_lines}
use Rattle.hx_script.specs.Readers.{number_in}
use Rattle.hx_law_texts.proofs.Heads.{one_part, word_number}
use Rattle.hx_law_texts.proofs.Reading.{lines_cons}
use Rattle.hx_law_texts.proofs.Says.{IsClean, Says, line_toks}

-- the text behind the first n lines, which gave the draft, is the rest of the bundle's
pub record ReadsAll (n : ℕ) (b : BundleDraft) (text : List ℕ) (a : Bundle) : Type 0 where
  pub reads : read_bundle_lines n b (lines_of text) ≡ Ok a

says_line : (n : ℕ) (b : BundleDraft) (line : List ℕ) (ts : List Tok) → Says ts line → bundle_line_of n b line ≡ bundle_line_of_toks n b ts
says_line n b line ts h = rw (line_toks line ts h) refl

one_line : (n : ℕ) (b e : BundleDraft) (line rest : List ℕ) (a : Bundle) → IsClean line
    → bundle_line_of (n + 1) b line ≡ Ok e → ReadsAll (n + 1) e rest a → ReadsAll n b (line ++ 10 ∷ rest) a
unfolding read_bundle_lines
one_line n b e line rest a clean h next = record { reads = rw (lines_cons line rest clean, h) next.reads }

-- a line, and then the rest
pub all_line_reads : (n : ℕ) (b e : BundleDraft) (text line rest : List ℕ) (ts : List Tok) (a : Bundle)
    → text ≡ line ++ 10 ∷ rest → Says ts line → bundle_line_of_toks (n + 1) b ts ≡ Ok e → ReadsAll (n + 1) e rest a
    → ReadsAll n b text a
all_line_reads n b e text line rest ts a split says toks next =
    subst (λ (x : List ℕ). ReadsAll n b x a) (sym split) (one_line n b e line rest a says.clean (rw (says_line (n + 1) b line ts says) toks) next)

-- ---- hx 2, servers I, tolerate I

-- so far the servers were read, and some spaces
abbrev pub at_spaces : BundleSection → ℕ → ℕ → List Draft → BundleDraft
at_spaces section servers tolerate spaces = record {
  section = section;
  servers = servers;
  tolerate = tolerate;
  spaces = spaces;
  turns = [];
  calls = 0;
  steps = [];
}

hx_toks : (n : ℕ) → bundle_line_of_toks n empty_bundle_draft (Word (codes "hx") ∷ Number (pos 2) ∷ []) ≡ Ok (at_spaces stages.Serving 0 0 [])
unfolding bundle_command second_hx_line number_in
hx_toks n = refl

pub second_hx_reads : (n : ℕ) (rest : List ℕ) (a : Bundle) → ReadsAll (n + 1) (at_spaces stages.Serving 0 0 []) rest a
    → ReadsAll n empty_bundle_draft (codes "hx 2\n" ++ rest) a
second_hx_reads n rest a next =
    let says : Says (Word (codes "hx") ∷ Number (pos 2) ∷ []) (codes "hx" ++ (32 ∷ (decimal 2 ++ []))) =
    word_number (codes "hx") 2 (record { letter = refl; parts = refl }) (omega arith) in
    let text : codes "hx 2\n" ++ rest ≡ (codes "hx" ++ (32 ∷ (decimal 2 ++ []))) ++ 10 ∷ rest =
    ap (λ (d : List ℕ). (codes "hx" ++ (32 ∷ (d ++ []))) ++ 10 ∷ rest) (sym (decimal_digit 2 (lit< tt))) in
    all_line_reads n empty_bundle_draft (at_spaces stages.Serving 0 0 []) (codes "hx 2\n" ++ rest)
    (codes "hx" ++ (32 ∷ (decimal 2 ++ []))) rest (Word (codes "hx") ∷ Number (pos 2) ∷ []) a text says (hx_toks (n + 1)) next

servers_toks : (n servers : ℕ) → 0 < servers → servers ≤ MOST_SERVERS
    → bundle_line_of_toks n (at_spaces stages.Serving 0 0 []) (Word (codes "servers") ∷ Number (pos servers) ∷ [])
    ≡ Ok (at_spaces stages.Tolerance servers 0 [])
unfolding bundle_command all_servers_line number_in
servers_toks n servers low high = rw (le-leb 1 servers low, le-leb servers MOST_SERVERS high) refl

pub all_servers_read : (n servers : ℕ) (rest : List ℕ) (a : Bundle) → 0 < servers → servers ≤ MOST_SERVERS
    → ReadsAll (n + 1) (at_spaces stages.Tolerance servers 0 []) rest a
    → ReadsAll n (at_spaces stages.Serving 0 0 []) (servers_text servers ++ rest) a
unfolding servers_text
all_servers_read n servers rest a low high next =
    all_line_reads n (at_spaces stages.Serving 0 0 []) (at_spaces stages.Tolerance servers 0 [])
    (servers_text servers ++ rest) (codes "servers" ++ (32 ∷ (decimal servers ++ []))) rest
    (Word (codes "servers") ∷ Number (pos servers) ∷ []) a
    (one_part (codes "servers ") (decimal servers) (codes "\n") rest)
    (word_number (codes "servers") servers (record { letter = refl; parts = refl }) (omega (arith, high)))
    (servers_toks (n + 1) servers low high) next

tolerate_toks : (n servers tolerate : ℕ) → tolerate ≤ min (servers - 1) MOST_FAILURES
    → bundle_line_of_toks n (at_spaces stages.Tolerance servers 0 [])
    (Word (codes "tolerate") ∷ Number (pos tolerate) ∷ []) ≡ Ok (at_spaces stages.Naming servers tolerate [])
unfolding bundle_command all_tolerate_line number_in
tolerate_toks n servers tolerate few = rw (le-leb 0 tolerate (omega arith), le-leb tolerate (min (servers - 1) MOST_FAILURES) few) refl

pub all_tolerate_reads : (n servers tolerate : ℕ) (rest : List ℕ) (a : Bundle) → tolerate ≤ MOST_FAILURES → tolerate < servers
    → ReadsAll (n + 1) (at_spaces stages.Naming servers tolerate []) rest a
    → ReadsAll n (at_spaces stages.Tolerance servers 0 []) (tolerate_text tolerate ++ rest) a
unfolding tolerate_text
all_tolerate_reads n servers tolerate rest a small below next =
    all_line_reads n (at_spaces stages.Tolerance servers 0 []) (at_spaces stages.Naming servers tolerate [])
    (tolerate_text tolerate ++ rest) (codes "tolerate" ++ (32 ∷ (decimal tolerate ++ []))) rest
    (Word (codes "tolerate") ∷ Number (pos tolerate) ∷ []) a
    (one_part (codes "tolerate ") (decimal tolerate) (codes "\n") rest)
    (word_number (codes "tolerate") tolerate (record { letter = refl; parts = refl }) (omega (arith, small)))
    (tolerate_toks (n + 1) servers tolerate (omega (arith, small, below))) next
