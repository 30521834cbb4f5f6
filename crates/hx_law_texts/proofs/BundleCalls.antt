-- What stands behind the name of a space, in a call and in a step, is read again.
use Rattle.hx_law_texts.proofs.Vocabulary.{[], Add, append_assoc, arith, Assign, assigns_text, AssignsFit, Atomic, call, CallIsSayable, CallWord, codes, Cput}
use Rattle.hx_law_texts.proofs.Vocabulary.{decimal, Del, edits_text, Fits, Get, is_word_part, IsSpace, IsText, List, MOST_REGIONS, MOST_SERVERS, Number, Ok, Op}
use Rattle.hx_law_texts.proofs.Vocabulary.{pos, Put, refl, region_count, Search, Space, Stop, subst, sym, Text, Tok, ValuesAreSayable, Word, ℕ, ◌++◌, ◌<◌, ◌∷◌}
use Rattle.hx_law_texts.proofs.Vocabulary.{◌≡◌, ◌≤◌}
use Rattle.hx_print.specs.Printing.{quoted}
use Rattle.hx_print.specs.BundlePrinting.{op_rest}
use Rattle.hx_script.specs.declared.keyword.CallWord.TheVariants as calls
use Rattle.hx_law_texts.proofs.Assignments.{all_left, assigns_say, assigns_toks, goes_no_further}
use Rattle.hx_law_texts.proofs.Calls.{add_again, atomic_again, cput_again, del_again, few_regions, few_servers, get_again, put_again, search_again, stop_again}
use Rattle.hx_law_texts.proofs.Edits.{edits_say, edits_toks}
use Rattle.hx_law_texts.proofs.Numbers.{number_says}
use Rattle.hx_law_texts.proofs.Quotes.{text_says}
use Rattle.hx_law_texts.proofs.Says.{Says, blank_says, nil_says, word_says}
use Rattle.hx_law_texts.proofs.Terms.{terms_say, terms_toks}

-- the word of a call
abbrev pub word_of : Op → CallWord
word_of (Put key sets) = calls.Put
word_of (Get key) = calls.Get
word_of (Del key) = calls.Del
word_of (Cput key tests sets) = calls.Cput
word_of (Search terms) = calls.Search
word_of (Stop server) = calls.Stop
word_of (Add server region) = calls.Add
word_of (Atomic key edits) = calls.Atomic

-- what the rest of a call says
abbrev pub rest_toks : Space → Op → List Tok
rest_toks s (Put key sets) = Text key ∷ assigns_toks s sets []
rest_toks s (Get key) = Text key ∷ []
rest_toks s (Del key) = Text key ∷ []
rest_toks s (Cput key tests sets) = Text key ∷ Word (codes "if") ∷ assigns_toks s tests (Word (codes "set") ∷ assigns_toks s sets [])
rest_toks s (Search terms) = terms_toks s terms
rest_toks s (Stop server) = Number (pos server.0) ∷ []
rest_toks s (Add server region) = Number (pos server.0) ∷ Number (pos region.0) ∷ []
rest_toks s (Atomic key edits) = Text key ∷ edits_toks s edits

two_parts : (q t : List ℕ) → (codes " " ++ q ++ t) ++ [] ≡ 32 ∷ (q ++ (t ++ []))
two_parts q t = simp append_assoc

cput_parts : (q i t e u : List ℕ) → (codes " " ++ q ++ i ++ t ++ e ++ u) ++ [] ≡ 32 ∷ (q ++ (i ++ (t ++ (e ++ (u ++ [])))))
cput_parts q i t e u = simp append_assoc

add_parts : (x o y : List ℕ) → (codes " " ++ x ++ o ++ y) ++ [] ≡ 32 ∷ (x ++ (o ++ (y ++ [])))
add_parts x o y = simp append_assoc

key_says : (key : List ℕ) (ts : List Tok) (tail : List ℕ) → IsText key → Says ts tail → Says (Text key ∷ ts) (32 ∷ (quoted key ++ tail))
key_says key ts tail text says = blank_says (Text key ∷ ts) (quoted key ++ tail) (text_says key ts tail text says)

cput_rest_says : (s : Space) (key : List ℕ) (tests sets : List Assign) → IsSpace s → AssignsFit s tests
    → AssignsFit s sets → IsText key → ValuesAreSayable tests → ValuesAreSayable sets
    → Says (rest_toks s (Cput key tests sets)) (op_rest s (Cput key tests sets) ++ [])
unfolding op_rest
cput_rest_says s key tests sets is fit_tests fit_sets text said_tests said_sets =
    let last : List ℕ = assigns_text s sets ++ [] in
    let us : List Tok = assigns_toks s sets [] in
    let written : Says us last = assigns_say sets s [] [] [] is (all_left s sets fit_sets said_sets) refl nil_says in
    let set : Says (Word (codes "set") ∷ us) (codes "set" ++ last) =
    word_says (codes "set") us last (record { letter = refl; parts = refl })
    (goes_no_further is_word_part s sets [] refl refl) written in
    let behind : List ℕ = 32 ∷ (codes "set" ++ last) in
    let ts : List Tok = assigns_toks s tests (Word (codes "set") ∷ us) in
    let tested : Says ts (assigns_text s tests ++ behind) =
    assigns_say tests s [] (Word (codes "set") ∷ us) behind is (all_left s tests fit_tests said_tests) refl
    (blank_says (Word (codes "set") ∷ us) (codes "set" ++ last) set) in
    let if_says : Says (Word (codes "if") ∷ ts) (codes "if" ++ (assigns_text s tests ++ behind)) =
    word_says (codes "if") ts (assigns_text s tests ++ behind) (record { letter = refl; parts = refl })
    (goes_no_further is_word_part s tests behind refl refl) tested in
    subst (λ (x : List ℕ). Says (rest_toks s (Cput key tests sets)) x)
    (sym (cput_parts (quoted key) (codes " if") (assigns_text s tests) (codes " set") (assigns_text s sets)))
    (key_says key (Word (codes "if") ∷ ts) (32 ∷ (codes "if" ++ (assigns_text s tests ++ behind))) text
    (blank_says (Word (codes "if") ∷ ts) (codes "if" ++ (assigns_text s tests ++ behind)) if_says))

pub rest_says : (s : Space) (op : Op) → IsSpace s → Fits s op → CallIsSayable op → Says (rest_toks s op) (op_rest s op ++ [])
unfolding op_rest
rest_says s (Put key sets) is fits said =
    subst (λ (x : List ℕ). Says (rest_toks s (Put key sets)) x) (sym (two_parts (quoted key) (assigns_text s sets)))
    (key_says key (assigns_toks s sets []) (assigns_text s sets ++ []) said.0 (assigns_say sets s [] [] [] is (all_left s sets fits.1 said.1) refl nil_says))
rest_says s (Get key) is fits said = key_says key [] [] said nil_says
rest_says s (Del key) is fits said = key_says key [] [] said nil_says
rest_says s (Cput key tests sets) is fits said = cput_rest_says s key tests sets is fits.1 fits.2 said.0 said.1 said.2
rest_says s (Search terms) is fits said = terms_say s terms is fits said
rest_says s (Stop server) is fits said =
    let few : server.0 ≤ MOST_SERVERS = few_servers s server is fits in
    blank_says (Number (pos server.0) ∷ []) (decimal server.0 ++ []) (number_says server.0 [] [] (omega (arith, few)) refl nil_says)
rest_says s (Add server region) is fits said =
    let few : server.0 ≤ MOST_SERVERS = few_servers s server is fits.0 in
    let below : region.0 < MOST_REGIONS = few_regions s region is fits.1 in
    let tail : List ℕ = decimal region.0 ++ [] in
    subst (λ (x : List ℕ). Says (rest_toks s (Add server region)) x) (sym (add_parts (decimal server.0) (codes " ") (decimal region.0)))
    (blank_says (Number (pos server.0) ∷ Number (pos region.0) ∷ []) (decimal server.0 ++ (32 ∷ tail))
    (number_says server.0 (Number (pos region.0) ∷ []) (32 ∷ tail) (omega (arith, few)) refl
    (blank_says (Number (pos region.0) ∷ []) tail (number_says region.0 [] [] (omega (arith, below)) refl nil_says))))
rest_says s (Atomic key edits) is fits said =
    subst (λ (x : List ℕ). Says (rest_toks s (Atomic key edits)) x) (sym (two_parts (quoted key) (edits_text s edits)))
    (key_says key (edits_toks s edits) (edits_text s edits ++ []) said.0 (edits_say s edits is fits.1 said.1))

pub rest_again : (s : Space) (op : Op) → IsSpace s → Fits s op → CallIsSayable op → call s (region_count s) (word_of op) (rest_toks s op) ≡ Ok (op, [])
rest_again s (Put key sets) is fits said = put_again s key sets is fits.0 fits.1 said.1
rest_again s (Get key) is fits said = get_again key fits
rest_again s (Del key) is fits said = del_again key fits
rest_again s (Cput key tests sets) is fits said = cput_again s key tests sets is fits said.1 said.2
rest_again s (Search terms) is fits said = search_again s terms is fits said
rest_again s (Stop server) is fits said = stop_again s server fits
rest_again s (Add server region) is fits said = add_again s (region_count s) server region fits.0 fits.1
rest_again s (Atomic key edits) is fits said = atomic_again s key edits is fits said.1
