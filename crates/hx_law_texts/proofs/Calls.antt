-- The lines of calls are read again.
use Rattle.hx_law_texts.proofs.Vocabulary.{[], Add, All, All-head, All-tail, ap, append-nil, append_assoc, arith, Assign, assigns_text, AssignsFit, Atomic}
use Rattle.hx_law_texts.proofs.Vocabulary.{CallIsSayable, codes, Cput, decimal, Del, Edit, edits_text, EditsAreSayable, EditsFit, Fits, flat_map, flat_map-cons}
use Rattle.hx_law_texts.proofs.Vocabulary.{Get, is_word_part, IsSpace, IsText, le-leb, length, line_of_toks, List, LONGEST_TEXT, MOST_CALLS, MOST_REGIONS}
use Rattle.hx_law_texts.proofs.Vocabulary.{MOST_SERVERS, Number, Ok, Op, op_of_line, op_of_toks, pos, push_to_last, push_to_last_is, Put, refl, region_count}
use Rattle.hx_law_texts.proofs.Vocabulary.{Script, Search, Space, Stop, subst, sym, Term, TermIsSayable, terms_text, TermsFit, Text, Tok, ValuesAreSayable}
use Rattle.hx_law_texts.proofs.Vocabulary.{Word, ℕ, ◌++◌, ◌+◌, ◌-◌, ◌<◌, ◌∙◌, ◌∷◌, ◌≡◌, ◌≤◌}
use Rattle.hx_types.specs.declared.ids.RegionId.{RegionId}
use Rattle.hx_types.specs.declared.ids.ServerId.{ServerId}
use Rattle.hx_types.specs.Spaces.{KeyFits, IsServerOf, IsRegionOf}
use Rattle.hx_print.specs.Printing.{quoted, cput_text, add_text, op_text, call_line as call_text}
use Rattle.hx_script.specs.declared.draft.Section.TheVariants as sections
use Rattle.hx_script.specs.declared.line.Until.TheVariants as until
use Rattle.hx_script.specs.Calls.{put, get, del, cput, search_call, stop, add, atomic}
use Rattle.hx_script.specs.LoneCalls.{lone_call}
use Rattle.hx_script.specs.Readers.{number_in}
use Rattle.hx_script.specs.Values.{short_text}
use Rattle.hx_script.proofs.Lemmas.{toks_take}
use Rattle.hx_law_texts.proofs.Assignments.{assigns_toks, all_left, assigns_say, assigns_again, some_again, goes_no_further}
use Rattle.hx_law_texts.proofs.Drafts.{calling}
use Rattle.hx_law_texts.proofs.Edits.{edits_toks, edits_say, edits_again}
use Rattle.hx_law_texts.proofs.Heads.{word_number}
use Rattle.hx_law_texts.proofs.Numbers.{number_says}
use Rattle.hx_law_texts.proofs.Quotes.{text_says}
use Rattle.hx_law_texts.proofs.Reading.{ReadsTo, line_reads}
use Rattle.hx_law_texts.proofs.Says.{Says, nil_says, blank_says, word_says, word_and_blank, line_toks}
use Rattle.hx_law_texts.proofs.Steps.{line_parts}
use Rattle.hx_law_texts.proofs.Terms.{terms_toks, terms_say, terms_again, goes_no_further as terms_go_no_further}

-- ---- what a call says

abbrev cput_toks : Space → List ℕ → List Assign → List Assign → List Tok
cput_toks s key tests sets = Word (codes "cput") ∷ Text key ∷ Word (codes "if") ∷ assigns_toks s tests (Word (codes "set") ∷ assigns_toks s sets [])

abbrev call_toks : Space → Op → List Tok
call_toks s (Put key sets) = Word (codes "put") ∷ Text key ∷ assigns_toks s sets []
call_toks s (Get key) = Word (codes "get") ∷ Text key ∷ []
call_toks s (Del key) = Word (codes "del") ∷ Text key ∷ []
call_toks s (Cput key tests sets) = cput_toks s key tests sets
call_toks s (Search terms) = Word (codes "search") ∷ terms_toks s terms
call_toks s (Stop server) = Word (codes "stop") ∷ Number (pos server.0) ∷ []
call_toks s (Add server region) = Word (codes "add") ∷ Number (pos server.0) ∷ Number (pos region.0) ∷ []
call_toks s (Atomic key edits) = Word (codes "atomic") ∷ Text key ∷ edits_toks s edits

put_parts : (p q t : List ℕ) → (p ++ q ++ t) ++ [] ≡ p ++ (q ++ (t ++ []))
put_parts p q t = simp append_assoc

put_says : (s : Space) (key : List ℕ) (sets : List Assign) → IsSpace s → AssignsFit s sets → IsText key
    → ValuesAreSayable sets → Says (call_toks s (Put key sets)) (op_text s (Put key sets) ++ [])
unfolding op_text
put_says s key sets is fit text said =
    let ts : List Tok = assigns_toks s sets [] in
    let tail : List ℕ = assigns_text s sets ++ [] in
    subst (λ (x : List ℕ). Says (Word (codes "put") ∷ Text key ∷ ts) x) (sym (put_parts (codes "put ") (quoted key) (assigns_text s sets)))
    (word_and_blank (codes "put") (Text key ∷ ts) (quoted key ++ tail) (record { letter = refl; parts = refl })
    (text_says key ts tail text (assigns_say sets s [] [] [] is (all_left s sets fit said) refl nil_says)))

cput_parts : (c q i t e u : List ℕ) → (c ++ q ++ i ++ t ++ e ++ u) ++ [] ≡ c ++ (q ++ (i ++ (t ++ (e ++ (u ++ [])))))
cput_parts c q i t e u = simp append_assoc

cput_says : (s : Space) (key : List ℕ) (tests sets : List Assign) → IsSpace s → AssignsFit s tests → AssignsFit s sets
    → IsText key → ValuesAreSayable tests → ValuesAreSayable sets
    → Says (cput_toks s key tests sets) (cput_text s key tests sets ++ [])
unfolding cput_text
cput_says s key tests sets is fit_tests fit_sets text said_tests said_sets =
    let last : List ℕ = assigns_text s sets ++ [] in
    let us : List Tok = assigns_toks s sets [] in
    let written : Says us last = assigns_say sets s [] [] [] is (all_left s sets fit_sets said_sets) refl nil_says in
    let set : Says (Word (codes "set") ∷ us) (codes "set" ++ last) =
    word_says (codes "set") us last (record { letter = refl; parts = refl })
    (goes_no_further is_word_part s sets [] refl refl) written in
    let behind : List ℕ = 32 ∷ (codes "set" ++ last) in
    let ts : List Tok = assigns_toks s tests (Word (codes "set") ∷ us) in
    let tested : Says ts (assigns_text s tests ++ behind) =
    assigns_say tests s [] (Word (codes "set") ∷ us) behind is (all_left s tests fit_tests said_tests) refl
    (blank_says (Word (codes "set") ∷ us) (codes "set" ++ last) set) in
    let if_says : Says (Word (codes "if") ∷ ts) (codes "if" ++ (assigns_text s tests ++ behind)) =
    word_says (codes "if") ts (assigns_text s tests ++ behind) (record { letter = refl; parts = refl })
    (goes_no_further is_word_part s tests behind refl refl) tested in
    subst (λ (x : List ℕ). Says (cput_toks s key tests sets) x)
    (sym (cput_parts (codes "cput ") (quoted key) (codes " if") (assigns_text s tests) (codes " set") (assigns_text s sets)))
    (word_and_blank (codes "cput") (Text key ∷ Word (codes "if") ∷ ts)
    (quoted key ++ (32 ∷ (codes "if" ++ (assigns_text s tests ++ behind)))) (record { letter = refl; parts = refl })
    (text_says key (Word (codes "if") ∷ ts) (32 ∷ (codes "if" ++ (assigns_text s tests ++ behind))) text
    (blank_says (Word (codes "if") ∷ ts) (codes "if" ++ (assigns_text s tests ++ behind)) if_says)))

add_parts : (a x o y : List ℕ) → (a ++ x ++ o ++ y) ++ [] ≡ a ++ (x ++ (o ++ (y ++ [])))
add_parts a x o y = simp append_assoc

add_says : (s : Space) (server : ServerId) (region : RegionId) → server.0 ≤ MOST_SERVERS → region.0 < MOST_REGIONS
    → Says (call_toks s (Add server region)) (add_text server region ++ [])
unfolding add_text
add_says s server region few below =
    let tail : List ℕ = decimal region.0 ++ [] in
    subst (λ (x : List ℕ). Says (call_toks s (Add server region)) x) (sym (add_parts (codes "add ") (decimal server.0) (codes " ") (decimal region.0)))
    (word_and_blank (codes "add") (Number (pos server.0) ∷ Number (pos region.0) ∷ [])
    (decimal server.0 ++ (32 ∷ tail)) (record { letter = refl; parts = refl })
    (number_says server.0 (Number (pos region.0) ∷ []) (32 ∷ tail) (omega (arith, few)) refl
    (blank_says (Number (pos region.0) ∷ []) tail (number_says region.0 [] [] (omega (arith, below)) refl nil_says))))

atomic_says : (s : Space) (key : List ℕ) (edits : List Edit) → IsSpace s → EditsFit s edits → IsText key
    → EditsAreSayable edits → Says (call_toks s (Atomic key edits)) (op_text s (Atomic key edits) ++ [])
unfolding op_text
atomic_says s key edits is fit text said =
    let ts : List Tok = edits_toks s edits in
    let tail : List ℕ = edits_text s edits ++ [] in
    subst (λ (x : List ℕ). Says (Word (codes "atomic") ∷ Text key ∷ ts) x) (sym (put_parts (codes "atomic ") (quoted key) (edits_text s edits)))
    (word_and_blank (codes "atomic") (Text key ∷ ts) (quoted key ++ tail) (record { letter = refl; parts = refl })
    (text_says key ts tail text (edits_say s edits is fit said)))

pub few_servers : (s : Space) (server : ServerId) → IsSpace s → IsServerOf s server → server.0 ≤ MOST_SERVERS
few_servers s server is of =
    let high : s.servers ≤ MOST_SERVERS = is.servers.1 in
    let within : server.0 ≤ s.servers = of.1 in
    omega (arith, high, within)

pub few_regions : (s : Space) (region : RegionId) → IsSpace s → IsRegionOf s region → region.0 < MOST_REGIONS
few_regions s region is of = few region.0 (region_count s) of is.regions
  where
    few : (g n : ℕ) → g < n → n ≤ MOST_REGIONS → g < MOST_REGIONS
    few g n lt le = omega arith

call_says : (s : Space) (op : Op) → IsSpace s → Fits s op → CallIsSayable op → Says (call_toks s op) (op_text s op ++ [])
unfolding op_text
call_says s (Put key sets) is fits said = put_says s key sets is fits.1 said.0 said.1
call_says s (Get key) is fits said = word_and_blank (codes "get") (Text key ∷ []) (quoted key ++ [])
    (record { letter = refl; parts = refl }) (text_says key [] [] said nil_says)
call_says s (Del key) is fits said = word_and_blank (codes "del") (Text key ∷ []) (quoted key ++ [])
    (record { letter = refl; parts = refl }) (text_says key [] [] said nil_says)
call_says s (Cput key tests sets) is fits said = cput_says s key tests sets is fits.1 fits.2 said.0 said.1 said.2
call_says s (Search terms) is fits said = word_says (codes "search") (terms_toks s terms) (terms_text s terms ++ [])
    (record { letter = refl; parts = refl }) (terms_go_no_further is_word_part s terms refl) (terms_say s terms is fits said)
call_says s (Stop server) is fits said = let few : server.0 ≤ MOST_SERVERS = few_servers s server is fits in
    word_number (codes "stop") server.0 (record { letter = refl; parts = refl }) (omega (arith, few))
call_says s (Add server region) is fits said = add_says s server region (few_servers s server is fits.0) (few_regions s region is fits.1)
call_says s (Atomic key edits) is fits said = atomic_says s key edits is fits.1 said.0 said.1

-- ---- it is read

pub put_again : (s : Space) (key : List ℕ) (sets : List Assign) → IsSpace s → KeyFits key → AssignsFit s sets
    → ValuesAreSayable sets → put s (Text key ∷ assigns_toks s sets []) ≡ Ok (Put key sets, [])
unfolding put short_text
put_again s key sets is short fit said = rw (
  le-leb (length key) LONGEST_TEXT short,
  assigns_again sets until.End s [] [] is (all_left s sets fit said) refl,
) refl

pub get_again : (key : List ℕ) → KeyFits key → get (Text key ∷ []) ≡ Ok (Get key, [])
unfolding get short_text
get_again key short = rw (le-leb (length key) LONGEST_TEXT short) refl

pub del_again : (key : List ℕ) → KeyFits key → del (Text key ∷ []) ≡ Ok (Del key, [])
unfolding del short_text
del_again key short = rw (le-leb (length key) LONGEST_TEXT short) refl

pub cput_again : (s : Space) (key : List ℕ) (tests sets : List Assign) → IsSpace s → Fits s (Cput key tests sets)
    → ValuesAreSayable tests → ValuesAreSayable sets
    → cput s (Text key ∷ Word (codes "if") ∷ assigns_toks s tests (Word (codes "set") ∷ assigns_toks s sets []))
    ≡ Ok (Cput key tests sets, [])
unfolding cput short_text
cput_again s key tests sets is fits said_tests said_sets =
    rw (
      le-leb (length key) LONGEST_TEXT fits.0,
      some_again tests until.Set s (Word (codes "set") ∷ assigns_toks s sets []) is
          (all_left s tests fits.1 said_tests) fits.3 refl,
      some_again sets until.End s [] is (all_left s sets fits.2 said_sets) fits.4 refl,
    ) refl

pub search_again : (s : Space) (terms : List Term) → IsSpace s → TermsFit s terms → All TermIsSayable terms
    → search_call s (terms_toks s terms) ≡ Ok (Search terms, [])
unfolding search_call
search_again s terms is fit said = rw (terms_again s terms is fit said) refl

pub stop_again : (s : Space) (server : ServerId) → IsServerOf s server → stop s (Number (pos server.0) ∷ []) ≡ Ok (Stop server, [])
unfolding stop number_in
stop_again s server of = rw (le-leb 1 server.0 of.0, le-leb server.0 s.servers of.1) refl

pub add_again : (s : Space) (regions : ℕ) (server : ServerId) (region : RegionId) → IsServerOf s server
    → region.0 < regions → add s regions (Number (pos server.0) ∷ Number (pos region.0) ∷ []) ≡ Ok (Add server region, [])
unfolding add number_in
add_again s regions server region of below = rw (
  le-leb 1 server.0 of.0,
  le-leb server.0 s.servers of.1,
  le-leb 0 region.0 (omega arith),
  le-leb region.0 (regions - 1) (omega (arith, below)),
) refl

pub atomic_again : (s : Space) (key : List ℕ) (edits : List Edit) → IsSpace s → Fits s (Atomic key edits)
    → EditsAreSayable edits → atomic s (Text key ∷ edits_toks s edits) ≡ Ok (Atomic key edits, [])
unfolding atomic short_text
atomic_again s key edits is fits said = rw (le-leb (length key) LONGEST_TEXT fits.0, edits_again edits s is fits.1 said fits.2) refl

lone_again : (s : Space) (op : Op) → IsSpace s → Fits s op → CallIsSayable op → op_of_toks s (call_toks s op) ≡ Ok op
unfolding lone_call
lone_again s (Put key sets) is fits said = rw (put_again s key sets is fits.0 fits.1 said.1) refl
lone_again s (Get key) is fits said = rw (get_again key fits) refl
lone_again s (Del key) is fits said = rw (del_again key fits) refl
lone_again s (Cput key tests sets) is fits said = rw (cput_again s key tests sets is fits said.1 said.2) refl
lone_again s (Search terms) is fits said = rw (search_again s terms is fits said) refl
lone_again s (Stop server) is fits said = rw (stop_again s server fits) refl
lone_again s (Add server region) is fits said = rw (add_again s (region_count s) server region fits.0 fits.1) refl
lone_again s (Atomic key edits) is fits said = rw (atomic_again s key edits is fits said.1) refl

call_again : (n : ℕ) (s : Space) (regions : ℕ) (sessions : List (List Op)) (calls : ℕ) (op : Op) → IsSpace s
    → regions ≡ region_count s → Fits s op → CallIsSayable op → calls < MOST_CALLS
    → line_of_toks n (calling sections.Calls s regions sessions calls) (call_toks s op)
    ≡ Ok (calling sections.Calls s regions (push_to_last sessions op) (calls + 1))
call_again n s regions sessions calls op is all fits said room =
    toks_take n (calling sections.Calls s regions sessions calls) (call_toks s op) op
    (record { section = refl; regions = all; room = room }) (lone_again s op is fits said)

-- the text of a call, with no newline, is read as that call
pub lone_reads : (s : Space) (op : Op) → IsSpace s → Fits s op → CallIsSayable op → op_of_line s (op_text s op) ≡ Ok op
lone_reads s op is fits said =
    let says : Says (call_toks s op) (op_text s op) =
    subst (λ (x : List ℕ). Says (call_toks s op) x) (append-nil (op_text s op)) (call_says s op is fits said) in
    rw (line_toks (op_text s op) (call_toks s op) says) (lone_again s op is fits said)

-- ---- the calls of a session

call_reads : (n : ℕ) (s : Space) (regions : ℕ) (sessions : List (List Op)) (calls : ℕ) (op : Op) (rest : List ℕ)
    (script : Script) → IsSpace s → regions ≡ region_count s → Fits s op → CallIsSayable op → calls < MOST_CALLS
    → ReadsTo (n + 1) (calling sections.Calls s regions (push_to_last sessions op) (calls + 1)) rest script
    → ReadsTo n (calling sections.Calls s regions sessions calls) (call_text s op ++ rest) script
unfolding call_text
call_reads n s regions sessions calls op rest script is all fits said room next =
    line_reads n (calling sections.Calls s regions sessions calls)
    (calling sections.Calls s regions (push_to_last sessions op) (calls + 1)) (call_text s op ++ rest)
    (op_text s op ++ []) rest (call_toks s op) script
    (line_parts (op_text s op) (codes "\n") rest) (call_says s op is fits said) (call_again (n + 1) s regions sessions calls op is all fits said room) next

pub calls_read : (left : List Op) (n : ℕ) (s : Space) (regions : ℕ) (front : List (List Op)) (made : List Op)
    (calls : ℕ) (rest : List ℕ) (script : Script) → IsSpace s → regions ≡ region_count s → All (Fits s) left
    → All CallIsSayable left → calls + length left ≤ MOST_CALLS
    → ReadsTo (n + length left) (calling sections.Calls s regions (front ++ (made ++ left) ∷ [])
    (calls + length left)) rest script → ReadsTo n (calling sections.Calls s regions (front ++ made ∷ []) calls)
    (flat_map (call_text s) left ++ rest) script
calls_read [] n s regions front made calls rest script is all fits said few next =
    let k : n + length {A = Op} [] ≡ n = omega arith in
    let c : calls + length {A = Op} [] ≡ calls = omega arith in
    subst (λ (m : ℕ). ReadsTo m (calling sections.Calls s regions (front ++ made ∷ []) calls) rest script) k
    (subst (λ (m : ℕ). ReadsTo (n + length {A = Op} []) (calling sections.Calls s regions (front ++ made ∷ []) m) rest script) c
    (subst (λ (ops : List Op). ReadsTo (n + length {A = Op} [])
    (calling sections.Calls s regions (front ++ ops ∷ []) (calls + length {A = Op} [])) rest script) (append-nil made) next))
calls_read (op ∷ left) n s regions front made calls rest script is all fits said few next =
    let after : List ℕ = flat_map (call_text s) left ++ rest in
    let text : flat_map (call_text s) (op ∷ left) ++ rest ≡ call_text s op ++ after =
    ap (λ (x : List ℕ). x ++ rest) (flat_map-cons (call_text s) op left)
    ∙ append_assoc (call_text s op) (flat_map (call_text s) left) rest in
    let k : n + length (op ∷ left) ≡ n + 1 + length left = omega arith in
    let c : calls + length (op ∷ left) ≡ calls + 1 + length left = omega arith in
    let moved : made ++ op ∷ left ≡ (made ++ op ∷ []) ++ left = sym (append_assoc made (op ∷ []) left) in
    let more : ReadsTo (n + 1) (calling sections.Calls s regions (front ++ (made ++ op ∷ []) ∷ []) (calls + 1)) after script =
    calls_read left (n + 1) s regions front (made ++ op ∷ []) (calls + 1) rest script is all
    (All-tail (Fits s) op left fits) (All-tail CallIsSayable op left said) (omega (arith, few))
    (subst (λ (m : ℕ). ReadsTo m (calling sections.Calls s regions (front ++ ((made ++ op ∷ []) ++ left) ∷ []) (calls + 1 + length left)) rest script) k
    (subst (λ (m : ℕ). ReadsTo (n + length (op ∷ left)) (calling sections.Calls s regions (front ++ ((made ++ op ∷ []) ++ left) ∷ []) m) rest script) c
    (subst (λ (ops : List Op). ReadsTo (n + length (op ∷ left))
    (calling sections.Calls s regions (front ++ ops ∷ []) (calls + length (op ∷ left))) rest script) moved next))) in
    subst (λ (x : List ℕ). ReadsTo n (calling sections.Calls s regions (front ++ made ∷ []) calls) x script) (sym text)
    (call_reads n s regions (front ++ made ∷ []) calls op after script is all (All-head (Fits s) op left fits)
    (All-head CallIsSayable op left said) (omega (arith, few))
    (subst (λ (sessions : List (List Op)). ReadsTo (n + 1)
    (calling sections.Calls s regions sessions (calls + 1)) after script) (sym (push_to_last_is front made op)) more))
