-- The steps of a bundle are read again, up to the end of the text.
use Rattle.hx_law_texts.proofs.Vocabulary.{[], All, All-head, All-tail, ap, append-nil, append_assoc, arith, Bundle, bundle_line_of_toks, bundle_steps_from}
use Rattle.hx_law_texts.proofs.Vocabulary.{BundleDraft, BundleSection, BundleStep, bytes_eq, codes, decimal, Deliver, Draft, false, flat_map, flat_map-cons}
use Rattle.hx_law_texts.proofs.Vocabulary.{Halt, inl, inr, is_space, IsName, IsWord, keyword_of, length, length-append, List, lt-ltb, map, MOST_SERVERS}
use Rattle.hx_law_texts.proofs.Vocabulary.{MOST_SESSIONS, MOST_STEPS, NamesDiffer, Number, Ok, pos, position_or_len, refl, same_Some, Script, script_so_far}
use Rattle.hx_law_texts.proofs.Vocabulary.{Sign, slice_get, slice_get_within, Some, Step, step, StepIsSayable, StepWord, subst, suc, sym, Tick, Tok, true, Word}
use Rattle.hx_law_texts.proofs.Vocabulary.{zero, ℕ, ◌++◌, ◌+◌, ◌<◌, ◌^◌, ◌∙◌, ◌∷◌, ◌≡◌, ◌≤◌}
use Rattle.hx_print.specs.Printing.{actor_text, post_name}
use Rattle.hx_print.specs.BundlePrinting.{bundle_steps_text, space_step_line as step_text, step_line_in, step_rest, step_word}
use Rattle.hx_script.specs.declared.bundle_draft.BundleSection.TheVariants as stages
use Rattle.hx_script.specs.declared.keyword.Keyword.TheVariants as keywords
use Rattle.hx_script.specs.declared.keyword.StepWord.TheVariants as step_words
use Rattle.hx_script.specs.BundleGrammar.{all_steps_line, behind_keys, bundle_command, space_named, space_step_line}
use Rattle.hx_script.specs.BundleTexts.{read_bundle_lines}
use Rattle.hx_script.specs.Words.{named}
use Rattle.hx_law_texts.proofs.BundleReading.{ReadsAll, all_line_reads}
use Rattle.hx_law_texts.proofs.BundleSessions.{MayBegin, at_calls}
use Rattle.hx_law_texts.proofs.BundleTurns.{bytes_apart, mapped_at}
use Rattle.hx_law_texts.proofs.Names.{bytes_same, IsNamed, a_name}
use Rattle.hx_law_texts.proofs.Numbers.{decimal_digits, number_says}
use Rattle.hx_law_texts.proofs.Says.{Says, dot_says, nil_says, word_and_blank, word_says}
use Rattle.hx_law_texts.proofs.Steps.{actor_is_word, deliver_again, halt_again, no_dot, small_too, tick_again}

-- ---- what stands behind the name

abbrev word_of : Step → StepWord
word_of (Deliver id) = step_words.Deliver
word_of (Tick a) = step_words.Tick
word_of (Halt a) = step_words.Halt

abbrev rest_toks : Step → List Tok
rest_toks (Deliver id) = Number (pos id.entry) ∷ Sign (codes ".") ∷ Number (pos id.place) ∷ []
rest_toks (Tick a) = Word (actor_text a) ∷ []
rest_toks (Halt a) = Word (actor_text a) ∷ []

post_parts : (e d p : List ℕ) → (e ++ d ++ p) ++ [] ≡ e ++ (d ++ (p ++ []))
post_parts e d p = simp append_assoc

rest_says : (servers sessions : ℕ) (x : Step) → servers ≤ MOST_SERVERS → sessions ≤ MOST_SESSIONS
    → StepIsSayable servers sessions x → Says (rest_toks x) (step_rest x ++ [])
unfolding step_rest post_name
rest_says servers sessions (Deliver id) f g is =
    let place : id.place < 2 ^ 63 = in_range id.place is.place in
    let tail : List ℕ = decimal id.place ++ [] in
    subst (λ (x : List ℕ). Says (rest_toks (Deliver id)) x) (sym (post_parts (decimal id.entry) (codes ".") (decimal id.place)))
    (number_says id.entry (Sign (codes ".") ∷ Number (pos id.place) ∷ []) (46 ∷ tail) is.entry refl
    (dot_says (Number (pos id.place) ∷ []) tail (no_dot (decimal id.place)
    (decimal_digits id.place (small_too id.place place))) (number_says id.place [] [] place refl nil_says)))
  where
    in_range : (n : ℕ) → n < 2 ^ 32 → n < 2 ^ 63
    in_range n lt = omega arith
rest_says servers sessions (Tick a) f g is = word_says (actor_text a) [] [] (actor_is_word servers sessions a f g is) refl nil_says
rest_says servers sessions (Halt a) f g is = word_says (actor_text a) [] [] (actor_is_word servers sessions a f g is) refl nil_says

rest_again : (servers sessions : ℕ) (x : Step) → servers ≤ MOST_SERVERS → sessions ≤ MOST_SESSIONS → StepIsSayable servers sessions x
    → step servers sessions (word_of x) (rest_toks x) ≡ Ok (x, [])
rest_again servers sessions (Deliver id) f g is = deliver_again id is
rest_again servers sessions (Tick a) f g is = tick_again servers sessions a f g is
rest_again servers sessions (Halt a) f g is = halt_again servers sessions a f g is

keyword_is : (x : Step) → keyword_of (step_word x) ≡ Some (keywords.Step (word_of x))
keyword_is (Deliver id) = refl
keyword_is (Tick a) = refl
keyword_is (Halt a) = refl

is_word : (x : Step) → IsWord (step_word x)
is_word (Deliver id) = record { letter = refl; parts = refl }
is_word (Tick a) = record { letter = refl; parts = refl }
is_word (Halt a) = record { letter = refl; parts = refl }

-- ---- a space by its name

abbrev pub name_of : Draft → List ℕ
name_of d = d.space.name

found_at : (spaces : List Draft) (k : ℕ) (d : Draft) → NamesDiffer (map name_of spaces) → slice_get spaces k ≡ Some d
    → position_or_len (is_space (name_of d)) spaces ≡ k
found_at [] k d differ e = absurd cc
found_at (x ∷ spaces) zero d differ e = let s : bytes_eq (name_of x) (name_of d) ≡ true =
    subst (λ (y : Draft). bytes_eq (name_of x) (name_of y) ≡ true) (same_Some x d e) (bytes_same (name_of x)) in rw s refl
found_at (x ∷ spaces) (suc k) d differ e =
    let s : bytes_eq (name_of x) (name_of d) ≡ false =
    bytes_apart (name_of x) (name_of d) (λ f. mapped_at (λ m. m ≡ name_of x → ⊥) name_of spaces k d differ.0 e (sym f)) in
    let n : 1 + k ≡ suc k = omega arith in
    rw (s, found_at spaces k d differ.1 e) n

name_takes : (spaces : List Draft) (k : ℕ) (d : Draft) (ts : List Tok) → NamesDiffer (map name_of spaces)
    → slice_get spaces k ≡ Some d → IsNamed (name_of d) → space_named spaces (Word (name_of d) ∷ ts) ≡ Ok (k, ts)
unfolding space_named named
name_takes spaces k d ts differ at is = rw (is.free, found_at spaces k d differ at, lt-ltb k (length spaces) (slice_get_within spaces k d at)) refl

-- ---- a step

abbrev pub stepping : ℕ → ℕ → List Draft → List (List ℕ) → ℕ → List BundleStep → BundleDraft
stepping servers tolerate spaces turns calls steps =
    record {
      section = stages.Steps;
      servers = servers;
      tolerate = tolerate;
      spaces = spaces;
      turns = turns;
      calls = calls;
      steps = steps;
    }

-- a step that may be read
pub record IsSaidStep (servers sessions : ℕ) (spaces : List Draft) (s : BundleStep) : Type 0 where
  pub draft : Draft
  pub here : slice_get spaces s.space ≡ Some draft
  pub name : IsName draft.space.name
  pub step : StepIsSayable servers sessions s.step

step_toks : (n servers tolerate : ℕ) (spaces : List Draft) (turns : List (List ℕ)) (calls : ℕ)
    (front : List BundleStep) (s : BundleStep) (is : IsSaidStep servers (length turns) spaces s)
    → NamesDiffer (map name_of spaces) → servers ≤ MOST_SERVERS → length turns ≤ MOST_SESSIONS → length front < MOST_STEPS
    → bundle_line_of_toks n (stepping servers tolerate spaces turns calls front)
    (Word (step_word s.step) ∷ Word (name_of is.draft) ∷ rest_toks s.step)
    ≡ Ok (stepping servers tolerate spaces turns calls (front ++ record s { line = n } ∷ []))
unfolding bundle_command space_step_line
step_toks n servers tolerate spaces turns calls front s is differ f g room =
    rw (
      keyword_is s.step,
      lt-ltb (length front) MOST_STEPS room,
      name_takes spaces s.space is.draft (rest_toks s.step) differ is.here (a_name (name_of is.draft) is.name),
      rest_again servers (length turns) s.step f g is.step,
    ) refl

step_parts : (w x r n t : List ℕ) → (w ++ codes " " ++ x ++ codes " " ++ r ++ n) ++ t ≡ (w ++ (32 ∷ (x ++ (32 ∷ (r ++ []))))) ++ (n ++ t)
step_parts w x r n t = simp (append_assoc, append-nil)

step_reads : (n servers tolerate : ℕ) (spaces : List Draft) (turns : List (List ℕ)) (calls : ℕ)
    (front : List BundleStep) (s : BundleStep) (rest : List ℕ) (a : Bundle)
    (is : IsSaidStep servers (length turns) spaces s) → NamesDiffer (map name_of spaces) → servers ≤ MOST_SERVERS
    → length turns ≤ MOST_SESSIONS → length front < MOST_STEPS
    → ReadsAll (n + 1) (stepping servers tolerate spaces turns calls (front ++ record s { line = n + 1 } ∷ [])) rest a
    → ReadsAll n (stepping servers tolerate spaces turns calls front) (step_text (name_of is.draft) s.step ++ rest) a
unfolding step_text
step_reads n servers tolerate spaces turns calls front s rest a is differ f g room next =
    let named : IsNamed (name_of is.draft) = a_name (name_of is.draft) is.name in
    let says : Says (Word (step_word s.step) ∷ Word (name_of is.draft) ∷ rest_toks s.step)
    (step_word s.step ++ (32 ∷ (name_of is.draft ++ (32 ∷ (step_rest s.step ++ []))))) =
    word_and_blank (step_word s.step) (Word (name_of is.draft) ∷ rest_toks s.step)
    (name_of is.draft ++ (32 ∷ (step_rest s.step ++ []))) (is_word s.step)
    (word_and_blank (name_of is.draft) (rest_toks s.step) (step_rest s.step ++ []) named.word
    (rest_says servers (length turns) s.step f g is.step)) in
    all_line_reads n (stepping servers tolerate spaces turns calls front)
    (stepping servers tolerate spaces turns calls (front ++ record s { line = n + 1 } ∷ []))
    (step_text (name_of is.draft) s.step ++ rest)
    (step_word s.step ++ (32 ∷ (name_of is.draft ++ (32 ∷ (step_rest s.step ++ []))))) rest
    (Word (step_word s.step) ∷ Word (name_of is.draft) ∷ rest_toks s.step) a
    (step_parts (step_word s.step) (name_of is.draft) (step_rest s.step) (codes "\n") rest) says
    (step_toks (n + 1) servers tolerate spaces turns calls front s is differ f g room) next

-- ---- the line `steps`

steps_toks : (n : ℕ) (at : BundleSection) (servers tolerate : ℕ) (spaces : List Draft) (turns : List (List ℕ))
    (calls : ℕ) → MayBegin at spaces → bundle_line_of_toks n (at_calls at servers tolerate spaces turns calls)
    (Word (codes "steps") ∷ []) ≡ Ok (stepping servers tolerate spaces turns calls [])
unfolding bundle_command behind_keys all_steps_line
steps_toks n at servers tolerate spaces turns calls (inl e) = rw (e.0, e.1) refl
steps_toks n at servers tolerate spaces turns calls (inr e) = rw e refl

abbrev pub ended : List Draft → List (List ℕ) → List BundleStep → Bundle
ended spaces turns steps = record { spaces = map script_so_far spaces; turns = turns; steps = steps }

nothing_left : (n : ℕ) (at : BundleSection) (servers tolerate : ℕ) (spaces : List Draft) (turns : List (List ℕ))
    (calls : ℕ) → MayBegin at spaces → ReadsAll n (at_calls at servers tolerate spaces turns calls) [] (ended spaces turns [])
unfolding read_bundle_lines
nothing_left n at servers tolerate spaces turns calls (inl e) = record { reads = rw (e.0, e.1) refl }
nothing_left n at servers tolerate spaces turns calls (inr e) = record { reads = rw e refl }

steps_end : (n servers tolerate : ℕ) (spaces : List Draft) (turns : List (List ℕ)) (calls : ℕ)
    (front : List BundleStep) → ReadsAll n (stepping servers tolerate spaces turns calls front) [] (ended spaces turns front)
unfolding read_bundle_lines
steps_end n servers tolerate spaces turns calls front = record { reads = refl }

-- ---- all steps

-- a step that may be read, printed with the name of its space
pub record IsToldStep (servers sessions : ℕ) (scripts : List Script) (spaces : List Draft) (s : BundleStep) : Type 0 where
  pub said : IsSaidStep servers sessions spaces s
  pub text : step_line_in scripts s ≡ step_text (name_of said.draft) s.step

steps_left : (left : List BundleStep) (n servers tolerate : ℕ) (scripts : List Script) (spaces : List Draft)
    (turns : List (List ℕ)) (calls : ℕ) (front : List BundleStep)
    → All (IsToldStep servers (length turns) scripts spaces) left → NamesDiffer (map name_of spaces) → servers ≤ MOST_SERVERS
    → length turns ≤ MOST_SESSIONS → length front + length left ≤ MOST_STEPS
    → ReadsAll n (stepping servers tolerate spaces turns calls front) (flat_map (step_line_in scripts) left)
    (ended spaces turns (front ++ bundle_steps_from (n + 1) left))
steps_left [] n servers tolerate scripts spaces turns calls front told differ f g few =
    subst (λ (l : List BundleStep). ReadsAll n (stepping servers tolerate spaces turns calls front) []
    (ended spaces turns l)) (sym (append-nil front)) (steps_end n servers tolerate spaces turns calls front)
steps_left (s ∷ left) n servers tolerate scripts spaces turns calls front told differ f g few =
    let P : BundleStep → Type 0 = IsToldStep servers (length turns) scripts spaces in
    let is : IsToldStep servers (length turns) scripts spaces s = All-head P s left told in
    let one : BundleStep = record s { line = n + 1 } in
    let rest : List ℕ = flat_map (step_line_in scripts) left in
    let text : flat_map (step_line_in scripts) (s ∷ left) ≡ step_text (name_of is.said.draft) s.step ++ rest =
    flat_map-cons (step_line_in scripts) s left ∙ ap (λ (t : List ℕ). t ++ rest) is.text in
    let more : ReadsAll (n + 1) (stepping servers tolerate spaces turns calls (front ++ one ∷ [])) rest
    (ended spaces turns ((front ++ one ∷ []) ++ bundle_steps_from (n + 1 + 1) left)) =
    steps_left left (n + 1) servers tolerate scripts spaces turns calls (front ++ one ∷ [])
    (All-tail P s left told) differ f g (omega (arith, few, length-append front (one ∷ []))) in
    subst (λ (t : List ℕ). ReadsAll n (stepping servers tolerate spaces turns calls front) t
    (ended spaces turns (front ++ one ∷ bundle_steps_from (n + 1 + 1) left))) (sym text)
    (step_reads n servers tolerate spaces turns calls front s rest
    (ended spaces turns (front ++ one ∷ bundle_steps_from (n + 1 + 1) left)) is.said differ f g (omega (arith, few))
    (subst (λ (l : List BundleStep). ReadsAll (n + 1)
    (stepping servers tolerate spaces turns calls (front ++ one ∷ [])) rest (ended spaces turns l))
    (append_assoc front (one ∷ []) (bundle_steps_from (n + 1 + 1) left)) more))

-- the last section, which is left out where there are no steps
pub steps_read : (steps : List BundleStep) (n : ℕ) (at : BundleSection) (servers tolerate : ℕ) (scripts : List Script)
    (spaces : List Draft) (turns : List (List ℕ)) (calls : ℕ) → MayBegin at spaces
    → All (IsToldStep servers (length turns) scripts spaces) steps → NamesDiffer (map name_of spaces) → servers ≤ MOST_SERVERS
    → length turns ≤ MOST_SESSIONS → length steps ≤ MOST_STEPS
    → ReadsAll n (at_calls at servers tolerate spaces turns calls) (bundle_steps_text scripts steps) (ended spaces turns (bundle_steps_from (n + 1 + 1) steps))
unfolding bundle_steps_text
steps_read [] n at servers tolerate scripts spaces turns calls here told differ f g few = nothing_left n at servers tolerate spaces turns calls here
steps_read (s ∷ steps) n at servers tolerate scripts spaces turns calls here told differ f g few =
    let lines : List ℕ = flat_map (step_line_in scripts) (s ∷ steps) in
    let text : codes "steps\n" ++ lines ≡ (codes "steps" ++ []) ++ 10 ∷ lines = refl in
    all_line_reads n (at_calls at servers tolerate spaces turns calls)
    (stepping servers tolerate spaces turns calls []) (codes "steps\n" ++ lines) (codes "steps" ++ []) lines
    (Word (codes "steps") ∷ []) (ended spaces turns (bundle_steps_from (n + 1 + 1) (s ∷ steps)))
    text (word_says (codes "steps") [] [] (record { letter = refl; parts = refl }) refl nil_says)
    (steps_toks (n + 1) at servers tolerate spaces turns calls here)
    (steps_left (s ∷ steps) (n + 1) servers tolerate scripts spaces turns calls [] told differ f g (omega (arith, few)))
