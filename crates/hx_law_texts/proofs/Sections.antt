-- The sessions are read again, and the steps behind them.
use Rattle.hx_law_texts.proofs.Vocabulary.{[], All, All-head, All-tail, append-nil, append_assoc, arith, CallIsSayable, codes, decimal, Fits, flat_map, inl}
use Rattle.hx_law_texts.proofs.Vocabulary.{inr, IsSpace, le-leb, length, length-append, line_of_toks, List, lt-ltb, MOST_CALLS, MOST_SERVERS, MOST_SESSIONS}
use Rattle.hx_law_texts.proofs.Vocabulary.{MOST_STEPS, Number, Ok, on_lines_from, Op, pos, refl, region_count, Script, Section, Space, Step, StepIsSayable}
use Rattle.hx_law_texts.proofs.Vocabulary.{subst, sum_by, sum_by-cons, sym, Word, ℕ, ◌++◌, ◌+◌, ◌<◌, ◌∷◌, ◌≡◌, ◌≤◌, ◌⊎◌}
use Rattle.hx_print.specs.Printing.{call_line as call_text, session_text, sessions_text, step_line as line_text, steps_text}
use Rattle.hx_script.specs.declared.draft.Section.TheVariants as sections
use Rattle.hx_script.specs.Grammar.{command, session_line, steps_line}
use Rattle.hx_script.specs.Readers.{number_in}
use Rattle.hx_script.specs.Texts.{read_lines}
use Rattle.hx_law_texts.proofs.Calls.{calls_read}
use Rattle.hx_law_texts.proofs.Drafts.{calling, stepping}
use Rattle.hx_law_texts.proofs.Heads.{word_number}
use Rattle.hx_law_texts.proofs.Reading.{ReadsTo, line_reads}
use Rattle.hx_law_texts.proofs.Says.{nil_says, word_says}
use Rattle.hx_law_texts.proofs.Steps.{with_steps, steps_read}

-- the section of a draft in which a session may come, or the steps, or the end
abbrev pub MayCall : Section → Type 0
MayCall at = (at ≡ sections.Sessions) ⊎ (at ≡ sections.Calls)

-- ---- the line of a session

session_toks : (n : ℕ) (at : Section) (s : Space) (regions : ℕ) (front : List (List Op)) (calls : ℕ) → MayCall at → length front < MOST_SESSIONS
    → line_of_toks n (calling at s regions front calls)
    (Word (codes "session") ∷ Number (pos (length front + 1)) ∷ []) ≡ Ok (calling sections.Calls s regions (front ++ [] ∷ []) calls)
unfolding command session_line number_in
session_toks n at s regions front calls (inl e) room =
    rw (e, lt-ltb (length front) MOST_SESSIONS room, le-leb (length front + 1) (length front + 1) (omega arith)) refl
session_toks n at s regions front calls (inr e) room =
    rw (e, lt-ltb (length front) MOST_SESSIONS room, le-leb (length front + 1) (length front + 1) (omega arith)) refl

pub session_parts : (a d n c r : List ℕ) → (a ++ d ++ n ++ c) ++ r ≡ (a ++ (d ++ [])) ++ (n ++ (c ++ r))
session_parts a d n c r = simp (append_assoc, append-nil)

session_reads : (n : ℕ) (at : Section) (s : Space) (regions : ℕ) (front : List (List Op)) (calls : ℕ) (ops : List Op)
    (rest : List ℕ) (script : Script) → MayCall at → length front < MOST_SESSIONS
    → ReadsTo (n + 1) (calling sections.Calls s regions (front ++ [] ∷ []) calls)
    (flat_map (call_text s) ops ++ rest) script → ReadsTo n (calling at s regions front calls)
    (session_text s (length front + 1) ops ++ rest) script
unfolding session_text
session_reads n at s regions front calls ops rest script here room next =
    line_reads n (calling at s regions front calls) (calling sections.Calls s regions (front ++ [] ∷ []) calls)
    (session_text s (length front + 1) ops ++ rest) (codes "session" ++ (32 ∷ (decimal (length front + 1) ++ [])))
    (flat_map (call_text s) ops ++ rest)
    (Word (codes "session") ∷ Number (pos (length front + 1)) ∷ []) script
    (session_parts (codes "session ") (decimal (length front + 1)) (codes "\n") (flat_map (call_text s) ops) rest)
    (word_number (codes "session") (length front + 1) (record { letter = refl; parts = refl }) (omega arith))
    (session_toks (n + 1) at s regions front calls here room) next

-- ---- all sessions

-- how many lines the sessions take
abbrev pub lines_in : List (List Op) → ℕ
lines_in sessions = sum_by (λ (calls : List Op). length calls + 1) sessions

-- how many calls they make
abbrev pub calls_in : List (List Op) → ℕ
calls_in sessions = sum_by (λ (calls : List Op). length calls) sessions

-- the sessions that are left have as many calls as there is room for
record AreLeft (s : Space) (front left : List (List Op)) (calls : ℕ) : Type 0 where
  pub few : length front + length left ≤ MOST_SESSIONS
  pub few_calls : calls + calls_in left ≤ MOST_CALLS
  pub fits : All (λ (ops : List Op). All (Fits s) ops) left
  pub said : All (λ (ops : List Op). All CallIsSayable ops) left

left_after : (s : Space) (front : List (List Op)) (ops : List Op) (left : List (List Op)) (calls : ℕ)
    → AreLeft s front (ops ∷ left) calls → AreLeft s (front ++ ops ∷ []) left (calls + length ops)
left_after s front ops left calls are =
    let few : length front + length (ops ∷ left) ≤ MOST_SESSIONS = are.few in
    let few_calls : calls + calls_in (ops ∷ left) ≤ MOST_CALLS = are.few_calls in
    record {
      few = omega (arith, few, length-append front (ops ∷ []));
      few_calls = omega (arith, few_calls, sum_by-cons (λ (x : List Op). length x) ops left);
      fits = All-tail (λ (x : List Op). All (Fits s) x) ops left are.fits;
      said = All-tail (λ (x : List Op). All CallIsSayable x) ops left are.said;
    }

room_for : (s : Space) (front : List (List Op)) (ops : List Op) (left : List (List Op)) (calls : ℕ)
    → AreLeft s front (ops ∷ left) calls → calls + length ops ≤ MOST_CALLS
room_for s front ops left calls are =
    let few_calls : calls + calls_in (ops ∷ left) ≤ MOST_CALLS = are.few_calls in
    omega (arith, few_calls, sum_by-cons (λ (x : List Op). length x) ops left)

sessions_left : (left : List (List Op)) (n : ℕ) (at : Section) (s : Space) (regions : ℕ) (front : List (List Op))
    (calls : ℕ) (rest : List ℕ) (script : Script) → MayCall at → IsSpace s → regions ≡ region_count s → AreLeft s front left calls
    → ((last : Section) → MayCall last → ReadsTo (n + lines_in left)
    (calling last s regions (front ++ left) (calls + calls_in left)) rest script)
    → ReadsTo n (calling at s regions front calls) (sessions_text s (length front + 1) left ++ rest) script
unfolding sessions_text
sessions_left [] n at s regions front calls rest script here is all are next =
    let k : n + lines_in [] ≡ n = omega arith in
    let c : calls + calls_in [] ≡ calls = omega arith in
    subst (λ (m : ℕ). ReadsTo m (calling at s regions front calls) rest script) k
    (subst (λ (m : ℕ). ReadsTo (n + lines_in []) (calling at s regions front m) rest script) c
    (subst (λ (xs : List (List Op)). ReadsTo (n + lines_in []) (calling at s regions xs (calls + calls_in [])) rest script) (append-nil front) (next at here)))
sessions_left (ops ∷ left) n at s regions front calls rest script here is all are next =
    let few : length front + length (ops ∷ left) ≤ MOST_SESSIONS = are.few in
    let number : length (front ++ ops ∷ []) + 1 ≡ length front + 1 + 1 = omega (arith, length-append front (ops ∷ [])) in
    let later : List ℕ = sessions_text s (length front + 1 + 1) left ++ rest in
    let text : (session_text s (length front + 1) ops ++ sessions_text s (length front + 1 + 1) left) ++ rest
    ≡ session_text s (length front + 1) ops ++ later =
    append_assoc (session_text s (length front + 1) ops) (sessions_text s (length front + 1 + 1) left) rest in
    let k : n + lines_in (ops ∷ left) ≡ n + 1 + length ops + lines_in left = omega (arith, sum_by-cons (λ (x : List Op). length x + 1) ops left) in
    let c : calls + calls_in (ops ∷ left) ≡ calls + length ops + calls_in left = omega (arith, sum_by-cons (λ (x : List Op). length x) ops left) in
    let moved : front ++ ops ∷ left ≡ (front ++ ops ∷ []) ++ left = sym (append_assoc front (ops ∷ []) left) in
    let more : ReadsTo (n + 1 + length ops) (calling sections.Calls s regions (front ++ ops ∷ []) (calls + length ops)) later script =
    subst (λ (m : ℕ). ReadsTo (n + 1 + length ops)
    (calling sections.Calls s regions (front ++ ops ∷ []) (calls + length ops))
    (sessions_text s m left ++ rest) script) number
    (sessions_left left (n + 1 + length ops) sections.Calls s regions (front ++ ops ∷ [])
    (calls + length ops) rest script (inr refl) is all (left_after s front ops left calls are)
    (λ last may. subst (λ (m : ℕ). ReadsTo m (calling last s regions ((front ++ ops ∷ []) ++ left) (calls + length ops + calls_in left)) rest script) k
    (subst (λ (m : ℕ). ReadsTo (n + lines_in (ops ∷ left)) (calling last s regions ((front ++ ops ∷ []) ++ left) m) rest script) c
    (subst (λ (xs : List (List Op)). ReadsTo (n + lines_in (ops ∷ left))
    (calling last s regions xs (calls + calls_in (ops ∷ left))) rest script) moved (next last may))))) in
    subst (λ (x : List ℕ). ReadsTo n (calling at s regions front calls) x script) (sym text)
    (session_reads n at s regions front calls ops later script here (omega (arith, few))
    (calls_read ops (n + 1) s regions front [] calls later script is all
    (All-head (λ (x : List Op). All (Fits s) x) ops left are.fits)
    (All-head (λ (x : List Op). All CallIsSayable x) ops left are.said) (room_for s front ops left calls are) more))

-- ---- the steps

steps_toks : (n : ℕ) (at : Section) (s : Space) (regions : ℕ) (sessions : List (List Op)) (calls : ℕ) → MayCall at
    → line_of_toks n (calling at s regions sessions calls) (Word (codes "steps") ∷ []) ≡ Ok (stepping s regions sessions calls [])
unfolding command steps_line
steps_toks n at s regions sessions calls (inl e) = rw e refl
steps_toks n at s regions sessions calls (inr e) = rw e refl

nothing_left : (n : ℕ) (at : Section) (s : Space) (regions : ℕ) (sessions : List (List Op)) (calls : ℕ) → MayCall at
    → ReadsTo n (calling at s regions sessions calls) [] (with_steps s sessions [])
unfolding read_lines
nothing_left n at s regions sessions calls (inl e) = record { reads = rw e refl }
nothing_left n at s regions sessions calls (inr e) = record { reads = rw e refl }

steps_section : (steps : List (ℕ × Step)) (n : ℕ) (at : Section) (s : Space) (regions : ℕ) (sessions : List (List Op))
    (calls : ℕ) → MayCall at → s.servers ≤ MOST_SERVERS → length sessions ≤ MOST_SESSIONS
    → All (λ (x : ℕ × Step). StepIsSayable s.servers (length sessions) x.1) steps → length steps ≤ MOST_STEPS
    → ReadsTo n (calling at s regions sessions calls) (steps_text steps) (with_steps s sessions (on_lines_from (n + 1 + 1) steps))
unfolding steps_text
steps_section [] n at s regions sessions calls here f g all few = nothing_left n at s regions sessions calls here
steps_section (x ∷ steps) n at s regions sessions calls here f g all few =
    let text : codes "steps\n" ++ flat_map line_text (x ∷ steps) ≡ (codes "steps" ++ []) ++ 10 ∷ flat_map line_text (x ∷ steps) = refl in
    line_reads n (calling at s regions sessions calls) (stepping s regions sessions calls [])
    (codes "steps\n" ++ flat_map line_text (x ∷ steps)) (codes "steps" ++ []) (flat_map line_text (x ∷ steps))
    (Word (codes "steps") ∷ []) (with_steps s sessions (on_lines_from (n + 1 + 1) (x ∷ steps)))
    text (word_says (codes "steps") [] [] (record { letter = refl; parts = refl }) refl nil_says) (steps_toks (n + 1) at s regions sessions calls here)
    (steps_read (x ∷ steps) (n + 1) s regions sessions calls [] f g all (omega (arith, few)))

-- the sessions of a script, and its steps
pub sections_read : (n : ℕ) (s : Space) (regions : ℕ) (sessions : List (List Op)) (steps : List (ℕ × Step))
    → IsSpace s → regions ≡ region_count s → length sessions ≤ MOST_SESSIONS → calls_in sessions ≤ MOST_CALLS
    → All (λ (ops : List Op). All (Fits s) ops) sessions → All (λ (ops : List Op). All CallIsSayable ops) sessions
    → All (λ (x : ℕ × Step). StepIsSayable s.servers (length sessions) x.1) steps → length steps ≤ MOST_STEPS
    → ReadsTo n (calling sections.Sessions s regions [] 0) (sessions_text s 1 sessions ++ steps_text steps)
    (with_steps s sessions (on_lines_from (n + lines_in sessions + 1 + 1) steps))
sections_read n s regions sessions steps is all few few_calls fits said steps_said few_steps =
    sessions_left sessions n sections.Sessions s regions [] 0 (steps_text steps)
    (with_steps s sessions (on_lines_from (n + lines_in sessions + 1 + 1) steps)) (inl refl) is all
    (record { few = omega (arith, few); few_calls = omega (arith, few_calls); fits = fits; said = said })
    (λ last may. steps_section steps (n + lines_in sessions) last s regions sessions (0 + calls_in sessions) may is.servers.1 few steps_said few_steps)
