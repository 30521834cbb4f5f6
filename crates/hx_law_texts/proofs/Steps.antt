-- The lines of steps are read again.
use Rattle.hx_law_texts.proofs.Vocabulary.{[], Actor, All, All-head, All-tail, and_left, and_right, append-nil, append_assoc, arith, begins_with, Bool, codes}
use Rattle.hx_law_texts.proofs.Vocabulary.{Coordinator, decimal, decimal_nonempty, Deliver, eqb, false, flat_map, flat_map-cons, get_or, Halt, int_le}
use Rattle.hx_law_texts.proofs.Vocabulary.{is_decimal, is_digit, is_lower, is_word_part, IsActorOf, IsPostName, IsWord, le-leb, leb, leb-true, length}
use Rattle.hx_law_texts.proofs.Vocabulary.{length-append, line_of_toks, List, list_all, lt-ltb, MOST_SERVERS, MOST_SESSIONS, MOST_STEPS, ne_eqb, Number, Ok}
use Rattle.hx_law_texts.proofs.Vocabulary.{on_lines_from, Op, pos, PostId, refl, Script, Server, Session, Sign, Space, Step, StepIsSayable, subst, sym, Tick}
use Rattle.hx_law_texts.proofs.Vocabulary.{Tok, true, Word, ℕ, ◌++◌, ◌+◌, ◌<◌, ◌==◌, ◌^◌, ◌||◌, ◌∷◌, ◌≡◌, ◌≤◌}
use Rattle.std.proofs.lemmas.Fmt.{first_decimal}
use Rattle.hx_print.specs.Printing.{actor_text, post_name, step_text, step_line as line_text}
use Rattle.hx_script.specs.Actors.{actor}
use Rattle.hx_script.specs.Calls.{deliver, tick, halt}
use Rattle.hx_script.specs.Grammar.{command, step_line}
use Rattle.hx_script.specs.Readers.{natural, number_in}
use Rattle.hx_script.specs.Texts.{read_lines}
use Rattle.hx_law_texts.proofs.Drafts.{stepping}
use Rattle.hx_law_texts.proofs.Numbers.{number_says, decimal_digits, decimal_value}
use Rattle.hx_law_texts.proofs.Reading.{ReadsTo, line_reads}
use Rattle.hx_law_texts.proofs.Says.{Says, nil_says, word_says, word_and_blank, dot_says}

-- ---- actors

no_leading_zero : (ds : List ℕ) → list_all is_digit ds ≡ true → 0 < length ds → 48 < get_or ds 0 0 → is_decimal ds ≡ true
no_leading_zero [] all some high = absurd (omega arith)
no_leading_zero (b ∷ bs) all some high = rw (all, le-leb 49 b (omega (arith, high))) refl

-- a number from 1 is printed as an actor wants it
numbered_plainly : (n : ℕ) → 0 < n → n < 2 ^ 64 → is_decimal (decimal n) ≡ true
numbered_plainly n low small = no_leading_zero (decimal n) (decimal_digits n small) (decimal_nonempty n small) (first_decimal n low small)

digit_is_part : (b : ℕ) → is_digit b ≡ true → is_word_part b ≡ true
digit_is_part b h = either (is_lower b) (is_digit b) (b == 95) h
  where
    either : (p q r : Bool) → q ≡ true → (p || q || r) ≡ true
    either true q r h = refl
    either false true r h = refl
    either false false r h = absurd cc

digits_are_parts : (ds : List ℕ) → list_all is_digit ds ≡ true → list_all is_word_part ds ≡ true
digits_are_parts [] all = refl
digits_are_parts (b ∷ bs) all = rw (digit_is_part b (and_left (is_digit b) (list_all is_digit bs) all))
    (digits_are_parts bs (and_right (is_digit b) (list_all is_digit bs) all))

letter_and_digits : (b n : ℕ) → is_lower b ≡ true → is_word_part b ≡ true → n < 2 ^ 64 → IsWord (b ∷ decimal n)
letter_and_digits b n letter part small = record { letter = letter; parts = rw part (digits_are_parts (decimal n) (decimal_digits n small)) }

few : (most n : ℕ) → most ≤ 16 → n ≤ most → n < 2 ^ 63
few most n high le = omega arith

pub small_too : (n : ℕ) → n < 2 ^ 63 → n < 2 ^ 64
small_too n lt = omega arith

pub actor_is_word : (servers sessions : ℕ) (a : Actor) → servers ≤ MOST_SERVERS → sessions ≤ MOST_SESSIONS
    → IsActorOf servers sessions a → IsWord (actor_text a)
unfolding actor_text
actor_is_word servers sessions Coordinator f g is = record { letter = refl; parts = refl }
actor_is_word servers sessions (Server s) f g is = letter_and_digits 115 s.0 refl refl (small_too s.0 (few servers s.0 f is.1))
actor_is_word servers sessions (Session u) f g is = letter_and_digits 117 u.0 refl refl (small_too u.0 (few sessions u.0 g is.1))

actor_again : (servers sessions : ℕ) (a : Actor) (ts : List Tok) → servers ≤ MOST_SERVERS → sessions ≤ MOST_SESSIONS
    → IsActorOf servers sessions a → actor servers sessions (Word (actor_text a) ∷ ts) ≡ Ok (a, ts)
unfolding actor actor_text
actor_again servers sessions Coordinator ts f g is = refl
actor_again servers sessions (Server s) ts f g is =
    let small = small_too s.0 (few servers s.0 f is.1) in
    rw (numbered_plainly s.0 is.0 small, decimal_value s.0 small, le-leb 1 s.0 is.0, le-leb s.0 servers is.1) refl
actor_again servers sessions (Session u) ts f g is =
    let small = small_too u.0 (few sessions u.0 g is.1) in
    rw (numbered_plainly u.0 is.0 small, decimal_value u.0 small, le-leb 1 u.0 is.0, le-leb u.0 sessions is.1) refl

-- ---- what a step says

abbrev step_toks : Step → List Tok
step_toks (Deliver id) = Word (codes "deliver") ∷ Number (pos id.entry) ∷ Sign (codes ".") ∷ Number (pos id.place) ∷ []
step_toks (Tick a) = Word (codes "tick") ∷ Word (actor_text a) ∷ []
step_toks (Halt a) = Word (codes "halt") ∷ Word (actor_text a) ∷ []

pub no_dot : (ds : List ℕ) → list_all is_digit ds ≡ true → begins_with (eqb 46) (ds ++ []) ≡ false
no_dot [] all = refl
no_dot (b ∷ bs) all = ne_eqb 46 b (λ e. omega (arith, leb-true 48 b (and_left (leb 48 b) (leb b 57) (and_left (is_digit b) (list_all is_digit bs) all)), e))

deliver_parts : (k e d p : List ℕ) → (k ++ (e ++ d ++ p)) ++ [] ≡ k ++ (e ++ (d ++ (p ++ [])))
deliver_parts k e d p = simp append_assoc

deliver_says : (id : PostId) → IsPostName id → Says (step_toks (Deliver id)) ((codes "deliver " ++ post_name id) ++ [])
unfolding post_name
deliver_says id is =
    let place : id.place < 2 ^ 63 = in_range id.place is.place in
    let tail : List ℕ = decimal id.place ++ [] in
    subst (λ (x : List ℕ). Says (step_toks (Deliver id)) x) (sym (deliver_parts (codes "deliver ") (decimal id.entry) (codes ".") (decimal id.place)))
    (word_and_blank (codes "deliver") (Number (pos id.entry) ∷ Sign (codes ".") ∷ Number (pos id.place) ∷ [])
    (decimal id.entry ++ (46 ∷ tail)) (record { letter = refl; parts = refl })
    (number_says id.entry (Sign (codes ".") ∷ Number (pos id.place) ∷ []) (46 ∷ tail) is.entry refl
    (dot_says (Number (pos id.place) ∷ []) tail (no_dot (decimal id.place)
    (decimal_digits id.place (small_too id.place place))) (number_says id.place [] [] place refl nil_says))))
  where
    in_range : (n : ℕ) → n < 2 ^ 32 → n < 2 ^ 63
    in_range n lt = omega arith

step_says : (servers sessions : ℕ) (x : Step) → servers ≤ MOST_SERVERS → sessions ≤ MOST_SESSIONS
    → StepIsSayable servers sessions x → Says (step_toks x) (step_text x ++ [])
unfolding step_text
step_says servers sessions (Deliver id) f g is = deliver_says id is
step_says servers sessions (Tick a) f g is = word_and_blank (codes "tick") (Word (actor_text a) ∷ [])
    (actor_text a ++ []) (record { letter = refl; parts = refl })
    (word_says (actor_text a) [] [] (actor_is_word servers sessions a f g is) refl nil_says)
step_says servers sessions (Halt a) f g is = word_and_blank (codes "halt") (Word (actor_text a) ∷ [])
    (actor_text a ++ []) (record { letter = refl; parts = refl })
    (word_says (actor_text a) [] [] (actor_is_word servers sessions a f g is) refl nil_says)

-- ---- it is read

pub deliver_again : (id : PostId) → IsPostName id → deliver (Number (pos id.entry) ∷ Sign (codes ".") ∷ Number (pos id.place) ∷ []) ≡ Ok (Deliver id, [])
unfolding deliver natural number_in
deliver_again id is = rw (natural_is id.entry, le-leb 0 id.place (omega arith), le-leb id.place 4294967295 (below id.place is.place)) refl
  where
    natural_is : (n : ℕ) → int_le (pos 0) (pos n) ≡ true
    natural_is n = le-leb 0 n (omega arith)

    below : (n : ℕ) → n < 2 ^ 32 → n ≤ 4294967295
    below n lt = omega arith

pub tick_again : (servers sessions : ℕ) (a : Actor) → servers ≤ MOST_SERVERS → sessions ≤ MOST_SESSIONS → IsActorOf servers sessions a
    → tick servers sessions (Word (actor_text a) ∷ []) ≡ Ok (Tick a, [])
unfolding tick
tick_again servers sessions a f g is = rw (actor_again servers sessions a [] f g is) refl

pub halt_again : (servers sessions : ℕ) (a : Actor) → servers ≤ MOST_SERVERS → sessions ≤ MOST_SESSIONS → IsActorOf servers sessions a
    → halt servers sessions (Word (actor_text a) ∷ []) ≡ Ok (Halt a, [])
unfolding halt
halt_again servers sessions a f g is = rw (actor_again servers sessions a [] f g is) refl

step_again : (n : ℕ) (s : Space) (regions : ℕ) (sessions : List (List Op)) (calls : ℕ) (front : List (ℕ × Step))
    (x : Step) → s.servers ≤ MOST_SERVERS → length sessions ≤ MOST_SESSIONS → StepIsSayable s.servers (length sessions) x → length front < MOST_STEPS
    → line_of_toks n (stepping s regions sessions calls front) (step_toks x) ≡ Ok (stepping s regions sessions calls (front ++ (n, x) ∷ []))
unfolding command step_line
step_again n s regions sessions calls front (Deliver id) f g is room = rw (lt-ltb (length front) MOST_STEPS room, deliver_again id is) refl
step_again n s regions sessions calls front (Tick a) f g is room =
    rw (lt-ltb (length front) MOST_STEPS room, tick_again s.servers (length sessions) a f g is) refl
step_again n s regions sessions calls front (Halt a) f g is room =
    rw (lt-ltb (length front) MOST_STEPS room, halt_again s.servers (length sessions) a f g is) refl

-- ---- all steps

abbrev pub with_steps : Space → List (List Op) → List (ℕ × Step) → Script
with_steps s sessions steps = record { space = s; sessions = sessions; steps = steps }

pub line_parts : (o n r : List ℕ) → (o ++ n) ++ r ≡ (o ++ []) ++ (n ++ r)
line_parts o n r = simp (append_assoc, append-nil)

step_reads : (n : ℕ) (s : Space) (regions : ℕ) (sessions : List (List Op)) (calls : ℕ) (front : List (ℕ × Step))
    (x : ℕ × Step) (rest : List ℕ) (script : Script) → s.servers ≤ MOST_SERVERS → length sessions ≤ MOST_SESSIONS
    → StepIsSayable s.servers (length sessions) x.1 → length front < MOST_STEPS
    → ReadsTo (n + 1) (stepping s regions sessions calls (front ++ (n + 1, x.1) ∷ [])) rest script
    → ReadsTo n (stepping s regions sessions calls front) (line_text x ++ rest) script
unfolding line_text
step_reads n s regions sessions calls front x rest script f g is room next =
    line_reads n (stepping s regions sessions calls front)
    (stepping s regions sessions calls (front ++ (n + 1, x.1) ∷ [])) (line_text x ++ rest)
    (step_text x.1 ++ []) rest (step_toks x.1) script
    (line_parts (step_text x.1) (codes "\n") rest) (step_says s.servers (length sessions) x.1 f g is)
    (step_again (n + 1) s regions sessions calls front x.1 f g is room) next

steps_end : (n : ℕ) (s : Space) (regions : ℕ) (sessions : List (List Op)) (calls : ℕ) (front : List (ℕ × Step))
    → ReadsTo n (stepping s regions sessions calls front) [] (with_steps s sessions front)
unfolding read_lines
steps_end n s regions sessions calls front = record { reads = refl }

pub steps_read : (left : List (ℕ × Step)) (n : ℕ) (s : Space) (regions : ℕ) (sessions : List (List Op)) (calls : ℕ)
    (front : List (ℕ × Step)) → s.servers ≤ MOST_SERVERS → length sessions ≤ MOST_SESSIONS
    → All (λ (x : ℕ × Step). StepIsSayable s.servers (length sessions) x.1) left → length front + length left ≤ MOST_STEPS
    → ReadsTo n (stepping s regions sessions calls front) (flat_map line_text left) (with_steps s sessions (front ++ on_lines_from (n + 1) left))
steps_read [] n s regions sessions calls front f g all few =
    subst (λ (xs : List (ℕ × Step)). ReadsTo n (stepping s regions sessions calls front) []
    (with_steps s sessions xs)) (sym (append-nil front)) (steps_end n s regions sessions calls front)
steps_read (x ∷ left) n s regions sessions calls front f g all few =
    let one : ℕ × Step = (n + 1, x.1) in
    let P : ℕ × Step → Type 0 = λ (y : ℕ × Step). StepIsSayable s.servers (length sessions) y.1 in
    let more : ReadsTo (n + 1) (stepping s regions sessions calls (front ++ one ∷ [])) (flat_map line_text left)
    (with_steps s sessions ((front ++ one ∷ []) ++ on_lines_from (n + 1 + 1) left)) =
    steps_read left (n + 1) s regions sessions calls (front ++ one ∷ []) f g (All-tail P x left all) (omega (arith, few, length-append front (one ∷ []))) in
    subst (λ (text : List ℕ). ReadsTo n (stepping s regions sessions calls front) text
    (with_steps s sessions (front ++ one ∷ on_lines_from (n + 1 + 1) left))) (sym (flat_map-cons line_text x left))
    (step_reads n s regions sessions calls front x (flat_map line_text left)
    (with_steps s sessions (front ++ one ∷ on_lines_from (n + 1 + 1) left)) f g (All-head P x left all) (omega (arith, few))
    (subst (λ (xs : List (ℕ × Step)). ReadsTo (n + 1) (stepping s regions sessions calls (front ++ one ∷ []))
    (flat_map line_text left) (with_steps s sessions xs))
    (append_assoc front (one ∷ []) (on_lines_from (n + 1 + 1) left)) more))
