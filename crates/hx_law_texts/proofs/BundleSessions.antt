-- The sessions of a bundle are read again, and its steps behind them.
use Rattle.hx_law_texts.proofs.Vocabulary.{[], All, All-cons, All-head, All-map, All-nil, All-tail, All-weaker, all_at, AllZip, ap, append-nil, append_assoc}
use Rattle.hx_law_texts.proofs.Vocabulary.{AreDealt, arith, Bundle, bundle_line_of_toks, BundleDraft, BundleSection, CallIsSayable, codes, decimal, Draft, Fits}
use Rattle.hx_law_texts.proofs.Vocabulary.{have_keys, IfSome, inl, inr, IsSpace, le-leb, length, length-append, length-map, List, lt-ltb, map, MOST_CALLS}
use Rattle.hx_law_texts.proofs.Vocabulary.{MOST_SESSIONS, NamesDiffer, None, Number, Ok, Op, Option, placed_all, pos, refl, same_Some, Script, script_so_far}
use Rattle.hx_law_texts.proofs.Vocabulary.{slice_get, Some, subst, suc, sum_by, sum_by-cons, sym, take, times, true, with_session, Word, zero, ℕ, ◌++◌, ◌+◌}
use Rattle.hx_law_texts.proofs.Vocabulary.{◌<◌, ◌∙◌, ◌∷◌, ◌≡◌, ◌≤◌, ◌⊎◌}
use Rattle.std.proofs.Common.{add-one}
use Rattle.hx_types.specs.Fitting.{calls_of}
use Rattle.hx_types.specs.Words.{when_some}
use Rattle.hx_print.specs.BundlePrinting.{bundle_session_text, bundle_sessions_text, hands_of, turns_text}
use Rattle.hx_script.specs.declared.bundle_draft.BundleSection.TheVariants as stages
use Rattle.hx_script.specs.BundleGrammar.{behind_keys, bundle_command, next_session_line}
use Rattle.hx_script.specs.Readers.{number_in}
use Rattle.hx_script.proofs.Lemmas.{placed_map}
use Rattle.hx_law_texts.proofs.BundleReading.{ReadsAll, all_line_reads}
use Rattle.hx_law_texts.proofs.BundleTurns.{Hand, IsPlayed, MayPlay, called, draft_of, hand_name, left_of, script_of_hand, turns_read}
use Rattle.hx_law_texts.proofs.Sections.{session_parts}
use Rattle.hx_law_texts.proofs.Heads.{word_number}

-- ---- the line of a session

abbrev pub at_calls : BundleSection → ℕ → ℕ → List Draft → List (List ℕ) → ℕ → BundleDraft
at_calls section servers tolerate spaces turns calls =
    record {
      section = section;
      servers = servers;
      tolerate = tolerate;
      spaces = spaces;
      turns = turns;
      calls = calls;
      steps = [];
    }

-- where a session may come
abbrev pub MayBegin : BundleSection → List Draft → Type 0
MayBegin at spaces = ((at ≡ stages.Spaces) × (have_keys spaces ≡ true)) ⊎ (at ≡ stages.Calls)

session_toks : (n : ℕ) (at : BundleSection) (servers tolerate : ℕ) (spaces : List Draft) (turns : List (List ℕ))
    (calls : ℕ) → MayBegin at spaces → length turns < MOST_SESSIONS
    → bundle_line_of_toks n (at_calls at servers tolerate spaces turns calls)
    (Word (codes "session") ∷ Number (pos (length turns + 1)) ∷ [])
    ≡ Ok (at_calls stages.Calls servers tolerate (map with_session spaces) (turns ++ [] ∷ []) calls)
unfolding bundle_command behind_keys next_session_line number_in
session_toks n at servers tolerate spaces turns calls (inl e) room =
    rw (e.0, e.1, lt-ltb (length turns) MOST_SESSIONS room, le-leb (length turns + 1) (length turns + 1) (omega arith)) refl
session_toks n at servers tolerate spaces turns calls (inr e) room =
    rw (e, lt-ltb (length turns) MOST_SESSIONS room, le-leb (length turns + 1) (length turns + 1) (omega arith)) refl

session_reads : (n : ℕ) (at : BundleSection) (servers tolerate : ℕ) (scripts : List Script) (spaces : List Draft)
    (before : List (List ℕ)) (turns : List ℕ) (calls : ℕ) (rest : List ℕ) (a : Bundle) → MayBegin at spaces → length before < MOST_SESSIONS
    → ReadsAll (n + 1) (at_calls stages.Calls servers tolerate (map with_session spaces) (before ++ [] ∷ []) calls)
    (turns_text scripts (hands_of scripts (length before + 1)) turns ++ rest) a
    → ReadsAll n (at_calls at servers tolerate spaces before calls) (bundle_session_text scripts (length before + 1) turns ++ rest) a
unfolding bundle_session_text
session_reads n at servers tolerate scripts spaces before turns calls rest a here room next =
    let number : ℕ = length before + 1 in
    let text : List ℕ = turns_text scripts (hands_of scripts number) turns in
    all_line_reads n (at_calls at servers tolerate spaces before calls)
    (at_calls stages.Calls servers tolerate (map with_session spaces) (before ++ [] ∷ []) calls)
    (bundle_session_text scripts number turns ++ rest) (codes "session" ++ (32 ∷ (decimal number ++ []))) (text ++ rest)
    (Word (codes "session") ∷ Number (pos number) ∷ []) a
    (session_parts (codes "session ") (decimal number) (codes "\n") text rest)
    (word_number (codes "session") number (record { letter = refl; parts = refl }) (omega (arith, room)))
    (session_toks (n + 1) at servers tolerate spaces before calls here room) next

-- ---- a space between sessions

-- a script, its sessions that were read, and how many calls they make
pub record Seat : Type 0 where
  pub script : Script
  pub read : List (List Op)
  pub count : ℕ

-- its hand where the session of that number begins
abbrev pub hand_of : ℕ → Seat → Hand
hand_of number seat = record { script = seat.script; front = seat.read; done = []; left = calls_of seat.script (record { 0 = number }); count = seat.count }

-- its seat where a session was read
abbrev pub seat_of : Hand → Seat
seat_of h = record { script = h.script; read = h.front ++ h.done ∷ []; count = h.count }

-- its script, as far as its sessions were read
abbrev pub read_so_far : Seat → Script
read_so_far seat = record { space = seat.script.space; sessions = seat.read; steps = [] }

-- what holds between sessions, of which so many were read: the drafts of the spaces, where one more session is
-- begun, are those of the hands that begin it
pub record AreSeated (spaces : List Draft) (seats : List Seat) (number : ℕ) (calls : ℕ) : Type 0 where
  pub drafts : map with_session spaces ≡ map draft_of (map (hand_of (number + 1)) seats)
  pub scripts : map script_so_far spaces ≡ map read_so_far seats
  pub read : All (λ (s : Seat). s.read ≡ take number s.script.sessions) seats
  pub counts : All (λ (s : Seat). s.count ≤ calls) seats

drafts_again : (number : ℕ) (hands : List Hand) → map with_session (map draft_of hands) ≡ map draft_of (map (hand_of number) (map seat_of hands))
drafts_again number [] = refl
drafts_again number (h ∷ hands) = ap (λ (l : List Draft). draft_of (hand_of number (seat_of h)) ∷ l) (drafts_again number hands)

scripts_again : (hands : List Hand) → map script_so_far (map draft_of hands) ≡ map read_so_far (map seat_of hands)
scripts_again [] = refl
scripts_again (h ∷ hands) = ap (λ (l : List Script). read_so_far (seat_of h) ∷ l) (scripts_again hands)

hands_are : (number : ℕ) (seats : List Seat) → map left_of (map (hand_of number) seats) ≡ hands_of (map (λ (s : Seat). s.script) seats) number
hands_are number [] = refl
hands_are number (s ∷ seats) = ap (λ (l : List (List Op)). calls_of s.script (record { 0 = number }) ∷ l) (hands_are number seats)

-- ---- the calls of a session

calls_at : (s : Script) (u : ℕ) (ops : List Op) → slice_get s.sessions u ≡ Some ops → calls_of s (record { 0 = u + 1 }) ≡ ops
calls_at s u ops at = rw (add-one u, at) refl

-- how many lines the sessions take, and how many calls they make
abbrev pub lines_in : List (List ℕ) → ℕ
lines_in sessions = sum_by (λ (turns : List ℕ). length turns + 1) sessions

abbrev pub calls_in : List (List ℕ) → ℕ
calls_in sessions = sum_by (λ (turns : List ℕ). length turns) sessions

-- the sessions that are left, of these spaces, behind so many that were read
pub record AreLeft (scripts : List Script) (before left : List (List ℕ)) (calls : ℕ) : Type 0 where
  pub few : length before + length left ≤ MOST_SESSIONS
  pub few_calls : calls + calls_in left ≤ MOST_CALLS
  pub names : NamesDiffer (map (λ (s : Script). s.space.name) scripts)
  pub spaces : All (λ (s : Script). IsSpace s.space) scripts
  pub fits : All (λ (s : Script). All (λ (ops : List Op). All (Fits s.space) ops) s.sessions) scripts
  pub said : All (λ (s : Script). All (λ (ops : List Op). All CallIsSayable ops) s.sessions) scripts
  pub dealt : (k : ℕ) → IfSome (slice_get scripts k) (λ (s : Script). AllZip (AreDealt k) s.sessions (before ++ left))
  pub within : All (λ (turns : List ℕ). All (λ (k : ℕ). k < length scripts) turns) left

left_after : (scripts : List Script) (before : List (List ℕ)) (turns : List ℕ) (left : List (List ℕ)) (calls : ℕ)
    → AreLeft scripts before (turns ∷ left) calls → AreLeft scripts (before ++ turns ∷ []) left (calls + length turns)
left_after scripts before turns left calls are =
    let few : length before + length (turns ∷ left) ≤ MOST_SESSIONS = are.few in
    let few_calls : calls + calls_in (turns ∷ left) ≤ MOST_CALLS = are.few_calls in
    let moved : (before ++ turns ∷ []) ++ left ≡ before ++ turns ∷ left = append_assoc before (turns ∷ []) left in
    record {
      few = omega (arith, few, length-append before (turns ∷ []));
      few_calls = omega (arith, few_calls, sum_by-cons (λ (x : List ℕ). length x) turns left);
      names = are.names;
      spaces = are.spaces;
      fits = are.fits;
      said = are.said;
      dealt = λ k. subst (λ (l : List (List ℕ)). IfSome (slice_get scripts k) (λ (s : Script). AllZip (AreDealt k) s.sessions l)) (sym moved) (are.dealt k);
      within = All-tail (λ (x : List ℕ). All (λ (k : ℕ). k < length scripts) x) turns left are.within;
    }

-- ---- from spaces to seats, and back

unmapped : {A B : Type 0} (P : B → Type 0) (f : A → B) (xs : List A) → All P (map f xs) → All (λ x. P (f x)) xs
unmapped P f [] all = All-nil (λ x. P (f x))
unmapped P f (x ∷ xs) all = All-cons (λ y. P (f y)) x xs (All-head P (f x) (map f xs) all) (unmapped P f xs (All-tail P (f x) (map f xs) all))

pub of_seats : (P : Script → Type 0) (scripts : List Script) (seats : List Seat)
    → map (λ (s : Seat). s.script) seats ≡ scripts → All P scripts → All (λ (s : Seat). P s.script) seats
of_seats P scripts seats are all = unmapped P (λ (s : Seat). s.script) seats (subst (All P) (sym are) all)

placed_unmap : {A B : Type 0} (f : A → B) (P : ℕ → B → Type 0) (xs : List A)
    → ((k : ℕ) → IfSome (slice_get (map f xs) k) (P k)) → (k : ℕ) → IfSome (slice_get xs k) (λ x. P k (f x))
placed_unmap f P [] h k = tt
placed_unmap f P (x ∷ xs) h zero = h zero
placed_unmap f P (x ∷ xs) h (suc k) = placed_unmap f (λ j. P (suc j)) xs (λ j. h (suc j)) k

-- the calls of a session have what those of all sessions have
calls_have : (Q : Op → Type 0) (s : Script) (u : ℕ) → All (λ (ops : List Op). All Q ops) s.sessions → All Q (calls_of s (record { 0 = u + 1 }))
calls_have Q s u all = rw (add-one u) (by (slice_get s.sessions u) refl)
  where
    by : (o : Option (List Op)) → slice_get s.sessions u ≡ o → All Q (when_some o [] (λ (calls : List Op). calls))
    by None e = All-nil Q
    by (Some ops) e = all_at (λ (x : List Op). All Q x) s.sessions u ops all e

record IsSession (k : ℕ) (sessions : List (List Op)) (u : ℕ) (turns : List ℕ) : Type 0 where
  pub ops : List Op
  pub here : slice_get sessions u ≡ Some ops
  pub long : length ops ≡ times k turns

dealt_at : (k : ℕ) (sessions : List (List Op)) (before : List (List ℕ)) (turns : List ℕ) (left : List (List ℕ))
    → AllZip (AreDealt k) sessions (before ++ turns ∷ left) → IsSession k sessions (length before) turns
dealt_at k [] [] turns left h = absurd h
dealt_at k (ops ∷ sessions) [] turns left h = record { ops = ops; here = refl; long = h.0 }
dealt_at k [] (b ∷ before) turns left h = absurd h
dealt_at k (ops ∷ sessions) (b ∷ before) turns left h = let x = dealt_at k sessions before turns left h.1 in
    record { ops = x.ops; here = x.here; long = x.long }

hand_names : (number : ℕ) (seats : List Seat) → map hand_name (map (hand_of number) seats)
    ≡ map (λ (s : Script). s.space.name) (map (λ (s : Seat). s.script) seats)
hand_names number [] = refl
hand_names number (s ∷ seats) = ap (λ (l : List (List ℕ)). s.script.space.name ∷ l) (hand_names number seats)

hand_scripts : (number : ℕ) (seats : List Seat) → map script_of_hand (map (hand_of number) seats) ≡ map (λ (s : Seat). s.script) seats
hand_scripts number [] = refl
hand_scripts number (s ∷ seats) = ap (λ (l : List Script). s.script ∷ l) (hand_scripts number seats)

seat_scripts : (hands : List Hand) → map (λ (s : Seat). s.script) (map seat_of hands) ≡ map script_of_hand hands
seat_scripts [] = refl
seat_scripts (h ∷ hands) = ap (λ (l : List Script). h.script ∷ l) (seat_scripts hands)

-- ---- a session

-- it may be played by the hands that begin it: each turn has a call left
may_play : (scripts : List Script) (seats : List Seat) (before : List (List ℕ)) (turns : List ℕ)
    (left : List (List ℕ)) (calls : ℕ) → map (λ (s : Seat). s.script) seats ≡ scripts
    → All (λ (s : Seat). s.count ≤ calls) seats → AreLeft scripts before (turns ∷ left) calls
    → MayPlay (map (hand_of (length before + 1)) seats) turns calls
may_play scripts seats before turns left calls are counts of =
    let u : ℕ = length before in
    let begin : Seat → Hand = hand_of (u + 1) in
    let few_calls : calls + calls_in (turns ∷ left) ≤ MOST_CALLS = of.few_calls in
    let long : length (map begin seats) ≡ length scripts =
    length-map seats begin ∙ sym (length-map seats (λ (s : Seat). s.script)) ∙ ap (λ (l : List Script). length l) are in
    let fits : All (λ (s : Seat). All (λ (ops : List Op). All (Fits s.script.space) ops) s.script.sessions) seats =
    of_seats (λ (s : Script). All (λ (ops : List Op). All (Fits s.space) ops) s.sessions) scripts seats are of.fits in
    let said : All (λ (s : Seat). All (λ (ops : List Op). All CallIsSayable ops) s.script.sessions) seats =
    of_seats (λ (s : Script). All (λ (ops : List Op). All CallIsSayable ops) s.sessions) scripts seats are of.said in
    let dealt : (k : ℕ) → IfSome (slice_get seats k) (λ (s : Seat). AllZip (AreDealt k) s.script.sessions (before ++ turns ∷ left)) =
    placed_unmap (λ (s : Seat). s.script) (λ k s. AllZip (AreDealt k) s.sessions (before ++ turns ∷ left)) seats
    (λ k. subst (λ (l : List Script). IfSome (slice_get l k)
    (λ (s : Script). AllZip (AreDealt k) s.sessions (before ++ turns ∷ left))) (sym are) (of.dealt k)) in
    record {
      few = omega (arith, few_calls, sum_by-cons (λ (x : List ℕ). length x) turns left);
      counts = All-map (λ (h : Hand). h.count ≤ calls) begin seats counts;
      names = subst NamesDiffer (sym (hand_names (u + 1) seats ∙ ap (λ (l : List Script). map (λ (s : Script). s.space.name) l) are)) of.names;
      spaces = All-map (λ (h : Hand). IsSpace h.script.space) begin seats (of_seats (λ (s : Script). IsSpace s.space) scripts seats are of.spaces);
      fits = All-map (λ (h : Hand). All (Fits h.script.space) h.left) begin seats
          (All-weaker (λ (s : Seat). All (λ (ops : List Op). All (Fits s.script.space) ops) s.script.sessions)
          (λ (s : Seat). All (Fits s.script.space) (calls_of s.script (record { 0 = u + 1 })))
          (λ s h. calls_have (Fits s.script.space) s.script u h) seats fits);
      said = All-map (λ (h : Hand). All CallIsSayable h.left) begin seats
          (All-weaker (λ (s : Seat). All (λ (ops : List Op). All CallIsSayable ops) s.script.sessions)
          (λ (s : Seat). All CallIsSayable (calls_of s.script (record { 0 = u + 1 })))
          (λ s h. calls_have CallIsSayable s.script u h) seats said);
      dealt = placed_map begin (λ k s. AllZip (AreDealt k) s.script.sessions (before ++ turns ∷ left))
          (λ k h. length h.left ≡ times k turns) seats dealt
          (λ k s h. let x = dealt_at k s.script.sessions before turns left h in
          ap (λ (l : List Op). length l) (calls_at s.script u x.ops x.here) ∙ x.long);
      within = subst (λ m. All (λ (k : ℕ). k < m) turns) (sym long) (All-head (λ (x : List ℕ). All (λ (k : ℕ). k < length scripts) x) turns left of.within);
    }

take_next : {A : Type 0} (xs : List A) (u : ℕ) (x : A) → slice_get xs u ≡ Some x → take u xs ++ x ∷ [] ≡ take (suc u) xs
take_next [] u x e = absurd cc
take_next (y ∷ xs) zero x e = ap (λ z. z ∷ []) (sym (same_Some y x e))
take_next (y ∷ xs) (suc u) x e = ap (λ (l : List _). y ∷ l) (take_next xs u x e)

heads_are : {A : Type 0} (x y : A) (xs ys : List A) → x ∷ xs ≡ y ∷ ys → x ≡ y
heads_are x y xs ys e = cc

tails_are : {A : Type 0} (x y : A) (xs ys : List A) → x ∷ xs ≡ y ∷ ys → xs ≡ ys
tails_are x y xs ys e = cc

-- the session was read whole
one_read : (u : ℕ) (s : Seat) (h : Hand) (ops : List Op) → h.script ≡ s.script → h.front ≡ s.read
    → h.done ++ h.left ≡ calls_of s.script (record { 0 = u + 1 }) → h.left ≡ [] → s.read ≡ take u s.script.sessions
    → slice_get s.script.sessions u ≡ Some ops → h.front ++ h.done ∷ [] ≡ take (u + 1) h.script.sessions
one_read u s h ops script front calls none read here =
    let done : h.done ≡ ops = sym (append-nil h.done) ∙ ap (λ (l : List Op). h.done ++ l) (sym none) ∙ calls ∙ calls_at s.script u ops here in
    ap (λ (l : List (List Op)). l ++ h.done ∷ []) (front ∙ read)
    ∙ ap (λ (o : List Op). take u s.script.sessions ++ o ∷ []) done ∙ take_next s.script.sessions u ops here
    ∙ ap (λ (m : ℕ). take m s.script.sessions) (sym (add-one u)) ∙ ap (λ (x : Script). take (u + 1) x.sessions) (sym script)

all_read : (u : ℕ) (seats : List Seat) (after : List Hand)
    → map script_of_hand after ≡ map script_of_hand (map (hand_of (u + 1)) seats)
    → map (λ (h : Hand). h.front) after ≡ map (λ (h : Hand). h.front) (map (hand_of (u + 1)) seats)
    → map (λ (h : Hand). h.done ++ h.left) after ≡ map (λ (h : Hand). h.done ++ h.left) (map (hand_of (u + 1)) seats)
    → All (λ (h : Hand). h.left ≡ []) after → All (λ (s : Seat). s.read ≡ take u s.script.sessions) seats
    → All (λ (s : Seat). (ops : List Op) × (slice_get s.script.sessions u ≡ Some ops)) seats
    → All (λ (h : Hand). h.front ++ h.done ∷ [] ≡ take (u + 1) h.script.sessions) after
all_read u [] [] scripts fronts calls none read some = All-nil (λ (h : Hand). h.front ++ h.done ∷ [] ≡ take (u + 1) h.script.sessions)
all_read u [] (h ∷ after) scripts fronts calls none read some = absurd cc
all_read u (s ∷ seats) [] scripts fronts calls none read some = absurd cc
all_read u (s ∷ seats) (h ∷ after) scripts fronts calls none read some =
    let ops = All-head (λ (x : Seat). (o : List Op) × (slice_get x.script.sessions u ≡ Some o)) s seats some in
    let begun : List Hand = map (hand_of (u + 1)) seats in
    All-cons (λ (x : Hand). x.front ++ x.done ∷ [] ≡ take (u + 1) x.script.sessions) h after
    (one_read u s h ops.0 (heads_are h.script s.script (map script_of_hand after) (map script_of_hand begun) scripts)
    (heads_are h.front s.read (map (λ (x : Hand). x.front) after) (map (λ (x : Hand). x.front) begun) fronts)
    (heads_are (h.done ++ h.left) (calls_of s.script (record { 0 = u + 1 }))
    (map (λ (x : Hand). x.done ++ x.left) after) (map (λ (x : Hand). x.done ++ x.left) begun) calls)
    (All-head (λ (x : Hand). x.left ≡ []) h after none)
    (All-head (λ (x : Seat). x.read ≡ take u x.script.sessions) s seats read) ops.1)
    (all_read u seats after (tails_are h.script s.script (map script_of_hand after)
    (map script_of_hand begun) scripts) (tails_are h.front s.read (map (λ (x : Hand). x.front) after)
    (map (λ (x : Hand). x.front) begun) fronts)
    (tails_are (h.done ++ h.left) (calls_of s.script (record { 0 = u + 1 }))
    (map (λ (x : Hand). x.done ++ x.left) after) (map (λ (x : Hand). x.done ++ x.left) begun) calls)
    (All-tail (λ (x : Hand). x.left ≡ []) h after none)
    (All-tail (λ (x : Seat). x.read ≡ take u x.script.sessions) s seats read)
    (All-tail (λ (x : Seat). (o : List Op) × (slice_get x.script.sessions u ≡ Some o)) s seats some))

-- the seats behind the session: one session more was read of each script
seated_after : (scripts : List Script) (seats : List Seat) (before : List (List ℕ)) (turns : List ℕ)
    (left : List (List ℕ)) (calls : ℕ) (after : List Hand) → map (λ (s : Seat). s.script) seats ≡ scripts
    → All (λ (s : Seat). s.read ≡ take (length before) s.script.sessions) seats → AreLeft scripts before (turns ∷ left) calls
    → IsPlayed (map (hand_of (length before + 1)) seats) after
    → All (λ (h : Hand). h.count ≤ calls + length turns) after
    → AreSeated (map draft_of after) (map seat_of after) (length (before ++ turns ∷ [])) (calls + length turns)
seated_after scripts seats before turns left calls after are read of played counts =
    let u : ℕ = length before in
    let number : length (before ++ turns ∷ []) ≡ u + 1 = omega (arith, length-append before (turns ∷ [])) in
    let dealt : (k : ℕ) → IfSome (slice_get seats k) (λ (s : Seat). AllZip (AreDealt k) s.script.sessions (before ++ turns ∷ left)) =
    placed_unmap (λ (s : Seat). s.script) (λ k s. AllZip (AreDealt k) s.sessions (before ++ turns ∷ left)) seats
    (λ k. subst (λ (l : List Script). IfSome (slice_get l k)
    (λ (s : Script). AllZip (AreDealt k) s.sessions (before ++ turns ∷ left))) (sym are) (of.dealt k)) in
    let some : All (λ (s : Seat). (ops : List Op) × (slice_get s.script.sessions u ≡ Some ops)) seats =
    placed_all (λ k s. AllZip (AreDealt k) s.script.sessions (before ++ turns ∷ left)) seats
    (λ (s : Seat). (ops : List Op) × (slice_get s.script.sessions u ≡ Some ops))
    (λ k s h. let x = dealt_at k s.script.sessions before turns left h in (x.ops, x.here)) dealt in
    subst (λ (m : ℕ). AreSeated (map draft_of after) (map seat_of after) m (calls + length turns)) (sym number) (record {
      drafts = drafts_again (u + 1 + 1) after;
      scripts = scripts_again after;
      read = All-map (λ (s : Seat). s.read ≡ take (u + 1) s.script.sessions) seat_of after
          (all_read u seats after played.scripts played.fronts played.calls played.none_left read some);
      counts = All-map (λ (s : Seat). s.count ≤ calls + length turns) seat_of after counts;
    })

-- ---- all sessions

pub sessions_read : (left : List (List ℕ)) (n : ℕ) (at : BundleSection) (servers tolerate : ℕ) (scripts : List Script)
    (spaces : List Draft) (seats : List Seat) (before : List (List ℕ)) (calls : ℕ) (rest : List ℕ) (a : Bundle)
    → MayBegin at spaces → map (λ (s : Seat). s.script) seats ≡ scripts → AreSeated spaces seats (length before) calls
    → AreLeft scripts before left calls
    → ((last : BundleSection) (now : List Draft) (seats_now : List Seat) → MayBegin last now
    → map (λ (s : Seat). s.script) seats_now ≡ scripts
    → AreSeated now seats_now (length (before ++ left)) (calls + calls_in left)
    → ReadsAll (n + lines_in left) (at_calls last servers tolerate now (before ++ left) (calls + calls_in left)) rest a)
    → ReadsAll n (at_calls at servers tolerate spaces before calls) (bundle_sessions_text scripts (length before + 1) left ++ rest) a
unfolding bundle_sessions_text
sessions_read [] n at servers tolerate scripts spaces seats before calls rest a here are seated of next =
    let k : n + lines_in [] ≡ n = omega arith in
    let c : calls + calls_in [] ≡ calls = omega arith in
    let all : before ++ [] ≡ before = append-nil before in
    let seated_now : AreSeated spaces seats (length (before ++ [])) (calls + calls_in []) =
    subst (λ (m : ℕ). AreSeated spaces seats (length (before ++ [])) m) (sym c)
    (subst (λ (l : List (List ℕ)). AreSeated spaces seats (length l) calls) (sym all) seated) in
    subst (λ (m : ℕ). ReadsAll m (at_calls at servers tolerate spaces before calls) rest a) k
    (subst (λ (m : ℕ). ReadsAll (n + lines_in []) (at_calls at servers tolerate spaces before m) rest a) c
    (subst (λ (l : List (List ℕ)). ReadsAll (n + lines_in [])
    (at_calls at servers tolerate spaces l (calls + calls_in [])) rest a) all (next at spaces seats here are seated_now)))
sessions_read (turns ∷ left) n at servers tolerate scripts spaces seats before calls rest a here are seated of next =
    let u : ℕ = length before in
    let few : length before + length (turns ∷ left) ≤ MOST_SESSIONS = of.few in
    let hands : List Hand = map (hand_of (u + 1)) seats in
    let number : length (before ++ turns ∷ []) + 1 ≡ u + 1 + 1 = omega (arith, length-append before (turns ∷ [])) in
    let later : List ℕ = bundle_sessions_text scripts (u + 1 + 1) left ++ rest in
    let text : (bundle_session_text scripts (u + 1) turns ++ bundle_sessions_text scripts (u + 1 + 1) left) ++ rest
    ≡ bundle_session_text scripts (u + 1) turns ++ later =
    append_assoc (bundle_session_text scripts (u + 1) turns) (bundle_sessions_text scripts (u + 1 + 1) left) rest in
    let k : n + lines_in (turns ∷ left) ≡ n + 1 + length turns + lines_in left = omega (arith, sum_by-cons (λ (x : List ℕ). length x + 1) turns left) in
    let c : calls + calls_in (turns ∷ left) ≡ calls + length turns + calls_in left = omega (arith, sum_by-cons (λ (x : List ℕ). length x) turns left) in
    let moved : (before ++ turns ∷ []) ++ left ≡ before ++ turns ∷ left = append_assoc before (turns ∷ []) left in
    let those : map script_of_hand hands ≡ scripts = hand_scripts (u + 1) seats ∙ are in
    let hands_left : map left_of hands ≡ hands_of scripts (u + 1) = hands_are (u + 1) seats ∙ ap (λ (l : List Script). hands_of l (u + 1)) are in
    let played : ReadsAll (n + 1) (called servers tolerate hands before [] calls) (turns_text scripts (map left_of hands) turns ++ later) a =
    turns_read turns (n + 1) servers tolerate scripts hands before [] calls later a (may_play scripts seats before turns left calls are seated.counts of) those
    (λ after p counts.
    subst (λ (m : ℕ). ReadsAll (n + 1 + length turns)
    (at_calls stages.Calls servers tolerate (map draft_of after) (before ++ turns ∷ []) (calls + length turns))
    (bundle_sessions_text scripts m left ++ rest) a) number
    (sessions_read left (n + 1 + length turns) stages.Calls servers tolerate scripts (map draft_of after)
    (map seat_of after) (before ++ turns ∷ []) (calls + length turns) rest a (inr refl)
    (seat_scripts after ∙ p.scripts ∙ those) (seated_after scripts seats before turns left calls after are
    seated.read of p counts) (left_after scripts before turns left calls of)
    (λ last now seats_now may those_now seated_now.
    subst (λ (m : ℕ). ReadsAll m (at_calls last servers tolerate now ((before ++ turns ∷ []) ++ left) (calls + length turns + calls_in left)) rest a) k
    (subst (λ (m : ℕ). ReadsAll (n + lines_in (turns ∷ left)) (at_calls last servers tolerate now ((before ++ turns ∷ []) ++ left) m) rest a) c
    (subst (λ (l : List (List ℕ)). ReadsAll (n + lines_in (turns ∷ left))
    (at_calls last servers tolerate now l (calls + calls_in (turns ∷ left))) rest a) (sym moved)
    (next last now seats_now may those_now (subst (λ (m : ℕ). AreSeated now seats_now
    (length (before ++ turns ∷ left)) m) (sym c) (subst
    (λ (l : List (List ℕ)). AreSeated now seats_now (length l) (calls + length turns + calls_in left)) moved
    seated_now)))))))) in
    let of_drafts : ReadsAll (n + 1) (at_calls stages.Calls servers tolerate (map with_session spaces)
    (before ++ [] ∷ []) calls) (turns_text scripts (hands_of scripts (u + 1)) turns ++ later) a =
    subst (λ (l : List Draft). ReadsAll (n + 1) (at_calls stages.Calls servers tolerate l (before ++ [] ∷ []) calls)
    (turns_text scripts (hands_of scripts (u + 1)) turns ++ later) a) (sym seated.drafts)
    (subst (λ (l : List (List Op)). ReadsAll (n + 1) (called servers tolerate hands before [] calls)
    (turns_text scripts l turns ++ later) a) hands_left played) in
    subst (λ (x : List ℕ). ReadsAll n (at_calls at servers tolerate spaces before calls) x a) (sym text)
    (session_reads n at servers tolerate scripts spaces before turns calls later a here (omega (arith, few)) of_drafts)
