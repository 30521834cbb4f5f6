-- A whole bundle is read again.
use Rattle.hx_law_texts.proofs.Vocabulary.{[], All, All-head, All-map, All-tail, All-weaker, all_at, AllZip, ap, append_assoc, AreDealt, arith, Bundle}
use Rattle.hx_law_texts.proofs.Vocabulary.{bundle_of, bundle_steps_from, BundleStep, codes, Coordinator, decimal, decimal_digit, Deliver, Draft}
use Rattle.hx_law_texts.proofs.Vocabulary.{empty_bundle_draft, first_bundle_step_line, Fits, flat_map, Halt, if_some_at, inl, IsBundle, IsName, IsSayableBundle}
use Rattle.hx_law_texts.proofs.Vocabulary.{IsScript, IsSomeAnd, IsSpace, IsStepIn, IsUpTo, length, lines_of_space, List, lit<, map, MOST_SERVERS, MOST_SESSIONS}
use Rattle.hx_law_texts.proofs.Vocabulary.{MOST_SPACES, NamesDiffer, None, Number, Ok, on_printed_bundle_lines, Op, Option, option_map, own_lines, placed_all}
use Rattle.hx_law_texts.proofs.Vocabulary.{pos, PostIsSayable, refl, region_count, same_Some, Script, script_so_far, Server, Session, sizes_sum, slice_get}
use Rattle.hx_law_texts.proofs.Vocabulary.{slice_get-map, Some, some_here, Space, Step, StepIsSayable, subst, sum_by, sym, take, Tick, version_of, with_session}
use Rattle.hx_law_texts.proofs.Vocabulary.{Word, ℕ, ◌*◌, ◌++◌, ◌+◌, ◌<◌, ◌∙◌, ◌∷◌, ◌≡◌, ◌≤◌}
use Rattle.std.specs.Prelude.{slice_index_or}
use Rattle.std.proofs.lemmas.Option.{none-some}
use Rattle.hx_bundle.specs.Bundles.{AreAlike, HasStep}
use Rattle.hx_print.specs.Printing.{servers_line, tolerate_line}
use Rattle.hx_print.specs.BundlePrinting.{bundle_sessions_text, bundle_steps_text, bundle_text, shared_text, space_step_line}
use Rattle.hx_script.specs.declared.bundle_draft.BundleSection.TheVariants as stages
use Rattle.hx_script.specs.BundleTexts.{version_from, version_line}
use Rattle.hx_script.proofs.Lemmas.{dealt_long}
use Rattle.hx_script.specs.Readers.{number_in}
use Rattle.hx_law_texts.proofs.BundleReading.{ReadsAll, all_servers_read, all_tolerate_reads, at_spaces, second_hx_reads}
use Rattle.hx_law_texts.proofs.BundleSessions.{AreLeft, AreSeated, Seat, at_calls, calls_in, hand_of, lines_in, of_seats, read_so_far, sessions_read}
use Rattle.hx_law_texts.proofs.BundleTurns.{draft_of}
use Rattle.hx_law_texts.proofs.BundleSpaces.{IsSaid, all_keyed, spaces_read, whole}
use Rattle.hx_law_texts.proofs.BundleSteps.{IsToldStep, ended, name_of, steps_read}
use Rattle.hx_law_texts.proofs.Heads.{word_number}
use Rattle.hx_law_texts.proofs.Reading.{lines_cons}
use Rattle.hx_law_texts.proofs.Says.{Says, line_toks}

-- ---- it says that it is of several spaces

says_two : (rest : List ℕ) → version_of (codes "hx 2\n" ++ rest) ≡ Ok 2
unfolding version_from version_line number_in
says_two rest =
    let says : Says (Word (codes "hx") ∷ Number (pos 2) ∷ []) (codes "hx" ++ (32 ∷ (decimal 2 ++ []))) =
    word_number (codes "hx") 2 (record { letter = refl; parts = refl }) (omega arith) in
    let text : codes "hx 2\n" ++ rest ≡ (codes "hx" ++ (32 ∷ (decimal 2 ++ []))) ++ 10 ∷ rest =
    ap (λ (d : List ℕ). (codes "hx" ++ (32 ∷ (d ++ []))) ++ 10 ∷ rest) (sym (decimal_digit 2 (lit< tt))) in
    ap version_of text ∙ rw (
      lines_cons (codes "hx" ++ (32 ∷ (decimal 2 ++ []))) rest says.clean,
      line_toks (codes "hx" ++ (32 ∷ (decimal 2 ++ []))) (Word (codes "hx") ∷ Number (pos 2) ∷ []) says,
    ) refl

-- ---- what stands behind the head

-- the seats before the first session
abbrev first_seat : Script → Seat
first_seat s = record { script = s; read = []; count = 0 }

-- the bundle's own facts, where its first space and the others are told apart
first_seated : (b : Bundle) → IsBundle b → AreSeated (map whole b.spaces) (map first_seat b.spaces) 0 0
first_seated b is = record {
  drafts = begun_first b.spaces;
  scripts = scripts_first b.spaces;
  read = All-map (λ (x : Seat). x.read ≡ take 0 x.script.sessions) first_seat b.spaces (λ i d lt. refl);
  counts = All-map (λ (x : Seat). x.count ≤ 0) first_seat b.spaces (λ i d lt. omega arith);
}
  where
    all_regions : (s : Space) → s.key_parts + sizes_sum s.subspaces ≡ region_count s
    all_regions s = times_one s.key_parts (sizes_sum s.subspaces)
      where
        times_one : (p q : ℕ) → p + q ≡ p * 1 + q
        times_one p q = omega arith

    begun_first : (scripts : List Script) → map with_session (map whole scripts) ≡ map draft_of (map (hand_of (0 + 1)) (map first_seat scripts))
    begun_first [] = refl
    begun_first (s ∷ scripts) = rw (all_regions s.space) (ap (λ (l : List Draft). draft_of (hand_of (0 + 1) (first_seat s)) ∷ l) (begun_first scripts))

    scripts_first : (scripts : List Script) → map script_so_far (map whole scripts) ≡ map read_so_far (map first_seat scripts)
    scripts_first [] = refl
    scripts_first (s ∷ scripts) = ap (λ (l : List Script). read_so_far (first_seat s) ∷ l) (scripts_first scripts)

all_said : (b : Bundle) (s : Script) (more : List Script) → b.spaces ≡ s ∷ more → IsBundle b → IsSayableBundle b
    → All (IsSaid s.space.servers s.space.tolerate) b.spaces
all_said b s more e is said =
    let first : All (AreAlike s) (s ∷ more) = All-head (λ (x : Script). All (AreAlike x) (s ∷ more)) s more
    (subst (λ (l : List Script). All (λ (x : Script). All (AreAlike x) l) l) e is.alike) in
    let alike : All (AreAlike s) b.spaces = subst (All (AreAlike s)) (sym e) first in
    λ i d lt. record {
      space = (is.scripts i d lt).space;
      bounds = said.bounds i d lt;
      servers_are = sym (alike i d lt).servers;
      tolerate_is = sym (alike i d lt).tolerate;
    }

sessions_left : (b : Bundle) → IsBundle b → IsSayableBundle b → AreLeft b.spaces [] b.turns 0
sessions_left b is said =
    let at = some_here b.spaces 0 is.some in
    let long : length at.0.sessions ≡ length b.turns =
    dealt_long 0 at.0.sessions b.turns (if_some_at (λ (s : Script). AllZip (AreDealt 0) s.sessions b.turns)
    (slice_get b.spaces 0) at.0 at.1 (is.dealt 0)) in
    let few : length at.0.sessions ≤ MOST_SESSIONS = (all_at IsScript b.spaces 0 at.0 is.scripts at.1).sessions in
    record {
      few = omega (arith, long, few);
      few_calls = omega (arith, is.few_calls);
      names = is.names_differ;
      spaces = All-weaker IsScript (λ (s : Script). IsSpace s.space) (λ s x. x.space) b.spaces is.scripts;
      fits = All-weaker IsScript (λ (s : Script). All (λ (ops : List Op). All (Fits s.space) ops) s.sessions) (λ s x. x.calls) b.spaces is.scripts;
      said = said.calls;
      dealt = is.dealt;
      within = is.turns;
    }

take_all : {A : Type 0} (xs : List A) → take (length xs) xs ≡ xs
take_all [] = refl
take_all (x ∷ xs) = ap (λ (l : List _). x ∷ l) (take_all xs)

all_same : {A B : Type 0} (f g : A → B) (xs : List A) → All (λ x. f x ≡ g x) xs → map f xs ≡ map g xs
all_same f g [] h = refl
all_same f g (x ∷ xs) h = ap (λ y. y ∷ map f xs) (All-head (λ z. f z ≡ g z) x xs h)
    ∙ ap (λ (l : List _). g x ∷ l) (all_same f g xs (All-tail (λ z. f z ≡ g z) x xs h))

-- a script of which all sessions were read, and which has no steps
one_whole : (x : Seat) (n : ℕ) → x.read ≡ take n x.script.sessions → length x.script.sessions ≡ n → x.script.steps ≡ [] → read_so_far x ≡ x.script
one_whole x n read long none =
    let all : x.read ≡ x.script.sessions = read ∙ ap (λ (m : ℕ). take m x.script.sessions) (sym long) ∙ take_all x.script.sessions in
    ap (λ (l : List (List Op)). record { space = x.script.space; sessions = l; steps = [] }) all
    ∙ ap (λ (l : List (ℕ × Step)). record { space = x.script.space; sessions = x.script.sessions; steps = l }) (sym none)

-- where all sessions were read, each draft is its script
scripts_now : (b : Bundle) (spaces : List Draft) (seats : List Seat) (calls : ℕ) → IsBundle b
    → map (λ (x : Seat). x.script) seats ≡ b.spaces → AreSeated spaces seats (length b.turns) calls
    → map script_so_far spaces ≡ b.spaces
scripts_now b spaces seats calls is are seated =
    let long : All (λ (s : Script). length s.sessions ≡ length b.turns) b.spaces =
    placed_all (λ k s. AllZip (AreDealt k) s.sessions b.turns) b.spaces (λ s. length s.sessions ≡ length b.turns)
    (λ k s h. dealt_long k s.sessions b.turns h) is.dealt in
    let longs : All (λ (x : Seat). length x.script.sessions ≡ length b.turns) seats =
    of_seats (λ (s : Script). length s.sessions ≡ length b.turns) b.spaces seats are long in
    let none : All (λ (x : Seat). x.script.steps ≡ []) seats = of_seats (λ (s : Script). s.steps ≡ []) b.spaces seats are is.no_steps in
    seated.scripts ∙ all_same read_so_far (λ (x : Seat). x.script) seats
    (λ i d lt. one_whole (slice_index_or seats i d) (length b.turns) (seated.read i d lt) (longs i d lt) (none i d lt)) ∙ are

all_ended : (b : Bundle) (spaces : List Draft) (seats : List Seat) (calls : ℕ) (steps : List BundleStep) → IsBundle b
    → map (λ (x : Seat). x.script) seats ≡ b.spaces → AreSeated spaces seats (length b.turns) calls
    → ended spaces b.turns steps ≡ record b { steps = steps }
all_ended b spaces seats calls steps is are seated =
    ap (λ (l : List Script). record { spaces = l; turns = b.turns; steps = steps })
    (scripts_now b spaces seats calls is are seated)

-- ---- its steps

sayable_step : (x : Script) (servers sessions : ℕ) (s : Step) → x.space.servers ≡ servers
    → length x.sessions ≡ sessions → HasStep x s → PostIsSayable s → StepIsSayable servers sessions s
sayable_step x servers sessions (Deliver id) e f h p = p
sayable_step x servers sessions (Tick Coordinator) e f h p = tt
sayable_step x servers sessions (Tick (Server i)) e f h p = subst (λ m. IsUpTo m i.0) e h
sayable_step x servers sessions (Tick (Session u)) e f h p = subst (λ m. IsUpTo m u.0) f h
sayable_step x servers sessions (Halt Coordinator) e f h p = tt
sayable_step x servers sessions (Halt (Server i)) e f h p = subst (λ m. IsUpTo m i.0) e h
sayable_step x servers sessions (Halt (Session u)) e f h p = subst (λ m. IsUpTo m u.0) f h

-- the draft of a script
record IsDraftOf (spaces : List Draft) (k : ℕ) (x : Script) : Type 0 where
  pub draft : Draft
  pub here : slice_get spaces k ≡ Some draft
  pub same : script_so_far draft ≡ x

draft_at : (spaces : List Draft) (scripts : List Script) (k : ℕ) (x : Script) → map script_so_far spaces ≡ scripts
    → slice_get scripts k ≡ Some x → IsDraftOf spaces k x
draft_at spaces scripts k x are at = by (slice_get spaces k) refl
    (sym (slice_get-map script_so_far spaces k) ∙ ap (λ (l : List Script). slice_get l k) are ∙ at)
  where
    by : (o : Option Draft) → slice_get spaces k ≡ o → option_map script_so_far (slice_get spaces k) ≡ Some x → IsDraftOf spaces k x
    by None e h = absurd (none-some x (sym (ap (option_map script_so_far) e) ∙ h))
    by (Some d) e h = record { draft = d; here = e; same = same_Some (script_so_far d) x (sym (ap (option_map script_so_far) e) ∙ h) }

told_step : (servers sessions : ℕ) (scripts : List Script) (spaces : List Draft) (s : BundleStep)
    → map script_so_far spaces ≡ scripts → All IsScript scripts
    → All (λ (x : Script). x.space.servers ≡ servers) scripts
    → All (λ (x : Script). length x.sessions ≡ sessions) scripts → IsStepIn scripts s → PostIsSayable s.step
    → IsToldStep servers sessions scripts spaces s
told_step servers sessions scripts spaces s are valid alike long has post = by (slice_get scripts s.space) refl has
  where
    by : (o : Option Script) → slice_get scripts s.space ≡ o → IsSomeAnd o (λ (x : Script). HasStep x s.step) → IsToldStep servers sessions scripts spaces s
    by None e h = absurd h
    by (Some x) e h =
        let d : IsDraftOf spaces s.space x = draft_at spaces scripts s.space x are e in
        let is : IsScript x = all_at IsScript scripts s.space x valid e in
        record {
          said = record {
            draft = d.draft;
            here = d.here;
            name = subst (λ (y : Script). IsName y.space.name) (sym d.same) is.space.name;
            step = sayable_step x servers sessions s.step
                (all_at (λ (y : Script). y.space.servers ≡ servers) scripts s.space x alike e)
                (all_at (λ (y : Script). length y.sessions ≡ sessions) scripts s.space x long e) h post;
          };
          text = rw e (ap (λ (y : Script). space_step_line y.space.name s.step) (sym d.same));
        }

steps_told : (b : Bundle) (s : Script) (more : List Script) (spaces : List Draft) (seats : List Seat) (calls : ℕ)
    → b.spaces ≡ s ∷ more → IsBundle b → IsSayableBundle b → map (λ (x : Seat). x.script) seats ≡ b.spaces
    → AreSeated spaces seats (length b.turns) calls → All (IsToldStep s.space.servers (length b.turns) b.spaces spaces) b.steps
steps_told b s more spaces seats calls e is said are seated =
    let alike : All (IsSaid s.space.servers s.space.tolerate) b.spaces = all_said b s more e is said in
    let long : All (λ (x : Script). length x.sessions ≡ length b.turns) b.spaces =
    placed_all (λ k x. AllZip (AreDealt k) x.sessions b.turns) b.spaces (λ x. length x.sessions ≡ length b.turns)
    (λ k x h. dealt_long k x.sessions b.turns h) is.dealt in
    λ i d lt. told_step s.space.servers (length b.turns) b.spaces spaces (slice_index_or b.steps i d)
    (scripts_now b spaces seats calls is are seated) is.scripts
    (λ j x within. (alike j x within).servers_are) long (is.steps i d lt) (said.steps i d lt)

-- ---- the whole

first_scripts : (scripts : List Script) → map (λ (x : Seat). x.script) (map first_seat scripts) ≡ scripts
first_scripts [] = refl
first_scripts (s ∷ scripts) = ap (λ (l : List Script). s ∷ l) (first_scripts scripts)

draft_names : (spaces : List Draft) → map name_of spaces ≡ map (λ (x : Script). x.space.name) (map script_so_far spaces)
draft_names [] = refl
draft_names (d ∷ spaces) = ap (λ (l : List (List ℕ)). d.space.name ∷ l) (draft_names spaces)

seat_names : (seats : List Seat) → map (λ (x : Script). x.space.name) (map read_so_far seats)
    ≡ map (λ (x : Script). x.space.name) (map (λ (x : Seat). x.script) seats)
seat_names [] = refl
seat_names (x ∷ seats) = ap (λ (l : List (List ℕ)). x.script.space.name ∷ l) (seat_names seats)

whole_parts : (h a t o u e : List ℕ) → h ++ (a ++ t) ++ o ++ u ++ e ≡ h ++ (a ++ (t ++ (o ++ (u ++ e))))
whole_parts h a t o u e = simp append_assoc

-- the print of a bundle is read as that bundle
reads_whole : (b : Bundle) (s : Script) (more : List Script) → b.spaces ≡ s ∷ more → IsBundle b → IsSayableBundle b
    → ReadsAll 0 empty_bundle_draft (bundle_text b) (on_printed_bundle_lines b)
unfolding bundle_text shared_text
reads_whole b s more e is said =
    let servers : ℕ = s.space.servers in
    let tolerate : ℕ = s.space.tolerate in
    let a : Bundle = on_printed_bundle_lines b in
    let of : IsScript s = All-head IsScript s more (subst (All IsScript) e is.scripts) in
    let last : List ℕ = bundle_steps_text b.spaces b.steps in
    let calls : List ℕ = bundle_sessions_text b.spaces 1 b.turns ++ last in
    let spaces : List ℕ = flat_map own_lines b.spaces ++ calls in
    let n : ℕ = 0 + 1 + 1 + 1 + sum_by lines_of_space b.spaces in
    let high : servers ≤ MOST_SERVERS = of.space.servers.1 in
    let few_left : 0 + length b.turns ≤ MOST_SESSIONS = (sessions_left b is said).few in
    let few_sessions : length b.turns ≤ MOST_SESSIONS = omega (arith, few_left) in
    let line : n + lines_in b.turns + 1 + 1 ≡ first_bundle_step_line b = five (sum_by lines_of_space b.spaces) (lines_in b.turns) in
    let behind_spaces : ReadsAll n (at_spaces stages.Spaces servers tolerate (map whole b.spaces)) calls a =
    sessions_read b.turns n stages.Spaces servers tolerate b.spaces (map whole b.spaces) (map first_seat b.spaces)
    [] 0 last a (inl (refl, all_keyed b.spaces)) (first_scripts b.spaces) (first_seated b is) (sessions_left b is said)
    (λ at now seats may are seated.
    subst (λ (x : Bundle). ReadsAll (n + lines_in b.turns) (at_calls at servers tolerate now b.turns (0 + calls_in b.turns)) last x)
    (all_ended b now seats (0 + calls_in b.turns) (bundle_steps_from (n + lines_in b.turns + 1 + 1) b.steps) is are
    seated ∙ ap (λ (m : ℕ). record b { steps = bundle_steps_from m b.steps }) line)
    (steps_read b.steps (n + lines_in b.turns) at servers tolerate b.spaces now b.turns (0 + calls_in b.turns) may
    (steps_told b s more now seats (0 + calls_in b.turns) e is said are seated)
    (subst NamesDiffer (sym (draft_names now ∙ ap (λ (l : List Script). map (λ (x : Script). x.space.name) l)
    seated.scripts ∙ seat_names seats ∙ ap (λ (l : List Script). map (λ (x : Script). x.space.name) l) are)) is.names_differ)
    high few_sessions is.few_steps)) in
    let behind_head : ReadsAll (0 + 1 + 1 + 1) (at_spaces stages.Naming servers tolerate []) spaces a =
    subst (λ (l : List Script). ReadsAll (0 + 1 + 1 + 1) (at_spaces stages.Naming servers tolerate []) (flat_map own_lines l ++ calls) a) (sym e)
    (spaces_read s more (0 + 1 + 1 + 1) servers tolerate calls a
    (subst (All (IsSaid servers tolerate)) e (all_said b s more e is said))
    (subst (λ (l : List Script). NamesDiffer (map (λ (x : Script). x.space.name) l)) e is.names_differ)
    (subst (λ (l : List Script). length l ≤ MOST_SPACES) e is.few)
    (subst (λ (l : List Script). ReadsAll (0 + 1 + 1 + 1 + sum_by lines_of_space l)
    (at_spaces stages.Spaces servers tolerate (map whole l)) calls a) e behind_spaces)) in
    let shared : shared_text b.spaces ≡ servers_line servers ++ tolerate_line tolerate = ap shared_text e in
    subst (λ (x : List ℕ). ReadsAll 0 empty_bundle_draft x a)
    (sym (ap (λ (x : List ℕ). codes "hx 2\n" ++ x ++ flat_map own_lines b.spaces
    ++ bundle_sessions_text b.spaces 1 b.turns ++ last) shared
    ∙ whole_parts (codes "hx 2\n") (servers_line servers) (tolerate_line tolerate) (flat_map own_lines b.spaces)
    (bundle_sessions_text b.spaces 1 b.turns) last))
    (second_hx_reads 0 (servers_line servers ++ (tolerate_line tolerate ++ spaces)) a
    (all_servers_read (0 + 1) servers (tolerate_line tolerate ++ spaces) a of.space.servers.0 high
    (all_tolerate_reads (0 + 1 + 1) servers tolerate spaces a of.space.tolerate.0 of.space.tolerate.1 behind_head)))
  where
    five : (spaces sessions : ℕ) → 0 + 1 + 1 + 1 + spaces + sessions + 1 + 1 ≡ spaces + sessions + 5
    five spaces sessions = omega arith

begins : (b : Bundle) → (rest : List ℕ) × (bundle_text b ≡ codes "hx 2\n" ++ rest)
unfolding bundle_text
begins b = (
  shared_text b.spaces ++ (flat_map own_lines b.spaces
      ++ (bundle_sessions_text b.spaces 1 b.turns ++ bundle_steps_text b.spaces b.steps)),
  five_parts (codes "hx 2\n") (shared_text b.spaces) (flat_map own_lines b.spaces)
      (bundle_sessions_text b.spaces 1 b.turns) (bundle_steps_text b.spaces b.steps),
)
  where
    five_parts : (h a o u e : List ℕ) → h ++ a ++ o ++ u ++ e ≡ h ++ (a ++ (o ++ (u ++ e)))
    five_parts h a o u e = simp append_assoc

pub bundle_reads_back : (b : Bundle) → IsBundle b → IsSayableBundle b → bundle_of (bundle_text b) ≡ Ok (on_printed_bundle_lines b)
bundle_reads_back b is said = by b.spaces refl
  where
    by : (spaces : List Script) → b.spaces ≡ spaces → bundle_of (bundle_text b) ≡ Ok (on_printed_bundle_lines b)
    by [] e = absurd (let some : 0 < length b.spaces = is.some in omega (arith, some, ap (λ (l : List Script). length l) e))
    by (s ∷ more) e =
        let t = begins b in
        let two : version_of (bundle_text b) ≡ Ok 2 = ap version_of t.1 ∙ says_two t.0 in
        rw two (reads_whole b s more e is said).reads
