-- A bundle that is read can be said.
use Rattle.hx_law_texts.proofs.Vocabulary.{[], All, All-cons, All-map, All-nil, All-push, All-set, All-weaker, all_at, Attribute, Bool, BoundsAreSayable}
use Rattle.hx_law_texts.proofs.Vocabulary.{Bundle, bundle_line_of, bundle_line_of_toks, bundle_of, BundleDraft, BundleSection, BundleStep, CallIsSayable}
use Rattle.hx_law_texts.proofs.Vocabulary.{CallWord, cond, Deliver, Draft, empty_bundle_draft, Err, false, Halt, have_keys, Heading, heading_line, in_space}
use Rattle.hx_law_texts.proofs.Vocabulary.{is_space, IsSayableBundle, IsSayableScript, Keyword, keyword_of, length, Limit, lines_of, List, list_any}
use Rattle.hx_law_texts.proofs.Vocabulary.{LONGEST_NAME, map, min, MOST_ATTRIBUTES, MOST_CALLS, MOST_FAILURES, MOST_PARTS, MOST_SERVERS, MOST_SESSIONS}
use Rattle.hx_law_texts.proofs.Vocabulary.{MOST_SPACES, MOST_STEPS, MOST_SUBSPACES, named_draft, nat_le, nat_lt, None, not, Ok, ok_is, on_ok_ok, Op, Option}
use Rattle.hx_law_texts.proofs.Vocabulary.{Order, PostIsSayable, push_to_last, Reader, refl, Result, Script, script_of, script_so_far, ScriptError, Section}
use Rattle.hx_law_texts.proofs.Vocabulary.{slice_get, slice_set, Some, Space, spaces_line, Step, StepIsSayable, StepWord, subst, Tick, Tok, tokens_of}
use Rattle.hx_law_texts.proofs.Vocabulary.{toks_from, true, Twice, version_of, with_session, ℕ, ◌++◌, ◌+◌, ◌-◌, ◌==◌, ◌∷◌, ◌≡◌, ◌≤◌}
use Rattle.hx_script.specs.declared.bundle_draft.BundleSection.TheVariants as stages
use Rattle.hx_script.specs.declared.draft.Section.TheVariants as sections
use Rattle.hx_script.specs.declared.errors.ScriptError.TheVariants as errors
use Rattle.hx_script.specs.declared.keyword.Heading.TheVariants as headings
use Rattle.hx_script.specs.declared.keyword.Keyword.TheVariants as keywords
use Rattle.hx_script.specs.BundleGrammar.{all_servers_line, all_steps_line, all_tolerate_line, behind_keys, bundle_command, bundle_heading_line}
use Rattle.hx_script.specs.BundleGrammar.{bundle_line_for, in_draft, keyed_line, last_space_line, new_space_name, next_session_line, next_space_line}
use Rattle.hx_script.specs.BundleGrammar.{second_hx_line, space_call_line, space_named, space_number, space_step_line}
use Rattle.hx_script.specs.BundleTexts.{at_number, bundle_by, bundle_may_end, bundle_so_far, first_space_step, one_space, read_bundle_lines}
use Rattle.hx_script.specs.BundleTexts.{read_first, read_second}
use Rattle.hx_script.specs.Grammar.{attribute_line, call_line, int_attribute, key_line, string_attribute, subspace_line}
use Rattle.hx_script.proofs.Lemmas.{then_ok, number_ok}
use Rattle.hx_law_texts.proofs.Told.{AllTold, Any, Tells, tells_check, tells_end, tells_give, tells_judged, tells_number_in, tells_refuse, tells_then}
use Rattle.hx_law_texts.proofs.Told.{tells_word}
use Rattle.hx_law_texts.proofs.ToldCalls.{tells_call, tells_named, tells_step}
use Rattle.hx_law_texts.proofs.ToldLines.{BoundsSoFar, CallsSoFar, IsBounded, all_last, tells_int, tells_name, tells_string, tells_subspace}
use Rattle.hx_law_texts.proofs.ToldTexts.{text_told, toks_told}

-- ---- what holds of the draft of a space

pub record SpaceSaid (d : Draft) : Type 0 where
  pub bounds : BoundsSoFar d
  pub calls : CallsSoFar d

tells_key : (d : Draft) → SpaceSaid d → Tells (key_line d) SpaceSaid
unfolding key_line
tells_key d so = tells_then Any tells_name (λ w i. tells_then (λ n. n ≤ MOST_PARTS) (tells_number_in 1 MOST_PARTS)
    (λ n h. tells_then Any tells_end (λ u t. tells_give
    (record d { section = sections.Attributes; regions = n; space = record d.space { key_name = w; key_parts = n } })
    (record { bounds = so.bounds; calls = so.calls }))))

tells_attribute : (d : Draft) (attribute : Space → Reader Attribute) → SpaceSaid d
    → Tells (attribute d.space) IsBounded → Tells (attribute_line d attribute) SpaceSaid
unfolding attribute_line
tells_attribute d attribute so y = tells_then Any (tells_check (nat_lt (length d.space.attributes) MOST_ATTRIBUTES) Limit)
    (λ u room. tells_then IsBounded y (λ a n. tells_give
    (record d { space = record d.space { attributes = d.space.attributes ++ a ∷ [] } })
    (record { bounds = All-push IsBounded d.space.attributes a so.bounds n; calls = so.calls })))

tells_subspace_line : (d : Draft) → SpaceSaid d → Tells (subspace_line d) SpaceSaid
unfolding subspace_line
tells_subspace_line d so = tells_then Any (tells_check (nat_lt (length d.space.subspaces) MOST_SUBSPACES) Limit)
    (λ u room. tells_then Any (tells_subspace d.space d.regions)
    (λ x f. tells_give (record d {
      section = sections.Subspaces;
      regions = d.regions + x.size;
      space = record d.space { subspaces = d.space.subspaces ++ x.axes ∷ [] };
    })
    (record { bounds = so.bounds; calls = so.calls })))

tells_call_line : (d : Draft) (w : CallWord) → SpaceSaid d → Tells (call_line d w) SpaceSaid
unfolding call_line
tells_call_line d w so = tells_then Any (tells_check (nat_lt d.calls MOST_CALLS) Limit)
    (λ u room. tells_then CallIsSayable (tells_call d.space d.regions w)
    (λ op f. tells_give (record d { sessions = push_to_last d.sessions op; calls = d.calls + 1 })
    (record { bounds = so.bounds; calls = all_last CallIsSayable d.sessions op so.calls f })))

tells_key_heading : (d : Draft) (sec : Section) → SpaceSaid d → Tells (heading_line d sec headings.Key) SpaceSaid
tells_key_heading d sections.Keying so = tells_key d so
tells_key_heading d sec so = tells_refuse Order

tells_string_heading : (d : Draft) (sec : Section) → SpaceSaid d → Tells (heading_line d sec headings.String) SpaceSaid
tells_string_heading d sections.Attributes so = tells_attribute d string_attribute so (tells_string d.space)
tells_string_heading d sec so = tells_refuse Order

tells_int_heading : (d : Draft) (sec : Section) → SpaceSaid d → Tells (heading_line d sec headings.Int) SpaceSaid
tells_int_heading d sections.Attributes so = tells_attribute d int_attribute so (tells_int d.space)
tells_int_heading d sec so = tells_refuse Order

tells_subspace_heading : (d : Draft) (sec : Section) → SpaceSaid d → Tells (heading_line d sec headings.Subspace) SpaceSaid
tells_subspace_heading d sections.Attributes so = tells_subspace_line d so
tells_subspace_heading d sections.Subspaces so = tells_subspace_line d so
tells_subspace_heading d sec so = tells_refuse Order

tells_in_draft : (spaces : List Draft) (k : ℕ) (line : Draft → Reader Draft) (o : Option Draft)
    → slice_get spaces k ≡ o → All SpaceSaid spaces → ((d : Draft) → SpaceSaid d → Tells (line d) SpaceSaid)
    → Tells (in_draft spaces k line o) (All SpaceSaid)
tells_in_draft spaces k line None e all each = tells_refuse Order
tells_in_draft spaces k line (Some d) e all each =
    tells_then SpaceSaid (each d (all_at SpaceSaid spaces k d all e))
    (λ x so. tells_give (slice_set spaces k x) (All-set SpaceSaid spaces k x so all))

tells_in_space : (spaces : List Draft) (k : ℕ) (line : Draft → Reader Draft) → All SpaceSaid spaces
    → ((d : Draft) → SpaceSaid d → Tells (line d) SpaceSaid) → Tells (in_space spaces k line) (All SpaceSaid)
tells_in_space spaces k line all each = tells_in_draft spaces k line (slice_get spaces k) refl all each

-- ---- what holds of the draft of all

pub record AllSaid (b : BundleDraft) : Type 0 where
  pub spaces : All SpaceSaid b.spaces
  pub steps : All (λ (s : BundleStep). PostIsSayable s.step) b.steps

tells_second_hx : (b : BundleDraft) → AllSaid b → Tells (second_hx_line b) AllSaid
unfolding second_hx_line
tells_second_hx b so = tells_then (λ n. n ≤ 2) (tells_number_in 2 2)
    (λ n h. tells_then Any tells_end (λ u t. tells_give (record b { section = stages.Serving })
    (record { spaces = so.spaces; steps = so.steps })))

tells_all_servers : (b : BundleDraft) → AllSaid b → Tells (all_servers_line b) AllSaid
unfolding all_servers_line
tells_all_servers b so = tells_then (λ n. n ≤ MOST_SERVERS) (tells_number_in 1 MOST_SERVERS)
    (λ n h. tells_then Any tells_end (λ u t. tells_give (record b { section = stages.Tolerance; servers = n })
    (record { spaces = so.spaces; steps = so.steps })))

tells_all_tolerate : (b : BundleDraft) → AllSaid b → Tells (all_tolerate_line b) AllSaid
unfolding all_tolerate_line
tells_all_tolerate b so = tells_then (λ n. n ≤ min (b.servers - 1) MOST_FAILURES) (tells_number_in 0 (min (b.servers - 1) MOST_FAILURES))
    (λ n h. tells_then Any tells_end (λ u t. tells_give (record b { section = stages.Naming; tolerate = n })
    (record { spaces = so.spaces; steps = so.steps })))

tells_new_space : (spaces : List Draft) → Tells (new_space_name spaces) Any
unfolding new_space_name
tells_new_space spaces = tells_then Any tells_named
    (λ w m. tells_then Any (tells_check (not (list_any (is_space w) spaces)) Twice)
    (λ u n. tells_then Any (tells_check (nat_le (length w) LONGEST_NAME) Limit) (λ u h. tells_give w tt)))

nothing_said : (servers tolerate : ℕ) (w : List ℕ) → SpaceSaid (named_draft servers tolerate w)
nothing_said servers tolerate w = record { bounds = All-nil (λ (a : Attribute). BoundsAreSayable a.kind); calls = All-nil (All CallIsSayable) }

tells_next_space : (b : BundleDraft) → AllSaid b → Tells (next_space_line b) AllSaid
unfolding next_space_line
tells_next_space b so = tells_then Any (tells_check (nat_lt (length b.spaces) MOST_SPACES) Limit)
    (λ u room. tells_then Any (tells_new_space b.spaces)
    (λ w n. tells_then Any tells_end (λ u t. tells_give
    (record b { section = stages.Spaces; spaces = b.spaces ++ named_draft b.servers b.tolerate w ∷ [] })
    (record { spaces = All-push SpaceSaid b.spaces (named_draft b.servers b.tolerate w) so.spaces (nothing_said b.servers b.tolerate w); steps = so.steps }))))

tells_last_space : (b : BundleDraft) (h : Heading) → AllSaid b
    → ((d : Draft) → SpaceSaid d → Tells (heading_line d d.section h) SpaceSaid) → Tells (last_space_line b h) AllSaid
unfolding last_space_line
tells_last_space b h so each = tells_then (All SpaceSaid)
    (tells_in_space b.spaces (length b.spaces - 1) (λ d. heading_line d d.section h) so.spaces each)
    (λ spaces all. tells_give (record b { spaces = spaces }) (record { spaces = all; steps = so.steps }))

session_said : (d : Draft) → SpaceSaid d → SpaceSaid (with_session d)
session_said d so = record { bounds = so.bounds; calls = All-push (All CallIsSayable) d.sessions [] so.calls (All-nil CallIsSayable) }

tells_next_session : (b : BundleDraft) → AllSaid b → Tells (next_session_line b) AllSaid
unfolding next_session_line
tells_next_session b so = tells_then Any (tells_check (nat_lt (length b.turns) MOST_SESSIONS) Limit)
    (λ u room. tells_then (λ n. n ≤ length b.turns + 1) (tells_number_in (length b.turns + 1) (length b.turns + 1))
    (λ n h. tells_then Any tells_end (λ u t. tells_give
    (record b { section = stages.Calls; spaces = map with_session b.spaces; turns = b.turns ++ [] ∷ [] })
    (record {
      spaces = All-map SpaceSaid with_session b.spaces
          (All-weaker SpaceSaid (λ (d : Draft). SpaceSaid (with_session d)) session_said b.spaces so.spaces);
      steps = so.steps;
    }))))

tells_all_steps : (b : BundleDraft) → AllSaid b → Tells (all_steps_line b) AllSaid
unfolding all_steps_line
tells_all_steps b so = tells_then Any tells_end (λ u t. tells_give (record b { section = stages.Steps }) (record { spaces = so.spaces; steps = so.steps }))

tells_space_named : (spaces : List Draft) → Tells (space_named spaces) Any
unfolding space_named
tells_space_named spaces = tells_then Any tells_named (λ w u. record { at = λ ts x all e. (tt, ((tells_judged (space_number spaces w)).at ts x all e).1) })

tells_space_call : (b : BundleDraft) (c : CallWord) → AllSaid b → Tells (space_call_line b c) AllSaid
unfolding space_call_line
tells_space_call b c so = tells_then Any (tells_check (nat_lt b.calls MOST_CALLS) Limit)
    (λ u room. tells_then Any (tells_space_named b.spaces)
    (λ k n. tells_then (All SpaceSaid) (tells_in_space b.spaces k (λ d. call_line d c) so.spaces
    (λ d said. tells_call_line d c said)) (λ spaces all. tells_give
    (record b { spaces = spaces; turns = push_to_last b.turns k; calls = b.calls + 1 })
    (record { spaces = all; steps = so.steps }))))

post_said : (servers sessions : ℕ) (s : Step) → StepIsSayable servers sessions s → PostIsSayable s
post_said servers sessions (Deliver id) h = h
post_said servers sessions (Tick a) h = tt
post_said servers sessions (Halt a) h = tt

tells_space_step : (n : ℕ) (b : BundleDraft) (w : StepWord) → AllSaid b → Tells (space_step_line n b w) AllSaid
unfolding space_step_line
tells_space_step n b w so = tells_then Any (tells_check (nat_lt (length b.steps) MOST_STEPS) Limit)
    (λ u room. tells_then Any (tells_space_named b.spaces)
    (λ k m. tells_then (StepIsSayable b.servers (length b.turns)) (tells_step b.servers (length b.turns) w)
    (λ s h. tells_give (record b { steps = b.steps ++ record { line = n; space = k; step = s } ∷ [] })
    (record {
      spaces = so.spaces;
      steps = All-push (λ (x : BundleStep). PostIsSayable x.step) b.steps
          (record { line = n; space = k; step = s }) so.steps (post_said b.servers (length b.turns) s h);
    }))))

-- ---- each line

tells_keyed : (b : BundleDraft) (h : Heading) → AllSaid b → Tells (keyed_line b h) AllSaid
tells_keyed b headings.Space so = tells_next_space b so
tells_keyed b headings.Session so = tells_next_session b so
tells_keyed b headings.Steps so = tells_all_steps b so
tells_keyed b h so = tells_refuse Order

tells_behind_keys : (b : BundleDraft) (h : Heading) → AllSaid b → Tells (behind_keys b h) AllSaid
unfolding behind_keys
tells_behind_keys b h so = tells_then Any (tells_check (have_keys b.spaces) Order) (λ u keyed. tells_keyed b h so)

tells_spaces : (b : BundleDraft) (h : Heading) → AllSaid b → Tells (spaces_line b h) AllSaid
tells_spaces b headings.Key so = tells_last_space b headings.Key so (λ d said. tells_key_heading d d.section said)
tells_spaces b headings.String so = tells_last_space b headings.String so (λ d said. tells_string_heading d d.section said)
tells_spaces b headings.Int so = tells_last_space b headings.Int so (λ d said. tells_int_heading d d.section said)
tells_spaces b headings.Subspace so = tells_last_space b headings.Subspace so (λ d said. tells_subspace_heading d d.section said)
tells_spaces b h so = tells_behind_keys b h so

tells_bundle_heading : (b : BundleDraft) (sec : BundleSection) (h : Heading) → AllSaid b → Tells (bundle_heading_line b sec h) AllSaid
tells_bundle_heading b stages.Start headings.Hx so = tells_second_hx b so
tells_bundle_heading b stages.Serving headings.Servers so = tells_all_servers b so
tells_bundle_heading b stages.Tolerance headings.Tolerate so = tells_all_tolerate b so
tells_bundle_heading b stages.Naming headings.Space so = tells_next_space b so
tells_bundle_heading b stages.Spaces h so = tells_spaces b h so
tells_bundle_heading b stages.Calls headings.Session so = tells_next_session b so
tells_bundle_heading b stages.Calls headings.Steps so = tells_all_steps b so
tells_bundle_heading b sec h so = tells_refuse Order

tells_bundle_line : (n : ℕ) (b : BundleDraft) (sec : BundleSection) (k : Option Keyword) → AllSaid b → Tells (bundle_line_for n b sec k) AllSaid
tells_bundle_line n b sec (Some (keywords.Heading h)) so = tells_bundle_heading b sec h so
tells_bundle_line n b stages.Calls (Some (keywords.Call c)) so = tells_space_call b c so
tells_bundle_line n b stages.Steps (Some (keywords.Step w)) so = tells_space_step n b w so
tells_bundle_line n b sec k so = tells_refuse Order

tells_bundle_command : (n : ℕ) (b : BundleDraft) → AllSaid b → Tells (bundle_command n b) AllSaid
unfolding bundle_command
tells_bundle_command n b so = tells_then Any tells_word (λ w i. tells_bundle_line n b b.section (keyword_of w) so)

-- ---- the lines of a text

tokens_kept : (n : ℕ) (b : BundleDraft) (ts : List Tok) (after : BundleDraft) → AllSaid b → AllTold ts → bundle_line_of_toks n b ts ≡ Ok after → AllSaid after
tokens_kept n b [] after so all e = subst AllSaid (ok_is b after e) so
tokens_kept n b (t ∷ ts) after so all e =
    let o = on_ok_ok (bundle_command n b (t ∷ ts)) (λ (x : BundleDraft × List Tok). Ok x.0) after e in
    subst AllSaid (ok_is o.0.0 after o.2) ((tells_bundle_command n b so).at (t ∷ ts) o.0 all o.1).0

line_kept : (n : ℕ) (b : BundleDraft) (line : List ℕ) (after : BundleDraft) → AllSaid b → bundle_line_of n b line ≡ Ok after → AllSaid after
line_kept n b line after so e =
    let o = on_ok_ok (toks_from line (tokens_of line)) (bundle_line_of_toks n b) after e in
    tokens_kept n b o.0 after so (toks_told line (tokens_of line) o.0 refl o.1) o.2

abbrev bundle : Bundle → Result Bundle ScriptError
bundle b = Ok b

bundle_is : (b c : Bundle) → bundle b ≡ bundle c → b ≡ c
bundle_is b c e = cc

so_far_said : (b : BundleDraft) → AllSaid b → IsSayableBundle (bundle_so_far b)
so_far_said b so = record {
  bounds = All-map (λ (s : Script). All (λ (a : Attribute). BoundsAreSayable a.kind) s.space.attributes) script_so_far
      b.spaces (All-weaker SpaceSaid BoundsSoFar (λ d said. said.bounds) b.spaces so.spaces);
  calls = All-map (λ (s : Script). All (λ (calls : List Op). All CallIsSayable calls) s.sessions) script_so_far
      b.spaces (All-weaker SpaceSaid CallsSoFar (λ d said. said.calls) b.spaces so.spaces);
  steps = so.steps;
}

ends : (n : ℕ) (b : BundleDraft) (may : Bool) (a : Bundle) → AllSaid b
    → cond may (Ok (bundle_so_far b)) (Err (errors.Refused n Order)) ≡ Ok a → IsSayableBundle a
ends n b true a so e = subst IsSayableBundle (bundle_is (bundle_so_far b) a e) (so_far_said b so)
ends n b false a so e = absurd cc

lines_told : (ls : List (List ℕ)) (n : ℕ) (b : BundleDraft) (a : Bundle) → AllSaid b → read_bundle_lines n b ls ≡ Ok a → IsSayableBundle a
unfolding read_bundle_lines
lines_told [] n b a so e = ends (n + 1) b (bundle_may_end b.section b.spaces) a so e
lines_told (l ∷ ls) n b a so e =
    let o = then_ok (at_number (n + 1) (bundle_line_of (n + 1) b l)) (λ x. read_bundle_lines (n + 1) x ls) a e in
    lines_told ls (n + 1) o.0 a (line_kept (n + 1) b l o.0 so (number_ok (n + 1) (bundle_line_of (n + 1) b l) o.0 o.1)) o.2

empty_said : AllSaid empty_bundle_draft
empty_said = record { spaces = All-nil SpaceSaid; steps = All-nil (λ (s : BundleStep). PostIsSayable s.step) }

-- ---- one space

steps_said : (servers sessions : ℕ) (steps : List (ℕ × Step))
    → All (λ (x : ℕ × Step). StepIsSayable servers sessions x.1) steps
    → All (λ (s : BundleStep). PostIsSayable s.step) (map first_space_step steps)
steps_said servers sessions steps all =
    All-map (λ (s : BundleStep). PostIsSayable s.step) first_space_step steps
    (All-weaker (λ (x : ℕ × Step). StepIsSayable servers sessions x.1) (λ (x : ℕ × Step). PostIsSayable x.1)
    (λ x h. post_said servers sessions x.1 h) steps all)

alone_said : (s : Script) → IsSayableScript s → IsSayableBundle (one_space s)
alone_said s said =
    let alone : Script = record s { steps = [] } in
    let Bounds : Script → Type 0 = λ x. All (λ (a : Attribute). BoundsAreSayable a.kind) x.space.attributes in
    let Calls : Script → Type 0 = λ x. All (λ (calls : List Op). All CallIsSayable calls) x.sessions in
    record {
      bounds = All-cons Bounds alone [] said.bounds (All-nil Bounds);
      calls = All-cons Calls alone [] said.calls (All-nil Calls);
      steps = steps_said s.space.servers (length s.sessions) s.steps said.steps;
    }

first_told : (text : List ℕ) (b : Bundle) → read_first text ≡ Ok b → IsSayableBundle b
first_told text b e =
    let o = then_ok (script_of text) (λ s. bundle (one_space s)) b e in
    subst IsSayableBundle (bundle_is (one_space o.0) b o.2) (alone_said o.0 (text_told text o.0 o.1))

by_version : (two : Bool) (text : List ℕ) (b : Bundle) → cond two (read_second text) (read_first text) ≡ Ok b → IsSayableBundle b
by_version true text b e = lines_told (lines_of text) 0 empty_bundle_draft b empty_said e
by_version false text b e = first_told text b e

-- what is read can be said
pub bundle_told : (text : List ℕ) (b : Bundle) → bundle_of text ≡ Ok b → IsSayableBundle b
bundle_told text b e =
    let o = then_ok (version_of text) (λ (version : ℕ). bundle_by version text) b e in
    by_version (o.0 == 2) text b o.2
