-- The steps of a script are of its servers and sessions, so a script alone is a bundle.
use Rattle.std.proofs.Common.{◌≡◌, ℕ, zero, suc, ◌+◌, ◌-◌, ◌<◌, ◌≤◌, Bool, true, false, cond, List, [], ◌∷◌, ◌++◌}
use Rattle.std.proofs.Common.{length, map, min, Option, Some, Result, Ok, Err, refl, subst, arith}
use Rattle.std.specs.Prelude.{IfSome, nat_lt, slice_get, sum_by, ◌==◌}
use Rattle.std.specs.List.{All, AllZip}
use Rattle.std.proofs.lemmas.List.{length-map}
use Rattle.std.proofs.lemmas.List.Elements.{All-nil, All-cons, All-push, All-map, All-weaker}
use Rattle.std.proofs.lemmas.List.Sums.{sum_by-append}
use Rattle.hx_lex.specs.Letters.{IsWord}
use Rattle.hx_lex.specs.Lines.{tokens_of}
use Rattle.hx_bundle.specs.declared.bundles.Bundle.{Bundle}
use Rattle.hx_bundle.specs.Bundles.{AreAlike, AreDealt, HasStep, IsBundle, IsStepIn, times}
use Rattle.hx_types.specs.declared.calls.Op.{Op}
use Rattle.hx_types.specs.declared.ids.Actor.TheVariants.{Coordinator, Server, Session}
use Rattle.hx_types.specs.declared.limits.TheConstants.{MOST_ATTRIBUTES, MOST_CALLS, MOST_FAILURES, MOST_PARTS, MOST_SERVERS, MOST_SESSIONS, MOST_STEPS}
use Rattle.hx_types.specs.declared.limits.TheConstants.{MOST_SUBSPACES}
use Rattle.hx_types.specs.declared.spaces.Attribute.{Attribute}
use Rattle.hx_types.specs.declared.spaces.Space.{Space}
use Rattle.hx_types.specs.declared.traces.Script.{Script}
use Rattle.hx_types.specs.declared.traces.Step.{Step}
use Rattle.hx_types.specs.declared.traces.Step.TheVariants.{Deliver, Tick, Halt}
use Rattle.hx_types.specs.Fitting.{IsScript}
use Rattle.hx_types.specs.Spaces.{Fits, IsName}
use Rattle.hx_script.specs.declared.draft.Draft.{Draft}
use Rattle.hx_script.specs.declared.draft.Section.{Section}
use Rattle.hx_script.specs.declared.draft.Section.TheVariants as sections
use Rattle.hx_script.specs.declared.errors.Reason.{Reason}
use Rattle.hx_script.specs.declared.errors.Reason.TheVariants.{Order, Limit}
use Rattle.hx_script.specs.declared.errors.ScriptError.{ScriptError}
use Rattle.hx_script.specs.declared.errors.ScriptError.TheVariants as errors
use Rattle.hx_script.specs.declared.keyword.CallWord.{CallWord}
use Rattle.hx_script.specs.declared.keyword.Heading.{Heading}
use Rattle.hx_script.specs.declared.keyword.Heading.TheVariants as headings
use Rattle.hx_script.specs.declared.keyword.Keyword.{Keyword}
use Rattle.hx_script.specs.declared.keyword.Keyword.TheVariants as keywords
use Rattle.hx_script.specs.declared.keyword.StepWord.{StepWord}
use Rattle.hx_script.specs.BundleTexts.{bundle_by, bundle_of, first_space_step, first_space_turns, one_space, read_first, version_of, read_second}
use Rattle.hx_script.specs.Grammar.{attribute_line, call_line, command, heading_line, hx_line, int_attribute, key_line}
use Rattle.hx_script.specs.Grammar.{line_for, line_of, line_of_toks, push_to_last, servers_line, session_line}
use Rattle.hx_script.specs.Grammar.{space_line, step_line, steps_line, string_attribute, subspace_line, toks_from}
use Rattle.hx_script.specs.Grammar.{tolerate_line}
use Rattle.hx_script.specs.Keywords.{keyword_of}
use Rattle.hx_script.specs.Readers.{Reader}
use Rattle.hx_script.specs.Texts.{at_line, empty_draft, lines_of, may_end, read_lines, script_of}
use Rattle.hx_script.specs.Toks.{Tok}
use Rattle.hx_script.proofs.BundleValid.{spaces_sound, then_ok}
use Rattle.hx_script.proofs.BundleYields.{yields_step_by}
use Rattle.hx_script.proofs.FittingAxes.{DraftFits, yields_subspace}
use Rattle.hx_script.proofs.FittingCalls.{yields_call}
use Rattle.hx_script.proofs.Naming.{yields_name}
use Rattle.hx_script.proofs.Sections.{Complete, Sound}
use Rattle.hx_script.proofs.SoundBundles.{IsStepBy}
use Rattle.hx_script.proofs.SoundLines.{IsNextAttribute, all_none, some_regions, yields_int, yields_string}
use Rattle.hx_script.proofs.SoundTexts.{empty_sound, line_kept, text_sound, toks_sound}
use Rattle.hx_script.proofs.Takes.{on_ok_ok, ok_is}
use Rattle.hx_script.proofs.Yields.{AllToks, Any, Yields, yields_check, yields_end, yields_give, yields_number_in, yields_refuse, yields_then, yields_word}

-- ---- before the line `steps` there are none

abbrev None_yet : Draft → Type 0
None_yet d = d.steps ≡ []

attribute_none : (d : Draft) (attribute : Space → Reader Attribute) → None_yet d
    → Yields (attribute d.space) (IsNextAttribute d.space) → Yields (attribute_line d attribute) None_yet
unfolding attribute_line
attribute_none d attribute e y = yields_then (λ u. nat_lt (length d.space.attributes) MOST_ATTRIBUTES ≡ true)
    (yields_check (nat_lt (length d.space.attributes) MOST_ATTRIBUTES) Limit)
    (λ u room. yields_then (IsNextAttribute d.space) y
    (λ a n. yields_give (record d { space = record d.space { attributes = d.space.attributes ++ a ∷ [] } }) e))

subspace_none : (d : Draft) → None_yet d → Yields (subspace_line d) None_yet
unfolding subspace_line
subspace_none d e = yields_then (λ u. nat_lt (length d.space.subspaces) MOST_SUBSPACES ≡ true)
    (yields_check (nat_lt (length d.space.subspaces) MOST_SUBSPACES) Limit)
    (λ u room. yields_then (DraftFits d.space d.regions) (yields_subspace d.space d.regions)
    (λ x f. yields_give (record d {
      section = sections.Subspaces;
      regions = d.regions + x.size;
      space = record d.space { subspaces = d.space.subspaces ++ x.axes ∷ [] };
    }) e))

servers_none : (d : Draft) → None_yet d → Yields (servers_line d) None_yet
unfolding servers_line
servers_none d e = yields_then (λ n. (1 ≤ n) × (n ≤ MOST_SERVERS)) (yields_number_in 1 MOST_SERVERS)
    (λ n h. yields_then Any yields_end (λ u t. yields_give
    (record d { section = sections.Tolerance; space = record d.space { servers = n } }) e))

session_none : (d : Draft) → None_yet d → Yields (session_line d) None_yet
unfolding session_line
session_none d e = yields_then (λ u. nat_lt (length d.sessions) MOST_SESSIONS ≡ true)
    (yields_check (nat_lt (length d.sessions) MOST_SESSIONS) Limit)
    (λ u room. yields_then (λ n. (length d.sessions + 1 ≤ n) × (n ≤ length d.sessions + 1))
    (yields_number_in (length d.sessions + 1) (length d.sessions + 1))
    (λ n h. yields_then Any yields_end (λ v t. yields_give
    (record d { section = sections.Calls; sessions = d.sessions ++ [] ∷ [] }) e)))

steps_none : (d : Draft) → None_yet d → Yields (steps_line d) None_yet
unfolding steps_line
steps_none d e = yields_then Any yields_end (λ u t. yields_give (record d { section = sections.Steps }) e)

heading_none : (d : Draft) (sec : Section) (h : Heading) → None_yet d → Yields (heading_line d sec h) None_yet
unfolding hx_line space_line key_line tolerate_line
heading_none d sections.Start headings.Hx e = yields_then (λ n. (1 ≤ n) × (n ≤ 1)) (yields_number_in 1 1)
    (λ n h. yields_then Any yields_end (λ u t. yields_give (record d { section = sections.Naming }) e))
heading_none d sections.Naming headings.Space e =
    yields_then IsName yields_name (λ w i. yields_then Any yields_end
    (λ u t. yields_give (record d { section = sections.Keying; space = record d.space { name = w } }) e))
heading_none d sections.Keying headings.Key e = yields_then IsName yields_name
    (λ w k. yields_then (λ n. (1 ≤ n) × (n ≤ MOST_PARTS)) (yields_number_in 1 MOST_PARTS)
    (λ n h. yields_then Any yields_end (λ u t. yields_give
    (record d { section = sections.Attributes; regions = n; space = record d.space { key_name = w; key_parts = n } }) e)))
heading_none d sections.Attributes headings.String e = attribute_none d string_attribute e (yields_string d.space)
heading_none d sections.Attributes headings.Int e = attribute_none d int_attribute e (yields_int d.space)
heading_none d sections.Attributes headings.Subspace e = subspace_none d e
heading_none d sections.Subspaces headings.Subspace e = subspace_none d e
heading_none d sections.Attributes headings.Servers e = servers_none d e
heading_none d sections.Subspaces headings.Servers e = servers_none d e
heading_none d sections.Tolerance headings.Tolerate e =
    yields_then (λ n. (0 ≤ n) × (n ≤ min (d.space.servers - 1) MOST_FAILURES)) (yields_number_in 0 (min (d.space.servers - 1) MOST_FAILURES))
    (λ n h. yields_then Any yields_end (λ u t. yields_give
    (record d { section = sections.Sessions; space = record d.space { tolerate = n } }) e))
heading_none d sections.Sessions headings.Session e = session_none d e
heading_none d sections.Calls headings.Session e = session_none d e
heading_none d sections.Sessions headings.Steps e = steps_none d e
heading_none d sections.Calls headings.Steps e = steps_none d e
heading_none d sec h e = yields_refuse Order

-- ---- steps

-- what holds of the steps of a draft: there are none before their section
abbrev ByPart : Section → Draft → Type 0
ByPart sections.Steps d = All (λ (x : ℕ × Step). IsStepBy d.space.servers (length d.sessions) x.1) d.steps
ByPart other d = None_yet d

record Stepped (d : Draft) : Type 0 where
  pub steps : ByPart d.section d

none_part : (sec : Section) (d : Draft) → None_yet d → ByPart sec d
none_part sections.Steps d e = all_none (λ (x : ℕ × Step). IsStepBy d.space.servers (length d.sessions) x.1) d.steps e
none_part sec d e = e

stepped : (d : Draft) → None_yet d → Stepped d
stepped d e = record { steps = none_part d.section d e }

yields_stepped : {p : Reader Draft} → Yields p None_yet → Yields p Stepped
yields_stepped {p} y = record { at = λ ts x all e. let a = y.at ts x all e in (stepped x.0 a.0, a.1) }

call_none : (d : Draft) (w : CallWord) → d.section ≡ sections.Calls → Sound d → None_yet d → Yields (call_line d w) None_yet
unfolding call_line
call_none d w e so none =
    let st : Complete d = rw e at so.stage in
    yields_then (λ u. nat_lt d.calls MOST_CALLS ≡ true) (yields_check (nat_lt d.calls MOST_CALLS) Limit)
    (λ u room. yields_then (Fits d.space) (yields_call d.space d.regions w so.space.count
    (some_regions d so.space st.0.2)) (λ op f. yields_give
    (record d { sessions = push_to_last d.sessions op; calls = d.calls + 1 }) none))

step_more : (n : ℕ) (d : Draft) (w : StepWord) → d.section ≡ sections.Steps → ByPart sections.Steps d → Yields (step_line n d w) Stepped
unfolding step_line
step_more n d w e all = yields_then (λ u. nat_lt (length d.steps) MOST_STEPS ≡ true)
    (yields_check (nat_lt (length d.steps) MOST_STEPS) Limit)
    (λ u room. yields_then (IsStepBy d.space.servers (length d.sessions))
    (yields_step_by d.space.servers (length d.sessions) w) (λ x is. yields_give (record d { steps = d.steps ++ (n, x) ∷ [] })
    (record { steps = rw e (All-push (λ (y : ℕ × Step). IsStepBy d.space.servers (length d.sessions) y.1) d.steps (n, x) all is) })))

-- the steps may not be begun twice
heading_part : (d : Draft) (sec : Section) (h : Heading) → d.section ≡ sec → ByPart sec d → Yields (heading_line d sec h) Stepped
heading_part d sections.Steps headings.Hx e st = yields_refuse Order
heading_part d sections.Steps headings.Space e st = yields_refuse Order
heading_part d sections.Steps headings.Key e st = yields_refuse Order
heading_part d sections.Steps headings.String e st = yields_refuse Order
heading_part d sections.Steps headings.Int e st = yields_refuse Order
heading_part d sections.Steps headings.Subspace e st = yields_refuse Order
heading_part d sections.Steps headings.Servers e st = yields_refuse Order
heading_part d sections.Steps headings.Tolerate e st = yields_refuse Order
heading_part d sections.Steps headings.Session e st = yields_refuse Order
heading_part d sections.Steps headings.Steps e st = yields_refuse Order
heading_part d sections.Start h e st = yields_stepped (heading_none d sections.Start h st)
heading_part d sections.Naming h e st = yields_stepped (heading_none d sections.Naming h st)
heading_part d sections.Keying h e st = yields_stepped (heading_none d sections.Keying h st)
heading_part d sections.Attributes h e st = yields_stepped (heading_none d sections.Attributes h st)
heading_part d sections.Subspaces h e st = yields_stepped (heading_none d sections.Subspaces h st)
heading_part d sections.Tolerance h e st = yields_stepped (heading_none d sections.Tolerance h st)
heading_part d sections.Sessions h e st = yields_stepped (heading_none d sections.Sessions h st)
heading_part d sections.Calls h e st = yields_stepped (heading_none d sections.Calls h st)

line_part : (n : ℕ) (d : Draft) (sec : Section) (k : Option Keyword) → d.section ≡ sec → Sound d → ByPart sec d → Yields (line_for n d sec k) Stepped
line_part n d sec (Some (keywords.Heading h)) e so st = heading_part d sec h e st
line_part n d sections.Calls (Some (keywords.Call w)) e so st = yields_stepped (call_none d w e so st)
line_part n d sections.Steps (Some (keywords.Step w)) e so st = step_more n d w e st
line_part n d sec k e so st = yields_refuse Order

command_part : (n : ℕ) (d : Draft) → Sound d → Stepped d → Yields (command n d) Stepped
unfolding command
command_part n d so st = yields_then IsWord yields_word (λ w i. line_part n d d.section (keyword_of w) refl so st.steps)

toks_part : (n : ℕ) (d : Draft) (ts : List Tok) (after : Draft) → Sound d → Stepped d → AllToks ts → line_of_toks n d ts ≡ Ok after → Stepped after
toks_part n d [] after so st all e = subst Stepped (ok_is d after e) st
toks_part n d (t ∷ ts) after so st all e =
    let o = on_ok_ok (command n d (t ∷ ts)) (λ (x : Draft × List Tok). Ok x.0) after e in
    subst Stepped (ok_is o.0.0 after o.2) ((command_part n d so st).at (t ∷ ts) o.0 all o.1).0

line_stepped : (n : ℕ) (d : Draft) (line : List ℕ) (after : Draft) → Sound d → Stepped d → line_of n d line ≡ Ok after → Stepped after
line_stepped n d line after so st e =
    let o = on_ok_ok (toks_from line (tokens_of line)) (line_of_toks n d) after e in
    toks_part n d o.0 after so st (toks_sound line (tokens_of line) o.0 refl o.1) o.2

abbrev StepsOf : Script → Type 0
StepsOf s = All (λ (x : ℕ × Step). IsStepBy s.space.servers (length s.sessions) x.1) s.steps

abbrev script : Script → Result Script ScriptError
script s = Ok s

script_is : (s t : Script) → script s ≡ script t → s ≡ t
script_is s t e = cc

abbrev as_script : Draft → Script
as_script d = record { space = d.space; sessions = d.sessions; steps = d.steps }

ends : (n : ℕ) (d : Draft) (sec : Section) (s : Script) → ByPart sec d → cond (may_end sec) (Ok (as_script d)) (Err (errors.Refused n Order)) ≡ Ok s → StepsOf s
ends n d sections.Sessions s st e = subst StepsOf (script_is (as_script d) s e)
    (all_none (λ (x : ℕ × Step). IsStepBy d.space.servers (length d.sessions) x.1) d.steps st)
ends n d sections.Calls s st e = subst StepsOf (script_is (as_script d) s e)
    (all_none (λ (x : ℕ × Step). IsStepBy d.space.servers (length d.sessions) x.1) d.steps st)
ends n d sections.Steps s st e = subst StepsOf (script_is (as_script d) s e) st
ends n d sec s st e = absurd cc

at_line_ok : (n : ℕ) (r : Result Draft Reason) (f : Draft → Result Script ScriptError) (s : Script)
    → at_line n r f ≡ Ok s → (d : Draft) × (r ≡ Ok d) × (f d ≡ Ok s)
at_line_ok n (Ok d) f s e = (d, refl, e)
at_line_ok n (Err r) f s e = absurd cc

lines_stepped : (ls : List (List ℕ)) (n : ℕ) (d : Draft) (s : Script) → Sound d → Stepped d → read_lines n d ls ≡ Ok s → StepsOf s
unfolding read_lines
lines_stepped [] n d s so st e = ends (n + 1) d d.section s st.steps e
lines_stepped (l ∷ ls) n d s so st e =
    let o = at_line_ok (n + 1) (line_of (n + 1) d l) (λ x. read_lines (n + 1) x ls) s e in
    lines_stepped ls (n + 1) o.0 s (line_kept (n + 1) d l o.0 so o.1) (line_stepped (n + 1) d l o.0 so st o.1) o.2

text_stepped : (text : List ℕ) (s : Script) → script_of text ≡ Ok s → StepsOf s
text_stepped text s e = lines_stepped (lines_of text) 0 empty_draft s empty_sound (stepped empty_draft refl) e

-- ---- a script alone

times_none : (ops : List Op) → length ops ≡ times 0 (first_space_turns ops)
times_none [] = refl
times_none (op ∷ ops) = more (length ops) (times 0 (first_space_turns ops)) (times_none ops)
  where
    more : (m n : ℕ) → m ≡ n → suc m ≡ n + 1
    more m n e = omega (arith, e)

dealt_alone : (sessions : List (List Op)) → AllZip (AreDealt 0) sessions (map first_space_turns sessions)
dealt_alone [] = tt
dealt_alone (ops ∷ sessions) = (times_none ops, dealt_alone sessions)

turns_below : (ops : List Op) → All (λ (k : ℕ). k < 1) (first_space_turns ops)
turns_below [] = All-nil (λ (k : ℕ). k < 1)
turns_below (op ∷ ops) = All-cons (λ (k : ℕ). k < 1) 0 (first_space_turns ops) (omega arith) (turns_below ops)

all_below : (sessions : List (List Op)) → All (λ (l : List ℕ). All (λ (k : ℕ). k < 1) l) (map first_space_turns sessions)
all_below [] = All-nil (λ (l : List ℕ). All (λ (k : ℕ). k < 1) l)
all_below (ops ∷ sessions) = All-cons (λ (l : List ℕ). All (λ (k : ℕ). k < 1) l) (first_space_turns ops)
    (map first_space_turns sessions) (turns_below ops) (all_below sessions)

one_sum : {A : Type 0} (x : List A) (xs : List (List A)) → sum_by (λ (l : List A). length l) (x ∷ xs) ≡ length x + sum_by (λ (l : List A). length l) xs
one_sum {A} x xs =
    let e : sum_by (λ (l : List A). length l) (x ∷ xs) ≡ 0 + length x + sum_by (λ (l : List A). length l) xs =
    sum_by-append (λ (l : List A). length l) (x ∷ []) xs in
    omega (arith, e)

as_many : (sessions : List (List Op)) → sum_by (λ (l : List ℕ). length l) (map first_space_turns sessions) ≡ sum_by (λ (l : List Op). length l) sessions
as_many [] = refl
as_many (ops ∷ sessions) = omega (
  arith,
  one_sum (first_space_turns ops) (map first_space_turns sessions),
  one_sum ops sessions,
  as_many sessions,
  length-map {B = ℕ} ops (λ (op : Op). 0),
)

alone_at : (s : Script) (k : ℕ) → IfSome (slice_get (record s { steps = [] } ∷ []) k)
    (λ (x : Script). AllZip (AreDealt k) x.sessions (map first_space_turns s.sessions))
alone_at s zero = dealt_alone s.sessions
alone_at s (suc k) = tt

has_step : (s : Script) (x : Step) → IsStepBy s.space.servers (length s.sessions) x → HasStep (record s { steps = [] }) x
has_step s (Deliver id) h = tt
has_step s (Tick Coordinator) h = tt
has_step s (Tick (Server i)) h = h
has_step s (Tick (Session u)) h = h
has_step s (Halt Coordinator) h = tt
has_step s (Halt (Server i)) h = h
has_step s (Halt (Session u)) h = h

alone_valid : (s : Script) → IsScript s → StepsOf s → IsBundle (one_space s)
alone_valid s is steps =
    let alone : Script = record s { steps = [] } in
    record {
      some = omega arith;
      few = omega arith;
      scripts = All-cons IsScript alone [] (record {
        space = is.space;
        sessions = is.sessions;
        calls = is.calls;
        few_calls = is.few_calls;
        few_steps = omega arith;
      }) (All-nil IsScript);
      no_steps = All-cons (λ (x : Script). x.steps ≡ []) alone [] refl (All-nil (λ (x : Script). x.steps ≡ []));
      alike = All-cons (λ (x : Script). All (AreAlike x) (alone ∷ [])) alone []
          (All-cons (AreAlike alone) alone [] (record { servers = refl; tolerate = refl }) (All-nil (AreAlike alone)))
          (All-nil (λ (x : Script). All (AreAlike x) (alone ∷ [])));
      names_differ = (All-nil (λ (m : List ℕ). m ≡ s.space.name → ⊥), tt);
      dealt = alone_at s;
      turns = all_below s.sessions;
      few_calls = omega (arith, as_many s.sessions, is.few_calls);
      few_steps = omega (arith, length-map s.steps first_space_step, is.few_steps);
      steps = All-map (IsStepIn (alone ∷ [])) first_space_step s.steps
          (All-weaker (λ (x : ℕ × Step). IsStepBy s.space.servers (length s.sessions) x.1)
          (λ (x : ℕ × Step). IsStepIn (alone ∷ []) (first_space_step x)) (λ x h. has_step s x.1 h) s.steps steps);
    }

abbrev bundle : Bundle → Result Bundle ScriptError
bundle b = Ok b

bundle_is : (b c : Bundle) → bundle b ≡ bundle c → b ≡ c
bundle_is b c e = cc

first_sound : (text : List ℕ) (b : Bundle) → read_first text ≡ Ok b → IsBundle b
first_sound text b e =
    let o = then_ok (script_of text) (λ s. bundle (one_space s)) b e in
    subst IsBundle (bundle_is (one_space o.0) b o.2) (alone_valid o.0 (text_sound text o.0 o.1) (text_stepped text o.0 o.1))

by_version : (two : Bool) (text : List ℕ) (b : Bundle) → cond two (read_second text) (read_first text) ≡ Ok b → IsBundle b
by_version true text b e = spaces_sound text b e
by_version false text b e = first_sound text b e

-- what is read is a bundle within the limits
pub bundle_sound : (text : List ℕ) (b : Bundle) → bundle_of text ≡ Ok b → IsBundle b
bundle_sound text b e =
    let o = then_ok (version_of text) (λ (version : ℕ). bundle_by version text) b e in
    by_version (o.0 == 2) text b o.2
