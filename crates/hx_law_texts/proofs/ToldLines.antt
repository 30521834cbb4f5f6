-- Each line keeps that the draft can be said.
use Rattle.hx_law_texts.proofs.Vocabulary.{[], All, All-cons, All-head, All-nil, All-push, All-tail, Attribute, AxesDraft, Axis, BoundsAreSayable}
use Rattle.hx_law_texts.proofs.Vocabulary.{CallIsSayable, CallWord, codes, declared_number, Draft, FitsSigned, has_axis, Heading, heading_line, is_declared}
use Rattle.hx_law_texts.proofs.Vocabulary.{Keyword, keyword_of, length, Limit, List, LONGEST_NAME, min, MOST_ATTRIBUTES, MOST_AXES, MOST_CALLS, MOST_FAILURES}
use Rattle.hx_law_texts.proofs.Vocabulary.{MOST_PARTS, MOST_REGIONS, MOST_SERVERS, MOST_SESSIONS, MOST_STEPS, MOST_SUBSPACES, nat_le, nat_lt, no_axes_yet, not}
use Rattle.hx_law_texts.proofs.Vocabulary.{Ok, Option, Order, push_to_last, Reader, refl, Section, Some, Space, Step, StepIsSayable, StepWord, Twice, w64, ℕ}
use Rattle.hx_law_texts.proofs.Vocabulary.{◌*◌, ◌++◌, ◌+◌, ◌-◌, ◌∷◌, ◌≡◌, ◌≤◌}
use Rattle.hx_types.specs.declared.spaces.Kind.TheVariants as kinds
use Rattle.hx_script.specs.declared.draft.Section.TheVariants as sections
use Rattle.hx_script.specs.declared.keyword.Heading.TheVariants as headings
use Rattle.hx_script.specs.declared.keyword.Keyword.TheVariants as keywords
use Rattle.hx_script.specs.declared.line.Until.TheVariants as until
use Rattle.hx_script.specs.Axes.{free_axis, parts, axis, next_axis, subspace}
use Rattle.hx_script.specs.Grammar.{hx_line, space_line, key_line, string_attribute, int_attribute, attribute_line, subspace_line, servers_line, tolerate_line}
use Rattle.hx_script.specs.Grammar.{session_line, steps_line, call_line, step_line, line_for, command}
use Rattle.hx_script.specs.Words.{name, new_name}
use Rattle.hx_law_texts.proofs.Told.{Tells, Any, tells_then, tells_give, tells_refuse, tells_check, tells_judged, tells_word, tells_number, tells_number_in}
use Rattle.hx_law_texts.proofs.Told.{tells_number_from, tells_sign, tells_end, tells_repeat}
use Rattle.hx_law_texts.proofs.ToldCalls.{tells_named, tells_call, tells_step}

-- ---- what holds of a draft

abbrev pub BoundsSoFar : Draft → Type 0
BoundsSoFar d = All (λ (a : Attribute). BoundsAreSayable a.kind) d.space.attributes

abbrev pub CallsSoFar : Draft → Type 0
CallsSoFar d = All (All CallIsSayable) d.sessions

abbrev pub StepsSoFar : Draft → Type 0
StepsSoFar d = All (λ (x : ℕ × Step). StepIsSayable d.space.servers (length d.sessions) x.1) d.steps

-- there are no steps before the line `steps`
abbrev pub NoneBefore : Section → Draft → Type 0
NoneBefore sections.Start d = d.steps ≡ []
NoneBefore sections.Naming d = d.steps ≡ []
NoneBefore sections.Keying d = d.steps ≡ []
NoneBefore sections.Attributes d = d.steps ≡ []
NoneBefore sections.Subspaces d = d.steps ≡ []
NoneBefore sections.Tolerance d = d.steps ≡ []
NoneBefore sections.Sessions d = d.steps ≡ []
NoneBefore sections.Calls d = d.steps ≡ []
NoneBefore sections.Steps d = Unit {0}

pub record Said (d : Draft) : Type 0 where
  pub bounds : BoundsSoFar d
  pub calls : CallsSoFar d
  pub steps : StepsSoFar d
  pub stage : NoneBefore d.section d

no_steps : (servers sessions : ℕ) (steps : List (ℕ × Step)) → steps ≡ [] → All (λ (x : ℕ × Step). StepIsSayable servers sessions x.1) steps
no_steps servers sessions [] e = All-nil (λ (x : ℕ × Step). StepIsSayable servers sessions x.1)
no_steps servers sessions (x ∷ xs) e = absurd cc

-- ---- the head

tells_hx : (d : Draft) → BoundsSoFar d → CallsSoFar d → d.steps ≡ [] → Tells (hx_line d) Said
unfolding hx_line
tells_hx d b c e = tells_then (λ n. n ≤ 1) (tells_number_in 1 1)
    (λ n h. tells_then Any tells_end (λ u t. tells_give (record d { section = sections.Naming })
    (record { bounds = b; calls = c; steps = no_steps d.space.servers (length d.sessions) d.steps e; stage = e })))

pub tells_name : Tells name Any
unfolding name
tells_name = tells_then Any tells_named (λ w u. tells_then Any (tells_check (nat_le (length w) LONGEST_NAME) Limit) (λ u v. tells_give w tt))

tells_space : (d : Draft) → BoundsSoFar d → CallsSoFar d → d.steps ≡ [] → Tells (space_line d) Said
unfolding space_line
tells_space d b c e = tells_then Any tells_name (λ w i. tells_then Any tells_end
    (λ u t. tells_give (record d { section = sections.Keying; space = record d.space { name = w } })
    (record { bounds = b; calls = c; steps = no_steps d.space.servers (length d.sessions) d.steps e; stage = e })))

tells_key : (d : Draft) → BoundsSoFar d → CallsSoFar d → d.steps ≡ [] → Tells (key_line d) Said
unfolding key_line
tells_key d b c e = tells_then Any tells_name (λ w i. tells_then (λ n. n ≤ MOST_PARTS) (tells_number_in 1 MOST_PARTS)
    (λ n h. tells_then Any tells_end (λ u t. tells_give
    (record d { section = sections.Attributes; regions = n; space = record d.space { key_name = w; key_parts = n } })
    (record { bounds = b; calls = c; steps = no_steps d.space.servers (length d.sessions) d.steps e; stage = e }))))

-- ---- attributes

abbrev pub IsBounded : Attribute → Type 0
IsBounded a = BoundsAreSayable a.kind

tells_new_name : (space : Space) → Tells (new_name space) Any
unfolding new_name
tells_new_name space = tells_then Any tells_named
    (λ w m. tells_then Any (tells_check (not (is_declared space w)) Twice)
    (λ u n. tells_then Any (tells_check (nat_le (length w) LONGEST_NAME) Limit) (λ u h. tells_give w tt)))

pub tells_string : (space : Space) → Tells (string_attribute space) IsBounded
unfolding string_attribute
tells_string space = tells_then Any (tells_new_name space) (λ w n. tells_then Any tells_end (λ u t. tells_give (record { name = w; kind = kinds.Text }) tt))

pub tells_int : (space : Space) → Tells (int_attribute space) IsBounded
unfolding int_attribute
tells_int space = tells_then Any (tells_new_name space)
    (λ w n. tells_then (FitsSigned w64) tells_number
    (λ lo f. tells_then (FitsSigned w64) (tells_number_from lo)
    (λ hi g. tells_then Any tells_end (λ u t. tells_give (record { name = w; kind = kinds.Int lo hi }) (f, g)))))

tells_attribute : (d : Draft) (attribute : Space → Reader Attribute) → d.section ≡ sections.Attributes → BoundsSoFar d
    → CallsSoFar d → d.steps ≡ [] → Tells (attribute d.space) IsBounded → Tells (attribute_line d attribute) Said
unfolding attribute_line
tells_attribute d attribute s b c e y = tells_then Any (tells_check (nat_lt (length d.space.attributes) MOST_ATTRIBUTES) Limit)
    (λ u room. tells_then IsBounded y (λ a n. tells_give
    (record d { space = record d.space { attributes = d.space.attributes ++ a ∷ [] } })
    (record {
      bounds = All-push IsBounded d.space.attributes a b n;
      calls = c;
      steps = no_steps d.space.servers (length d.sessions) d.steps e;
      stage = rw s e;
    })))

-- ---- subspaces

tells_free_axis : (space : Space) (axes : List Axis) → Tells (free_axis space axes) Any
unfolding free_axis
tells_free_axis space axes = tells_then Any tells_named
    (λ w m. tells_then (λ a. declared_number space w ≡ Ok a) (tells_judged (declared_number space w))
    (λ a d. tells_then Any (tells_check (not (has_axis axes a)) Twice)
    (λ u n. tells_then Any (tells_check (nat_lt (length axes) MOST_AXES) Limit) (λ u r. tells_give a tt))))

tells_parts : (regions size : ℕ) → Tells (parts regions size) Any
unfolding parts
tells_parts regions size = tells_then (λ n. n ≤ MOST_PARTS) (tells_number_in 1 MOST_PARTS)
    (λ n h. tells_then Any (tells_check (nat_le (regions + size * n) MOST_REGIONS) Limit) (λ u r. tells_give n tt))

tells_axis : (space : Space) (regions : ℕ) (c : AxesDraft) → Tells (axis space regions c) Any
unfolding axis
tells_axis space regions c = tells_then Any (tells_free_axis space c.axes)
    (λ a f. tells_then Any (tells_parts regions c.size)
    (λ n p. tells_give (record { axes = c.axes ++ record { attribute = a; parts = n } ∷ []; size = c.size * n }) tt))

tells_next : (space : Space) (regions : ℕ) (c : AxesDraft) → Tells (next_axis space regions c) Any
unfolding next_axis
tells_next space regions c = tells_then Any (tells_sign (codes ",")) (λ u t. tells_axis space regions c)

pub tells_subspace : (space : Space) (regions : ℕ) → Tells (subspace space regions) Any
unfolding subspace
tells_subspace space regions = tells_then Any (tells_axis space regions no_axes_yet)
    (λ first f. tells_repeat Any until.End (next_axis space regions) (λ b q. tells_next space regions b) first tt)

tells_subspace_line : (d : Draft) → BoundsSoFar d → CallsSoFar d → d.steps ≡ [] → Tells (subspace_line d) Said
unfolding subspace_line
tells_subspace_line d b c e = tells_then Any (tells_check (nat_lt (length d.space.subspaces) MOST_SUBSPACES) Limit)
    (λ u room. tells_then Any (tells_subspace d.space d.regions)
    (λ x f. tells_give (record d {
      section = sections.Subspaces;
      regions = d.regions + x.size;
      space = record d.space { subspaces = d.space.subspaces ++ x.axes ∷ [] };
    })
    (record { bounds = b; calls = c; steps = no_steps d.space.servers (length d.sessions) d.steps e; stage = e })))

-- ---- servers and what they tolerate

tells_servers : (d : Draft) → BoundsSoFar d → CallsSoFar d → d.steps ≡ [] → Tells (servers_line d) Said
unfolding servers_line
tells_servers d b c e = tells_then (λ n. n ≤ MOST_SERVERS) (tells_number_in 1 MOST_SERVERS)
    (λ n h. tells_then Any tells_end (λ u t. tells_give
    (record d { section = sections.Tolerance; space = record d.space { servers = n } })
    (record { bounds = b; calls = c; steps = no_steps n (length d.sessions) d.steps e; stage = e })))

tells_tolerate : (d : Draft) → BoundsSoFar d → CallsSoFar d → d.steps ≡ [] → Tells (tolerate_line d) Said
unfolding tolerate_line
tells_tolerate d b c e = tells_then (λ n. n ≤ min (d.space.servers - 1) MOST_FAILURES)
    (tells_number_in 0 (min (d.space.servers - 1) MOST_FAILURES))
    (λ n h. tells_then Any tells_end (λ u t. tells_give
    (record d { section = sections.Sessions; space = record d.space { tolerate = n } })
    (record { bounds = b; calls = c; steps = no_steps d.space.servers (length d.sessions) d.steps e; stage = e })))

-- ---- sessions, calls and steps

tells_session : (d : Draft) → BoundsSoFar d → CallsSoFar d → d.steps ≡ [] → Tells (session_line d) Said
unfolding session_line
tells_session d b c e = tells_then Any (tells_check (nat_lt (length d.sessions) MOST_SESSIONS) Limit)
    (λ u room. tells_then (λ n. n ≤ length d.sessions + 1)
    (tells_number_in (length d.sessions + 1) (length d.sessions + 1))
    (λ n h. tells_then Any tells_end (λ u t. tells_give (record d { section = sections.Calls; sessions = d.sessions ++ [] ∷ [] })
    (record {
      bounds = b;
      calls = All-push (All CallIsSayable) d.sessions [] c (All-nil CallIsSayable);
      steps = no_steps d.space.servers (length (d.sessions ++ [] ∷ [])) d.steps e;
      stage = e;
    }))))

tells_steps : (d : Draft) → BoundsSoFar d → CallsSoFar d → d.steps ≡ [] → Tells (steps_line d) Said
unfolding steps_line
tells_steps d b c e = tells_then Any tells_end (λ u t. tells_give (record d { section = sections.Steps })
    (record { bounds = b; calls = c; steps = no_steps d.space.servers (length d.sessions) d.steps e; stage = tt }))

pub all_last : {A : Type 0} (P : A → Type 0) (sessions : List (List A)) (x : A) → All (All P) sessions → P x → All (All P) (push_to_last sessions x)
all_last P [] x a p = a
all_last P (xs ∷ []) x a p = All-cons (All P) (xs ++ x ∷ []) [] (All-push P xs x (All-head (All P) xs [] a) p) (All-nil (All P))
all_last P (xs ∷ ys ∷ rest) x a p = All-cons (All P) xs (push_to_last (ys ∷ rest) x)
    (All-head (All P) xs (ys ∷ rest) a) (all_last P (ys ∷ rest) x (All-tail (All P) xs (ys ∷ rest) a) p)

tells_call_line : (d : Draft) (w : CallWord) → d.section ≡ sections.Calls → BoundsSoFar d → CallsSoFar d → d.steps ≡ [] → Tells (call_line d w) Said
unfolding call_line
tells_call_line d w s b c e = tells_then Any (tells_check (nat_lt d.calls MOST_CALLS) Limit)
    (λ u room. tells_then CallIsSayable (tells_call d.space d.regions w)
    (λ op f. tells_give (record d { sessions = push_to_last d.sessions op; calls = d.calls + 1 })
    (record {
      bounds = b;
      calls = all_last CallIsSayable d.sessions op c f;
      steps = no_steps d.space.servers (length (push_to_last d.sessions op)) d.steps e;
      stage = rw s e;
    })))

tells_step_line : (n : ℕ) (d : Draft) (w : StepWord) → d.section ≡ sections.Steps → BoundsSoFar d → CallsSoFar d → StepsSoFar d → Tells (step_line n d w) Said
unfolding step_line
tells_step_line n d w s b c st = tells_then Any (tells_check (nat_lt (length d.steps) MOST_STEPS) Limit)
    (λ u room. tells_then (StepIsSayable d.space.servers (length d.sessions))
    (tells_step d.space.servers (length d.sessions) w) (λ x f. tells_give (record d { steps = d.steps ++ (n, x) ∷ [] })
    (record {
      bounds = b;
      calls = c;
      steps = All-push
          (λ (y : ℕ × Step). StepIsSayable d.space.servers (length d.sessions) y.1) d.steps (n, x) st f;
      stage = rw s tt;
    })))

-- ---- each line

tells_heading : (d : Draft) (sec : Section) (h : Heading) → d.section ≡ sec → BoundsSoFar d → CallsSoFar d
    → NoneBefore sec d → Tells (heading_line d sec h) Said
tells_heading d sections.Start headings.Hx s b c e = tells_hx d b c e
tells_heading d sections.Naming headings.Space s b c e = tells_space d b c e
tells_heading d sections.Keying headings.Key s b c e = tells_key d b c e
tells_heading d sections.Attributes headings.String s b c e = tells_attribute d string_attribute s b c e (tells_string d.space)
tells_heading d sections.Attributes headings.Int s b c e = tells_attribute d int_attribute s b c e (tells_int d.space)
tells_heading d sections.Attributes headings.Subspace s b c e = tells_subspace_line d b c e
tells_heading d sections.Subspaces headings.Subspace s b c e = tells_subspace_line d b c e
tells_heading d sections.Attributes headings.Servers s b c e = tells_servers d b c e
tells_heading d sections.Subspaces headings.Servers s b c e = tells_servers d b c e
tells_heading d sections.Tolerance headings.Tolerate s b c e = tells_tolerate d b c e
tells_heading d sections.Sessions headings.Session s b c e = tells_session d b c e
tells_heading d sections.Calls headings.Session s b c e = tells_session d b c e
tells_heading d sections.Sessions headings.Steps s b c e = tells_steps d b c e
tells_heading d sections.Calls headings.Steps s b c e = tells_steps d b c e
tells_heading d sec h s b c e = tells_refuse Order

tells_line : (n : ℕ) (d : Draft) (sec : Section) (k : Option Keyword) → d.section ≡ sec → BoundsSoFar d → CallsSoFar d
    → StepsSoFar d → NoneBefore sec d → Tells (line_for n d sec k) Said
tells_line n d sec (Some (keywords.Heading h)) s b c st e = tells_heading d sec h s b c e
tells_line n d sections.Calls (Some (keywords.Call w)) s b c st e = tells_call_line d w s b c e
tells_line n d sections.Steps (Some (keywords.Step w)) s b c st e = tells_step_line n d w s b c st
tells_line n d sec k s b c st e = tells_refuse Order

pub tells_command : (n : ℕ) (d : Draft) → Said d → Tells (command n d) Said
unfolding command
tells_command n d so = tells_then Any tells_word (λ w i. tells_line n d d.section (keyword_of w) refl so.bounds so.calls so.steps so.stage)
