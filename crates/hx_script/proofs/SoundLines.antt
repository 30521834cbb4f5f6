-- Each line keeps what holds of a draft.
use Rattle.std.proofs.Common.{◌≡◌, ℕ, suc, ◌+◌, ◌-◌, ◌*◌, ◌<◌, ◌≤◌, true, false, List, [], ◌∷◌, ◌++◌, length, Option, Some, None, refl, ap, arith}
use Rattle.std.specs.Prelude.{int_le, min, nat_lt, sum_by}
use Rattle.std.specs.List.{All}
use Rattle.std.specs.Int.Signed.{le_z_yes}
use Rattle.std.specs.Str.{bytes_eq}
use Rattle.std.proofs.lemmas.Bool.{ltb-true}
use Rattle.std.proofs.lemmas.Float.{T_from_true}
use Rattle.std.proofs.lemmas.List.{length_push}
use Rattle.std.proofs.lemmas.List.Elements.{All-nil, All-cons, All-head, All-tail, All-push}
use Rattle.std.proofs.lemmas.List.Sums.{sum_by-append}
use Rattle.hx_lex.specs.Letters.{IsWord}
use Rattle.hx_types.specs.declared.calls.Op.{Op}
use Rattle.hx_types.specs.declared.limits.TheConstants.{MOST_ATTRIBUTES, MOST_CALLS, MOST_FAILURES, MOST_PARTS, MOST_SERVERS, MOST_SESSIONS, MOST_STEPS}
use Rattle.hx_types.specs.declared.limits.TheConstants.{MOST_SUBSPACES}
use Rattle.hx_types.specs.declared.spaces.Attribute.{Attribute}
use Rattle.hx_types.specs.declared.spaces.Axis.{Axis}
use Rattle.hx_types.specs.declared.spaces.Kind.TheVariants as kinds
use Rattle.hx_types.specs.declared.spaces.Space.{Space}
use Rattle.hx_types.specs.declared.traces.Step.{Step}
use Rattle.hx_types.specs.Spaces.{IsName, IsKind, ArePart, Fits}
use Rattle.hx_types.specs.Subspaces.{size_of, sizes_sum}
use Rattle.hx_script.specs.declared.axes.AxesDraft.{AxesDraft}
use Rattle.hx_script.specs.declared.draft.Draft.{Draft}
use Rattle.hx_script.specs.declared.draft.Section.{Section}
use Rattle.hx_script.specs.declared.draft.Section.TheVariants as sections
use Rattle.hx_script.specs.declared.errors.Reason.TheVariants.{Order, Limit}
use Rattle.hx_script.specs.declared.keyword.CallWord.{CallWord}
use Rattle.hx_script.specs.declared.keyword.Heading.{Heading}
use Rattle.hx_script.specs.declared.keyword.Heading.TheVariants as headings
use Rattle.hx_script.specs.declared.keyword.Keyword.{Keyword}
use Rattle.hx_script.specs.declared.keyword.Keyword.TheVariants as keywords
use Rattle.hx_script.specs.declared.keyword.StepWord.{StepWord}
use Rattle.hx_script.specs.declared.keyword.StepWord.TheVariants as step_words
use Rattle.hx_script.specs.Readers.{Reader}
use Rattle.hx_script.specs.Words.{is_declared, has_attribute}
use Rattle.hx_script.specs.Actors.{actor, actor_word}
use Rattle.hx_script.specs.Calls.{deliver, tick, halt, step}
use Rattle.hx_script.specs.Keywords.{keyword_of}
use Rattle.hx_script.specs.Grammar.{hx_line, space_line, key_line, string_attribute, int_attribute, attribute_line}
use Rattle.hx_script.specs.Grammar.{subspace_line, servers_line, tolerate_line, session_line, steps_line, push_to_last}
use Rattle.hx_script.specs.Grammar.{call_line, step_line, heading_line, line_for, command}
use Rattle.hx_script.proofs.FittingCalls.{yields_call}
use Rattle.hx_script.proofs.FittingAxes.{DraftFits, yields_subspace, sizes_push}
use Rattle.hx_script.proofs.Naming.{IsNew, yields_name, yields_new_name}
use Rattle.hx_script.proofs.Once.{or_left, or_right, named_once}
use Rattle.hx_script.proofs.Sections.{AreAxes, Spaced, SpaceSoFar, Called, CallsSoFar, Fresh, Headed, HasServers, Complete, BySection, Sound}
use Rattle.hx_script.proofs.Yields.{Yields, Any, yields_then, yields_give, yields_refuse, yields_check, yields_judged}
use Rattle.hx_script.proofs.Yields.{yields_word, yields_number, yields_number_in, yields_number_from, yields_natural}
use Rattle.hx_script.proofs.Yields.{yields_sign, yields_end}

pub all_none : {A : Type 0} (P : A → Type 0) (xs : List A) → xs ≡ [] → All P xs
all_none P [] e = All-nil P
all_none P (x ∷ xs) e = absurd cc

pub shorter : {A : Type 0} (xs : List A) (x : A) (n : ℕ) → length xs < n → length (xs ++ x ∷ []) ≤ n
shorter xs x n lt = omega (arith, lt, length_push xs x)

yields_hx : (d : Draft) → SpaceSoFar d → CallsSoFar d → Fresh d → Yields (hx_line d) Sound
unfolding hx_line
yields_hx d s c f = yields_then (λ n. (1 ≤ n) × (n ≤ 1)) (yields_number_in 1 1)
    (λ n h. yields_then Any yields_end (λ u t. yields_give (record d { section = sections.Naming })
    (record { space = s; calls = c; stage = f })))

yields_space : (d : Draft) → SpaceSoFar d → CallsSoFar d → Fresh d → Yields (space_line d) Sound
unfolding space_line
yields_space d s c f = yields_then IsName yields_name
    (λ w i. yields_then Any yields_end (λ u t. yields_give
    (record d { section = sections.Keying; space = record d.space { name = w } })
    (record { space = s; calls = c; stage = (f, i) })))

-- the space with its key alone
key_alone : (w : List ℕ) (parts : ℕ) (attributes : List Attribute) (subspaces : List (List Axis)) → ArePart parts
    → attributes ≡ [] → subspaces ≡ [] → Spaced w parts attributes subspaces parts
key_alone w parts [] [] p ea es = record {
  names = All-nil (λ (a : Attribute). IsName a.name × IsKind a.kind);
  differ = (All-nil (λ (m : List ℕ). m ≡ w → ⊥), tt);
  few = omega arith;
  axes = All-nil (AreAxes 0);
  few_subspaces = omega arith;
  count = omega arith;
  few_regions = omega (arith, p.1);
}
key_alone w parts [] (x ∷ xs) p ea es = absurd cc
key_alone w parts (x ∷ xs) ys p ea es = absurd cc

yields_key : (d : Draft) → CallsSoFar d → Fresh d → IsName d.space.name → Yields (key_line d) Sound
unfolding key_line
yields_key d c f i = yields_then IsName yields_name
    (λ w k. yields_then (λ n. (1 ≤ n) × (n ≤ MOST_PARTS)) (yields_number_in 1 MOST_PARTS)
    (λ n h. yields_then Any yields_end (λ u t. yields_give
    (record d { section = sections.Attributes; regions = n; space = record d.space { key_name = w; key_parts = n } })
    (record { space = key_alone w n d.space.attributes d.space.subspaces h f.0 f.1; calls = c; stage = ((i, k, h), f.1, f.2) }))))

pub record IsNextAttribute (space : Space) (a : Attribute) : Type 0 where
  pub name : IsName a.name
  pub new : is_declared space a.name ≡ false
  pub kind : IsKind a.kind

pub yields_string : (space : Space) → Yields (string_attribute space) (IsNextAttribute space)
unfolding string_attribute
yields_string space = yields_then (IsNew space) (yields_new_name space)
    (λ w n. yields_then Any yields_end (λ u t. yields_give (record { name = w; kind = kinds.Text })
    (record { name = n.name; new = n.new; kind = tt })))

pub yields_int : (space : Space) → Yields (int_attribute space) (IsNextAttribute space)
unfolding int_attribute
yields_int space = yields_then (IsNew space) (yields_new_name space)
    (λ w n. yields_then Any yields_number (λ lo u. yields_then (λ hi. int_le lo hi ≡ true) (yields_number_from lo)
    (λ hi h. yields_then Any yields_end (λ v t. yields_give (record { name = w; kind = kinds.Int lo hi })
    (record { name = n.name; new = n.new; kind = le_z_yes (T_from_true (int_le lo hi) h) })))))

one_attribute_more : (d : Draft) (a : Attribute) → SpaceSoFar d → d.space.subspaces ≡ []
    → length d.space.attributes < MOST_ATTRIBUTES → IsNextAttribute d.space a
    → Spaced d.space.key_name d.space.key_parts (d.space.attributes ++ a ∷ []) d.space.subspaces d.regions
one_attribute_more d a s none room next = record {
  names = All-push (λ (x : Attribute). IsName x.name × IsKind x.kind) d.space.attributes a s.names (next.name, next.kind);
  differ = named_once (λ (x : Attribute). x.name) d.space.key_name d.space.attributes a s.differ
      (or_left (bytes_eq d.space.key_name a.name) (has_attribute d.space a.name) next.new)
      (or_right (bytes_eq d.space.key_name a.name) (has_attribute d.space a.name) next.new);
  few = shorter d.space.attributes a MOST_ATTRIBUTES room;
  axes = all_none (AreAxes (length (d.space.attributes ++ a ∷ []))) d.space.subspaces none;
  few_subspaces = s.few_subspaces;
  count = s.count;
  few_regions = s.few_regions;
}

yields_attribute : (d : Draft) (attribute : Space → Reader Attribute) → d.section ≡ sections.Attributes → SpaceSoFar d
    → CallsSoFar d → Headed d × (d.space.subspaces ≡ []) × (d.sessions ≡ [])
    → Yields (attribute d.space) (IsNextAttribute d.space) → Yields (attribute_line d attribute) Sound
unfolding attribute_line
yields_attribute d attribute e s c st y = yields_then (λ u. nat_lt (length d.space.attributes) MOST_ATTRIBUTES ≡ true)
    (yields_check (nat_lt (length d.space.attributes) MOST_ATTRIBUTES) Limit)
    (λ u room. yields_then (IsNextAttribute d.space) y
    (λ a n. yields_give (record d { space = record d.space { attributes = d.space.attributes ++ a ∷ [] } })
    (record {
      space = one_attribute_more d a s st.1 (ltb-true (length d.space.attributes) MOST_ATTRIBUTES room) n;
      calls = c;
      stage = rw e st;
    })))

one_subspace_more : (d : Draft) (axes_draft : AxesDraft) → SpaceSoFar d → length d.space.subspaces < MOST_SUBSPACES
    → DraftFits d.space d.regions axes_draft → Spaced d.space.key_name d.space.key_parts d.space.attributes
    (d.space.subspaces ++ axes_draft.axes ∷ []) (d.regions + axes_draft.size)
one_subspace_more d axes_draft s room fits =
    let sum : sizes_sum (d.space.subspaces ++ axes_draft.axes ∷ [])
    ≡ sizes_sum d.space.subspaces + size_of axes_draft.axes = sizes_push d.space.subspaces axes_draft.axes in
    let count : d.regions ≡ d.space.key_parts * 1 + sizes_sum d.space.subspaces = s.count in
    let size : axes_draft.size ≡ size_of axes_draft.axes = fits.size in
    record {
      names = s.names;
      differ = s.differ;
      few = s.few;
      axes = All-push (AreAxes (length d.space.attributes)) d.space.subspaces axes_draft.axes s.axes fits.axes;
      few_subspaces = shorter d.space.subspaces axes_draft.axes MOST_SUBSPACES room;
      count = omega (arith, sum, count, size);
      few_regions = fits.room;
    }

yields_subspace_line : (d : Draft) → SpaceSoFar d → CallsSoFar d → Headed d × (d.sessions ≡ []) → Yields (subspace_line d) Sound
unfolding subspace_line
yields_subspace_line d s c st = yields_then (λ u. nat_lt (length d.space.subspaces) MOST_SUBSPACES ≡ true)
    (yields_check (nat_lt (length d.space.subspaces) MOST_SUBSPACES) Limit)
    (λ u room. yields_then (DraftFits d.space d.regions) (yields_subspace d.space d.regions)
    (λ x f. yields_give (record d {
      section = sections.Subspaces;
      regions = d.regions + x.size;
      space = record d.space { subspaces = d.space.subspaces ++ x.axes ∷ [] };
    })
    (record { space = one_subspace_more d x s (ltb-true (length d.space.subspaces) MOST_SUBSPACES room) f; calls = c; stage = st })))

yields_servers : (d : Draft) → SpaceSoFar d → CallsSoFar d → Headed d × (d.sessions ≡ []) → Yields (servers_line d) Sound
unfolding servers_line
yields_servers d s c st = yields_then (λ n. (1 ≤ n) × (n ≤ MOST_SERVERS)) (yields_number_in 1 MOST_SERVERS)
    (λ n h. yields_then Any yields_end (λ u t. yields_give
    (record d { section = sections.Tolerance; space = record d.space { servers = n } })
    (record { space = s; calls = c; stage = (st.0, st.1, h) })))

pub below_servers : (servers n : ℕ) → 0 < servers → n ≤ min (servers - 1) MOST_FAILURES → (n ≤ MOST_FAILURES) × (n < servers)
below_servers servers n low h = (omega (arith, low, h), omega (arith, low, h))

yields_tolerate : (d : Draft) → SpaceSoFar d → CallsSoFar d → Headed d × (d.sessions ≡ []) × HasServers d → Yields (tolerate_line d) Sound
unfolding tolerate_line
yields_tolerate d s c st = yields_then (λ n. (0 ≤ n) × (n ≤ min (d.space.servers - 1) MOST_FAILURES))
    (yields_number_in 0 (min (d.space.servers - 1) MOST_FAILURES))
    (λ n h. yields_then Any yields_end (λ u t. yields_give
    (record d { section = sections.Sessions; space = record d.space { tolerate = n } })
    (record {
      space = s;
      calls = c;
      stage = (
        st.0,
        st.2,
        below_servers d.space.servers n st.2.0 h.1,
        all_none (λ (ops : List Op). All (Fits (record d.space { tolerate = n })) ops) d.sessions st.1,
      );
    })))

pub one_session_more : (sessions : List (List Op)) (calls : ℕ) (steps : List (ℕ × Step)) → length sessions < MOST_SESSIONS
    → Called sessions calls steps → Called (sessions ++ [] ∷ []) calls steps
one_session_more sessions calls steps room c = record {
  few_sessions = shorter sessions [] MOST_SESSIONS room;
  counted = omega (arith, c.counted, sum_by-append (λ (ops : List Op). length ops) sessions ([] ∷ []));
  few_calls = c.few_calls;
  few_steps = c.few_steps;
}

yields_session : (d : Draft) → SpaceSoFar d → CallsSoFar d → Complete d → Yields (session_line d) Sound
unfolding session_line
yields_session d s c st = yields_then (λ u. nat_lt (length d.sessions) MOST_SESSIONS ≡ true)
    (yields_check (nat_lt (length d.sessions) MOST_SESSIONS) Limit)
    (λ u room. yields_then (λ n. (length d.sessions + 1 ≤ n) × (n ≤ length d.sessions + 1))
    (yields_number_in (length d.sessions + 1) (length d.sessions + 1))
    (λ n h. yields_then Any yields_end (λ v t. yields_give
    (record d { section = sections.Calls; sessions = d.sessions ++ [] ∷ [] })
    (record {
      space = s;
      calls = one_session_more d.sessions d.calls d.steps (ltb-true (length d.sessions) MOST_SESSIONS room) c;
      stage = (
        st.0,
        st.1,
        st.2,
        All-push (λ (ops : List Op). All (Fits d.space) ops) d.sessions [] st.3
            (All-nil (Fits d.space)),
      );
    }))))

yields_steps : (d : Draft) → SpaceSoFar d → CallsSoFar d → Complete d → Yields (steps_line d) Sound
unfolding steps_line
yields_steps d s c st = yields_then Any yields_end (λ u t. yields_give (record d { section = sections.Steps }) (record { space = s; calls = c; stage = st }))

pub all_last : {A : Type 0} (P : A → Type 0) (sessions : List (List A)) (x : A) → All (All P) sessions → P x → All (All P) (push_to_last sessions x)
all_last P [] x a p = a
all_last P (xs ∷ []) x a p = All-cons (All P) (xs ++ x ∷ []) [] (All-push P xs x (All-head (All P) xs [] a) p) (All-nil (All P))
all_last P (xs ∷ ys ∷ rest) x a p = All-cons (All P) xs (push_to_last (ys ∷ rest) x)
    (All-head (All P) xs (ys ∷ rest) a) (all_last P (ys ∷ rest) x (All-tail (All P) xs (ys ∷ rest) a) p)

pub same_count : {A : Type 0} (sessions : List (List A)) (x : A) → length (push_to_last sessions x) ≡ length sessions
same_count [] x = refl
same_count (xs ∷ []) x = refl
same_count (xs ∷ ys ∷ rest) x = ap suc (same_count (ys ∷ rest) x)

sum_cons : {A : Type 0} (xs : List A) (sessions : List (List A))
    → sum_by (λ (ops : List A). length ops) (xs ∷ sessions) ≡ length xs + sum_by (λ (ops : List A). length ops) sessions
sum_cons {A} xs sessions =
    let e : sum_by (λ (ops : List A). length ops) (xs ∷ sessions)
    ≡ 0 + length xs + sum_by (λ (ops : List A). length ops) sessions =
    sum_by-append (λ (ops : List A). length ops) (xs ∷ []) sessions in
    omega (arith, e)

pub one_counted : {A : Type 0} (sessions : List (List A)) (x : A)
    → sum_by (λ (ops : List A). length ops) (push_to_last sessions x) ≤ sum_by (λ (ops : List A). length ops) sessions + 1
one_counted [] x = omega arith
one_counted (xs ∷ []) x = omega (arith, sum_cons (xs ++ x ∷ []) [], sum_cons xs [], length_push xs x)
one_counted (xs ∷ ys ∷ rest) x = omega (arith, sum_cons xs (push_to_last (ys ∷ rest) x), sum_cons xs (ys ∷ rest), one_counted (ys ∷ rest) x)

one_call_more : (sessions : List (List Op)) (calls : ℕ) (steps : List (ℕ × Step)) (op : Op) → calls < MOST_CALLS
    → Called sessions calls steps → Called (push_to_last sessions op) (calls + 1) steps
one_call_more sessions calls steps op room c = record {
  few_sessions = rw (same_count sessions op) c.few_sessions;
  counted = omega (arith, c.counted, one_counted sessions op);
  few_calls = omega (arith, room);
  few_steps = c.few_steps;
}

pub some_regions : (d : Draft) → SpaceSoFar d → ArePart d.space.key_parts → 0 < d.regions
some_regions d s p =
    let count : d.regions ≡ d.space.key_parts * 1 + sizes_sum d.space.subspaces = s.count in
    omega (arith, count, p.0)

pub yields_call_line : (d : Draft) (w : CallWord) → d.section ≡ sections.Calls → SpaceSoFar d → CallsSoFar d → Complete d → Yields (call_line d w) Sound
unfolding call_line
yields_call_line d w e s c st = yields_then (λ u. nat_lt d.calls MOST_CALLS ≡ true)
    (yields_check (nat_lt d.calls MOST_CALLS) Limit) (λ u room. yields_then (Fits d.space)
    (yields_call d.space d.regions w s.count (some_regions d s st.0.2))
    (λ op f. yields_give (record d { sessions = push_to_last d.sessions op; calls = d.calls + 1 })
    (record {
      space = s;
      calls = one_call_more d.sessions d.calls d.steps op (ltb-true d.calls MOST_CALLS room) c;
      stage = rw e (st.0, st.1, st.2, all_last (Fits d.space) d.sessions op st.3 f);
    })))

yields_actor : (servers sessions : ℕ) → Yields (actor servers sessions) Any
unfolding actor
yields_actor servers sessions = yields_then IsWord yields_word
    (λ w i. record { at = λ ts x all e. (tt, ((yields_judged (actor_word servers sessions w)).at ts x all e).1) })

yields_step : (servers sessions : ℕ) (w : StepWord) → Yields (step servers sessions w) Any
unfolding deliver tick halt
yields_step servers sessions step_words.Deliver =
    yields_then Any yields_natural (λ n u. yields_then Any (yields_sign _)
    (λ v t. yields_then (λ p. (0 ≤ p) × (p ≤ 4294967295)) (yields_number_in 0 4294967295)
    (λ p h. yields_then Any yields_end (λ x y. yields_give _ tt))))
yields_step servers sessions step_words.Tick = yields_then Any (yields_actor servers sessions) (λ a u. yields_then Any yields_end (λ x y. yields_give _ tt))
yields_step servers sessions step_words.Halt = yields_then Any (yields_actor servers sessions) (λ a u. yields_then Any yields_end (λ x y. yields_give _ tt))

one_step_more : (sessions : List (List Op)) (calls : ℕ) (steps : List (ℕ × Step)) (x : ℕ × Step)
    → length steps < MOST_STEPS → Called sessions calls steps → Called sessions calls (steps ++ x ∷ [])
one_step_more sessions calls steps x room c = record {
  few_sessions = c.few_sessions;
  counted = c.counted;
  few_calls = c.few_calls;
  few_steps = shorter steps x MOST_STEPS room;
}

yields_step_line : (n : ℕ) (d : Draft) (w : StepWord) → d.section ≡ sections.Steps → SpaceSoFar d → CallsSoFar d → Complete d → Yields (step_line n d w) Sound
unfolding step_line
yields_step_line n d w e s c st = yields_then (λ u. nat_lt (length d.steps) MOST_STEPS ≡ true)
    (yields_check (nat_lt (length d.steps) MOST_STEPS) Limit)
    (λ u room. yields_then Any (yields_step d.space.servers (length d.sessions) w)
    (λ x f. yields_give (record d { steps = d.steps ++ (n, x) ∷ [] })
    (record {
      space = s;
      calls = one_step_more d.sessions d.calls d.steps (n, x)
          (ltb-true (length d.steps) MOST_STEPS room) c;
      stage = rw e st;
    })))

pub yields_heading : (d : Draft) (sec : Section) (h : Heading) → d.section ≡ sec → SpaceSoFar d → CallsSoFar d
    → BySection sec d → Yields (heading_line d sec h) Sound
yields_heading d sections.Start headings.Hx e s c st = yields_hx d s c st
yields_heading d sections.Start headings.Space e s c st = yields_refuse Order
yields_heading d sections.Start headings.Key e s c st = yields_refuse Order
yields_heading d sections.Start headings.String e s c st = yields_refuse Order
yields_heading d sections.Start headings.Int e s c st = yields_refuse Order
yields_heading d sections.Start headings.Subspace e s c st = yields_refuse Order
yields_heading d sections.Start headings.Servers e s c st = yields_refuse Order
yields_heading d sections.Start headings.Tolerate e s c st = yields_refuse Order
yields_heading d sections.Start headings.Session e s c st = yields_refuse Order
yields_heading d sections.Start headings.Steps e s c st = yields_refuse Order
yields_heading d sections.Naming headings.Hx e s c st = yields_refuse Order
yields_heading d sections.Naming headings.Space e s c st = yields_space d s c st
yields_heading d sections.Naming headings.Key e s c st = yields_refuse Order
yields_heading d sections.Naming headings.String e s c st = yields_refuse Order
yields_heading d sections.Naming headings.Int e s c st = yields_refuse Order
yields_heading d sections.Naming headings.Subspace e s c st = yields_refuse Order
yields_heading d sections.Naming headings.Servers e s c st = yields_refuse Order
yields_heading d sections.Naming headings.Tolerate e s c st = yields_refuse Order
yields_heading d sections.Naming headings.Session e s c st = yields_refuse Order
yields_heading d sections.Naming headings.Steps e s c st = yields_refuse Order
yields_heading d sections.Keying headings.Hx e s c st = yields_refuse Order
yields_heading d sections.Keying headings.Space e s c st = yields_refuse Order
yields_heading d sections.Keying headings.Key e s c st = yields_key d c st.0 st.1
yields_heading d sections.Keying headings.String e s c st = yields_refuse Order
yields_heading d sections.Keying headings.Int e s c st = yields_refuse Order
yields_heading d sections.Keying headings.Subspace e s c st = yields_refuse Order
yields_heading d sections.Keying headings.Servers e s c st = yields_refuse Order
yields_heading d sections.Keying headings.Tolerate e s c st = yields_refuse Order
yields_heading d sections.Keying headings.Session e s c st = yields_refuse Order
yields_heading d sections.Keying headings.Steps e s c st = yields_refuse Order
yields_heading d sections.Attributes headings.Hx e s c st = yields_refuse Order
yields_heading d sections.Attributes headings.Space e s c st = yields_refuse Order
yields_heading d sections.Attributes headings.Key e s c st = yields_refuse Order
yields_heading d sections.Attributes headings.String e s c st = yields_attribute d string_attribute e s c st (yields_string d.space)
yields_heading d sections.Attributes headings.Int e s c st = yields_attribute d int_attribute e s c st (yields_int d.space)
yields_heading d sections.Attributes headings.Subspace e s c st = yields_subspace_line d s c (st.0, st.2)
yields_heading d sections.Attributes headings.Servers e s c st = yields_servers d s c (st.0, st.2)
yields_heading d sections.Attributes headings.Tolerate e s c st = yields_refuse Order
yields_heading d sections.Attributes headings.Session e s c st = yields_refuse Order
yields_heading d sections.Attributes headings.Steps e s c st = yields_refuse Order
yields_heading d sections.Subspaces headings.Hx e s c st = yields_refuse Order
yields_heading d sections.Subspaces headings.Space e s c st = yields_refuse Order
yields_heading d sections.Subspaces headings.Key e s c st = yields_refuse Order
yields_heading d sections.Subspaces headings.String e s c st = yields_refuse Order
yields_heading d sections.Subspaces headings.Int e s c st = yields_refuse Order
yields_heading d sections.Subspaces headings.Subspace e s c st = yields_subspace_line d s c st
yields_heading d sections.Subspaces headings.Servers e s c st = yields_servers d s c st
yields_heading d sections.Subspaces headings.Tolerate e s c st = yields_refuse Order
yields_heading d sections.Subspaces headings.Session e s c st = yields_refuse Order
yields_heading d sections.Subspaces headings.Steps e s c st = yields_refuse Order
yields_heading d sections.Tolerance headings.Hx e s c st = yields_refuse Order
yields_heading d sections.Tolerance headings.Space e s c st = yields_refuse Order
yields_heading d sections.Tolerance headings.Key e s c st = yields_refuse Order
yields_heading d sections.Tolerance headings.String e s c st = yields_refuse Order
yields_heading d sections.Tolerance headings.Int e s c st = yields_refuse Order
yields_heading d sections.Tolerance headings.Subspace e s c st = yields_refuse Order
yields_heading d sections.Tolerance headings.Servers e s c st = yields_refuse Order
yields_heading d sections.Tolerance headings.Tolerate e s c st = yields_tolerate d s c st
yields_heading d sections.Tolerance headings.Session e s c st = yields_refuse Order
yields_heading d sections.Tolerance headings.Steps e s c st = yields_refuse Order
yields_heading d sections.Sessions headings.Hx e s c st = yields_refuse Order
yields_heading d sections.Sessions headings.Space e s c st = yields_refuse Order
yields_heading d sections.Sessions headings.Key e s c st = yields_refuse Order
yields_heading d sections.Sessions headings.String e s c st = yields_refuse Order
yields_heading d sections.Sessions headings.Int e s c st = yields_refuse Order
yields_heading d sections.Sessions headings.Subspace e s c st = yields_refuse Order
yields_heading d sections.Sessions headings.Servers e s c st = yields_refuse Order
yields_heading d sections.Sessions headings.Tolerate e s c st = yields_refuse Order
yields_heading d sections.Sessions headings.Session e s c st = yields_session d s c st
yields_heading d sections.Sessions headings.Steps e s c st = yields_steps d s c st
yields_heading d sections.Calls headings.Hx e s c st = yields_refuse Order
yields_heading d sections.Calls headings.Space e s c st = yields_refuse Order
yields_heading d sections.Calls headings.Key e s c st = yields_refuse Order
yields_heading d sections.Calls headings.String e s c st = yields_refuse Order
yields_heading d sections.Calls headings.Int e s c st = yields_refuse Order
yields_heading d sections.Calls headings.Subspace e s c st = yields_refuse Order
yields_heading d sections.Calls headings.Servers e s c st = yields_refuse Order
yields_heading d sections.Calls headings.Tolerate e s c st = yields_refuse Order
yields_heading d sections.Calls headings.Session e s c st = yields_session d s c st
yields_heading d sections.Calls headings.Steps e s c st = yields_steps d s c st
yields_heading d sections.Steps headings.Hx e s c st = yields_refuse Order
yields_heading d sections.Steps headings.Space e s c st = yields_refuse Order
yields_heading d sections.Steps headings.Key e s c st = yields_refuse Order
yields_heading d sections.Steps headings.String e s c st = yields_refuse Order
yields_heading d sections.Steps headings.Int e s c st = yields_refuse Order
yields_heading d sections.Steps headings.Subspace e s c st = yields_refuse Order
yields_heading d sections.Steps headings.Servers e s c st = yields_refuse Order
yields_heading d sections.Steps headings.Tolerate e s c st = yields_refuse Order
yields_heading d sections.Steps headings.Session e s c st = yields_refuse Order
yields_heading d sections.Steps headings.Steps e s c st = yields_refuse Order

yields_line : (n : ℕ) (d : Draft) (sec : Section) (k : Option Keyword) → d.section ≡ sec → SpaceSoFar d → CallsSoFar d
    → BySection sec d → Yields (line_for n d sec k) Sound
yields_line n d sec (Some (keywords.Heading h)) e s c st = yields_heading d sec h e s c st
yields_line n d sections.Start (Some (keywords.Call w)) e s c st = yields_refuse Order
yields_line n d sections.Naming (Some (keywords.Call w)) e s c st = yields_refuse Order
yields_line n d sections.Keying (Some (keywords.Call w)) e s c st = yields_refuse Order
yields_line n d sections.Attributes (Some (keywords.Call w)) e s c st = yields_refuse Order
yields_line n d sections.Subspaces (Some (keywords.Call w)) e s c st = yields_refuse Order
yields_line n d sections.Tolerance (Some (keywords.Call w)) e s c st = yields_refuse Order
yields_line n d sections.Sessions (Some (keywords.Call w)) e s c st = yields_refuse Order
yields_line n d sections.Calls (Some (keywords.Call w)) e s c st = yields_call_line d w e s c st
yields_line n d sections.Steps (Some (keywords.Call w)) e s c st = yields_refuse Order
yields_line n d sections.Start (Some (keywords.Step w)) e s c st = yields_refuse Order
yields_line n d sections.Naming (Some (keywords.Step w)) e s c st = yields_refuse Order
yields_line n d sections.Keying (Some (keywords.Step w)) e s c st = yields_refuse Order
yields_line n d sections.Attributes (Some (keywords.Step w)) e s c st = yields_refuse Order
yields_line n d sections.Subspaces (Some (keywords.Step w)) e s c st = yields_refuse Order
yields_line n d sections.Tolerance (Some (keywords.Step w)) e s c st = yields_refuse Order
yields_line n d sections.Sessions (Some (keywords.Step w)) e s c st = yields_refuse Order
yields_line n d sections.Calls (Some (keywords.Step w)) e s c st = yields_refuse Order
yields_line n d sections.Steps (Some (keywords.Step w)) e s c st = yields_step_line n d w e s c st
yields_line n d sections.Start None e s c st = yields_refuse Order
yields_line n d sections.Naming None e s c st = yields_refuse Order
yields_line n d sections.Keying None e s c st = yields_refuse Order
yields_line n d sections.Attributes None e s c st = yields_refuse Order
yields_line n d sections.Subspaces None e s c st = yields_refuse Order
yields_line n d sections.Tolerance None e s c st = yields_refuse Order
yields_line n d sections.Sessions None e s c st = yields_refuse Order
yields_line n d sections.Calls None e s c st = yields_refuse Order
yields_line n d sections.Steps None e s c st = yields_refuse Order

pub yields_command : (n : ℕ) (d : Draft) → Sound d → Yields (command n d) Sound
unfolding command
yields_command n d so = yields_then IsWord yields_word (λ w i. yields_line n d d.section (keyword_of w) refl so.space so.calls so.stage)
