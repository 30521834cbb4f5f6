-- Each line keeps what holds of the draft of a bundle.
use Rattle.std.proofs.Common.{◌≡◌, ℕ, ◌+◌, ◌-◌, ◌<◌, ◌≤◌, Bool, true, false, cond, List, [], ◌∷◌, ◌++◌, length, map}
use Rattle.std.proofs.Common.{min, Option, Some, None, Result, Ok, Err, refl, sym, ◌∙◌, subst, arith}
use Rattle.std.specs.Prelude.{◌&&◌, ◌==◌, IfSome, codes, nat_le, nat_lt, not, slice_get, slice_index_or, slice_set}
use Rattle.std.specs.List.{All, AllZip, list_all, list_any, position_or_len}
use Rattle.std.proofs.lemmas.Bool.{leb-true, ltb-true}
use Rattle.std.proofs.lemmas.List.{length-append, length-map, length-set, map-append}
use Rattle.std.proofs.lemmas.List.Elements.{All-nil, All-cons, All-push, All-set, All-map}
use Rattle.std.proofs.lemmas.List.Sums.{sum_by-append}
use Rattle.hx_lex.specs.Letters.{IsWord}
use Rattle.hx_lex.specs.Numbers.{value as value_of}
use Rattle.hx_bundle.specs.declared.bundles.BundleStep.{BundleStep}
use Rattle.hx_bundle.specs.declared.limits.TheConstants.{MOST_SPACES}
use Rattle.hx_bundle.specs.Bundles.{AreDealt}
use Rattle.hx_types.specs.declared.calls.Op.{Op}
use Rattle.hx_types.specs.declared.ids.Actor.{Actor}
use Rattle.hx_types.specs.declared.ids.Actor.TheVariants.{Coordinator, Server, Session}
use Rattle.hx_types.specs.declared.limits.TheConstants.{LONGEST_NAME, MOST_ATTRIBUTES, MOST_CALLS, MOST_FAILURES, MOST_PARTS, MOST_SERVERS, MOST_SESSIONS}
use Rattle.hx_types.specs.declared.limits.TheConstants.{MOST_STEPS, MOST_SUBSPACES}
use Rattle.hx_types.specs.declared.spaces.Attribute.{Attribute}
use Rattle.hx_types.specs.declared.spaces.Space.{Space}
use Rattle.hx_types.specs.declared.traces.Step.TheVariants.{Deliver, Tick, Halt}
use Rattle.hx_types.specs.Spaces.{Fits, IsName, NamesDiffer}
use Rattle.hx_script.specs.declared.bundle_draft.BundleDraft.{BundleDraft}
use Rattle.hx_script.specs.declared.bundle_draft.BundleSection.{BundleSection}
use Rattle.hx_script.specs.declared.bundle_draft.BundleSection.TheVariants as stages
use Rattle.hx_script.specs.declared.draft.Draft.{Draft}
use Rattle.hx_script.specs.declared.draft.Section.{Section}
use Rattle.hx_script.specs.declared.draft.Section.TheVariants as sections
use Rattle.hx_script.specs.declared.errors.Reason.{Reason}
use Rattle.hx_script.specs.declared.errors.Reason.TheVariants.{Order, Bounds, Twice, Limit}
use Rattle.hx_script.specs.declared.keyword.CallWord.{CallWord}
use Rattle.hx_script.specs.declared.keyword.Heading.{Heading}
use Rattle.hx_script.specs.declared.keyword.Heading.TheVariants as headings
use Rattle.hx_script.specs.declared.keyword.Keyword.{Keyword}
use Rattle.hx_script.specs.declared.keyword.Keyword.TheVariants as keywords
use Rattle.hx_script.specs.declared.keyword.StepWord.{StepWord}
use Rattle.hx_script.specs.declared.keyword.StepWord.TheVariants as step_words
use Rattle.hx_script.specs.Actors.{actor, actor_word, is_decimal, number_word}
use Rattle.hx_script.specs.BundleGrammar.{all_servers_line, all_steps_line, all_tolerate_line, behind_keys}
use Rattle.hx_script.specs.BundleGrammar.{bundle_command, bundle_heading_line, bundle_line_for, have_keys, has_key}
use Rattle.hx_script.specs.BundleGrammar.{in_draft, in_space, is_keyed, is_space, keyed_line, last_space_line}
use Rattle.hx_script.specs.BundleGrammar.{named_draft, new_space_name, next_session_line, next_space_line, placed}
use Rattle.hx_script.specs.BundleGrammar.{second_hx_line, space_call_line, space_named, space_number, space_step_line}
use Rattle.hx_script.specs.BundleGrammar.{spaces_line, with_session}
use Rattle.hx_script.specs.Calls.{deliver, halt, step, tick}
use Rattle.hx_script.specs.Grammar.{attribute_line, call_line, heading_line, int_attribute, key_line, push_to_last, string_attribute, subspace_line}
use Rattle.hx_script.specs.Keywords.{keyword_of}
use Rattle.hx_script.specs.Readers.{Reader, on_ok}
use Rattle.hx_script.proofs.BundleLists.{all_at, if_some_at, dealt_here, dealt_long, dealt_none, dealt_push}
use Rattle.hx_script.proofs.BundleLists.{dealt_there, all_some, map_same, map_set_same, placed_all, placed_map}
use Rattle.hx_script.proofs.BundleLists.{placed_set}
use Rattle.hx_script.proofs.FittingAxes.{DraftFits, yields_subspace}
use Rattle.hx_script.proofs.FittingCalls.{yields_call}
use Rattle.hx_script.proofs.Naming.{MayName, is_name, yields_name, yields_named}
use Rattle.hx_script.proofs.Once.{names_push, none_named, not_true}
use Rattle.hx_script.proofs.Sections.{BySection, Complete, Sound}
use Rattle.hx_script.proofs.SoundBundles.{BundleSound, ByStage, Empty, IsFromOne, IsHead, IsOneOf, IsStepAmong, IsStepBy, Served, SpaceFits, Tolerated}
use Rattle.hx_script.proofs.SoundLines.{IsNextAttribute, all_last, all_none, below_servers, one_counted}
use Rattle.hx_script.proofs.SoundLines.{one_session_more, same_count, shorter, some_regions, yields_call_line}
use Rattle.hx_script.proofs.SoundLines.{yields_heading, yields_int, yields_string}
use Rattle.hx_script.proofs.SoundTexts.{empty_sound}
use Rattle.hx_script.proofs.Takes.{on_ok_ok, ok_is}
use Rattle.hx_script.proofs.Yields.{Any, Yields, and_left, and_right, yields_check, yields_end, yields_give}
use Rattle.hx_script.proofs.Yields.{yields_judged, yields_natural, yields_number_in, yields_refuse, yields_sign}
use Rattle.hx_script.proofs.Yields.{yields_then, yields_word}

-- two things that hold of what is read
yields_both : {A : Type 0} {p : Reader A} (P Q : A → Type 0) → Yields p P → Yields p Q → Yields p (λ x. P x × Q x)
yields_both P Q yp yq = record { at = λ ts x all e. let a = yp.at ts x all e in let b = yq.at ts x all e in ((a.0, b.0), a.1) }

-- ---- a line of one space

-- a line of the head keeps the rest
record KeepsHead (d e : Draft) : Type 0 where
  pub name : e.space.name ≡ d.space.name
  pub servers : e.space.servers ≡ d.space.servers
  pub tolerate : e.space.tolerate ≡ d.space.tolerate
  pub steps : e.steps ≡ d.steps
  pub head : IsHead e.section

key_keeps : (d : Draft) (sec : Section) → Yields (heading_line d sec headings.Key) (KeepsHead d)
unfolding key_line
key_keeps d sections.Keying = yields_then IsName yields_name
    (λ w k. yields_then (λ n. (1 ≤ n) × (n ≤ MOST_PARTS)) (yields_number_in 1 MOST_PARTS)
    (λ n h. yields_then Any yields_end (λ u t. yields_give
    (record d { section = sections.Attributes; regions = n; space = record d.space { key_name = w; key_parts = n } })
    (record { name = refl; servers = refl; tolerate = refl; steps = refl; head = tt }))))
key_keeps d sec = yields_refuse Order

attribute_keeps : (d : Draft) (attribute : Space → Reader Attribute) → IsHead d.section
    → Yields (attribute d.space) (IsNextAttribute d.space) → Yields (attribute_line d attribute) (KeepsHead d)
unfolding attribute_line
attribute_keeps d attribute h y = yields_then (λ u. nat_lt (length d.space.attributes) MOST_ATTRIBUTES ≡ true)
    (yields_check (nat_lt (length d.space.attributes) MOST_ATTRIBUTES) Limit)
    (λ u room. yields_then (IsNextAttribute d.space) y
    (λ a n. yields_give (record d { space = record d.space { attributes = d.space.attributes ++ a ∷ [] } })
    (record { name = refl; servers = refl; tolerate = refl; steps = refl; head = h })))

string_keeps : (d : Draft) (sec : Section) → d.section ≡ sec → Yields (heading_line d sec headings.String) (KeepsHead d)
string_keeps d sections.Attributes e = attribute_keeps d string_attribute (subst IsHead (sym e) tt) (yields_string d.space)
string_keeps d sec e = yields_refuse Order

int_keeps : (d : Draft) (sec : Section) → d.section ≡ sec → Yields (heading_line d sec headings.Int) (KeepsHead d)
int_keeps d sections.Attributes e = attribute_keeps d int_attribute (subst IsHead (sym e) tt) (yields_int d.space)
int_keeps d sec e = yields_refuse Order

cut_keeps : (d : Draft) → Yields (subspace_line d) (KeepsHead d)
unfolding subspace_line
cut_keeps d = yields_then (λ u. nat_lt (length d.space.subspaces) MOST_SUBSPACES ≡ true)
    (yields_check (nat_lt (length d.space.subspaces) MOST_SUBSPACES) Limit)
    (λ u room. yields_then (DraftFits d.space d.regions) (yields_subspace d.space d.regions)
    (λ x f. yields_give (record d {
      section = sections.Subspaces;
      regions = d.regions + x.size;
      space = record d.space { subspaces = d.space.subspaces ++ x.axes ∷ [] };
    })
    (record { name = refl; servers = refl; tolerate = refl; steps = refl; head = tt })))

subspace_keeps : (d : Draft) (sec : Section) → Yields (heading_line d sec headings.Subspace) (KeepsHead d)
subspace_keeps d sections.Attributes = cut_keeps d
subspace_keeps d sections.Subspaces = cut_keeps d
subspace_keeps d sec = yields_refuse Order

-- one more call keeps the rest
record KeepsCalls (d e : Draft) : Type 0 where
  pub name : e.space.name ≡ d.space.name
  pub servers : e.space.servers ≡ d.space.servers
  pub tolerate : e.space.tolerate ≡ d.space.tolerate
  pub steps : e.steps ≡ d.steps
  pub section : e.section ≡ d.section
  pub op : Op
  pub sessions : e.sessions ≡ push_to_last d.sessions op

call_keeps : (d : Draft) (w : CallWord) → d.section ≡ sections.Calls → Sound d → Yields (call_line d w) (KeepsCalls d)
unfolding call_line
call_keeps d w e so =
    let st : Complete d = rw e at so.stage in
    yields_then (λ u. nat_lt d.calls MOST_CALLS ≡ true) (yields_check (nat_lt d.calls MOST_CALLS) Limit)
    (λ u room. yields_then (Fits d.space) (yields_call d.space d.regions w so.space.count
    (some_regions d so.space st.0.2)) (λ op f. yields_give
    (record d { sessions = push_to_last d.sessions op; calls = d.calls + 1 })
    (record { name = refl; servers = refl; tolerate = refl; steps = refl; section = refl; op = op; sessions = refl })))

-- a draft in its place, and what a line makes of it
record Changed (P : Draft → Draft → Type 0) (spaces : List Draft) (k : ℕ) (after : List Draft) : Type 0 where
  pub before : Draft
  pub now : Draft
  pub here : slice_get spaces k ≡ Some before
  pub kept : P before now
  pub after_is : after ≡ slice_set spaces k now

yields_in_space : (P : Draft → Draft → Type 0) (spaces : List Draft) (k : ℕ) (line : Draft → Reader Draft)
    → ((d : Draft) → slice_get spaces k ≡ Some d → Yields (line d) (P d)) → Yields (in_space spaces k line) (Changed P spaces k)
yields_in_space P spaces k line y = by (slice_get spaces k) refl
  where
    by : (o : Option Draft) → slice_get spaces k ≡ o → Yields (in_draft spaces k line o) (Changed P spaces k)
    by None e = yields_refuse Order
    by (Some d) e = yields_then (P d) (y d e) (λ x p. yields_give (slice_set spaces k x) (record { before = d; now = x; here = e; kept = p; after_is = refl }))

-- ---- spaces by their names

abbrev number : ℕ → Result ℕ Reason
number n = Ok n

number_is : (a b : ℕ) → number a ≡ number b → a ≡ b
number_is a b e = cc

placed_is : (t : Bool) (k n a : ℕ) → nat_lt k n ≡ t → placed (cond t (Some k) None) ≡ Ok a → a < n
placed_is true k n a l e =
    let s : k ≡ a = number_is k a e in
    let lt : k < n = ltb-true k n l in
    omega (arith, s, lt)
placed_is false k n a l e = absurd cc

space_is : (spaces : List Draft) (w : List ℕ) (a : ℕ) → space_number spaces w ≡ Ok a → a < length spaces
space_is spaces w a e =
    let k : ℕ = position_or_len (is_space w) spaces in
    placed_is (nat_lt k (length spaces)) k (length spaces) a refl e

yields_space_named : (spaces : List Draft) → Yields (space_named spaces) (λ k. k < length spaces)
unfolding space_named
yields_space_named spaces = yields_then MayName yields_named
    (λ w m. record {
      at = λ ts x all e. let j = (yields_judged (space_number spaces w)).at ts x all e in
          (space_is spaces w x.0 j.0, j.1);
    })

record IsNewSpace (spaces : List Draft) (w : List ℕ) : Type 0 where
  pub name : IsName w
  pub new : list_any (is_space w) spaces ≡ false

yields_new_space : (spaces : List Draft) → Yields (new_space_name spaces) (IsNewSpace spaces)
unfolding new_space_name
yields_new_space spaces = yields_then MayName yields_named
    (λ w m. yields_then (λ u. not (list_any (is_space w) spaces) ≡ true)
    (yields_check (not (list_any (is_space w) spaces)) Twice)
    (λ u n. yields_then (λ u. nat_le (length w) LONGEST_NAME ≡ true) (yields_check (nat_le (length w) LONGEST_NAME) Limit)
    (λ u h. yields_give w (record { name = is_name w m h; new = not_true (list_any (is_space w) spaces) n }))))

-- ---- actors and steps

abbrev done : Actor → Result Actor Reason
done a = Ok a

number_word_is : (most : ℕ) (digits : List ℕ) (n : ℕ) → number_word most digits ≡ Ok n → IsFromOne most n
number_word_is most digits n e = by (not (is_decimal digits)) (nat_le 1 (value_of digits) && nat_le (value_of digits) most) refl e
  where
    by : (p q : Bool) → (nat_le 1 (value_of digits) && nat_le (value_of digits) most) ≡ q
        → cond p (Err Order) (cond q (Ok (value_of digits)) (Err Bounds)) ≡ Ok n → IsFromOne most n
    by true q f e = absurd cc
    by false true f e =
        let s : value_of digits ≡ n = number_is (value_of digits) n e in
        subst (IsFromOne most) s (
          leb-true 1 (value_of digits)
              (and_left (nat_le 1 (value_of digits)) (nat_le (value_of digits) most) f),
          leb-true (value_of digits) most (and_right (nat_le 1 (value_of digits)) (nat_le (value_of digits) most) f),
        )
    by false false f e = absurd cc

actor_word_is : (servers sessions : ℕ) (w : List ℕ) (a : Actor) → actor_word servers sessions w ≡ Ok a → IsOneOf servers sessions a
actor_word_is servers sessions [] a e = absurd cc
actor_word_is servers sessions (b ∷ digits) a e = by_tests (b == 99 && length digits == 0) (b == 115) (b == 117) e
  where
    by_tests : (p q r : Bool) → cond p (Ok Coordinator)
        (cond q (on_ok (number_word servers digits) (λ n. Ok (Server (record { 0 = n }))))
        (cond r (on_ok (number_word sessions digits) (λ n. Ok (Session (record { 0 = n })))) (Err Order))) ≡ Ok a
        → IsOneOf servers sessions a
    by_tests true q r e = subst (IsOneOf servers sessions) (ok_is Coordinator a e) tt
    by_tests false true r e =
        let o = on_ok_ok (number_word servers digits) (λ (n : ℕ). done (Server (record { 0 = n }))) a e in
        subst (IsOneOf servers sessions) (ok_is (Server (record { 0 = o.0 })) a o.2) (number_word_is servers digits o.0 o.1)
    by_tests false false true e =
        let o = on_ok_ok (number_word sessions digits) (λ (n : ℕ). done (Session (record { 0 = n }))) a e in
        subst (IsOneOf servers sessions) (ok_is (Session (record { 0 = o.0 })) a o.2) (number_word_is sessions digits o.0 o.1)
    by_tests false false false e = absurd cc

yields_actor : (servers sessions : ℕ) → Yields (actor servers sessions) (IsOneOf servers sessions)
unfolding actor
yields_actor servers sessions = yields_then IsWord yields_word
    (λ w i. record {
      at = λ ts x all e. let j = (yields_judged (actor_word servers sessions w)).at ts x all e in
          (actor_word_is servers sessions w x.0 j.0, j.1);
    })

pub yields_step_by : (servers sessions : ℕ) (w : StepWord) → Yields (step servers sessions w) (IsStepBy servers sessions)
unfolding deliver tick halt
yields_step_by servers sessions step_words.Deliver =
    yields_then Any yields_natural (λ n u. yields_then Any (yields_sign (codes "."))
    (λ v t. yields_then (λ p. (0 ≤ p) × (p ≤ 4294967295)) (yields_number_in 0 4294967295)
    (λ p h. yields_then Any yields_end (λ x y. yields_give (Deliver (record { entry = n; place = p })) tt))))
yields_step_by servers sessions step_words.Tick =
    yields_then (IsOneOf servers sessions) (yields_actor servers sessions)
    (λ a is. yields_then Any yields_end (λ x y. yields_give (Tick a) is))
yields_step_by servers sessions step_words.Halt =
    yields_then (IsOneOf servers sessions) (yields_actor servers sessions)
    (λ a is. yields_then Any yields_end (λ x y. yields_give (Halt a) is))

-- ---- the head of all

yields_second_hx : (b : BundleDraft) → BundleSound b → Empty b → Yields (second_hx_line b) BundleSound
unfolding second_hx_line
yields_second_hx b so em = yields_then (λ n. (2 ≤ n) × (n ≤ 2)) (yields_number_in 2 2)
    (λ n h. yields_then Any yields_end (λ u t. yields_give (record b { section = stages.Serving }) (record {
      few = so.few;
      spaces = so.spaces;
      names = so.names;
      dealt = so.dealt;
      turns = so.turns;
      few_sessions = so.few_sessions;
      counted = so.counted;
      few_calls = so.few_calls;
      few_steps = so.few_steps;
      steps = so.steps;
      stage = em;
    })))

yields_all_servers : (b : BundleDraft) → BundleSound b → Empty b → Yields (all_servers_line b) BundleSound
unfolding all_servers_line
yields_all_servers b so em = yields_then (λ n. (1 ≤ n) × (n ≤ MOST_SERVERS)) (yields_number_in 1 MOST_SERVERS)
    (λ n h. yields_then Any yields_end (λ u t. yields_give (record b { section = stages.Tolerance; servers = n }) (record {
      few = so.few;
      spaces = all_none (SpaceFits n b.tolerate) b.spaces em.0;
      names = so.names;
      dealt = so.dealt;
      turns = so.turns;
      few_sessions = so.few_sessions;
      counted = so.counted;
      few_calls = so.few_calls;
      few_steps = so.few_steps;
      steps = all_none (IsStepAmong (length b.spaces) n (length b.turns)) b.steps em.2;
      stage = (em, h);
    })))

yields_all_tolerate : (b : BundleDraft) → BundleSound b → Empty b → Served b → Yields (all_tolerate_line b) BundleSound
unfolding all_tolerate_line
yields_all_tolerate b so em s = yields_then (λ n. (0 ≤ n) × (n ≤ min (b.servers - 1) MOST_FAILURES))
    (yields_number_in 0 (min (b.servers - 1) MOST_FAILURES)) (λ n h. yields_then Any yields_end
    (λ u t. yields_give (record b { section = stages.Naming; tolerate = n }) (record {
      few = so.few;
      spaces = all_none (SpaceFits b.servers n) b.spaces em.0;
      names = so.names;
      dealt = so.dealt;
      turns = so.turns;
      few_sessions = so.few_sessions;
      counted = so.counted;
      few_calls = so.few_calls;
      few_steps = so.few_steps;
      steps = so.steps;
      stage = (em, (s, below_servers b.servers n s.0 h.1));
    })))

-- ---- spaces

-- before the first session, no space has calls
head_alone : (d : Draft) (sec : Section) → d.section ≡ sec → IsHead sec → Sound d → d.sessions ≡ []
head_alone d sections.Keying e h so = let st : BySection sections.Keying d = rw e at so.stage in st.0.2
head_alone d sections.Attributes e h so = let st : BySection sections.Attributes d = rw e at so.stage in st.2
head_alone d sections.Subspaces e h so = let st : BySection sections.Subspaces d = rw e at so.stage in st.1
head_alone d sec e h so = absurd h

alone_dealt : (spaces : List Draft) (turns : List (List ℕ)) → All (λ (d : Draft). d.sessions ≡ []) spaces → turns ≡ []
    → (k : ℕ) → IfSome (slice_get spaces k) (λ (d : Draft). AllZip (AreDealt k) d.sessions turns)
alone_dealt spaces turns all e k = all_some (λ (d : Draft). AllZip (AreDealt k) d.sessions turns) spaces
    (λ i d lt. dealt_none k (slice_index_or spaces i d).sessions turns (all i d lt) e) k

heads_alone : (servers tolerate : ℕ) (spaces : List Draft) → All (SpaceFits servers tolerate) spaces
    → All (λ (d : Draft). IsHead d.section) spaces → All (λ (d : Draft). d.sessions ≡ []) spaces
heads_alone servers tolerate spaces fits heads i d lt =
    head_alone (slice_index_or spaces i d) (slice_index_or spaces i d).section refl (heads i d lt) (fits i d lt).sound

named_fits : (servers tolerate : ℕ) (w : List ℕ) → IsName w → SpaceFits servers tolerate (named_draft servers tolerate w)
named_fits servers tolerate w is = record {
  sound = record { space = empty_sound.space; calls = empty_sound.calls; stage = ((refl, refl, refl), is) };
  servers_are = refl;
  tolerate_is = refl;
  no_steps = refl;
}

new_names : (spaces : List Draft) (servers tolerate : ℕ) (w : List ℕ)
    → NamesDiffer (map (λ (d : Draft). d.space.name) spaces) → list_any (is_space w) spaces ≡ false
    → NamesDiffer (map (λ (d : Draft). d.space.name) (spaces ++ named_draft servers tolerate w ∷ []))
new_names spaces servers tolerate w d e = rw (map-append (λ (x : Draft). x.space.name) spaces
    (named_draft servers tolerate w ∷ [])) (names_push (map (λ (x : Draft). x.space.name) spaces) w d
    (none_named (λ (x : Draft). x.space.name) spaces w e))

yields_next_space : (b : BundleDraft) → BundleSound b → All (λ (d : Draft). IsHead d.section) b.spaces → b.turns ≡ []
    → b.steps ≡ [] → Tolerated b → Yields (next_space_line b) BundleSound
unfolding next_space_line
yields_next_space b so heads none none_yet s = yields_then (λ u. nat_lt (length b.spaces) MOST_SPACES ≡ true)
    (yields_check (nat_lt (length b.spaces) MOST_SPACES) Limit)
    (λ u room. yields_then (IsNewSpace b.spaces) (yields_new_space b.spaces) (λ w is. yields_then Any yields_end (λ v t.
    let d : Draft = named_draft b.servers b.tolerate w in
    let fits : All (SpaceFits b.servers b.tolerate) (b.spaces ++ d ∷ []) =
    All-push (SpaceFits b.servers b.tolerate) b.spaces d so.spaces (named_fits b.servers b.tolerate w is.name) in
    let all_heads : All (λ (x : Draft). IsHead x.section) (b.spaces ++ d ∷ []) = All-push (λ (x : Draft). IsHead x.section) b.spaces d heads tt in
    yields_give (record b { section = stages.Spaces; spaces = b.spaces ++ d ∷ [] }) (record {
      few = shorter b.spaces d MOST_SPACES (ltb-true (length b.spaces) MOST_SPACES room);
      spaces = fits;
      names = new_names b.spaces b.servers b.tolerate w so.names is.new;
      dealt = alone_dealt (b.spaces ++ d ∷ []) b.turns (heads_alone b.servers b.tolerate (b.spaces ++ d ∷ []) fits all_heads) none;
      turns = all_none (λ (spaces : List ℕ). All (λ (k : ℕ). k < length (b.spaces ++ d ∷ [])) spaces) b.turns none;
      few_sessions = so.few_sessions;
      counted = so.counted;
      few_calls = so.few_calls;
      few_steps = so.few_steps;
      steps = all_none (IsStepAmong (length (b.spaces ++ d ∷ [])) b.servers (length b.turns)) b.steps none_yet;
      stage = (omega (arith, length-append b.spaces (d ∷ [])), all_heads, none, none_yet, s);
    }))))

-- what a line of the head keeps
abbrev HeadChanged : Draft → Draft → Type 0
HeadChanged d e = Sound e × KeepsHead d e

abbrev IsHeadWord : Heading → Type 0
IsHeadWord headings.Key = Unit {0}
IsHeadWord headings.String = Unit {0}
IsHeadWord headings.Int = Unit {0}
IsHeadWord headings.Subspace = Unit {0}
IsHeadWord other = ⊥

head_keeps : (d : Draft) (h : Heading) → IsHeadWord h → Yields (heading_line d d.section h) (KeepsHead d)
head_keeps d headings.Key i = key_keeps d d.section
head_keeps d headings.String i = string_keeps d d.section refl
head_keeps d headings.Int i = int_keeps d d.section refl
head_keeps d headings.Subspace i = subspace_keeps d d.section
head_keeps d h i = absurd i

yields_head : (d : Draft) (h : Heading) → IsHeadWord h → Sound d → Yields (heading_line d d.section h) (HeadChanged d)
yields_head d h i so = yields_both Sound (KeepsHead d) (yields_heading d d.section h refl so.space so.calls so.stage) (head_keeps d h i)

head_changed : (b : BundleDraft) (k : ℕ) (after : List Draft) → BundleSound b
    → All (λ (d : Draft). IsHead d.section) b.spaces → b.turns ≡ [] → b.steps ≡ [] → 0 < length b.spaces → Tolerated b
    → b.section ≡ stages.Spaces → Changed HeadChanged b.spaces k after → BundleSound (record b { spaces = after })
head_changed b k after so heads none none_yet some s at ch =
    let e : Draft = ch.now in
    let spaces : List Draft = slice_set b.spaces k e in
    let old : SpaceFits b.servers b.tolerate ch.before = all_at (SpaceFits b.servers b.tolerate) b.spaces k ch.before so.spaces ch.here in
    let fit : SpaceFits b.servers b.tolerate e = record {
      sound = ch.kept.0;
      servers_are = ch.kept.1.servers ∙ old.servers_are;
      tolerate_is = ch.kept.1.tolerate ∙ old.tolerate_is;
      no_steps = ch.kept.1.steps ∙ old.no_steps;
    } in
    let fits : All (SpaceFits b.servers b.tolerate) spaces = All-set (SpaceFits b.servers b.tolerate) b.spaces k e fit so.spaces in
    let all_heads : All (λ (x : Draft). IsHead x.section) spaces = All-set (λ (x : Draft). IsHead x.section) b.spaces k e ch.kept.1.head heads in
    let long : length spaces ≡ length b.spaces = length-set b.spaces k e in
    subst (λ (l : List Draft). BundleSound (record b { spaces = l })) (sym ch.after_is) (record {
      few = omega (arith, long, so.few);
      spaces = fits;
      names = subst NamesDiffer (sym (map_set_same (λ (x : Draft). x.space.name) b.spaces k ch.before e ch.here ch.kept.1.name)) so.names;
      dealt = alone_dealt spaces b.turns (heads_alone b.servers b.tolerate spaces fits all_heads) none;
      turns = all_none (λ (l : List ℕ). All (λ (j : ℕ). j < length spaces) l) b.turns none;
      few_sessions = so.few_sessions;
      counted = so.counted;
      few_calls = so.few_calls;
      few_steps = so.few_steps;
      steps = all_none (IsStepAmong (length spaces) b.servers (length b.turns)) b.steps none_yet;
      stage = rw at (omega (arith, long, some), all_heads, none, none_yet, s);
    })

yields_last_space : (b : BundleDraft) (h : Heading) → IsHeadWord h → BundleSound b → b.section ≡ stages.Spaces
    → ByStage stages.Spaces b → Yields (last_space_line b h) BundleSound
unfolding last_space_line
yields_last_space b h i so at st =
    let k : ℕ = length b.spaces - 1 in
    yields_then (Changed HeadChanged b.spaces k) (yields_in_space HeadChanged b.spaces k
    (λ d. heading_line d d.section h) (λ d e. yields_head d h i
    (all_at (SpaceFits b.servers b.tolerate) b.spaces k d so.spaces e).sound))
    (λ after ch. yields_give (record b { spaces = after }) (head_changed b k after so st.1 st.2 st.3 st.0 st.4 at ch))

-- ---- sessions

-- a space with its key is whole
head_whole : (servers tolerate : ℕ) (d : Draft) (sec : Section) → d.section ≡ sec → is_keyed sec ≡ true → IsHead sec
    → SpaceFits servers tolerate d → (0 < servers) × (servers ≤ MOST_SERVERS) → (tolerate ≤ MOST_FAILURES) × (tolerate < servers) → Complete d
head_whole servers tolerate d sections.Attributes e k h f s t =
    let st : BySection sections.Attributes d = rw e at f.sound.stage in
    (st.0, rw f.servers_are s, rw (f.servers_are, f.tolerate_is) t, all_none (λ (ops : List Op). All (Fits d.space) ops) d.sessions st.2)
head_whole servers tolerate d sections.Subspaces e k h f s t =
    let st : BySection sections.Subspaces d = rw e at f.sound.stage in
    (st.0, rw f.servers_are s, rw (f.servers_are, f.tolerate_is) t, all_none (λ (ops : List Op). All (Fits d.space) ops) d.sessions st.1)
head_whole servers tolerate d sections.Keying e k h f s t = absurd cc
head_whole servers tolerate d sec e k h f s t = absurd h

keys_all : (spaces : List Draft) → have_keys spaces ≡ true → All (λ (d : Draft). has_key d ≡ true) spaces
keys_all [] e = All-nil (λ (d : Draft). has_key d ≡ true)
keys_all (d ∷ spaces) e = All-cons (λ (x : Draft). has_key x ≡ true) d spaces
    (and_left (has_key d) (list_all has_key spaces) e) (keys_all spaces (and_right (has_key d) (list_all has_key spaces) e))

pub heads_whole : (b : BundleDraft) → BundleSound b → All (λ (d : Draft). IsHead d.section) b.spaces → Tolerated b
    → have_keys b.spaces ≡ true → All Complete b.spaces
heads_whole b so heads s keys i d lt = head_whole b.servers b.tolerate (slice_index_or b.spaces i d)
    (slice_index_or b.spaces i d).section refl (keys_all b.spaces keys i d lt) (heads i d lt) (so.spaces i d lt) s.0 s.1

calls_whole : (d : Draft) → d.section ≡ sections.Calls → Sound d → Complete d
calls_whole d e so = rw e at so.stage

session_fits : (servers tolerate : ℕ) (d : Draft) → SpaceFits servers tolerate d → Complete d → length d.sessions < MOST_SESSIONS
    → SpaceFits servers tolerate (with_session d)
session_fits servers tolerate d f st room = record {
  sound = record {
    space = f.sound.space;
    calls = one_session_more d.sessions d.calls d.steps room f.sound.calls;
    stage = (st.0, st.1, st.2, All-push (λ (ops : List Op). All (Fits d.space) ops) d.sessions [] st.3 (All-nil (Fits d.space)));
  };
  servers_are = f.servers_are;
  tolerate_is = f.tolerate_is;
  no_steps = f.no_steps;
}

pub as_long : (spaces : List Draft) (turns : List (List ℕ))
    → ((k : ℕ) → IfSome (slice_get spaces k) (λ (d : Draft). AllZip (AreDealt k) d.sessions turns))
    → All (λ (d : Draft). length d.sessions ≡ length turns) spaces
as_long spaces turns dealt = placed_all (λ k d. AllZip (AreDealt k) d.sessions turns) spaces
    (λ d. length d.sessions ≡ length turns) (λ k d h. dealt_long k d.sessions turns h) dealt

yields_next_session : (b : BundleDraft) → BundleSound b → 0 < length b.spaces → All Complete b.spaces → b.steps ≡ []
    → Tolerated b → Yields (next_session_line b) BundleSound
unfolding next_session_line
yields_next_session b so some whole none s = yields_then (λ u. nat_lt (length b.turns) MOST_SESSIONS ≡ true)
    (yields_check (nat_lt (length b.turns) MOST_SESSIONS) Limit)
    (λ u room. yields_then (λ n. (length b.turns + 1 ≤ n) × (n ≤ length b.turns + 1))
    (yields_number_in (length b.turns + 1) (length b.turns + 1)) (λ n h. yields_then Any yields_end (λ v t.
    let spaces : List Draft = map with_session b.spaces in
    let turns : List (List ℕ) = b.turns ++ [] ∷ [] in
    let long : length spaces ≡ length b.spaces = length-map b.spaces with_session in
    let few : length b.turns < MOST_SESSIONS = ltb-true (length b.turns) MOST_SESSIONS room in
    let short : All (λ (d : Draft). length d.sessions < MOST_SESSIONS) b.spaces =
    λ i d lt. subst (λ m. m < MOST_SESSIONS) (sym (as_long b.spaces b.turns so.dealt i d lt)) few in
    yields_give (record b { section = stages.Calls; spaces = spaces; turns = turns }) (record {
      few = omega (arith, long, so.few);
      spaces = All-map (SpaceFits b.servers b.tolerate) with_session b.spaces
          (λ i d lt. session_fits b.servers b.tolerate (slice_index_or b.spaces i d) (so.spaces i d lt) (whole i d lt)
          (short i d lt));
      names = subst NamesDiffer (sym (map_same (λ (d : Draft). d.space.name) with_session b.spaces (λ d. refl))) so.names;
      dealt = placed_map with_session (λ k d. AllZip (AreDealt k) d.sessions b.turns)
          (λ k d. AllZip (AreDealt k) d.sessions turns) b.spaces so.dealt (λ k d h. dealt_push k d.sessions b.turns h);
      turns = All-push (λ (l : List ℕ). All (λ (k : ℕ). k < length spaces) l) b.turns []
          (subst (λ m. All (λ (l : List ℕ). All (λ (k : ℕ). k < m) l) b.turns) (sym long) so.turns)
          (All-nil (λ (k : ℕ). k < length spaces));
      few_sessions = shorter b.turns [] MOST_SESSIONS few;
      counted = omega (arith, so.counted, sum_by-append (λ (l : List ℕ). length l) b.turns ([] ∷ []));
      few_calls = so.few_calls;
      few_steps = so.few_steps;
      steps = all_none (IsStepAmong (length spaces) b.servers (length turns)) b.steps none;
      stage = (omega (arith, long, some), All-map (λ (d : Draft). d.section ≡ sections.Calls) with_session b.spaces (λ i d lt. refl), none, s);
    }))))

yields_all_steps : (b : BundleDraft) → BundleSound b → 0 < length b.spaces → All Complete b.spaces → Tolerated b → Yields (all_steps_line b) BundleSound
unfolding all_steps_line
yields_all_steps b so some whole s = yields_then Any yields_end (λ u t. yields_give (record b { section = stages.Steps }) (record {
  few = so.few;
  spaces = so.spaces;
  names = so.names;
  dealt = so.dealt;
  turns = so.turns;
  few_sessions = so.few_sessions;
  counted = so.counted;
  few_calls = so.few_calls;
  few_steps = so.few_steps;
  steps = so.steps;
  stage = (some, whole, s);
}))

-- ---- calls

abbrev CallChanged : Draft → Draft → Type 0
CallChanged d e = Sound e × KeepsCalls d e

call_changed : (b : BundleDraft) (k : ℕ) (after : List Draft) → BundleSound b → 0 < length b.spaces
    → All (λ (d : Draft). d.section ≡ sections.Calls) b.spaces → b.steps ≡ [] → Tolerated b → b.section ≡ stages.Calls
    → b.calls < MOST_CALLS → k < length b.spaces → Changed CallChanged b.spaces k after
    → BundleSound (record b { spaces = after; turns = push_to_last b.turns k; calls = b.calls + 1 })
call_changed b k after so some calling none s at room within ch =
    let e : Draft = ch.now in
    let spaces : List Draft = slice_set b.spaces k e in
    let turns : List (List ℕ) = push_to_last b.turns k in
    let old : SpaceFits b.servers b.tolerate ch.before = all_at (SpaceFits b.servers b.tolerate) b.spaces k ch.before so.spaces ch.here in
    let fit : SpaceFits b.servers b.tolerate e = record {
      sound = ch.kept.0;
      servers_are = ch.kept.1.servers ∙ old.servers_are;
      tolerate_is = ch.kept.1.tolerate ∙ old.tolerate_is;
      no_steps = ch.kept.1.steps ∙ old.no_steps;
    } in
    let long : length spaces ≡ length b.spaces = length-set b.spaces k e in
    let longer : length turns ≡ length b.turns = same_count b.turns k in
    let dealt_before : AllZip (AreDealt k) ch.before.sessions b.turns =
    if_some_at (λ (d : Draft). AllZip (AreDealt k) d.sessions b.turns) (slice_get b.spaces k) ch.before ch.here
    (so.dealt k) in
    let dealt_now : AllZip (AreDealt k) e.sessions turns =
    subst (λ (l : List (List Op)). AllZip (AreDealt k) l turns) (sym ch.kept.1.sessions)
    (dealt_here k ch.before.sessions b.turns ch.kept.1.op dealt_before) in
    subst (λ (l : List Draft). BundleSound (record b { spaces = l; turns = turns; calls = b.calls + 1 })) (sym ch.after_is) (record {
      few = omega (arith, long, so.few);
      spaces = All-set (SpaceFits b.servers b.tolerate) b.spaces k e fit so.spaces;
      names = subst NamesDiffer (sym (map_set_same (λ (x : Draft). x.space.name) b.spaces k ch.before e ch.here ch.kept.1.name)) so.names;
      dealt = placed_set (λ j d. AllZip (AreDealt j) d.sessions b.turns)
          (λ j d. AllZip (AreDealt j) d.sessions turns) b.spaces k ch.before e ch.here so.dealt
          (λ j d ne h. dealt_there j k d.sessions b.turns (λ q. ne (sym q)) h) dealt_now;
      turns = subst (λ m. All (λ (l : List ℕ). All (λ (j : ℕ). j < m) l) turns) (sym long)
          (all_last (λ (j : ℕ). j < length b.spaces) b.turns k so.turns within);
      few_sessions = omega (arith, longer, so.few_sessions);
      counted = omega (arith, so.counted, one_counted b.turns k);
      few_calls = omega (arith, room);
      few_steps = so.few_steps;
      steps = all_none (IsStepAmong (length spaces) b.servers (length turns)) b.steps none;
      stage = rw at (
        omega (arith, long, some),
        All-set (λ (x : Draft). x.section ≡ sections.Calls) b.spaces k e
            (ch.kept.1.section ∙ all_at (λ (x : Draft). x.section ≡ sections.Calls) b.spaces k ch.before calling
            ch.here) calling,
        none,
        s,
      );
    })

yields_call_in : (d : Draft) (w : CallWord) → d.section ≡ sections.Calls → Sound d → Yields (call_line d w) (CallChanged d)
yields_call_in d w e so = yields_both Sound (KeepsCalls d) (yields_call_line d w e so.space so.calls (calls_whole d e so)) (call_keeps d w e so)

yields_space_call : (b : BundleDraft) (w : CallWord) → BundleSound b → b.section ≡ stages.Calls
    → ByStage stages.Calls b → Yields (space_call_line b w) BundleSound
unfolding space_call_line
yields_space_call b w so at st = yields_then (λ u. nat_lt b.calls MOST_CALLS ≡ true)
    (yields_check (nat_lt b.calls MOST_CALLS) Limit) (λ u room. yields_then (λ k. k < length b.spaces)
    (yields_space_named b.spaces) (λ k within.
    yields_then (Changed CallChanged b.spaces k) (yields_in_space CallChanged b.spaces k (λ d. call_line d w)
    (λ d e. yields_call_in d w (all_at (λ (x : Draft). x.section ≡ sections.Calls) b.spaces k d st.1 e)
    (all_at (SpaceFits b.servers b.tolerate) b.spaces k d so.spaces e).sound))
    (λ after ch. yields_give (record b { spaces = after; turns = push_to_last b.turns k; calls = b.calls + 1 })
    (call_changed b k after so st.0 st.1 st.2 st.3 at (ltb-true b.calls MOST_CALLS room) within ch))))

-- ---- steps

yields_space_step : (n : ℕ) (b : BundleDraft) (w : StepWord) → BundleSound b → b.section ≡ stages.Steps
    → ByStage stages.Steps b → Yields (space_step_line n b w) BundleSound
unfolding space_step_line
yields_space_step n b w so at st = yields_then (λ u. nat_lt (length b.steps) MOST_STEPS ≡ true)
    (yields_check (nat_lt (length b.steps) MOST_STEPS) Limit)
    (λ u room. yields_then (λ k. k < length b.spaces) (yields_space_named b.spaces)
    (λ k within. yields_then (IsStepBy b.servers (length b.turns)) (yields_step_by b.servers (length b.turns) w) (λ x is.
    let one : BundleStep = record { line = n; space = k; step = x } in
    yields_give (record b { steps = b.steps ++ one ∷ [] }) (record {
      few = so.few;
      spaces = so.spaces;
      names = so.names;
      dealt = so.dealt;
      turns = so.turns;
      few_sessions = so.few_sessions;
      counted = so.counted;
      few_calls = so.few_calls;
      few_steps = shorter b.steps one MOST_STEPS (ltb-true (length b.steps) MOST_STEPS room);
      steps = All-push (IsStepAmong (length b.spaces) b.servers (length b.turns)) b.steps one so.steps (within, is);
      stage = rw at st;
    }))))

-- ---- each line

yields_keyed : (b : BundleDraft) (h : Heading) → BundleSound b → ByStage stages.Spaces b → have_keys b.spaces ≡ true → Yields (keyed_line b h) BundleSound
yields_keyed b headings.Space so st keys = yields_next_space b so st.1 st.2 st.3 st.4
yields_keyed b headings.Session so st keys = yields_next_session b so st.0 (heads_whole b so st.1 st.4 keys) st.3 st.4
yields_keyed b headings.Steps so st keys = yields_all_steps b so st.0 (heads_whole b so st.1 st.4 keys) st.4
yields_keyed b h so st keys = yields_refuse Order

yields_behind_keys : (b : BundleDraft) (h : Heading) → BundleSound b → ByStage stages.Spaces b → Yields (behind_keys b h) BundleSound
unfolding behind_keys
yields_behind_keys b h so st = yields_then (λ u. have_keys b.spaces ≡ true) (yields_check (have_keys b.spaces) Order) (λ u keys. yields_keyed b h so st keys)

yields_spaces : (b : BundleDraft) (h : Heading) → BundleSound b → b.section ≡ stages.Spaces → ByStage stages.Spaces b → Yields (spaces_line b h) BundleSound
yields_spaces b headings.Key so at st = yields_last_space b headings.Key tt so at st
yields_spaces b headings.String so at st = yields_last_space b headings.String tt so at st
yields_spaces b headings.Int so at st = yields_last_space b headings.Int tt so at st
yields_spaces b headings.Subspace so at st = yields_last_space b headings.Subspace tt so at st
yields_spaces b headings.Hx so at st = yields_behind_keys b headings.Hx so st
yields_spaces b headings.Space so at st = yields_behind_keys b headings.Space so st
yields_spaces b headings.Servers so at st = yields_behind_keys b headings.Servers so st
yields_spaces b headings.Tolerate so at st = yields_behind_keys b headings.Tolerate so st
yields_spaces b headings.Session so at st = yields_behind_keys b headings.Session so st
yields_spaces b headings.Steps so at st = yields_behind_keys b headings.Steps so st

pub all_calling : (b : BundleDraft) → BundleSound b → All (λ (d : Draft). d.section ≡ sections.Calls) b.spaces → All Complete b.spaces
all_calling b so calling i d lt = calls_whole (slice_index_or b.spaces i d) (calling i d lt) (so.spaces i d lt).sound

yields_bundle_heading : (b : BundleDraft) (sec : BundleSection) (h : Heading) → b.section ≡ sec → BundleSound b
    → ByStage sec b → Yields (bundle_heading_line b sec h) BundleSound
yields_bundle_heading b stages.Start headings.Hx e so st = yields_second_hx b so st
yields_bundle_heading b stages.Serving headings.Servers e so st = yields_all_servers b so st
yields_bundle_heading b stages.Tolerance headings.Tolerate e so st = yields_all_tolerate b so st.0 st.1
yields_bundle_heading b stages.Naming headings.Space e so st =
    yields_next_space b so (all_none (λ (d : Draft). IsHead d.section) b.spaces st.0.0) st.0.1 st.0.2 st.1
yields_bundle_heading b stages.Spaces h e so st = yields_spaces b h so e st
yields_bundle_heading b stages.Calls headings.Session e so st = yields_next_session b so st.0 (all_calling b so st.1) st.2 st.3
yields_bundle_heading b stages.Calls headings.Steps e so st = yields_all_steps b so st.0 (all_calling b so st.1) st.3
yields_bundle_heading b sec h e so st = yields_refuse Order

yields_bundle_line : (n : ℕ) (b : BundleDraft) (sec : BundleSection) (k : Option Keyword) → b.section ≡ sec
    → BundleSound b → ByStage sec b → Yields (bundle_line_for n b sec k) BundleSound
yields_bundle_line n b sec (Some (keywords.Heading h)) e so st = yields_bundle_heading b sec h e so st
yields_bundle_line n b stages.Calls (Some (keywords.Call w)) e so st = yields_space_call b w so e st
yields_bundle_line n b stages.Steps (Some (keywords.Step w)) e so st = yields_space_step n b w so e st
yields_bundle_line n b sec k e so st = yields_refuse Order

pub yields_bundle_command : (n : ℕ) (b : BundleDraft) → BundleSound b → Yields (bundle_command n b) BundleSound
unfolding bundle_command
yields_bundle_command n b so = yields_then IsWord yields_word (λ w i. yields_bundle_line n b b.section (keyword_of w) refl so so.stage)
