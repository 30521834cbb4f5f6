-- No line is refused for the reason Step, which only a run can tell.
use Rattle.std.proofs.Common.{◌≢◌, ℕ, ℤ, zero, suc, Bool, true, false, not, cond, List, [], ◌∷◌, length, pos, Option, Some, None, Result, Ok, Err, subst}
use Rattle.std.specs.Prelude.{nat_le, int_le, ◌&&◌, ◌==◌, ◌+◌, codes}
use Rattle.std.specs.Str.{bytes_eq}
use Rattle.hx_lex.specs.declared.errors.LexError.{LexError}
use Rattle.hx_lex.specs.declared.token.Token.{Token}
use Rattle.hx_lex.specs.Lines.{tokens_of}
use Rattle.hx_lex.specs.Numbers.{value as value_of}
use Rattle.hx_types.specs.declared.ids.Actor.{Actor}
use Rattle.hx_types.specs.declared.limits.TheConstants.{LONGEST_NAME}
use Rattle.hx_types.specs.declared.spaces.Attribute.{Attribute}
use Rattle.hx_types.specs.declared.spaces.Axis.{Axis}
use Rattle.hx_types.specs.declared.spaces.Kind.{Kind}
use Rattle.hx_types.specs.declared.spaces.Space.{Space}
use Rattle.hx_types.specs.declared.traces.Script.{Script}
use Rattle.hx_types.specs.declared.values.Assign.{Assign}
use Rattle.hx_types.specs.declared.values.Edit.{Edit}
use Rattle.hx_types.specs.declared.values.EditKind.{EditKind}
use Rattle.hx_types.specs.declared.values.EditKind.TheVariants as an_edit
use Rattle.hx_types.specs.declared.values.Term.{Term}
use Rattle.hx_types.specs.declared.values.Value.{Value}
use Rattle.hx_types.specs.declared.values.Value.TheVariants as values
use Rattle.hx_types.specs.Subspaces.{kind_at}
use Rattle.hx_script.specs.declared.axes.AxesDraft.{AxesDraft}
use Rattle.hx_script.specs.declared.draft.Draft.{Draft}
use Rattle.hx_script.specs.declared.draft.Section.{Section}
use Rattle.hx_script.specs.declared.draft.Section.TheVariants as sections
use Rattle.hx_script.specs.declared.errors.Reason.{Reason}
use Rattle.hx_script.specs.declared.errors.Reason.TheVariants as reasons
use Rattle.hx_script.specs.declared.errors.ScriptError.{ScriptError}
use Rattle.hx_script.specs.declared.errors.ScriptError.TheVariants as errors
use Rattle.hx_script.specs.declared.keyword.CallWord.{CallWord}
use Rattle.hx_script.specs.declared.keyword.CallWord.TheVariants as call_words
use Rattle.hx_script.specs.declared.keyword.Heading.{Heading}
use Rattle.hx_script.specs.declared.keyword.Heading.TheVariants as headings
use Rattle.hx_script.specs.declared.keyword.Keyword.{Keyword}
use Rattle.hx_script.specs.declared.keyword.Keyword.TheVariants as keywords
use Rattle.hx_script.specs.declared.keyword.StepWord.{StepWord}
use Rattle.hx_script.specs.declared.keyword.StepWord.TheVariants as step_words
use Rattle.hx_script.specs.declared.line.Until.{Until}
use Rattle.hx_script.specs.declared.line.Until.TheVariants as until
use Rattle.hx_script.specs.Toks.{Tok, Word, Number, Text, Sign}
use Rattle.hx_script.specs.Readers.{◌>>=◌, on_ok, Reader, give, judged, check, word, number, text, end, sign, fixed}
use Rattle.hx_script.specs.Readers.{is_between, number_in, natural, number_from, is_at, steps, repeat}
use Rattle.hx_script.specs.Words.{may_name, named, name, is_declared, new_name, numbered, place_of, declared_number, known_number}
use Rattle.hx_script.specs.Values.{short_text, is_of, is_short, any_value, value, has_assign, free_attribute, assign}
use Rattle.hx_script.specs.Values.{one_more, more_assigns, some_assigns, has_term, free_known, range, is_dots}
use Rattle.hx_script.specs.Values.{range_or_equal, rest_of_term, term, one_more_term, all_terms}
use Rattle.hx_script.specs.Edits.{edit_kind, edit_word, has_edit, unedited_attribute, is_edit_of, edit_value, edit, one_more_edit, some_edits}
use Rattle.hx_script.specs.Axes.{has_axis, free_axis, parts, axis, next_axis, no_axes_yet, subspace}
use Rattle.hx_script.specs.Actors.{is_decimal, number_word, actor_word, actor}
use Rattle.hx_script.specs.Calls.{put, get, del, cput, search_call, stop, add, atomic, call, deliver, tick, halt, step}
use Rattle.hx_script.specs.Keywords.{keyword_of}
use Rattle.hx_script.specs.Grammar.{hx_line, space_line, key_line, string_attribute, int_attribute, attribute_line}
use Rattle.hx_script.specs.Grammar.{subspace_line, servers_line, tolerate_line, session_line, steps_line, call_line}
use Rattle.hx_script.specs.Grammar.{step_line, heading_line, line_for, command, toks_from, line_of_toks, line_of}
use Rattle.hx_script.specs.Texts.{empty_draft, may_end, lines_of, at_line, read_lines, script_of}

-- any reason but Step
abbrev pub IsOfLine : Reason → Type 0
IsOfLine reasons.Token = Unit {0}
IsOfLine reasons.Order = Unit {0}
IsOfLine reasons.Unknown = Unit {0}
IsOfLine reasons.Twice = Unit {0}
IsOfLine reasons.TypeOf = Unit {0}
IsOfLine reasons.Bounds = Unit {0}
IsOfLine reasons.Limit = Unit {0}
IsOfLine reasons.Step = ⊥

-- where it is refused, a line gave the reason
abbrev pub Told : {A : Type 0} → Result A Reason → Type 0
Told (Ok x) = Unit {0}
Told (Err r) = IsOfLine r

pub record Tells {A : Type 0} (p : Reader A) : Type 0 where
  pub at : (ts : List Tok) → Told (p ts)

pub told_then : {A B : Type 0} (r : Result A Reason) (f : A → Result B Reason) → Told r → ((x : A) → Told (f x)) → Told (on_ok r f)
told_then (Ok x) f h g = g x
told_then (Err e) f h g = h

pub tells_then : {A B : Type 0} {p : Reader A} {f : A → Reader B} → Tells p → ((x : A) → Tells (f x)) → Tells (p >>= f)
tells_then {A} {B} {p} {f} hp hf = record { at = λ ts. told_then (p ts) (λ x. f x.0 x.1) (hp.at ts) (λ x. (hf x.0).at x.1) }

pub tells_give : {A : Type 0} (x : A) → Tells (give x)
tells_give x = record { at = λ ts. tt }

pub tells_check : (b : Bool) (r : Reason) → IsOfLine r → Tells (check b r)
tells_check true r h = record { at = λ ts. tt }
tells_check false r h = record { at = λ ts. h }

pub tells_judged : {A : Type 0} (r : Result A Reason) → Told r → Tells (judged r)
tells_judged (Ok x) h = record { at = λ ts. tt }
tells_judged (Err e) h = record { at = λ ts. h }

word_at : (ts : List Tok) → Told (word ts)
word_at [] = tt
word_at (Word w ∷ ts) = tt
word_at (Number n ∷ ts) = tt
word_at (Text t ∷ ts) = tt
word_at (Sign s ∷ ts) = tt

pub tells_word : Tells word
tells_word = record { at = word_at }

number_at : (ts : List Tok) → Told (number ts)
number_at [] = tt
number_at (Word w ∷ ts) = tt
number_at (Number n ∷ ts) = tt
number_at (Text t ∷ ts) = tt
number_at (Sign s ∷ ts) = tt

tells_number : Tells number
tells_number = record { at = number_at }

text_at : (ts : List Tok) → Told (text ts)
text_at [] = tt
text_at (Word w ∷ ts) = tt
text_at (Number n ∷ ts) = tt
text_at (Text t ∷ ts) = tt
text_at (Sign s ∷ ts) = tt

tells_text : Tells text
tells_text = record { at = text_at }

end_at : (ts : List Tok) → Told (end ts)
end_at [] = tt
end_at (t ∷ ts) = tt

pub tells_end : Tells end
tells_end = record { at = end_at }

sign_at : (s : List ℕ) (ts : List Tok) → Told (sign s ts)
sign_at s [] = tt
sign_at s (Word w ∷ ts) = tt
sign_at s (Number n ∷ ts) = tt
sign_at s (Text t ∷ ts) = tt
sign_at s (Sign t ∷ ts) = (tells_check (bytes_eq t s) reasons.Order tt).at ts

tells_sign : (s : List ℕ) → Tells (sign s)
tells_sign s = record { at = sign_at s }

fixed_at : (s : List ℕ) (ts : List Tok) → Told (fixed s ts)
fixed_at s [] = tt
fixed_at s (Word w ∷ ts) = (tells_check (bytes_eq w s) reasons.Order tt).at ts
fixed_at s (Number n ∷ ts) = tt
fixed_at s (Text t ∷ ts) = tt
fixed_at s (Sign t ∷ ts) = tt

pub tells_fixed : (s : List ℕ) → Tells (fixed s)
tells_fixed s = record { at = fixed_at s }

pub tells_number_in : (lo hi : ℕ) → Tells (number_in lo hi)
unfolding number_in
tells_number_in lo hi = tells_then tells_number (λ n. tells_then (tells_check (is_between lo hi n) reasons.Bounds tt) (λ u. tells_give _))

tells_natural : Tells natural
unfolding natural
tells_natural = tells_then tells_number (λ n. tells_then (tells_check (int_le (pos 0) n) reasons.Bounds tt) (λ u. tells_give _))

tells_number_from : (lo : ℤ) → Tells (number_from lo)
unfolding number_from
tells_number_from lo = tells_then tells_number (λ hi. tells_then (tells_check (int_le lo hi) reasons.Bounds tt) (λ u. tells_give _))

steps_at : {B : Type 0} (u : Until) (next : B → Reader B) → ((b : B) → Tells (next b)) → (fuel : ℕ) (b : B) (ts : List Tok) → Told (steps u next fuel b ts)
unfolding steps
steps_at {B} u next h zero b ts = by_end (is_at u ts)
  where
    by_end : (t : Bool) → Told {A = B × List Tok} (cond t (Ok (b, ts)) (Err reasons.Order))
    by_end true = tt
    by_end false = tt
steps_at {B} u next h (suc fuel) b ts = by_end (is_at u ts)
    (told_then (next b ts) (λ x. steps u next fuel x.0 x.1) ((h b).at ts) (λ x. steps_at u next h fuel x.0 x.1))
  where
    by_end : (t : Bool) → Told ((next b >>= steps u next fuel) ts) → Told (cond t (Ok (b, ts)) ((next b >>= steps u next fuel) ts))
    by_end true more = tt
    by_end false more = more

tells_repeat : {B : Type 0} (u : Until) (next : B → Reader B) → ((b : B) → Tells (next b)) → (b : B) → Tells (repeat u next b)
tells_repeat u next h b = record { at = λ ts. steps_at u next h (length ts) b ts }

-- names
pub tells_named : Tells named
unfolding named
tells_named = tells_then tells_word (λ w. tells_then (tells_check (may_name w) reasons.Order tt) (λ u. tells_give w))

tells_name : Tells name
unfolding name
tells_name = tells_then tells_named (λ w. tells_then (tells_check _ reasons.Limit tt) (λ u. tells_give w))

tells_new_name : (space : Space) → Tells (new_name space)
unfolding new_name
tells_new_name space = tells_then tells_named (λ w. tells_then
    (tells_check (not (is_declared space w)) reasons.Twice tt)
    (λ u. tells_then (tells_check (nat_le (length w) LONGEST_NAME) reasons.Limit tt) (λ v. tells_give w)))

told_numbered : (o : Option ℕ) → Told (numbered o)
told_numbered None = tt
told_numbered (Some place) = tt

told_declared : (space : Space) (w : List ℕ) → Told (declared_number space w)
told_declared space w = told_numbered (place_of space w)

told_known : (space : Space) (w : List ℕ) → Told (known_number space w)
told_known space w = by (bytes_eq space.key_name w)
  where
    by : (b : Bool) → Told (cond b (Ok 0) (declared_number space w))
    by true = tt
    by false = told_declared space w

-- values, assignments and terms
tells_short_text : Tells short_text
unfolding short_text
tells_short_text = tells_then tells_text (λ t. tells_then (tells_check _ reasons.Limit tt) (λ u. tells_give t))

any_value_at : (ts : List Tok) → Told (any_value ts)
any_value_at [] = tt
any_value_at (Word w ∷ ts) = tt
any_value_at (Number n ∷ ts) = tt
any_value_at (Text t ∷ ts) = tt
any_value_at (Sign s ∷ ts) = tt

tells_any_value : Tells any_value
tells_any_value = record { at = any_value_at }

tells_value : (kind : Kind) → Tells (value kind)
unfolding value
tells_value kind = tells_then tells_any_value (λ v. tells_then (tells_check (is_of kind v) reasons.TypeOf tt)
    (λ u. tells_then (tells_check (is_short v) reasons.Limit tt) (λ t. tells_give v)))

tells_free_attribute : (space : Space) (assigns : List Assign) → Tells (free_attribute space assigns)
unfolding free_attribute
tells_free_attribute space assigns = tells_then tells_named
    (λ w. tells_then (tells_judged (declared_number space w) (told_declared space w))
    (λ a. tells_then (tells_check (not (has_assign assigns a)) reasons.Twice tt) (λ u. tells_give a)))

tells_assign : (space : Space) (assigns : List Assign) → Tells (assign space assigns)
unfolding assign
tells_assign space assigns = tells_then (tells_free_attribute space assigns)
    (λ a. tells_then (tells_sign _) (λ u. tells_then (tells_value (kind_at space a)) (λ v. tells_give _)))

tells_one_more : (space : Space) (assigns : List Assign) → Tells (one_more space assigns)
unfolding one_more
tells_one_more space assigns = tells_then (tells_assign space assigns) (λ a. tells_give _)

tells_more_assigns : (space : Space) (u : Until) (assigns : List Assign) → Tells (more_assigns space u assigns)
tells_more_assigns space u assigns = tells_repeat u (one_more space) (tells_one_more space) assigns

tells_some_assigns : (space : Space) (u : Until) → Tells (some_assigns space u)
unfolding some_assigns
tells_some_assigns space u = tells_then (tells_one_more space []) (λ first. tells_more_assigns space u first)

tells_free_known : (space : Space) (terms : List Term) → Tells (free_known space terms)
unfolding free_known
tells_free_known space terms = tells_then tells_named
    (λ w. tells_then (tells_judged (known_number space w) (told_known space w))
    (λ a. tells_then (tells_check (not (has_term terms a)) reasons.Twice tt) (λ u. tells_give a)))

tells_range : (a : ℕ) (lo : ℤ) → Tells (range a lo)
unfolding range
tells_range a lo = tells_then (tells_sign _) (λ u. tells_then (tells_number_from lo) (λ hi. tells_give _))

range_or_equal_at : (dots : Bool) (a : ℕ) (n : ℤ) (ts : List Tok) → Told (range_or_equal dots a n ts)
range_or_equal_at true a n ts = (tells_range a n).at ts
range_or_equal_at false a n ts = tt

rest_of_term_at : (a : ℕ) (v : Value) (ts : List Tok) → Told (rest_of_term a v ts)
rest_of_term_at a (values.Text t) ts = tt
rest_of_term_at a (values.Int n) ts = range_or_equal_at (is_dots ts) a n ts

tells_rest_of_term : (a : ℕ) (v : Value) → Tells (rest_of_term a v)
tells_rest_of_term a v = record { at = rest_of_term_at a v }

tells_term : (space : Space) (terms : List Term) → Tells (term space terms)
unfolding term
tells_term space terms = tells_then (tells_free_known space terms)
    (λ a. tells_then (tells_sign _) (λ u. tells_then (tells_value (kind_at space a)) (λ v. tells_rest_of_term a v)))

tells_one_more_term : (space : Space) (terms : List Term) → Tells (one_more_term space terms)
unfolding one_more_term
tells_one_more_term space terms = tells_then (tells_term space terms) (λ t. tells_give _)

tells_all_terms : (space : Space) → Tells (all_terms space)
tells_all_terms space = tells_repeat until.End (one_more_term space) (tells_one_more_term space) []

-- edits
told_edit_kind : (w : List ℕ) → Told (edit_kind w)
told_edit_kind w = by (bytes_eq w (codes "add")) (bytes_eq w (codes "append")) (bytes_eq w (codes "min")) (bytes_eq w (codes "max"))
  where
    by : (a p n x : Bool) → Told (cond a (Ok an_edit.Add) (cond p (Ok an_edit.Append) (cond n (Ok an_edit.Min) (cond x (Ok an_edit.Max) (Err reasons.Order)))))
    by true p n x = tt
    by false true n x = tt
    by false false true x = tt
    by false false false true = tt
    by false false false false = tt

tells_edit_word : Tells edit_word
unfolding edit_word
tells_edit_word = tells_then tells_word (λ w. tells_judged (edit_kind w) (told_edit_kind w))

tells_unedited : (space : Space) (edits : List Edit) → Tells (unedited_attribute space edits)
unfolding unedited_attribute
tells_unedited space edits =
    tells_then tells_named (λ w.
    tells_then (tells_judged (declared_number space w) (told_declared space w)) (λ a.
    tells_then (tells_check (not (has_edit edits a)) reasons.Twice tt) (λ u. tells_give a)))

tells_edit_value : (what : EditKind) (kind : Kind) → Tells (edit_value what kind)
unfolding edit_value
tells_edit_value what kind =
    tells_then tells_any_value (λ v.
    tells_then (tells_check (is_edit_of what kind && is_of kind v) reasons.TypeOf tt) (λ u.
    tells_then (tells_check (is_short v) reasons.Limit tt) (λ t. tells_give v)))

tells_edit : (space : Space) (edits : List Edit) → Tells (edit space edits)
unfolding edit
tells_edit space edits =
    tells_then tells_edit_word (λ what.
    tells_then (tells_unedited space edits) (λ a.
    tells_then (tells_sign _) (λ u.
    tells_then (tells_edit_value what (kind_at space a)) (λ v. tells_give _))))

tells_one_more_edit : (space : Space) (edits : List Edit) → Tells (one_more_edit space edits)
unfolding one_more_edit
tells_one_more_edit space edits = tells_then (tells_edit space edits) (λ e. tells_give _)

tells_some_edits : (space : Space) → Tells (some_edits space)
unfolding some_edits
tells_some_edits space = tells_then (tells_one_more_edit space []) (λ first. tells_repeat until.End (one_more_edit space) (tells_one_more_edit space) first)

-- subspaces
tells_free_axis : (space : Space) (axes : List Axis) → Tells (free_axis space axes)
unfolding free_axis
tells_free_axis space axes = tells_then tells_named
    (λ w. tells_then (tells_judged (declared_number space w) (told_declared space w))
    (λ a. tells_then (tells_check (not (has_axis axes a)) reasons.Twice tt)
    (λ u. tells_then (tells_check _ reasons.Limit tt) (λ v. tells_give a))))

tells_parts : (regions size : ℕ) → Tells (parts regions size)
unfolding parts
tells_parts regions size = tells_then (tells_number_in _ _) (λ n. tells_then (tells_check _ reasons.Limit tt) (λ u. tells_give n))

tells_axis : (space : Space) (regions : ℕ) (draft : AxesDraft) → Tells (axis space regions draft)
unfolding axis
tells_axis space regions draft = tells_then (tells_free_axis space draft.axes) (λ a. tells_then (tells_parts regions draft.size) (λ n. tells_give _))

tells_next_axis : (space : Space) (regions : ℕ) (draft : AxesDraft) → Tells (next_axis space regions draft)
unfolding next_axis
tells_next_axis space regions draft = tells_then (tells_sign _) (λ u. tells_axis space regions draft)

tells_subspace : (space : Space) (regions : ℕ) → Tells (subspace space regions)
unfolding subspace
tells_subspace space regions = tells_then (tells_axis space regions no_axes_yet)
    (λ first. tells_repeat until.End (next_axis space regions) (tells_next_axis space regions) first)

-- actors
told_number_word : (most : ℕ) (digits : List ℕ) → Told (number_word most digits)
told_number_word most digits = by (not (is_decimal digits)) (nat_le 1 (value_of digits) && nat_le (value_of digits) most)
  where
    by : (a b : Bool) → Told (cond a (Err reasons.Order) (cond b (Ok (value_of digits)) (Err reasons.Bounds)))
    by true b = tt
    by false true = tt
    by false false = tt

told_actor_word : (servers sessions : ℕ) (w : List ℕ) → Told (actor_word servers sessions w)
told_actor_word servers sessions [] = tt
told_actor_word servers sessions (b ∷ digits) = by (b == 99 && length digits == 0) (b == 115) (b == 117) _ _ _
    (told_then (number_word servers digits) _ (told_number_word servers digits) (λ n. tt))
    (told_then (number_word sessions digits) _ (told_number_word sessions digits) (λ n. tt))
  where
    by : (c s u : Bool) (one : Actor) (server session : Result Actor Reason) → Told server → Told session
        → Told (cond c (Ok one) (cond s server (cond u session (Err reasons.Order))))
    by true s u one server session h g = tt
    by false true u one server session h g = h
    by false false true one server session h g = g
    by false false false one server session h g = tt

tells_actor : (servers sessions : ℕ) → Tells (actor servers sessions)
unfolding actor
tells_actor servers sessions = tells_then tells_word (λ w. tells_judged (actor_word servers sessions w) (told_actor_word servers sessions w))

-- calls and steps
pub tells_call : (space : Space) (regions : ℕ) (w : CallWord) → Tells (call space regions w)
unfolding put get del cput search_call stop add atomic
tells_call space regions call_words.Put = tells_then tells_short_text (λ key. tells_then (tells_more_assigns space until.End []) (λ sets. tells_give _))
tells_call space regions call_words.Get = tells_then tells_short_text (λ key. tells_then tells_end (λ u. tells_give _))
tells_call space regions call_words.Del = tells_then tells_short_text (λ key. tells_then tells_end (λ u. tells_give _))
tells_call space regions call_words.Cput = tells_then tells_short_text
    (λ key. tells_then (tells_fixed _) (λ u. tells_then (tells_some_assigns space until.Set)
    (λ tests. tells_then (tells_fixed _) (λ v. tells_then (tells_some_assigns space until.End) (λ sets. tells_give _)))))
tells_call space regions call_words.Search = tells_then (tells_all_terms space) (λ terms. tells_give _)
tells_call space regions call_words.Stop = tells_then (tells_number_in _ _) (λ n. tells_then tells_end (λ u. tells_give _))
tells_call space regions call_words.Add = tells_then (tells_number_in _ _)
    (λ n. tells_then (tells_number_in _ _) (λ g. tells_then tells_end (λ u. tells_give _)))
tells_call space regions call_words.Atomic = tells_then tells_short_text (λ key. tells_then (tells_some_edits space) (λ edits. tells_give _))

pub tells_step : (servers sessions : ℕ) (w : StepWord) → Tells (step servers sessions w)
unfolding deliver tick halt
tells_step servers sessions step_words.Deliver =
    tells_then tells_natural (λ n. tells_then (tells_sign _)
    (λ u. tells_then (tells_number_in _ _) (λ p. tells_then tells_end (λ v. tells_give _))))
tells_step servers sessions step_words.Tick = tells_then (tells_actor servers sessions) (λ a. tells_then tells_end (λ u. tells_give _))
tells_step servers sessions step_words.Halt = tells_then (tells_actor servers sessions) (λ a. tells_then tells_end (λ u. tells_give _))

-- lines
tells_string : (space : Space) → Tells (string_attribute space)
unfolding string_attribute
tells_string space = tells_then (tells_new_name space) (λ w. tells_then tells_end (λ u. tells_give _))

tells_int : (space : Space) → Tells (int_attribute space)
unfolding int_attribute
tells_int space = tells_then (tells_new_name space)
    (λ w. tells_then tells_number (λ lo. tells_then (tells_number_from lo) (λ hi. tells_then tells_end (λ u. tells_give _))))

tells_attribute : (d : Draft) (attribute : Space → Reader Attribute) → Tells (attribute d.space) → Tells (attribute_line d attribute)
unfolding attribute_line
tells_attribute d attribute h = tells_then (tells_check _ reasons.Limit tt) (λ u. tells_then h (λ a. tells_give _))

tells_subspace_line : (d : Draft) → Tells (subspace_line d)
unfolding subspace_line
tells_subspace_line d = tells_then (tells_check _ reasons.Limit tt) (λ u. tells_then (tells_subspace d.space d.regions) (λ c. tells_give _))

tells_servers : (d : Draft) → Tells (servers_line d)
unfolding servers_line
tells_servers d = tells_then (tells_number_in _ _) (λ n. tells_then tells_end (λ u. tells_give _))

tells_session : (d : Draft) → Tells (session_line d)
unfolding session_line
tells_session d = tells_then (tells_check _ reasons.Limit tt) (λ u. tells_then (tells_number_in _ _) (λ n. tells_then tells_end (λ v. tells_give _)))

tells_steps_line : (d : Draft) → Tells (steps_line d)
unfolding steps_line
tells_steps_line d = tells_then tells_end (λ u. tells_give _)

pub tells_heading : (d : Draft) (s : Section) (h : Heading) → Tells (heading_line d s h)
unfolding hx_line space_line key_line tolerate_line
tells_heading d sections.Start headings.Hx = tells_then (tells_number_in _ _) (λ n. tells_then tells_end (λ u. tells_give _))
tells_heading d sections.Naming headings.Space = tells_then tells_name (λ w. tells_then tells_end (λ u. tells_give _))
tells_heading d sections.Keying headings.Key = tells_then tells_name (λ w. tells_then (tells_number_in _ _) (λ n. tells_then tells_end (λ u. tells_give _)))
tells_heading d sections.Attributes headings.String = tells_attribute d string_attribute (tells_string d.space)
tells_heading d sections.Attributes headings.Int = tells_attribute d int_attribute (tells_int d.space)
tells_heading d sections.Attributes headings.Subspace = tells_subspace_line d
tells_heading d sections.Subspaces headings.Subspace = tells_subspace_line d
tells_heading d sections.Attributes headings.Servers = tells_servers d
tells_heading d sections.Subspaces headings.Servers = tells_servers d
tells_heading d sections.Tolerance headings.Tolerate = tells_then (tells_number_in _ _) (λ n. tells_then tells_end (λ u. tells_give _))
tells_heading d sections.Sessions headings.Session = tells_session d
tells_heading d sections.Calls headings.Session = tells_session d
tells_heading d sections.Sessions headings.Steps = tells_steps_line d
tells_heading d sections.Calls headings.Steps = tells_steps_line d
tells_heading d _ _ = record { at = λ ts. tt }

tells_line : (n : ℕ) (d : Draft) (s : Section) (k : Option Keyword) → Tells (line_for n d s k)
unfolding call_line step_line
tells_line n d s (Some (keywords.Heading h)) = tells_heading d s h
tells_line n d sections.Calls (Some (keywords.Call c)) =
    tells_then (tells_check _ reasons.Limit tt) (λ u. tells_then (tells_call d.space d.regions c) (λ op. tells_give _))
tells_line n d sections.Steps (Some (keywords.Step w)) =
    tells_then (tells_check _ reasons.Limit tt) (λ u. tells_then (tells_step d.space.servers (length d.sessions) w)
    (λ s. tells_give _))
tells_line n d _ _ = record { at = λ ts. tt }

tells_command : (n : ℕ) (d : Draft) → Tells (command n d)
unfolding command
tells_command n d = tells_then tells_word (λ w. tells_line n d d.section (keyword_of w))

pub told_toks : (line : List ℕ) (tokens : Result (List Token) LexError) → Told (toks_from line tokens)
told_toks line (Ok ts) = tt
told_toks line (Err e) = tt

told_line_of_toks : (n : ℕ) (d : Draft) (ts : List Tok) → Told (line_of_toks n d ts)
told_line_of_toks n d [] = tt
told_line_of_toks n d (t ∷ ts) = told_then (command n d (t ∷ ts)) (λ x. Ok x.0) ((tells_command n d).at (t ∷ ts)) (λ x. tt)

told_line : (n : ℕ) (d : Draft) (line : List ℕ) → Told (line_of n d line)
told_line n d line = told_then (toks_from line (tokens_of line)) (line_of_toks n d) (told_toks line (tokens_of line)) (told_line_of_toks n d)

-- a text is refused for a reason of a line
abbrev pub IsRefusedByLine : Result Script ScriptError → Type 0
IsRefusedByLine (Ok s) = Unit {0}
IsRefusedByLine (Err errors.Memory) = Unit {0}
IsRefusedByLine (Err (errors.Refused line r)) = IsOfLine r

by_end : (b : Bool) (s : Script) (n : ℕ) → IsRefusedByLine (cond b (Ok s) (Err (errors.Refused n reasons.Order)))
by_end true s n = tt
by_end false s n = tt

by_line : (n : ℕ) (r : Result Draft Reason) (f : Draft → Result Script ScriptError) → Told r
    → ((d : Draft) → IsRefusedByLine (f d)) → IsRefusedByLine (at_line n r f)
by_line n (Ok d) f h more = more d
by_line n (Err r) f h more = h

pub by_lines : (ls : List (List ℕ)) (n : ℕ) (d : Draft) → IsRefusedByLine (read_lines n d ls)
unfolding read_lines
by_lines [] n d = by_end (may_end d.section) _ _
by_lines (l ∷ ls) n d = by_line (n + 1) (line_of (n + 1) d l) _ (told_line (n + 1) d l) (λ e. by_lines ls (n + 1) e)

pub never_by_step : (text : List ℕ) (line : ℕ) → script_of text ≢ Err (errors.Refused line reasons.Step)
never_by_step text line e = subst IsRefusedByLine e (by_lines (lines_of text) 0 empty_draft)
