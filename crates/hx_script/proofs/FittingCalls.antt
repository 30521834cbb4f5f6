-- Calls that are read fit their space.
use Rattle.std.proofs.Common.{◌≡◌, ℕ, ℤ, zero, suc, ◌-◌, ◌<◌, ◌≤◌, Bool, true, false, eqb, List, [], ◌∷◌, ◌++◌, length, Some, Ok, refl, subst, arith}
use Rattle.std.specs.Prelude.{◌&&◌, int_le, nat_le, not, codes, slice_get}
use Rattle.std.specs.Int.Signed.{le_z_yes}
use Rattle.std.proofs.lemmas.Bool.{leb-true, ne_eqb}
use Rattle.std.proofs.lemmas.Float.{T_from_true}
use Rattle.std.proofs.lemmas.List.Elements.{All-nil, All-push}
use Rattle.hx_lex.specs.Letters.{IsWord}
use Rattle.hx_types.specs.declared.calls.Op.TheVariants as ops
use Rattle.hx_types.specs.declared.limits.TheConstants.{LONGEST_TEXT}
use Rattle.hx_types.specs.declared.spaces.Kind.{Kind}
use Rattle.hx_types.specs.declared.spaces.Kind.TheVariants as kinds
use Rattle.hx_types.specs.declared.spaces.Space.{Space}
use Rattle.hx_types.specs.declared.values.Assign.{Assign}
use Rattle.hx_types.specs.declared.values.Edit.{Edit}
use Rattle.hx_types.specs.declared.values.EditKind.{EditKind}
use Rattle.hx_types.specs.declared.values.EditKind.TheVariants as an_edit
use Rattle.hx_types.specs.declared.values.Term.{Term}
use Rattle.hx_types.specs.declared.values.Term.TheVariants as a_term
use Rattle.hx_types.specs.declared.values.Value.{Value}
use Rattle.hx_types.specs.declared.values.Value.TheVariants as values
use Rattle.hx_types.specs.Spaces.{IsOfKind, IsIntKind, KeyFits, AssignFits, AssignsFit, IsEditOf, EditFits, EditsFit, TermFits, TermsFit, attribute_of, Fits}
use Rattle.hx_types.specs.Subspaces.{kind_at, region_count}
use Rattle.hx_script.specs.declared.errors.Reason.TheVariants.{Twice, TypeOf, Limit}
use Rattle.hx_script.specs.declared.keyword.CallWord.{CallWord}
use Rattle.hx_script.specs.declared.keyword.CallWord.TheVariants as calls
use Rattle.hx_script.specs.declared.line.Until.{Until}
use Rattle.hx_script.specs.declared.line.Until.TheVariants as until
use Rattle.hx_script.specs.Toks.{Tok, Word, Number, Text, Sign}
use Rattle.hx_script.specs.Readers.{Reader}
use Rattle.hx_script.specs.Words.{declared_number, known_number}
use Rattle.hx_script.specs.Values.{short_text, is_of, is_short, any_value, value, has_assign, free_attribute, assign}
use Rattle.hx_script.specs.Values.{one_more, more_assigns, some_assigns, has_term, free_known, range, is_dots}
use Rattle.hx_script.specs.Values.{range_or_equal, rest_of_term, term, one_more_term, all_terms}
use Rattle.hx_script.specs.Edits.{edit_kind, edit_word, has_edit, unedited_attribute, is_edit_of, edit_value, edit, one_more_edit, some_edits}
use Rattle.hx_script.specs.Calls.{put, get, del, cput, search_call, stop, add, atomic, call}
use Rattle.hx_script.proofs.Naming.{MayName, yields_named, declared_is, known_is}
use Rattle.hx_script.proofs.Once.{not_true, once_more}
use Rattle.hx_script.proofs.Takes.{ok_is}
use Rattle.hx_script.proofs.Yields.{AllToks, Yields, Any, yields_then, yields_give, yields_check, yields_judged}
use Rattle.hx_script.proofs.Yields.{yields_word, yields_text, yields_end, yields_sign, yields_fixed, yields_number_in}
use Rattle.hx_script.proofs.Yields.{yields_number_from, yields_repeat, and_left, and_right}

pub yields_short_text : Yields short_text KeyFits
unfolding short_text
yields_short_text = yields_then Any yields_text (λ t u. yields_then (λ u. nat_le (length t) LONGEST_TEXT ≡ true)
    (yields_check (nat_le (length t) LONGEST_TEXT) Limit) (λ u h. yields_give t (leb-true (length t) LONGEST_TEXT h)))

any_value_at : (ts : List Tok) (x : Value × List Tok) → AllToks ts → any_value ts ≡ Ok x → Unit {0} × AllToks x.1
any_value_at [] x all e = absurd cc
any_value_at (Word w ∷ ts) x all e = absurd cc
any_value_at (Number n ∷ ts) x all e = (tt, subst (λ (y : Value × List Tok). AllToks y.1) (ok_is (values.Int n, ts) x e) all)
any_value_at (Text t ∷ ts) x all e = (tt, subst (λ (y : Value × List Tok). AllToks y.1) (ok_is (values.Text t, ts) x e) all)
any_value_at (Sign s ∷ ts) x all e = absurd cc

yields_any_value : Yields any_value Any
yields_any_value = record { at = any_value_at }

-- a value of the kind, and short
pub record Suits (kind : Kind) (v : Value) : Type 0 where
  pub fits : is_of kind v ≡ true
  pub short : is_short v ≡ true

yields_value : (kind : Kind) → Yields (value kind) (Suits kind)
unfolding value
yields_value kind = yields_then Any yields_any_value
    (λ v u. yields_then (λ u. is_of kind v ≡ true) (yields_check (is_of kind v) TypeOf)
    (λ u k. yields_then (λ u. is_short v ≡ true) (yields_check (is_short v) Limit)
    (λ u s. yields_give v (record { fits = k; short = s }))))

value_fits : (kind : Kind) (v : Value) → is_of kind v ≡ true → is_short v ≡ true → IsOfKind kind v
value_fits kinds.Text (values.Text t) k s = leb-true (length t) LONGEST_TEXT s
value_fits kinds.Text (values.Int n) k s = absurd cc
value_fits (kinds.Int lo hi) (values.Text t) k s = absurd cc
value_fits (kinds.Int lo hi) (values.Int n) k s = tt

int_kind : (kind : Kind) (n : ℤ) → is_of kind (values.Int n) ≡ true → IsIntKind kind
int_kind kinds.Text n k = absurd cc
int_kind (kinds.Int lo hi) n k = tt

some_at : {A : Type 0} (xs : List A) (i : ℕ) → i < length xs → (x : A) × (slice_get xs i ≡ Some x)
some_at [] i lt = absurd (omega arith)
some_at (x ∷ xs) zero lt = (x, refl)
some_at (x ∷ xs) (suc i) lt = some_at xs i (omega (arith, lt))

not_zero : (a : ℕ) → 0 < a → eqb a 0 ≡ false
not_zero a lt = ne_eqb a 0 (λ e. omega (arith, e, lt))

assign_fits : (space : Space) (a : ℕ) (v : Value) → (0 < a) × (a ≤ length space.attributes)
    → Suits (kind_at space a) v → AssignFits space (record { attribute = a; value = v })
assign_fits space a v is suits =
    let low : 0 < a = is.0 in
    let high : a ≤ length space.attributes = is.1 in
    let s = some_at space.attributes (a - 1) (omega (arith, low, high)) in
    let same : kind_at space a ≡ s.0.kind = rw (not_zero a low, s.1) refl in
    let fits : IsOfKind s.0.kind v = subst (λ k. IsOfKind k v) same (value_fits (kind_at space a) v suits.fits suits.short) in
    (low, rw s.1 fits)

-- an attribute that isn't assigned yet
record IsFree (space : Space) (assigns : List Assign) (a : ℕ) : Type 0 where
  pub is : (0 < a) × (a ≤ length space.attributes)
  pub new : has_assign assigns a ≡ false

yields_free : (space : Space) (assigns : List Assign) → Yields (free_attribute space assigns) (IsFree space assigns)
unfolding free_attribute
yields_free space assigns = yields_then MayName yields_named
    (λ w m. yields_then (λ a. declared_number space w ≡ Ok a) (yields_judged (declared_number space w))
    (λ a d. yields_then (λ u. not (has_assign assigns a) ≡ true) (yields_check (not (has_assign assigns a)) Twice)
    (λ u n. yields_give a (record { is = declared_is space w a d; new = not_true (has_assign assigns a) n }))))

record IsNext (space : Space) (assigns : List Assign) (a : Assign) : Type 0 where
  pub fits : AssignFits space a
  pub new : has_assign assigns a.attribute ≡ false

yields_assign : (space : Space) (assigns : List Assign) → Yields (assign space assigns) (IsNext space assigns)
unfolding assign
yields_assign space assigns = yields_then (IsFree space assigns) (yields_free space assigns)
    (λ a f. yields_then Any (yields_sign (codes "="))
    (λ u t. yields_then (Suits (kind_at space a)) (yields_value (kind_at space a))
    (λ v s. yields_give (record { attribute = a; value = v }) (record { fits = assign_fits space a v f.is s; new = f.new }))))

next_fits : (space : Space) (assigns : List Assign) (a : Assign) → AssignsFit space assigns → IsNext space assigns a → AssignsFit space (assigns ++ a ∷ [])
next_fits space assigns a fit next = record {
  each = All-push (AssignFits space) assigns a fit.each next.fits;
  once = once_more (λ (x : Assign). x.attribute) assigns a fit.once next.new;
}

one_longer : {A : Type 0} (xs : List A) (x : A) → 0 < length (xs ++ x ∷ [])
one_longer [] x = omega arith
one_longer (y ∷ xs) x = omega arith

record SomeFit (space : Space) (assigns : List Assign) : Type 0 where
  pub fit : AssignsFit space assigns
  pub some : 0 < length assigns

yields_one_more : (space : Space) (assigns : List Assign) → AssignsFit space assigns → Yields (one_more space assigns) (SomeFit space)
unfolding one_more
yields_one_more space assigns fit = yields_then (IsNext space assigns) (yields_assign space assigns)
    (λ a n. yields_give (assigns ++ a ∷ []) (record { fit = next_fits space assigns a fit n; some = one_longer assigns a }))

no_assigns : (space : Space) → AssignsFit space []
no_assigns space = record { each = All-nil (AssignFits space); once = tt }

weaker : {A : Type 0} {p : Reader A} (P Q : A → Type 0) → ((a : A) → P a → Q a) → Yields p P → Yields p Q
weaker P Q w y = record { at = λ ts x all e. let r = y.at ts x all e in (w x.0 r.0, r.1) }

yields_assigns : (space : Space) → Yields (more_assigns space until.End []) (AssignsFit space)
yields_assigns space = yields_repeat (AssignsFit space) until.End (one_more space)
    (λ b q. weaker (SomeFit space) (AssignsFit space) (λ a s. s.fit) (yields_one_more space b q)) [] (no_assigns space)

yields_some : (space : Space) (u : Until) → Yields (some_assigns space u) (SomeFit space)
unfolding some_assigns
yields_some space u = yields_then (SomeFit space) (yields_one_more space [] (no_assigns space))
    (λ first s. yields_repeat (SomeFit space) u (one_more space) (λ b q. yields_one_more space b q.fit) first s)

record IsFreeTerm (space : Space) (terms : List Term) (a : ℕ) : Type 0 where
  pub is : a ≤ length space.attributes
  pub new : has_term terms a ≡ false

yields_free_known : (space : Space) (terms : List Term) → Yields (free_known space terms) (IsFreeTerm space terms)
unfolding free_known
yields_free_known space terms = yields_then MayName yields_named
    (λ w m. yields_then (λ a. known_number space w ≡ Ok a) (yields_judged (known_number space w))
    (λ a d. yields_then (λ u. not (has_term terms a) ≡ true) (yields_check (not (has_term terms a)) Twice)
    (λ u n. yields_give a (record { is = known_is space w a d; new = not_true (has_term terms a) n }))))

record IsNextTerm (space : Space) (terms : List Term) (t : Term) : Type 0 where
  pub fits : TermFits space t
  pub new : has_term terms (attribute_of t) ≡ false

yields_range : (space : Space) (terms : List Term) (a : ℕ) (lo : ℤ) → IsFreeTerm space terms a
    → IsIntKind (kind_at space a) → Yields (range a lo) (IsNextTerm space terms)
unfolding range
yields_range space terms a lo f k = yields_then Any (yields_sign (codes ".."))
    (λ u t. yields_then (λ hi. int_le lo hi ≡ true) (yields_number_from lo)
    (λ hi h. yields_give (a_term.Range a lo hi) (record {
      fits = (f.is, k, le_z_yes (T_from_true (int_le lo hi) h));
      new = f.new;
    })))

yields_either : (space : Space) (terms : List Term) (a : ℕ) (n : ℤ) (b : Bool) → IsFreeTerm space terms a
    → Suits (kind_at space a) (values.Int n) → Yields (range_or_equal b a n) (IsNextTerm space terms)
yields_either space terms a n true f s = yields_range space terms a n f (int_kind (kind_at space a) n s.fits)
yields_either space terms a n false f s = yields_give (a_term.Equal a (values.Int n))
    (record { fits = (f.is, value_fits (kind_at space a) (values.Int n) s.fits s.short); new = f.new })

yields_rest : (space : Space) (terms : List Term) (a : ℕ) (v : Value) → IsFreeTerm space terms a
    → Suits (kind_at space a) v → Yields (rest_of_term a v) (IsNextTerm space terms)
yields_rest space terms a (values.Text t) f s = record {
  at =
      λ ts x all e. (yields_give {Q = IsNextTerm space terms} (a_term.Equal a (values.Text t))
      (record { fits = (f.is, value_fits (kind_at space a) (values.Text t) s.fits s.short); new = f.new })).at ts x all e;
}
yields_rest space terms a (values.Int n) f s = record { at = λ ts x all e. (yields_either space terms a n (is_dots ts) f s).at ts x all e }

yields_term : (space : Space) (terms : List Term) → Yields (term space terms) (IsNextTerm space terms)
unfolding term
yields_term space terms = yields_then (IsFreeTerm space terms) (yields_free_known space terms)
    (λ a f. yields_then Any (yields_sign (codes "="))
    (λ u t. yields_then (Suits (kind_at space a)) (yields_value (kind_at space a)) (λ v s. yields_rest space terms a v f s)))

next_term_fits : (space : Space) (terms : List Term) (t : Term) → TermsFit space terms → IsNextTerm space terms t → TermsFit space (terms ++ t ∷ [])
next_term_fits space terms t fit next = record {
  each = All-push (TermFits space) terms t fit.each next.fits;
  once = once_more attribute_of terms t fit.once next.new;
}

yields_one_more_term : (space : Space) (terms : List Term) → TermsFit space terms → Yields (one_more_term space terms) (TermsFit space)
unfolding one_more_term
yields_one_more_term space terms fit = yields_then (IsNextTerm space terms) (yields_term space terms)
    (λ t n. yields_give (terms ++ t ∷ []) (next_term_fits space terms t fit n))

yields_terms : (space : Space) → Yields (all_terms space) (TermsFit space)
yields_terms space = yields_repeat (TermsFit space) until.End (one_more_term space)
    (λ b q. yields_one_more_term space b q) [] (record { each = All-nil (TermFits space); once = tt })

-- ---- edits

yields_edit_word : Yields edit_word Any
unfolding edit_word
yields_edit_word = yields_then IsWord yields_word (λ w u. weaker (λ what. edit_kind w ≡ Ok what) Any (λ what e. tt) (yields_judged (edit_kind w)))

-- an attribute that isn't edited yet
record IsUnedited (space : Space) (edits : List Edit) (a : ℕ) : Type 0 where
  pub is : (0 < a) × (a ≤ length space.attributes)
  pub new : has_edit edits a ≡ false

yields_unedited : (space : Space) (edits : List Edit) → Yields (unedited_attribute space edits) (IsUnedited space edits)
unfolding unedited_attribute
yields_unedited space edits =
    yields_then MayName yields_named (λ w m.
    yields_then (λ a. declared_number space w ≡ Ok a) (yields_judged (declared_number space w)) (λ a d.
    yields_then (λ u. not (has_edit edits a) ≡ true) (yields_check (not (has_edit edits a)) Twice) (λ u n.
    yields_give a (record { is = declared_is space w a d; new = not_true (has_edit edits a) n }))))

-- a value by which a value of the kind can be edited so
record Edits (what : EditKind) (kind : Kind) (v : Value) : Type 0 where
  pub is : is_edit_of what kind ≡ true
  pub suits : Suits kind v

yields_edit_value : (what : EditKind) (kind : Kind) → Yields (edit_value what kind) (Edits what kind)
unfolding edit_value
yields_edit_value what kind =
    yields_then Any yields_any_value (λ v u.
    yields_then (λ u. (is_edit_of what kind && is_of kind v) ≡ true) (yields_check (is_edit_of what kind && is_of kind v) TypeOf) (λ u k.
    yields_then (λ u. is_short v ≡ true) (yields_check (is_short v) Limit) (λ u s.
    yields_give v (record {
      is = and_left (is_edit_of what kind) (is_of kind v) k;
      suits = record { fits = and_right (is_edit_of what kind) (is_of kind v) k; short = s };
    }))))

edit_is : (what : EditKind) (kind : Kind) → is_edit_of what kind ≡ true → IsEditOf what kind
edit_is an_edit.Append kinds.Text e = tt
edit_is an_edit.Append (kinds.Int lo hi) e = absurd cc
edit_is an_edit.Add kinds.Text e = absurd cc
edit_is an_edit.Add (kinds.Int lo hi) e = tt
edit_is an_edit.Min kinds.Text e = absurd cc
edit_is an_edit.Min (kinds.Int lo hi) e = tt
edit_is an_edit.Max kinds.Text e = absurd cc
edit_is an_edit.Max (kinds.Int lo hi) e = tt

edit_fits : (space : Space) (what : EditKind) (a : ℕ) (v : Value) → (0 < a) × (a ≤ length space.attributes)
    → Edits what (kind_at space a) v → EditFits space (record { what = what; attribute = a; value = v })
edit_fits space what a v is by =
    let low : 0 < a = is.0 in
    let high : a ≤ length space.attributes = is.1 in
    let s = some_at space.attributes (a - 1) (omega (arith, low, high)) in
    let same : kind_at space a ≡ s.0.kind = rw (not_zero a low, s.1) refl in
    let fits : IsEditOf what s.0.kind × IsOfKind s.0.kind v =
    subst (λ k. IsEditOf what k × IsOfKind k v) same (edit_is what (kind_at space a) by.is, value_fits (kind_at space a) v by.suits.fits by.suits.short) in
    (low, rw s.1 fits)

record IsNextEdit (space : Space) (edits : List Edit) (e : Edit) : Type 0 where
  pub fits : EditFits space e
  pub new : has_edit edits e.attribute ≡ false

yields_edit : (space : Space) (edits : List Edit) → Yields (edit space edits) (IsNextEdit space edits)
unfolding edit
yields_edit space edits =
    yields_then Any yields_edit_word (λ what w.
    yields_then (IsUnedited space edits) (yields_unedited space edits) (λ a f.
    yields_then Any (yields_sign (codes "=")) (λ u t.
    yields_then (Edits what (kind_at space a)) (yields_edit_value what (kind_at space a)) (λ v s.
    yields_give (record { what = what; attribute = a; value = v }) (record { fits = edit_fits space what a v f.is s; new = f.new })))))

record SomeEdit (space : Space) (edits : List Edit) : Type 0 where
  pub fit : EditsFit space edits
  pub some : 0 < length edits

next_edit_fits : (space : Space) (edits : List Edit) (e : Edit) → EditsFit space edits → IsNextEdit space edits e → EditsFit space (edits ++ e ∷ [])
next_edit_fits space edits e fit next = record {
  each = All-push (EditFits space) edits e fit.each next.fits;
  once = once_more (λ (x : Edit). x.attribute) edits e fit.once next.new;
}

yields_one_more_edit : (space : Space) (edits : List Edit) → EditsFit space edits → Yields (one_more_edit space edits) (SomeEdit space)
unfolding one_more_edit
yields_one_more_edit space edits fit =
    yields_then (IsNextEdit space edits) (yields_edit space edits)
    (λ e n. yields_give (edits ++ e ∷ []) (record { fit = next_edit_fits space edits e fit n; some = one_longer edits e }))

yields_some_edits : (space : Space) → Yields (some_edits space) (SomeEdit space)
unfolding some_edits
yields_some_edits space =
    yields_then (SomeEdit space) (yields_one_more_edit space [] (record { each = All-nil (EditFits space); once = tt })) (λ first s.
    yields_repeat (SomeEdit space) until.End (one_more_edit space) (λ b q. yields_one_more_edit space b q.fit) first s)

-- ---- calls

yields_put : (space : Space) → Yields (put space) (Fits space)
unfolding put
yields_put space = yields_then KeyFits yields_short_text
    (λ key k. yields_then (AssignsFit space) (yields_assigns space) (λ sets s. yields_give (ops.Put key sets) (k, s)))

yields_get : (space : Space) → Yields get (Fits space)
unfolding get
yields_get space = yields_then KeyFits yields_short_text (λ key k. yields_then Any yields_end (λ u t. yields_give (ops.Get key) k))

yields_del : (space : Space) → Yields del (Fits space)
unfolding del
yields_del space = yields_then KeyFits yields_short_text (λ key k. yields_then Any yields_end (λ u t. yields_give (ops.Del key) k))

yields_cput : (space : Space) → Yields (cput space) (Fits space)
unfolding cput
yields_cput space = yields_then KeyFits yields_short_text
    (λ key k. yields_then Any (yields_fixed (codes "if"))
    (λ u v. yields_then (SomeFit space) (yields_some space until.Set)
    (λ tests t. yields_then Any (yields_fixed (codes "set"))
    (λ w x. yields_then (SomeFit space) (yields_some space until.End)
    (λ sets s. yields_give (ops.Cput key tests sets) (k, t.fit, s.fit, t.some, s.some))))))

yields_search : (space : Space) → Yields (search_call space) (Fits space)
unfolding search_call
yields_search space = yields_then (TermsFit space) (yields_terms space) (λ terms t. yields_give (ops.Search terms) t)

yields_stop : (space : Space) → Yields (stop space) (Fits space)
unfolding stop
yields_stop space = yields_then (λ n. (1 ≤ n) × (n ≤ space.servers)) (yields_number_in 1 space.servers)
    (λ n h. yields_then Any yields_end (λ u t. yields_give (ops.Stop (record { 0 = n })) (h.0, h.1)))

below_it : (n m : ℕ) → 0 < m → n ≤ m - 1 → n < m
below_it n m low h = omega (arith, low, h)

yields_add : (space : Space) (regions : ℕ) → regions ≡ region_count space → 0 < regions → Yields (add space regions) (Fits space)
unfolding add
yields_add space regions same low = yields_then (λ n. (1 ≤ n) × (n ≤ space.servers))
    (yields_number_in 1 space.servers) (λ n h. yields_then (λ g. (0 ≤ g) × (g ≤ regions - 1))
    (yields_number_in 0 (regions - 1)) (λ g k. yields_then Any yields_end
    (λ u t. yields_give (ops.Add (record { 0 = n }) (record { 0 = g }))
    ((h.0, h.1), subst (λ r. g < r) same (below_it g regions low k.1)))))

yields_atomic : (space : Space) → Yields (atomic space) (Fits space)
unfolding atomic
yields_atomic space = yields_then KeyFits yields_short_text
    (λ key k. yields_then (SomeEdit space) (yields_some_edits space)
    (λ edits s. yields_give (ops.Atomic key edits) (k, s.fit, s.some)))

-- each call fits
pub yields_call : (space : Space) (regions : ℕ) (w : CallWord) → regions ≡ region_count space → 0 < regions → Yields (call space regions w) (Fits space)
yields_call space regions calls.Put same low = yields_put space
yields_call space regions calls.Get same low = yields_get space
yields_call space regions calls.Del same low = yields_del space
yields_call space regions calls.Cput same low = yields_cput space
yields_call space regions calls.Search same low = yields_search space
yields_call space regions calls.Stop same low = yields_stop space
yields_call space regions calls.Add same low = yields_add space regions same low
yields_call space regions calls.Atomic same low = yields_atomic space
