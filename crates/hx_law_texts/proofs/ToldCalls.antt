-- Calls and steps that are read can be said.
use Rattle.hx_law_texts.proofs.Vocabulary.{[], Actor, Add, All, All-nil, All-push, and_left, and_right, arith, Assign, Atomic, Bool, Bounds, call}
use Rattle.hx_law_texts.proofs.Vocabulary.{CallIsSayable, CallWord, codes, cond, Coordinator, Cput, declared_number, Del, Deliver, Edit, edit_kind, EditKind}
use Rattle.hx_law_texts.proofs.Vocabulary.{EditsAreSayable, Equal, Err, false, FitsSigned, Get, Halt, has_assign, has_edit, has_term, is_decimal, is_dots}
use Rattle.hx_law_texts.proofs.Vocabulary.{is_edit_of, is_of, is_short, IsActorOf, IsSayable, IsText, IsUpTo, Kind, kind_at, known_number, leb-true, length}
use Rattle.hx_law_texts.proofs.Vocabulary.{Limit, List, LONGEST_TEXT, may_name, nat_le, not, Number, Ok, ok_is, on_ok_ok, Order, Put, Range, Reason, refl}
use Rattle.hx_law_texts.proofs.Vocabulary.{Result, Search, Server, Session, Sign, Space, step, StepIsSayable, StepWord, Stop, subst, Term, TermIsSayable, Text}
use Rattle.hx_law_texts.proofs.Vocabulary.{Tick, Tok, true, Twice, Until, Value, ValuesAreSayable, w64, Word, ℕ, ℤ, ◌++◌, ◌-◌, ◌<◌, ◌==◌, ◌^◌, ◌∷◌, ◌≡◌, ◌≤◌}
use Rattle.std.specs.Prelude.{◌&&◌}
use Rattle.hx_lex.specs.Numbers.{value as value_of}
use Rattle.hx_types.specs.declared.values.Value.TheVariants as values
use Rattle.hx_script.specs.declared.errors.Reason.TheVariants.{TypeOf}
use Rattle.hx_script.specs.declared.keyword.CallWord.TheVariants as calls
use Rattle.hx_script.specs.declared.keyword.StepWord.TheVariants as step_words
use Rattle.hx_script.specs.declared.line.Until.TheVariants as until
use Rattle.hx_script.specs.Actors.{number_word, actor_word, actor}
use Rattle.hx_script.specs.Calls.{put, get, del, cput, search_call, stop, add, atomic, deliver, tick, halt}
use Rattle.hx_script.specs.Edits.{edit_word, unedited_attribute, edit_value, edit, one_more_edit, some_edits}
use Rattle.hx_script.specs.Readers.{on_ok}
use Rattle.hx_script.specs.Values.{short_text, any_value, value, free_attribute, assign, one_more, more_assigns, some_assigns, free_known, range}
use Rattle.hx_script.specs.Values.{range_or_equal, rest_of_term, term, one_more_term, all_terms}
use Rattle.hx_script.specs.Words.{named}
use Rattle.hx_law_texts.proofs.Told.{AllTold, Tells, Any, tells_then, tells_give, tells_check, tells_judged, tells_word, tells_text, tells_end, tells_sign}
use Rattle.hx_law_texts.proofs.Told.{tells_fixed, tells_number_in, tells_natural, tells_number_from, tells_repeat}

pub tells_named : Tells named Any
unfolding named
tells_named = tells_then Any tells_word (λ w u. tells_then Any (tells_check (may_name w) Order) (λ u v. tells_give w tt))

tells_short_text : Tells short_text IsText
unfolding short_text
tells_short_text = tells_then IsText tells_text (λ t is. tells_then Any (tells_check (nat_le (length t) LONGEST_TEXT) Limit) (λ u v. tells_give t is))

any_value_at : (ts : List Tok) (x : Value × List Tok) → AllTold ts → any_value ts ≡ Ok x → IsSayable x.0 × AllTold x.1
any_value_at [] x all e = absurd cc
any_value_at (Word w ∷ ts) x all e = absurd cc
any_value_at (Number n ∷ ts) x all e = subst (λ (y : Value × List Tok). IsSayable y.0 × AllTold y.1) (ok_is (values.Int n, ts) x e) all
any_value_at (Text t ∷ ts) x all e = subst (λ (y : Value × List Tok). IsSayable y.0 × AllTold y.1) (ok_is (values.Text t, ts) x e) all
any_value_at (Sign s ∷ ts) x all e = absurd cc

tells_any_value : Tells any_value IsSayable
tells_any_value = record { at = any_value_at }

tells_value : (kind : Kind) → Tells (value kind) IsSayable
unfolding value
tells_value kind = tells_then IsSayable tells_any_value
    (λ v is. tells_then Any (tells_check (is_of kind v) TypeOf)
    (λ u k. tells_then Any (tells_check (is_short v) Limit) (λ u s. tells_give v is)))

-- ---- assignments

abbrev Said : Assign → Type 0
Said a = IsSayable a.value

tells_free : (space : Space) (assigns : List Assign) → Tells (free_attribute space assigns) Any
unfolding free_attribute
tells_free space assigns = tells_then Any tells_named
    (λ w m. tells_then (λ a. declared_number space w ≡ Ok a) (tells_judged (declared_number space w))
    (λ a d. tells_then Any (tells_check (not (has_assign assigns a)) Twice) (λ u n. tells_give a tt)))

tells_assign : (space : Space) (assigns : List Assign) → Tells (assign space assigns) Said
unfolding assign
tells_assign space assigns = tells_then Any (tells_free space assigns)
    (λ a f. tells_then Any (tells_sign (codes "="))
    (λ u t. tells_then IsSayable (tells_value (kind_at space a)) (λ v s. tells_give (record { attribute = a; value = v }) s)))

tells_one_more : (space : Space) (assigns : List Assign) → ValuesAreSayable assigns → Tells (one_more space assigns) ValuesAreSayable
unfolding one_more
tells_one_more space assigns said = tells_then Said (tells_assign space assigns) (λ a s. tells_give (assigns ++ a ∷ []) (All-push Said assigns a said s))

tells_more : (space : Space) (u : Until) (assigns : List Assign) → ValuesAreSayable assigns → Tells (more_assigns space u assigns) ValuesAreSayable
tells_more space u assigns said = tells_repeat ValuesAreSayable u (one_more space) (λ b q. tells_one_more space b q) assigns said

tells_some : (space : Space) (u : Until) → Tells (some_assigns space u) ValuesAreSayable
unfolding some_assigns
tells_some space u = tells_then ValuesAreSayable (tells_one_more space [] (All-nil Said)) (λ first s. tells_more space u first s)

-- ---- terms

tells_free_known : (space : Space) (terms : List Term) → Tells (free_known space terms) Any
unfolding free_known
tells_free_known space terms = tells_then Any tells_named
    (λ w m. tells_then (λ a. known_number space w ≡ Ok a) (tells_judged (known_number space w))
    (λ a d. tells_then Any (tells_check (not (has_term terms a)) Twice) (λ u n. tells_give a tt)))

tells_range : (a : ℕ) (lo : ℤ) → FitsSigned w64 lo → Tells (range a lo) TermIsSayable
unfolding range
tells_range a lo f = tells_then Any (tells_sign (codes ".."))
    (λ u t. tells_then (FitsSigned w64) (tells_number_from lo) (λ hi h. tells_give (Range a lo hi) (f, h)))

tells_either : (b : Bool) (a : ℕ) (n : ℤ) → FitsSigned w64 n → Tells (range_or_equal b a n) TermIsSayable
tells_either true a n f = tells_range a n f
tells_either false a n f = tells_give (Equal a (values.Int n)) f

tells_rest : (a : ℕ) (v : Value) → IsSayable v → Tells (rest_of_term a v) TermIsSayable
tells_rest a (values.Text t) is = record { at = λ ts x all e. (tells_give {Q = TermIsSayable} (Equal a (values.Text t)) is).at ts x all e }
tells_rest a (values.Int n) is = record { at = λ ts x all e. (tells_either (is_dots ts) a n is).at ts x all e }

tells_term : (space : Space) (terms : List Term) → Tells (term space terms) TermIsSayable
unfolding term
tells_term space terms = tells_then Any (tells_free_known space terms)
    (λ a f. tells_then Any (tells_sign (codes "="))
    (λ u t. tells_then IsSayable (tells_value (kind_at space a)) (λ v s. tells_rest a v s)))

tells_one_more_term : (space : Space) (terms : List Term) → All TermIsSayable terms → Tells (one_more_term space terms) (All TermIsSayable)
unfolding one_more_term
tells_one_more_term space terms said = tells_then TermIsSayable (tells_term space terms)
    (λ t s. tells_give (terms ++ t ∷ []) (All-push TermIsSayable terms t said s))

tells_terms : (space : Space) → Tells (all_terms space) (All TermIsSayable)
tells_terms space = tells_repeat (All TermIsSayable) until.End (one_more_term space) (λ b q. tells_one_more_term space b q) [] (All-nil TermIsSayable)

-- ---- edits

abbrev EditIsSaid : Edit → Type 0
EditIsSaid e = IsSayable e.value

tells_edit_word : Tells edit_word Any
unfolding edit_word
tells_edit_word = tells_then Any tells_word (λ w u. record { at = λ ts x all e. (tt, ((tells_judged (edit_kind w)).at ts x all e).1) })

tells_unedited : (space : Space) (edits : List Edit) → Tells (unedited_attribute space edits) Any
unfolding unedited_attribute
tells_unedited space edits =
    tells_then Any tells_named (λ w m.
    tells_then (λ a. declared_number space w ≡ Ok a) (tells_judged (declared_number space w)) (λ a d.
    tells_then Any (tells_check (not (has_edit edits a)) Twice) (λ u n. tells_give a tt)))

tells_edit_value : (what : EditKind) (kind : Kind) → Tells (edit_value what kind) IsSayable
unfolding edit_value
tells_edit_value what kind =
    tells_then IsSayable tells_any_value (λ v is.
    tells_then Any (tells_check (is_edit_of what kind && is_of kind v) TypeOf) (λ u k.
    tells_then Any (tells_check (is_short v) Limit) (λ u s. tells_give v is)))

tells_edit : (space : Space) (edits : List Edit) → Tells (edit space edits) EditIsSaid
unfolding edit
tells_edit space edits =
    tells_then Any tells_edit_word (λ what w.
    tells_then Any (tells_unedited space edits) (λ a f.
    tells_then Any (tells_sign (codes "=")) (λ u t.
    tells_then IsSayable (tells_edit_value what (kind_at space a)) (λ v s. tells_give (record { what = what; attribute = a; value = v }) s))))

tells_one_more_edit : (space : Space) (edits : List Edit) → EditsAreSayable edits → Tells (one_more_edit space edits) EditsAreSayable
unfolding one_more_edit
tells_one_more_edit space edits said = tells_then EditIsSaid (tells_edit space edits) (λ e s. tells_give (edits ++ e ∷ []) (All-push EditIsSaid edits e said s))

tells_some_edits : (space : Space) → Tells (some_edits space) EditsAreSayable
unfolding some_edits
tells_some_edits space =
    tells_then EditsAreSayable (tells_one_more_edit space [] (All-nil EditIsSaid)) (λ first s.
    tells_repeat EditsAreSayable until.End (one_more_edit space) (λ b q. tells_one_more_edit space b q) first s)

-- ---- calls

tells_put : (space : Space) → Tells (put space) CallIsSayable
unfolding put
tells_put space = tells_then IsText tells_short_text
    (λ key k. tells_then ValuesAreSayable (tells_more space until.End [] (All-nil Said))
    (λ sets s. tells_give (Put key sets) (k, s)))

tells_get : Tells get CallIsSayable
unfolding get
tells_get = tells_then IsText tells_short_text (λ key k. tells_then Any tells_end (λ u t. tells_give (Get key) k))

tells_del : Tells del CallIsSayable
unfolding del
tells_del = tells_then IsText tells_short_text (λ key k. tells_then Any tells_end (λ u t. tells_give (Del key) k))

tells_cput : (space : Space) → Tells (cput space) CallIsSayable
unfolding cput
tells_cput space = tells_then IsText tells_short_text
    (λ key k. tells_then Any (tells_fixed (codes "if"))
    (λ u v. tells_then ValuesAreSayable (tells_some space until.Set)
    (λ tests t. tells_then Any (tells_fixed (codes "set"))
    (λ w x. tells_then ValuesAreSayable (tells_some space until.End) (λ sets s. tells_give (Cput key tests sets) (k, t, s))))))

tells_search : (space : Space) → Tells (search_call space) CallIsSayable
unfolding search_call
tells_search space = tells_then (All TermIsSayable) (tells_terms space) (λ terms t. tells_give (Search terms) t)

tells_stop : (space : Space) → Tells (stop space) CallIsSayable
unfolding stop
tells_stop space = tells_then (λ n. n ≤ space.servers) (tells_number_in 1 space.servers)
    (λ n h. tells_then Any tells_end (λ u t. tells_give (Stop (record { 0 = n })) tt))

tells_add : (space : Space) (regions : ℕ) → Tells (add space regions) CallIsSayable
unfolding add
tells_add space regions = tells_then (λ n. n ≤ space.servers) (tells_number_in 1 space.servers)
    (λ n h. tells_then (λ g. g ≤ regions - 1) (tells_number_in 0 (regions - 1))
    (λ g k. tells_then Any tells_end (λ u t. tells_give (Add (record { 0 = n }) (record { 0 = g })) tt)))

tells_atomic : (space : Space) → Tells (atomic space) CallIsSayable
unfolding atomic
tells_atomic space = tells_then IsText tells_short_text
    (λ key k. tells_then EditsAreSayable (tells_some_edits space) (λ edits s. tells_give (Atomic key edits) (k, s)))

pub tells_call : (space : Space) (regions : ℕ) (w : CallWord) → Tells (call space regions w) CallIsSayable
tells_call space regions calls.Put = tells_put space
tells_call space regions calls.Get = tells_get
tells_call space regions calls.Del = tells_del
tells_call space regions calls.Cput = tells_cput space
tells_call space regions calls.Search = tells_search space
tells_call space regions calls.Stop = tells_stop space
tells_call space regions calls.Add = tells_add space regions
tells_call space regions calls.Atomic = tells_atomic space

-- ---- steps

abbrev done : {A : Type 0} → A → Result A Reason
done x = Ok x

number_word_is : (most : ℕ) (digits : List ℕ) (n : ℕ) → number_word most digits ≡ Ok n → IsUpTo most n
number_word_is most digits n e = by_tests (is_decimal digits) (nat_le 1 (value_of digits) && nat_le (value_of digits) most) refl e
  where
    by_tests : (p q : Bool) → (nat_le 1 (value_of digits) && nat_le (value_of digits) most) ≡ q
        → cond (not p) (Err Order) (cond q (Ok (value_of digits)) (Err Bounds)) ≡ Ok n → IsUpTo most n
    by_tests false q h e = absurd cc
    by_tests true false h e = absurd cc
    by_tests true true h e = subst (IsUpTo most) (ok_is (value_of digits) n e) (
      leb-true 1 (value_of digits) (and_left (nat_le 1 (value_of digits)) (nat_le (value_of digits) most) h),
      leb-true (value_of digits) most (and_right (nat_le 1 (value_of digits)) (nat_le (value_of digits) most) h),
    )

actor_word_is : (servers sessions : ℕ) (w : List ℕ) (a : Actor) → actor_word servers sessions w ≡ Ok a → IsActorOf servers sessions a
actor_word_is servers sessions [] a e = absurd cc
actor_word_is servers sessions (b ∷ digits) a e = by_tests (b == 99 && length digits == 0) (b == 115) (b == 117) e
  where
    by_tests : (p q r : Bool) → cond p (Ok Coordinator)
        (cond q (on_ok (number_word servers digits) (λ n. Ok (Server (record { 0 = n }))))
        (cond r (on_ok (number_word sessions digits) (λ n. Ok (Session (record { 0 = n })))) (Err Order))) ≡ Ok a
        → IsActorOf servers sessions a
    by_tests true q r e = subst (IsActorOf servers sessions) (ok_is Coordinator a e) tt
    by_tests false true r e =
        let o = on_ok_ok (number_word servers digits) (λ (n : ℕ). done (Server (record { 0 = n }))) a e in
        subst (IsActorOf servers sessions) (ok_is (Server (record { 0 = o.0 })) a o.2) (number_word_is servers digits o.0 o.1)
    by_tests false false true e =
        let o = on_ok_ok (number_word sessions digits) (λ (n : ℕ). done (Session (record { 0 = n }))) a e in
        subst (IsActorOf servers sessions) (ok_is (Session (record { 0 = o.0 })) a o.2) (number_word_is sessions digits o.0 o.1)
    by_tests false false false e = absurd cc

tells_actor : (servers sessions : ℕ) → Tells (actor servers sessions) (IsActorOf servers sessions)
unfolding actor
tells_actor servers sessions = tells_then Any tells_word
    (λ w u. record {
      at = λ ts x all e. let j = (tells_judged (actor_word servers sessions w)).at ts x all e in
          (actor_word_is servers sessions w x.0 j.0, j.1);
    })

of_32_bits : (n : ℕ) → n ≤ 4294967295 → n < 2 ^ 32
of_32_bits n le = omega arith

pub tells_step : (servers sessions : ℕ) (w : StepWord) → Tells (step servers sessions w) (StepIsSayable servers sessions)
unfolding deliver tick halt
tells_step servers sessions step_words.Deliver =
    tells_then (λ n. n < 2 ^ 63) tells_natural (λ n f. tells_then Any (tells_sign (codes "."))
    (λ v t. tells_then (λ p. p ≤ 4294967295) (tells_number_in 0 4294967295)
    (λ p h. tells_then Any tells_end (λ x y. tells_give (Deliver (record { entry = n; place = p }))
    (record { entry = f; place = of_32_bits p h })))))
tells_step servers sessions step_words.Tick = tells_then (IsActorOf servers sessions) (tells_actor servers sessions)
    (λ a is. tells_then Any tells_end (λ x y. tells_give (Tick a) is))
tells_step servers sessions step_words.Halt = tells_then (IsActorOf servers sessions) (tells_actor servers sessions)
    (λ a is. tells_then Any tells_end (λ x y. tells_give (Halt a) is))
