-- The answers of a run belong to the space, and can be said where the script can.
use Rattle.hx_law_lemmas.proofs.Lemmas.Vocabulary.{[], All, All-nil, and_parts, Answer, AnsweredCall, ap, arith, Atomic, begin_of, call_of, Caller, Cput, Del}
use Rattle.hx_law_lemmas.proofs.Lemmas.Vocabulary.{effect_of, Entry, false, false≢true, Fits, flat_map, Get, HasCause, history_of, inl, inr, is_rows, is_search}
use Rattle.hx_law_lemmas.proofs.Lemmas.Vocabulary.{IsAnswerOf, IsFound, IsGiven, IsIn, IsLegal, IsRowOf, IsRun, IsScript, IsSome, IsSoundAnswer, Item}
use Rattle.hx_law_lemmas.proofs.Lemmas.Vocabulary.{items_with_newer, ItemWithNewer, key_of, KeyFits, keys_ascend, length, List, list_all, list_of, map, None}
use Rattle.hx_law_lemmas.proofs.Lemmas.Vocabulary.{numbered, object_now, Op, Option, Put, refl, Row, Script, Session, Some, Space}
use Rattle.hx_law_lemmas.proofs.Lemmas.Vocabulary.{subst, suc, sum_by-cons, sym, text_below, TraceFits, true, Value, Version, when_some, zero, ℕ, ◌++◌, ◌+◌}
use Rattle.hx_law_lemmas.proofs.Lemmas.Vocabulary.{◌<◌, ◌^◌, ◌∙◌, ◌∷◌, ◌≡◌, ◌≤◌, ◌⊎◌}
use Rattle.std.specs.Prelude.{sum_by}
use Rattle.hx_types.specs.declared.calls.Answer.TheVariants as an_answer
use Rattle.hx_types.specs.declared.traces.Note.TheVariants as a_note
use Rattle.hx_lex.specs.Spelling.{IsText}
use Rattle.hx_law_texts.specs.Sayable.{CallIsSayable, IsSayable, IsSayableScript}
use Rattle.hx_types.proofs.Lemmas.{text_below-apart}
use Rattle.hx_law_lemmas.proofs.Lemmas.{all-in, all-of, in-append, in-flat, in_left, in_right, fits-key, EndedAt, begin_is}
use Rattle.hx_law_posts.proofs.Lemmas.{bounds}
use Rattle.hx_law_searches.proofs.Lemmas.{runs_are_linear, runs_fit}
use Rattle.hx_law_causes.proofs.Lemmas.{runs_have_causes}
use Rattle.hx_report_lines.specs.Values.{AnswerIsSayable, Is64, RowIsSayable}
use Rattle.hx_audit.specs.Told.{answer_told, values_of}
use Rattle.hx_law_audit.proofs.RunEnds.{ends_sound}
use Rattle.hx_law_audit.proofs.RunLines.{word_for}
use Rattle.hx_law_audit.proofs.RunNotes.{ended_began}
use Rattle.hx_law_audit.proofs.RunObjects.{CanBeSaid, IsGood, effect_said, now_good, objects_good}
use Rattle.hx_law_audit.proofs.RunTold.{told_effect}
use Rattle.hx_law_audit.proofs.RunVersions.{items_low}
use Rattle.hx_law_order.proofs.Lemmas.{in-numbered}

-- ---- lists

-- in a list that ascends no key stands twice, so it is no longer than one that has all its keys
split_at : (k : List ℕ) (K : List (List ℕ)) → IsIn k K → (front : List (List ℕ)) × (back : List (List ℕ)) × (K ≡ front ++ k ∷ back)
split_at k [] i = absurd i
split_at k (x ∷ K) (inl e) = ([], K, ap (λ y. y ∷ K) (sym e))
split_at k (x ∷ K) (inr i) = let r = split_at k K i in (x ∷ r.0, r.1, ap (λ l. x ∷ l) r.2)

longer : (front : List (List ℕ)) (k : List ℕ) (back : List (List ℕ)) → length (front ++ k ∷ back) ≡ length (front ++ back) + 1
longer [] k back = omega arith
longer (x ∷ front) k back = let r = longer front k back in omega (arith, r)

-- each key of a list is above one that is below all of them
pub all_below : (k : List ℕ) (rest : List (List ℕ)) → list_all (text_below k) rest ≡ true → (j : List ℕ) → IsIn j rest → text_below k j ≡ true
all_below k [] h j i = absurd i
all_below k (x ∷ rest) h j (inl e) = ap (text_below k) e ∙ (and_parts (text_below k x) (list_all (text_below k) rest) h).0
all_below k (x ∷ rest) h j (inr i) = all_below k rest (and_parts (text_below k x) (list_all (text_below k) rest) h).1 j i

few_keys : (ks K : List (List ℕ)) → keys_ascend ks ≡ true → ((k : List ℕ) → IsIn k ks → IsIn k K) → length ks ≤ length K
few_keys [] K up has = omega arith
few_keys (k ∷ rest) K up has =
    let parts = and_parts (list_all (text_below k) rest) (keys_ascend rest) up in
    let s = split_at k K (has k (inl refl)) in
    let r = few_keys rest (s.0 ++ s.1) parts.1 (λ j i. without j i s.0 s.1 (subst (λ l. IsIn j l) s.2 (has j (inr i))) parts.0) in
    let l = longer s.0 k s.1 in
    let e = ap (λ (l : List (List ℕ)). length l) s.2 in
    omega (arith, r, l, e)
  where
    without : (j : List ℕ) → IsIn j rest → (front back : List (List ℕ)) → IsIn j (front ++ k ∷ back)
        → list_all (text_below k) rest ≡ true → IsIn j (front ++ back)
    without j i front back h below = elim (in-append front (k ∷ back) j h) [
      | inl a ↦ in_left front back j a
      | inr (inl e) ↦ absurd (text_below-apart k j (all_below k rest below j i) (sym e))
      | inr (inr b) ↦ in_right front back j b
    ]

-- ---- the calls of a script

-- an operation stands among the calls of a session
op_in_session : (script : Script) (c : Caller) (op : Op) → call_of script c ≡ Some op → (calls : List Op) × IsIn calls script.sessions × IsIn op calls
op_in_session script c op e = by (numbered script.sessions c.session.0) refl e
  where
    none : (n : ℕ) → numbered {A = Op} [] n ≡ Some op → ⊥
    none zero w = cc
    none (suc n) w = cc

    by : (o : Option (List Op)) → numbered script.sessions c.session.0 ≡ o
        → numbered (when_some o [] (λ (calls : List Op). calls)) c.number ≡ Some op → (calls : List Op)
        × IsIn calls script.sessions × IsIn op calls
    by None q z = absurd (none c.number z)
    by (Some calls) q z = (calls, in-numbered script.sessions c.session.0 calls q, in-numbered calls c.number op z)

call_has : (P : Op → Type 0) (script : Script) → All (λ (calls : List Op). All P calls) script.sessions
    → (c : Caller) (op : Op) → call_of script c ≡ Some op → P op
call_has P script all c op e = let r = op_in_session script c op e in
    all-in P r.0 op (all-in (λ (calls : List Op). All P calls) script.sessions r.0 all r.1) r.2

-- the keys of a session's calls, and of all
abbrev keys_of_calls : List Op → List (List ℕ)
keys_of_calls calls = flat_map (λ (op : Op). list_of (key_of op)) calls

abbrev keys_of_script : Script → List (List ℕ)
keys_of_script script = flat_map keys_of_calls script.sessions

length_both : {A : Type 0} (xs ys : List A) → length (xs ++ ys) ≡ length xs + length ys
length_both [] ys = omega arith
length_both (x ∷ xs) ys = let r = length_both xs ys in omega (arith, r)

few_of_calls : (calls : List Op) → length (keys_of_calls calls) ≤ length calls
few_of_calls [] = omega arith
few_of_calls (op ∷ calls) = by (few_of_calls calls) (key_of op)
  where
    by : length (keys_of_calls calls) ≤ length calls → (o : Option (List ℕ)) → length (list_of o ++ keys_of_calls calls) ≤ length (op ∷ calls)
    by rest None = omega (arith, rest)
    by rest (Some k) = omega (arith, rest)

few_of_sessions : (sessions : List (List Op)) → length (flat_map keys_of_calls sessions) ≤ sum_by (λ (calls : List Op). length calls) sessions
few_of_sessions [] = omega arith
few_of_sessions (calls ∷ sessions) =
    let a = few_of_calls calls in
    let b = few_of_sessions sessions in
    let c = length_both (keys_of_calls calls) (flat_map keys_of_calls sessions) in
    let d = sum_by-cons (λ (l : List Op). length l) calls sessions in
    omega (arith, a, b, c, d)

key_in_script : (script : Script) (c : Caller) (op : Op) (key : List ℕ) → call_of script c ≡ Some op → key_of op ≡ Some key → IsIn key (keys_of_script script)
key_in_script script c op key e k =
    let r = op_in_session script c op e in
    in-flat keys_of_calls script.sessions r.0 key r.1
    (in-flat (λ (o : Op). list_of (key_of o)) r.0 op key r.2 (subst (λ o. IsIn key (list_of o)) (sym k) (inl refl)))

text_key : (op : Op) (key : List ℕ) → CallIsSayable op → key_of op ≡ Some key → IsText key
text_key (Put k sets) key h e = let q : k ≡ key = cc in subst IsText q h.0
text_key (Get k) key h e = let q : k ≡ key = cc in subst IsText q h
text_key (Del k) key h e = let q : k ≡ key = cc in subst IsText q h
text_key (Cput k tests sets) key h e = let q : k ≡ key = cc in subst IsText q h.0
text_key (Atomic k edits) key h e = let q : k ≡ key = cc in subst IsText q h.0
text_key other key h e = absurd (cc)

-- ---- histories

legal_from : (space : Space) (newer : List Item) (x : Item) (older : List Item) → IsLegal space (newer ++ x ∷ older) → IsLegal space older
legal_from space [] x older h = h.1
legal_from space (y ∷ newer) x older h = legal_from space newer x older h.1

in_items : (cut : ItemWithNewer) (newer items : List Item) → IsIn cut (items_with_newer newer items) → IsIn cut.item items
in_items cut newer [] i = absurd i
in_items cut newer (x ∷ items) (inl e) = inl (ap (λ (c : ItemWithNewer). c.item) e)
in_items cut newer (x ∷ items) (inr i) = inr (in_items cut (x ∷ newer) items i)

-- where a call ended
ended_split : (t : List Entry) (c : Caller) (v : Version) (a : Answer) (n : ℕ) → EndedAt t c v a n
    → (newer : List Entry) × (older : List Entry) × (x : Entry) × (t ≡ newer ++ x ∷ older)
    × (x.actor ≡ Session c.session) × IsIn (a_note.Ended c.number v a) x.notes
ended_split [] c v a n h = absurd h
ended_split (x ∷ older) c v a n (inl h) = ([], older, x, refl, h.0, h.1)
ended_split (x ∷ older) c v a n (inr h) = let r = ended_split older c v a n h in (x ∷ r.0, r.1, r.2, ap (λ l. x ∷ l) r.3, r.4, r.5)

some_is : {A : Type 0} (o : Option A) → IsSome o → (x : A) × (o ≡ Some x)
some_is None h = absurd (cc)
some_is (Some x) h = (x, refl)

module _ (script : Script) (valid : IsScript script) (said : IsSayableScript script) (trace : List Entry) (run : IsRun script trace) where
  fits : TraceFits script trace
  fits = runs_fit script valid trace run

  pub op_good : (c : Caller) (op : Op) → call_of script c ≡ Some op → Fits script.space op × CallIsSayable op
  op_good c op e = (call_has (Fits script.space) script valid.calls c op e, call_has CallIsSayable script said.calls c op e)

  pub ops_good : (key : List ℕ) (x : Item) → IsIn x (history_of script key trace) → Fits script.space x.op × CallIsSayable x.op
  ops_good key x i = op_good x.caller x.op ((runs_are_linear script valid trace run key).honest.calls x i).called

  -- the object of an item
  pub item_good : (key : List ℕ) (x : Item) → IsIn x (history_of script key trace) → IsGood script.space said.bounds x.object
  item_good key x i = objects_good script.space said.bounds (history_of script key trace) (runs_are_linear script valid trace run key).legal (ops_good key) x i

  -- the key of a history that has an item
  pub key_good : (key : List ℕ) (x : Item) → IsIn x (history_of script key trace) → KeyFits key × IsText key
  key_good key x i =
      let call = (runs_are_linear script valid trace run key).honest.calls x i in
      let o = ops_good key x i in
      (fits-key script.space x.op key o.0 call.on_key, text_key x.op key o.1 call.on_key)

  module _ (few : length trace + 1 < 2 ^ 64) where
    -- the object that an operation on a key was answered
    found_said : (call : AnsweredCall) → call.script ≡ script → call.trace ≡ trace → CallIsSayable call.op
        → (object : List Value) → IsGiven call (an_answer.Found object) → All IsSayable object
    found_said call s t sayable object g =
        let stands : history_of script g.key trace ≡ g.newer ++ g.item ∷ g.older = (λ i. history_of (sym s i) g.key (sym t i)) ∙ g.stands in
        let legal = legal_from script.space g.newer g.item g.older (subst (IsLegal script.space) stands (runs_are_linear script valid trace run g.key).legal) in
        let good = now_good script.space said.bounds g.older legal
        (λ y j. ops_good g.key y (subst (λ l. IsIn y l) (sym stands) (in_right g.newer (g.item ∷ g.older) y (inr j)))) in
        let e = effect_of script.space (object_now g.older) call.op in
        let given : an_answer.Found object ≡ e.answer = g.given ∙ (λ i. (effect_of ((s i).space) (object_now g.older) call.op).answer) in
        let told : answer_told (word_for (an_answer.Found object)) e.object ≡ an_answer.Found object =
        (λ i. answer_told (word_for (given i)) e.object) ∙ told_effect script.space (object_now g.older) call.op
        ∙ sym given in
        let same : values_of e.object ≡ object = cc in
        subst (All IsSayable) same (values e.object (effect_said script.space said.bounds (object_now g.older) call.op good.0 sayable))
      where
        values : (o : Option (List Value)) → CanBeSaid o → All IsSayable (values_of o)
        values None h = All-nil IsSayable
        values (Some object) h = h

    -- a row of a finished search
    row_good : (call : AnsweredCall) → call.script ≡ script → call.trace ≡ trace → (rows : List Row)
        → IsFound call rows → (r : Row) → IsIn r rows → IsRowOf script.space r × RowIsSayable r
        × IsIn r.key (keys_of_script script)
    row_good call s t rows f r i =
        let row = f.true_rows.rows r (subst (λ l. IsIn r l) (sym f.answered) i) in
        let h : history_of call.script r.key call.trace ≡ history_of script r.key trace = (λ j. history_of (s j) r.key (t j)) in
        let x = row.cut.item in
        let stands = subst (λ l. IsIn x l) h (in_items row.cut [] (history_of call.script r.key call.trace) row.stands) in
        let object = subst (IsGood script.space said.bounds) row.object (item_good r.key x stands) in
        let key = key_good r.key x stands in
        let honest = (runs_are_linear script valid trace run r.key).honest.calls x stands in
        let low = items_low script valid trace run r.key x stands in
        let version = ap (λ (v : Version). v.0) row.version in (
          record { key = key.0; object = object.1 },
          record { key = key.1; version = omega (arith, low, version, few); object = object.0 },
          key_in_script script x.caller x.op r.key honest.called honest.on_key,
        )

    keys_from : (rows : List Row) → ((r : Row) → IsIn r rows → IsIn r.key (keys_of_script script)) → (k : List ℕ)
        → IsIn k (map (λ (r : Row). r.key) rows) → IsIn k (keys_of_script script)
    keys_from [] h k i = absurd i
    keys_from (r ∷ rows) h k (inl e) = subst (λ j. IsIn j (keys_of_script script)) (sym e) (h r (inl refl))
    keys_from (r ∷ rows) h k (inr i) = keys_from rows (λ x j. h x (inr j)) k i

    length_keys : (rows : List Row) → length (map (λ (r : Row). r.key) rows) ≡ length rows
    length_keys [] = refl
    length_keys (r ∷ rows) = let l = length_keys rows in omega (arith, l)

    rows_good : (call : AnsweredCall) → call.script ≡ script → call.trace ≡ trace → (rows : List Row)
        → IsFound call rows → All (IsRowOf script.space) rows × (Is64 (length rows) × All RowIsSayable rows)
    rows_good call s t rows f =
        let up = subst (λ l. keys_ascend (map (λ (r : Row). r.key) l) ≡ true) f.answered f.true_rows.in_order in
        let a = few_keys (map (λ (r : Row). r.key) rows) (keys_of_script script) up (keys_from rows (λ r i. (row_good call s t rows f r i).2)) in
        let b = length_keys rows in
        let c = few_of_sessions script.sessions in
        let d = valid.few_calls in (
          all-of (IsRowOf script.space) rows (λ r i. (row_good call s t rows f r i).0),
          (
            (let l : length rows ≤ 16384 = omega (arith, a, b, c, d) in small (length rows) l),
            all-of RowIsSayable rows (λ r i. (row_good call s t rows f r i).1),
          ),
        )
      where
        small : (n : ℕ) → n ≤ 16384 → n < 2 ^ 64
        small n l = omega (arith, l)

    -- how a call ended
    pub answer_good : (c : Caller) (v : Version) (a : Answer) (n : ℕ) → EndedAt trace c v a n → IsAnswerOf script.space a × AnswerIsSayable a
    answer_good c v a n h =
        let s = ends_sound script valid trace run c v a n h in
        let at = ended_split trace c v a n h in
        let began = ended_began script trace fits c v a n h in
        let b = some_is (begin_of c trace) (begin_is c trace began.0 began.1) in
        let call : AnsweredCall = record { script = script; trace = trace; older = at.1; caller = c; op = s.0; begin = b.0; version = v } in
        by at.1 s.0 b.0 a s.2.1 (runs_have_causes script valid trace run at.0 at.1 at.2 c s.0 b.0 v a at.3 at.4 at.5 s.1 b.1) (op_good c s.0 s.1).1
      where
        plain : (op : Op) (x : Answer) → is_rows x ≡ false → ((is_search op ≡ true) × (is_rows x ≡ true))
            ⊎ IsSoundAnswer (bounds script.space (length script.sessions) (length trace)) x
            → IsSoundAnswer (bounds script.space (length script.sessions) (length trace)) x
        plain op x f (inl q) = absurd (false≢true (sym f ∙ q.1))
        plain op x f (inr q) = q

        by : (older : List Entry) (op : Op) (begin : ℕ) (x : Answer) → ((is_search op ≡ true) × (is_rows x ≡ true))
            ⊎ IsSoundAnswer (bounds script.space (length script.sessions) (length trace)) x
            → HasCause (record {
              script = script;
              trace = trace;
              older = older;
              caller = c;
              op = op;
              begin = begin;
              version = v;
            }) x → CallIsSayable op → IsAnswerOf script.space x × AnswerIsSayable x
        by older op begin (an_answer.Found object) q cause sayable = (
          (plain op (an_answer.Found object) refl q).0,
          found_said (record {
            script = script;
            trace = trace;
            older = older;
            caller = c;
            op = op;
            begin = begin;
            version = v;
          }) refl refl sayable object cause,
        )
        by older op begin (an_answer.Rows rows) q cause sayable =
            rows_good (record {
              script = script;
              trace = trace;
              older = older;
              caller = c;
              op = op;
              begin = begin;
              version = v;
            }) refl refl rows cause
        by older op begin (an_answer.Refused g e) q cause sayable = let p = plain op (an_answer.Refused g e) refl q in
            (p.0, (let l = p.1 in omega (arith, l, few)))
        by older op begin (an_answer.Doubt g e) q cause sayable = let p = plain op (an_answer.Doubt g e) refl q in (p.0, (let l = p.1 in omega (arith, l, few)))
        by older op begin (an_answer.Issued e) q cause sayable = let p = plain op (an_answer.Issued e) refl q in (tt, (let l = p.1 in omega (arith, l, few)))
        by older op begin (an_answer.Stopped e) q cause sayable = let p = plain op (an_answer.Stopped e) refl q in (tt, (let l = p.1 in omega (arith, l, few)))
        by older op begin (an_answer.Member e) q cause sayable = let p = plain op (an_answer.Member e) refl q in (tt, (let l = p.1 in omega (arith, l, few)))
        by older op begin (an_answer.Joining e) q cause sayable = let p = plain op (an_answer.Joining e) refl q in (tt, (let l = p.1 in omega (arith, l, few)))
        by older op begin (an_answer.Lost e) q cause sayable = let p = plain op (an_answer.Lost e) refl q in (tt, (let l = p.1 in omega (arith, l, few)))
        by older op begin other q cause sayable = (tt, tt)
