-- What a history and a search of a run say of a call that ended in it: the call stands in its key's
-- history with its answer, and its rows are those of the finished search.
use Rattle.hx_law_lemmas.proofs.Lemmas.Vocabulary.{[], Answer, AnsweredCall, ap, arith, begin_of, call_of, CallEnd, Caller, cond-false, cond-true, cond_both}
use Rattle.hx_law_lemmas.proofs.Lemmas.Vocabulary.{effect_of, end_of, ends_in, Entry, eq-eqb, eqb, false, false≢true, first_some, history_of, if◌then◌else◌}
use Rattle.hx_law_lemmas.proofs.Lemmas.Vocabulary.{inl, inr, is_doubt, is_refused, is_session, IsEffect, IsFound, IsGiven, IsIn, IsLegal, IsLinear, IsRun}
use Rattle.hx_law_lemmas.proofs.Lemmas.Vocabulary.{IsScript, Item, key_of, length, List, None, Note, note_of_end, object_now, Op, Option, refl, Row, rows_in}
use Rattle.hx_law_lemmas.proofs.Lemmas.Vocabulary.{Script, Search, search_of, Session, Some, subst, sym, Term, terms_of, Version, when_some, with_rows, ℕ, ◌++◌}
use Rattle.hx_law_lemmas.proofs.Lemmas.Vocabulary.{◌+◌, ◌∙◌, ◌∷◌, ◌≡◌}
use Rattle.hx_types.specs.declared.calls.Answer.TheVariants as an_answer
use Rattle.hx_types.specs.declared.traces.Note.TheVariants as a_note
use Rattle.hx_law_lemmas.proofs.Lemmas.{BeganAt, EndedAt, ended_at, begins_now}
use Rattle.hx_law_searches.proofs.Lemmas.{calls_kept, turn_is, facts, runs_are_linear, runs_search_well, ended_unique}

-- an older part of a run is a run
pub run-part : (script : Script) (newer : List Entry) (x : Entry) (older : List Entry) → IsRun script (newer ++ x ∷ older) → IsRun script (x ∷ older)
run-part script [] x older run = run
run-part script (y ∷ newer) x older run = run-part script newer x older run.1

-- what an entry ended is ended by it in each longer trace
pub ended-part : (newer : List Entry) (x : Entry) (older : List Entry) (c : Caller) (v : Version) (a : Answer)
    → x.actor ≡ Session c.session → IsIn (a_note.Ended c.number v a) x.notes
    → EndedAt (newer ++ x ∷ older) c v a (length older + 1)
ended-part [] x older c v a acts i = inl (acts, i, refl)
ended-part (y ∷ newer) x older c v a acts i = inr (ended-part newer x older c v a acts i)

-- what began by an older part began
pub began-part : (newer : List Entry) (x : Entry) (older : List Entry) (c : Caller) (n : ℕ) → BeganAt older c n → BeganAt (newer ++ x ∷ older) c n
began-part [] x older c n h = inr h
began-part (y ∷ newer) x older c n h = inr (began-part newer x older c n h)

-- a note of an end is found
end-found : (entry number : ℕ) (v : Version) (a : Answer) (notes : List Note) → IsIn (a_note.Ended number v a) notes
    → (e : CallEnd) × (ends_in entry number notes ≡ Some e)
end-found entry number v a [] i = absurd i
end-found entry number v a (n ∷ notes) (inl e) = (
  record { entry = entry; version = v; answer = a },
  ap (λ (m : Note). ends_in entry number (m ∷ notes)) (sym e)
      ∙ cond-true (eqb number number) (Some (record { entry = entry; version = v; answer = a }))
      (ends_in entry number notes) (eq-eqb number number refl),
)
end-found entry number v a (n ∷ notes) (inr i) = by n (end-found entry number v a notes i)
  where
    by : (n : Note) → (e : CallEnd) × (ends_in entry number notes ≡ Some e) → (e : CallEnd) × (ends_in entry number (n ∷ notes) ≡ Some e)
    by (a_note.Ended k w b) r = cond_both (eqb k number) (Some (record { entry = entry; version = w; answer = b }))
        (ends_in entry number notes) (λ o. (e : CallEnd) × (o ≡ Some e))
        (λ t. (record { entry = entry; version = w; answer = b }, refl)) (λ t. r)
    by other r = r

-- so is the end of a call
note-found : (c : Caller) (t : List Entry) (v : Version) (a : Answer) (n : ℕ) → EndedAt t c v a n → (e : CallEnd) × (note_of_end c t ≡ Some e)
note-found c [] v a n h = absurd h
note-found c (x ∷ older) v a n h =
    cond_both (is_session c.session x.actor) (first_some (ends_in (length older + 1) c.number x.notes)
    (note_of_end c older)) (note_of_end c older) (λ (o : Option CallEnd). (e : CallEnd) × (o ≡ Some e))
    (λ t. by (λ b. note-found c older v a n b) (ends_in (length older + 1) c.number x.notes) refl h)
    (λ t. elim h [
      | inl b ↦ absurd (false≢true (sym t ∙ ap (is_session c.session) b.0 ∙ eq-eqb c.session.0 c.session.0 refl))
      | inr b ↦ note-found c older v a n b
    ])
  where
    by : (EndedAt older c v a n → (e : CallEnd) × (note_of_end c older ≡ Some e)) → (o : Option CallEnd)
        → ends_in (length older + 1) c.number x.notes ≡ o → EndedAt (x ∷ older) c v a n → (e : CallEnd)
        × (first_some o (note_of_end c older) ≡ Some e)
    by prev (Some e) q h = (e, refl)
    by prev None q (inl b) = absurd (let r = end-found (length older + 1) c.number v a x.notes b.1 in none r.0 (sym r.1 ∙ q))
      where
        none : (e : CallEnd) → Some e ≡ None → ⊥
        none e z = absurd (cc)
    by prev None q (inr b) = prev b

module _ (script : Script) (valid : IsScript script) (trace : List Entry) (run : IsRun script trace) where
  -- the end of a call that isn't in doubt is the only one
  pub end-is : (c : Caller) (v : Version) (a : Answer) (n : ℕ) → EndedAt trace c v a n → is_doubt a ≡ false
      → end_of c trace ≡ Some (record { entry = n; version = v; answer = a })
  end-is c v a n h sure =
      let r = note-found c trace v a n h in
      let u = ended_unique script (facts script valid) trace run c v r.0.version a r.0.answer n r.0.entry h (ended_at c trace r.0 r.1) in
      let same : r.0 ≡ record { entry = n; version = v; answer = a } = (λ i. record { entry = sym u.2 i; version = sym u.0 i; answer = sym u.1 i }) in
      ap (λ (o : Option CallEnd). when_some o None (λ (e : CallEnd). if is_doubt e.answer then None else Some e)) (r.1 ∙ ap Some same)
      ∙ cond-false (is_doubt a) None (Some (record { entry = n; version = v; answer = a })) sure

  -- an answered call of the run
  abbrev pub the_call : List Entry → Caller → Op → ℕ → Version → AnsweredCall
  the_call older c op n v = record { script = script; trace = trace; older = older; caller = c; op = op; begin = n; version = v }

  -- the rows of a search are those of the finished search, whole and true
  pub rows-found : (older : List Entry) (c : Caller) (terms : List Term) (n m : ℕ) (v : Version) (rows : List Row)
      → call_of script c ≡ Some (Search terms) → begin_of c trace ≡ Some n → EndedAt trace c v (an_answer.Rows rows) m
      → IsFound (the_call older c (Search terms) n v) rows
  rows-found older c terms n m v rows called began h =
      let e = end-is c v (an_answer.Rows rows) m h refl in
      let found : search_of script trace c ≡ Some (record { terms = terms; begin = n; end = m; rows = rows }) =
      ap (λ (o : Option Op). when_some o None (λ (op : Op). when_some (terms_of op) None
      (λ (ts : List Term). when_some (begin_of c trace) None
      (λ begin. when_some (end_of c trace) None (λ (e : CallEnd). with_rows c ts begin e.entry (rows_in e.answer)))))) called
      ∙ ap (λ (o : Option ℕ). when_some o None (λ begin. when_some (end_of c trace) None
      (λ (e : CallEnd). with_rows c terms begin e.entry (rows_in e.answer)))) began
      ∙ ap (λ (o : Option CallEnd). when_some o None (λ (e : CallEnd). with_rows c terms n e.entry (rows_in e.answer))) e in
      let well = runs_search_well script valid trace run c (record { terms = terms; begin = n; end = m; rows = rows }) found in
      record { search = record { terms = terms; begin = n; end = m; rows = rows }; found = found; answered = refl; whole = well.1; true_rows = well.0 }

  -- an item of a history, with those after and before it
  pub record Standing (xs : List Item) (y : Item) : Type 0 where
    pub newer : List Item
    pub older : List Item
    pub stands : xs ≡ newer ++ y ∷ older

  standing : (xs : List Item) (y : Item) → IsIn y xs → Standing xs y
  standing [] y i = absurd i
  standing (x ∷ xs) y (inl e) = record { newer = []; older = xs; stands = ap (λ (z : Item). z ∷ xs) (sym e) }
  standing (x ∷ xs) y (inr i) = let r = standing xs y i in record { newer = x ∷ r.newer; older = r.older; stands = ap (λ (l : List Item). x ∷ l) r.stands }

  -- each item is the effect on the object before it
  legal-at : (newer : List Item) (y : Item) (older : List Item) → IsLegal script.space (newer ++ y ∷ older) → IsEffect script.space (object_now older) y
  legal-at [] y older h = h.0
  legal-at (x ∷ newer) y older h = legal-at newer y older h.1

  -- the call stands in its key's history with its answer
  pub given-there : (older : List Entry) (c : Caller) (op : Op) (key : List ℕ) (n m : ℕ) (v : Version) (a : Answer)
      → call_of script c ≡ Some op → key_of op ≡ Some key → EndedAt trace c v a m → is_doubt a ≡ false → is_refused a ≡ false
      → IsGiven (the_call older c op n v) a
  given-there older c op key n m v a called on_key h sure well =
      let linear = runs_are_linear script valid trace run key in
      let r = linear.answered_once c a (record {
        op = op;
        called = called;
        on_key = on_key;
        entry = m;
        version = v;
        ended = end-is c v a m h sure;
        not_refused = well;
      }) in
      by linear r.0 r.1 r.2 r.3 (standing (history_of script key trace) r.0 r.1)
    where
      by : IsLinear script trace key → (x : Item) → IsIn x (history_of script key trace) → x.caller ≡ c → x.answer ≡ a
          → Standing (history_of script key trace) x → IsGiven (the_call older c op n v) a
      by linear x i q w s =
          let same : Some x.op ≡ Some op = sym (linear.honest.calls x i).called ∙ ap (call_of script) q ∙ called in
          let op_is : x.op ≡ op = cc in
          record {
            key = key;
            on_key = on_key;
            newer = s.newer;
            item = x;
            older = s.older;
            stands = s.stands;
            caller = q;
            given = sym w ∙ (legal-at s.newer x s.older (subst (IsLegal script.space) s.stands linear.legal)).answer
                ∙ ap (λ (o : Op). (effect_of script.space (object_now s.older) o).answer) op_is;
          }

  -- a call begins once
  pub began-once : (t : List Entry) → IsRun script t → (c : Caller) (m n : ℕ) → BeganAt t c m → BeganAt t c n → m ≡ n
  began-once [] r c m n h g = absurd h
  began-once (x ∷ older) r c m n (inl h) (inl g) = h.2 ∙ sym g.2
  began-once (x ∷ older) r c m n (inl h) (inr g) = absurd (again x older r c n h.0 h.1 g)
    where
      again : (x : Entry) (older : List Entry) → IsRun script (x ∷ older) → (c : Caller) (n : ℕ)
          → x.actor ≡ Session c.session → IsIn (a_note.Began c.number) x.notes → BeganAt older c n → ⊥
      again x older r c n acts i g =
          let turn = turn_is script older x c.session r.0 acts in
          let b = (begins_now _ _ _ turn c.number i).0 in
          let l = ((calls_kept script (facts script valid) older r.1).began_low c n g).0 in
          omega (arith, b, l)
  began-once (x ∷ older) r c m n (inr h) (inl g) = sym (began-once-other x older r c n m g h)
    where
      began-once-other : (x : Entry) (older : List Entry) → IsRun script (x ∷ older) → (c : Caller) (n m : ℕ)
          → (x.actor ≡ Session c.session) × IsIn (a_note.Began c.number) x.notes × (n ≡ length older + 1)
          → BeganAt older c m → n ≡ m
      began-once-other x older r c n m g h =
          let turn = turn_is script older x c.session r.0 g.0 in
          let b = (begins_now _ _ _ turn c.number g.1).0 in
          let l = ((calls_kept script (facts script valid) older r.1).began_low c m h).0 in
          absurd (omega (arith, b, l))
  began-once (x ∷ older) r c m n (inr h) (inr g) = began-once older r.1 c m n h g
