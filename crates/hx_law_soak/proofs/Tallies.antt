-- What the records and histories of a finished soak add up to is what the calls taken one after the other do.
use Rattle.hx_law_lemmas.proofs.Lemmas.Vocabulary.{[], add-one, and_parts, Answer, ap, arith, Atomic, below, Bool, CallEnd, Caller, callers_of, cond, cond_both}
use Rattle.hx_law_lemmas.proofs.Lemmas.Vocabulary.{count_by, Cput, Del, Effect, effect_of, Entry, false, false≢true, Get, history_of, inl, inr, is_cmp_fail}
use Rattle.hx_law_lemmas.proofs.Lemmas.Vocabulary.{is_done, is_found, is_not_found, is_rows, is_some, IsIn, Item, key_of, keys_ascend, List, list_all, list_of}
use Rattle.hx_law_lemmas.proofs.Lemmas.Vocabulary.{None, object_now, Op, Option, option_map, put_where, Record, record_at, record_of, records_of, refl, reverse}
use Rattle.hx_law_lemmas.proofs.Lemmas.Vocabulary.{reverse-reverse, Script, Some, Space, subst, suc, sum_by, sum_by_push, sym, tests_hold, text_below, true}
use Rattle.hx_law_lemmas.proofs.Lemmas.Vocabulary.{Value, when_some, zero, ℕ, ◌&&◌, ◌++◌, ◌+◌, ◌<◌, ◌∙◌, ◌∷◌, ◌≡◌, ◌≤◌}
use Rattle.hx_types.specs.declared.calls.Answer.TheVariants as an_answer
use Rattle.hx_history.specs.declared.key_histories.KeyHistory.{KeyHistory}
use Rattle.hx_history.specs.Listed.{AreHistories, IsHistory, keys_of_histories}
use Rattle.hx_law_lemmas.proofs.Lemmas.{atomic-both, all-in, Ascend}
use Rattle.hx_types.proofs.Lemmas.{text_below-apart}
use Rattle.hx_soak.specs.Soaking.{script_drawn, soak}
use Rattle.hx_soak.specs.declared.counting.Counted.{Counted}
use Rattle.hx_soak.specs.declared.counting.Counted.TheVariants as a_count
use Rattle.hx_soak.specs.Tallying.{KeyObject, Tally, how_many, is_counted, last_object, objects_of, tally_of}
use Rattle.hx_law_soak.specs.Sequence.{object_at, one_if, op_at, tally_in_order, with_effect, with_search}
use Rattle.hx_law_soak.specs.Soaks.{IsSoak}
use Rattle.hx_law_soak.proofs.Cutting.{cut_below}
use Rattle.hx_law_soak.proofs.Histories.{ended-at, is-map, objects-end, objects-put, objects-searched, objects-are, one-more, takes}
use Rattle.hx_law_soak.proofs.Maps.{IsMap, at-first, at-none, at-rest, same-maps}
use Rattle.hx_law_soak.proofs.Sums.{all-callers, count-joined}
use Rattle.hx_law_soak.proofs.Turns.{caller_at}

-- ---- counts

-- whether an answer is counted
abbrev passes : Counted → Answer → Bool
passes a_count.Ended a = true
passes a_count.Done a = is_done a
passes a_count.NotFound a = is_not_found a
passes a_count.CmpFail a = is_cmp_fail a
passes a_count.Found a = is_found a
passes a_count.Search a = is_rows a

-- so the record of an ended call is
counted-by : (what : Counted) (r : Record) (n : ℕ) (a : Answer) → r.end ≡ Some n → r.answer ≡ Some a → is_counted what r ≡ passes what a
counted-by a_count.Ended r n a e f = ap (λ (o : Option ℕ). is_some o) e
counted-by a_count.Done r n a e f = λ i. is_some (e i) && when_some (f i) false is_done
counted-by a_count.NotFound r n a e f = λ i. is_some (e i) && when_some (f i) false is_not_found
counted-by a_count.CmpFail r n a e f = λ i. is_some (e i) && when_some (f i) false is_cmp_fail
counted-by a_count.Found r n a e f = λ i. is_some (e i) && when_some (f i) false is_found
counted-by a_count.Search r n a e f = λ i. is_some (e i) && when_some (f i) false is_rows

-- a count of one
count-one : {A : Type 0} (p : A → Bool) (x : A) → count_by p (x ∷ []) ≡ one_if (p x)
count-one p x = by (p x)
  where
    by : (b : Bool) → 0 + cond b 1 0 ≡ one_if b
    by true = refl
    by false = refl

-- how many of a kind a tally has
abbrev pub field : Counted → Tally → ℕ
field a_count.Ended t = t.calls
field a_count.Done t = t.done
field a_count.NotFound t = t.not_found
field a_count.CmpFail t = t.cmp_fail
field a_count.Found t = t.found
field a_count.Search t = t.searches

-- ---- answers of effects and of searches

-- an effect is answered without rows
effect-no-rows : (space : Space) (old : Option (List Value)) (op : Op) → is_rows (effect_of space old op).answer ≡ false
effect-no-rows space None (Get key) = refl
effect-no-rows space (Some v) (Get key) = refl
effect-no-rows space None (Del key) = refl
effect-no-rows space (Some v) (Del key) = refl
effect-no-rows space None (Cput key tests sets) = refl
effect-no-rows space (Some v) (Cput key tests sets) = by (tests_hold v tests) refl
  where
    by : (b : Bool) → tests_hold v tests ≡ b → is_rows (put_where (Some v) tests sets).answer ≡ false
    by true e = cond_both (tests_hold v tests) _ _ (λ (f : Effect). is_rows f.answer ≡ false) (λ t. refl) (λ t. refl)
    by false e = cond_both (tests_hold v tests) _ _ (λ (f : Effect). is_rows f.answer ≡ false) (λ t. refl) (λ t. refl)
effect-no-rows space old (Atomic key edits) = atomic-both
    (λ (e : Effect). is_rows e.answer ≡ false) space old key edits (λ object. refl) refl (λ object. refl) (λ object. refl)
effect-no-rows space old other = refl

-- one more call on a key is counted by its answer
counts-effect : (what : Counted) (t : Tally) (key : List ℕ) (old : Option (List Value)) (op : Op)
    → field what (with_effect t key (effect_of soak old op)) ≡ field what t + one_if (passes what (effect_of soak old op).answer)
counts-effect a_count.Ended t key old op = refl
counts-effect a_count.Done t key old op = refl
counts-effect a_count.NotFound t key old op = refl
counts-effect a_count.CmpFail t key old op = refl
counts-effect a_count.Found t key old op = refl
counts-effect a_count.Search t key old op = let e : one_if (is_rows (effect_of soak old op).answer) ≡ 0 =
    ap one_if (effect-no-rows soak old op) in omega (arith, e)

-- one more search by its rows
counts-search : (what : Counted) (t : Tally) (a : Answer) → is_rows a ≡ true → field what (with_search t) ≡ field what t + one_if (passes what a)
counts-search a_count.Ended t (an_answer.Rows rows) e = refl
counts-search a_count.Done t (an_answer.Rows rows) e = omega arith
counts-search a_count.NotFound t (an_answer.Rows rows) e = omega arith
counts-search a_count.CmpFail t (an_answer.Rows rows) e = omega arith
counts-search a_count.Found t (an_answer.Rows rows) e = omega arith
counts-search a_count.Search t (an_answer.Rows rows) e = refl
counts-search what t other e = absurd (false≢true e)

-- ---- objects of histories

-- what the test of keys says
ascending : (listed : List KeyHistory) → keys_ascend (keys_of_histories listed) ≡ true → Ascend (λ (h : KeyHistory). h.key) listed
ascending [] e = tt
ascending (h ∷ rest) e =
    let a = and_parts (list_all (text_below h.key) (keys_of_histories rest)) (keys_ascend (keys_of_histories rest)) e in
    (λ g i. each h.key rest g a.0 i, ascending rest a.1)
  where
    each : (key : List ℕ) (l : List KeyHistory) (g : KeyHistory)
        → list_all (text_below key) (keys_of_histories l) ≡ true → IsIn g l → text_below key g.key ≡ true
    each key [] g t i = absurd i
    each key (x ∷ l) g t (inl q) = subst (λ (z : KeyHistory). text_below key z.key ≡ true) (sym q)
        (and_parts (text_below key x.key) (list_all (text_below key) (keys_of_histories l)) t).0
    each key (x ∷ l) g t (inr i) = each key l g (and_parts (text_below key x.key) (list_all (text_below key) (keys_of_histories l)) t).1 i

abbrev present : List ℕ → Option (List Value) → List KeyObject
present key o = list_of (option_map (λ (object : List Value). record { key = key; object = object }) o)

-- the key of an object is that of a history
object-history : (listed : List KeyHistory) (p : KeyObject) → IsIn p (objects_of listed) → (h : KeyHistory) × IsIn h listed × (p.key ≡ h.key)
object-history [] p i = absurd i
object-history (h ∷ rest) p i = by (last_object h.items) (λ j. object-history rest p j) i
  where
    by : (o : Option (List Value)) → (IsIn p (objects_of rest) → (g : KeyHistory) × IsIn g rest × (p.key ≡ g.key))
        → IsIn p (present h.key o ++ objects_of rest) → (g : KeyHistory) × IsIn g (h ∷ rest) × (p.key ≡ g.key)
    by None more i = let r = more i in (r.0, inr r.1, r.2)
    by (Some v) more (inl e) = (h, inl refl, ap (λ (q : KeyObject). q.key) e)
    by (Some v) more (inr i) = let r = more i in (r.0, inr r.1, r.2)

-- the objects are a map
objects-map : (listed : List KeyHistory) → Ascend (λ (h : KeyHistory). h.key) listed → IsMap (objects_of listed)
objects-map [] a = tt
objects-map (h ∷ rest) a = by (last_object h.items) (objects-map rest a.1)
  where
    by : (o : Option (List Value)) → IsMap (objects_of rest) → IsMap (present h.key o ++ objects_of rest)
    by None m = m
    by (Some v) m = ((λ p i. let r = object-history rest p i in subst (λ (k : List ℕ). text_below h.key k ≡ true) (sym r.2) (a.0 r.0 r.1)), m)

-- a key of no history has no object
not-listed : (listed : List KeyHistory) (key : List ℕ) → ((h : KeyHistory) → IsIn h listed → h.key ≡ key → ⊥) → object_at key (objects_of listed) ≡ None
not-listed listed key f = at-none key (objects_of listed) (λ p i e. let r = object-history listed p i in f r.0 r.1 (sym r.2 ∙ e))

-- the key of a history has the object in which it ends
listed-at : (listed : List KeyHistory) → Ascend (λ (h : KeyHistory). h.key) listed → (h : KeyHistory) → IsIn h listed
    → object_at h.key (objects_of listed) ≡ last_object h.items
listed-at [] a h i = absurd i
listed-at (g ∷ rest) a h (inl e) = subst (λ (z : KeyHistory). object_at z.key (objects_of (g ∷ rest)) ≡ last_object z.items) (sym e) (by (last_object g.items))
  where
    above : (h : KeyHistory) → IsIn h rest → h.key ≡ g.key → ⊥
    above h i e = text_below-apart g.key h.key (a.0 h i) (sym e)

    by : (o : Option (List Value)) → object_at g.key (present g.key o ++ objects_of rest) ≡ o
    by None = not-listed rest g.key above
    by (Some v) = at-first (record { key = g.key; object = v }) (objects_of rest)
listed-at (g ∷ rest) a h (inr i) = by (last_object g.items) (listed-at rest a.1 h i)
  where
    by : (o : Option (List Value)) → object_at h.key (objects_of rest) ≡ last_object h.items
        → object_at h.key (present g.key o ++ objects_of rest) ≡ last_object h.items
    by None e = e
    by (Some v) e = at-rest h.key (record { key = g.key; object = v }) (objects_of rest) (text_below-apart g.key h.key (a.0 h i)) ∙ e

module _ (seed calls : ℕ) (trace : List Entry) (finished : IsSoak seed calls trace) where
  abbrev script : Script
  script = script_drawn seed calls

  abbrev tally : ℕ → Tally
  tally turn = tally_in_order seed turn

  -- how many the record of a turn's call counts for
  abbrev weight : Counted → Caller → ℕ
  weight what c = count_by (is_counted what) (record_of trace c)

  -- an ended call counts by its answer
  weighs : (what : Counted) (turn : ℕ) (l : turn < calls)
      → weight what (caller_at turn) ≡ one_if (passes what (ended-at seed calls trace finished turn l).end.answer)
  weighs what turn l =
      let c = caller_at turn in
      let e = ended-at seed calls trace finished turn l in
      let r = record_at c trace e.begin in
      ap (λ (o : Option ℕ). count_by (is_counted what) (list_of (option_map (record_at c trace) o))) e.began
      ∙ count-one (is_counted what) r
      ∙ ap one_if (counted-by what r e.end.entry e.end.answer (ap (option_map (λ (x : CallEnd). x.entry)) e.ended)
      (ap (option_map (λ (x : CallEnd). x.answer)) e.noted))

  -- so does the call taken in its turn
  counts-one : (what : Counted) (turn : ℕ) → turn < calls → field what (tally (turn + 1)) ≡ field what (tally turn) + weight what (caller_at turn)
  counts-one what turn l = by (key_of (op_at seed turn)) refl
    where
      answer : Answer
      answer = (ended-at seed calls trace finished turn l).end.answer

      by : (o : Option (List ℕ)) → key_of (op_at seed turn) ≡ o → field what (tally (turn + 1)) ≡ field what (tally turn) + weight what (caller_at turn)
      by None e =
          ap (field what) (one-more seed calls trace finished turn ∙ objects-searched seed calls trace finished (tally turn) (op_at seed turn) e)
          ∙ counts-search what (tally turn) answer ((ended-at seed calls trace finished turn l).rows e)
          ∙ ap (λ k. field what (tally turn) + k) (sym (weighs what turn l))
      by (Some key) e =
          let t = takes seed calls trace finished key turn l e in
          let old : object_at key (tally turn).objects ≡ object_now (cut_below turn (history_of script key trace)) =
          objects-are seed calls trace finished turn (omega (arith, l)) key in
          let same : (effect_of soak (object_at key (tally turn).objects) (op_at seed turn)).answer ≡ answer =
          ap (λ (o : Option (List Value)). (effect_of soak o (op_at seed turn)).answer) old
          ∙ ap (λ (op : Op). (effect_of soak (object_now (cut_below turn (history_of script key trace))) op).answer) (sym t.0.op_is)
          ∙ sym t.0.effect.answer
          ∙ t.1 in
          ap (field what) (one-more seed calls trace finished turn ∙ objects-put seed calls trace finished (tally turn) (op_at seed turn) key e)
          ∙ counts-effect what (tally turn) key (object_at key (tally turn).objects) (op_at seed turn)
          ∙ ap (λ (a : Answer). field what (tally turn) + one_if (passes what a)) same
          ∙ ap (λ k. field what (tally turn) + k) (sym (weighs what turn l))

  counts-all : (what : Counted) (turn : ℕ) → turn ≤ calls → field what (tally turn) ≡ sum_by (λ n. weight what (caller_at n)) (below turn)
  counts-all a_count.Ended zero l = refl
  counts-all a_count.Done zero l = refl
  counts-all a_count.NotFound zero l = refl
  counts-all a_count.CmpFail zero l = refl
  counts-all a_count.Found zero l = refl
  counts-all a_count.Search zero l = refl
  counts-all what (suc turn) l =
      ap (λ n. field what (tally n)) (sym (add-one turn))
      ∙ counts-one what turn (omega (arith, l))
      ∙ ap (λ k. k + weight what (caller_at turn)) (counts-all what turn (omega (arith, l)))
      ∙ sym (sum_by_push (λ n. weight what (caller_at n)) (below turn) turn)

  -- how many calls are counted
  pub counts-are : (what : Counted) → how_many what (records_of script trace) ≡ field what (tally calls)
  counts-are what =
      count-joined (is_counted what) (record_of trace) (callers_of script)
      ∙ all-callers (weight what) seed calls
      ∙ sym (counts-all what calls (omega arith))

  module _ (listed : List KeyHistory) (histories : AreHistories script trace listed) where
    order : Ascend (λ (h : KeyHistory). h.key) listed
    order = ascending listed histories.ascending

    key-listed : (l : List KeyHistory) (key : List ℕ) → IsIn key (keys_of_histories l) → (h : KeyHistory) × IsIn h l × (key ≡ h.key)
    key-listed [] key i = absurd i
    key-listed (h ∷ l) key (inl e) = (h, inl refl, e)
    key-listed (h ∷ l) key (inr i) = let r = key-listed l key i in (r.0, inr r.1, r.2)

    is-history : (h : KeyHistory) → IsIn h listed → IsHistory script trace h
    is-history h i = all-in (IsHistory script trace) listed h histories.each i

    -- each key has the object of its history
    listed-object : (key : List ℕ) → object_at key (objects_of listed) ≡ object_now (history_of script key trace)
    listed-object key = by (history_of script key trace) refl
      where
        by : (items : List Item) → history_of script key trace ≡ items → object_at key (objects_of listed) ≡ object_now items
        by [] e = not-listed listed key (λ h i q. (let r = is-history h i in
            r.some (r.items ∙ ap (λ (k : List ℕ). reverse (history_of script k trace)) q ∙ ap reverse e)))
        by (x ∷ items) e =
            let r = key-listed listed key (histories.every key (λ q. let z : x ∷ items ≡ [] = sym e ∙ q in cc)) in
            let h = is-history r.0 r.1 in
            ap (λ (k : List ℕ). object_at k (objects_of listed)) r.2
            ∙ listed-at listed order r.0 r.1
            ∙ ap (λ (l : List Item). object_now (reverse l)) h.items
            ∙ ap object_now (reverse-reverse (history_of script r.0.key trace))
            ∙ ap (λ (k : List ℕ). object_now (history_of script k trace)) (sym r.2)
            ∙ ap object_now e

    -- the objects are those of the map
    pub objects-same : objects_of listed ≡ (tally calls).objects
    objects-same = same-maps (objects_of listed) (tally calls).objects (objects-map listed order)
        (is-map seed calls trace finished calls) (λ key. listed-object key ∙ sym (objects-end seed calls trace finished key))

    -- and all that is told
    pub tallies-same : tally_of (records_of script trace) listed ≡ tally calls
    tallies-same = λ i. record {
      calls = counts-are a_count.Ended i;
      done = counts-are a_count.Done i;
      not_found = counts-are a_count.NotFound i;
      cmp_fail = counts-are a_count.CmpFail i;
      found = counts-are a_count.Found i;
      searches = counts-are a_count.Search i;
      objects = objects-same i;
    }
