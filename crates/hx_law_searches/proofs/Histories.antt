-- The history of every key is linear.
use Rattle.hx_law_lemmas.proofs.Lemmas.Vocabulary.{[], Actor, and_from, and_parts, Answer, ap, append-nil, append_assoc, arith, begin_of, Bool, call_of}
use Rattle.hx_law_lemmas.proofs.Lemmas.Vocabulary.{CallEnd, Caller, cases_lt, cond, cond_both, Coordinator, EachOnce, effect_of, end_of, ended_before, Entry}
use Rattle.hx_law_lemmas.proofs.Lemmas.Vocabulary.{Facts, false, false≢true, Get, get_answer, get_item, get_items, gets_of, history_of, history_on, in_place}
use Rattle.hx_law_lemmas.proofs.Lemmas.Vocabulary.{inl, inr, is_doubt, is_get_of, is_refused, is_write, IsBefore, IsCall, IsEffect, IsIn, IsLegal, IsLine}
use Rattle.hx_law_lemmas.proofs.Lemmas.Vocabulary.{IsLinear, IsRun, Item, key_of, le-leb, leb, leb-true, length, line_object, line_of, List, lt-ltb, ltb}
use Rattle.hx_law_lemmas.proofs.Lemmas.Vocabulary.{ltb-true, no_version, None, not, not_refused, Note, note_of_end, object_now, Op, Option, provided, refl}
use Rattle.hx_law_lemmas.proofs.Lemmas.Vocabulary.{reverse, Script, Server, Session, SessionId, Some, subst, sym, Tells, top_above, true, true≢false, Update}
use Rattle.hx_law_lemmas.proofs.Lemmas.Vocabulary.{upto, Value, Version, was_refused, when_some, ℕ, ◌&&◌, ◌++◌, ◌+◌, ◌<◌, ◌∙◌, ◌∷◌, ◌≡◌, ◌≤◌, ◌⊎◌}
use Rattle.hx_types.specs.declared.traces.Note.TheVariants as a_note
use Rattle.hx_law_lemmas.proofs.Lemmas.{get-of, get_effect, get_leaves, Pairwise, in-append, in-flat_map, in-provided, in_left, in_right, pairwise-append}
use Rattle.hx_law_lemmas.proofs.Lemmas.{stands_before, numbered-within as in-below, upto_past, GetEnd, GetNote, entry_got, entry_short, gets-in, in-gets}
use Rattle.hx_law_lemmas.proofs.Lemmas.{began_notes, end_notes, BeganAt, EndedAt, began_at, begin_is, ended_at, upto_all, upto_upto}
use Rattle.hx_law_lemmas.proofs.Lemmas.{caller-once, line-numbered, update-at, all_notes}
use Rattle.hx_law_searches.proofs.Calls.{Calls, LaterThan, NoCall}
use Rattle.hx_law_searches.proofs.CallsKept.{calls_kept, turn_is}
use Rattle.hx_law_searches.proofs.Times.{begins_first, ended_unique, first_of, not_again}
use Rattle.hx_law_searches.proofs.Writes.{Write, Writes, in-not_refused, not_refused-in, object-after, writes}

-- the item of an update and its operation
abbrev pub write_of : Update → Op → Item
write_of u op = record { version = u.version; caller = u.caller; op = op; answer = u.answer; object = u.object }

-- an end is a note of one, and no doubt
end_noted : (c : Caller) (t : List Entry) (e : CallEnd) → end_of c t ≡ Some e → (note_of_end c t ≡ Some e) × (is_doubt e.answer ≡ false)
end_noted c t e q = by (note_of_end c t) q
  where
    by : (o : Option CallEnd) → when_some o None (λ (x : CallEnd). cond (is_doubt x.answer) None (Some x)) ≡ Some e → (o ≡ Some e) × (is_doubt e.answer ≡ false)
    by None q = absurd (cc)
    by (Some x) q = cond_both (is_doubt x.answer) None (Some x)
        (λ (o : Option CallEnd). o ≡ Some e → (Some x ≡ Some e) × (is_doubt e.answer ≡ false)) (λ t r. absurd (cc))
        (λ t r. (r, (let s : x ≡ e = cc in sym (ap (λ (y : CallEnd). is_doubt y.answer) s) ∙ t))) q

-- what ended before an entry has an end
ended_early : (c : Caller) (t : List Entry) (n : ℕ) → ended_before t c n ≡ true → (e : CallEnd) × (end_of c t ≡ Some e) × (e.entry < n)
ended_early c t n q = by (end_of c t) refl q
  where
    by : (o : Option CallEnd) → end_of c t ≡ o → when_some o false (λ (e : CallEnd). ltb e.entry n) ≡ true
        → (e : CallEnd) × (end_of c t ≡ Some e) × (e.entry < n)
    by None f q = absurd (cc)
    by (Some e) f q = (e, f, ltb-true e.entry n q)

-- no get's item was refused
module _ (script : Script) (key : List ℕ) (low : ℕ) (high : Option ℕ) (object : Option (List Value)) where
  -- of a note
  note-well : (u : SessionId) (note : Note) (x : Item) → IsIn x (get_item script key low high object u note) → is_refused x.answer ≡ false
  note-well u (a_note.Ended number version answer) x i = by (call_of script (record { session = u; number = number })) i
    where
      well : (b : Bool) → not b ≡ true → b ≡ false
      well true e = absurd (false≢true e)
      well false e = refl

      by : (o : Option Op) → IsIn x (when_some o [] (λ (op : Op). provided (is_get_of key op && not (is_refused answer) && in_place low high version.0)
          (record {
            version = version;
            caller = record { session = u; number = number };
            op = op;
            answer = answer;
            object = object;
          } ∷ []))) → is_refused x.answer ≡ false
      by None i = absurd i
      by (Some op) i =
          let r = in-provided (is_get_of key op && not (is_refused answer) && in_place low high version.0)
          (record { version = version; caller = record { session = u; number = number }; op = op; answer = answer; object = object } ∷ []) x i in
          let b = and_parts (is_get_of key op && not (is_refused answer)) (in_place low high version.0) r.0 in
          let c = and_parts (is_get_of key op) (not (is_refused answer)) b.0 in
          elim r.1 [ inl e ↦ ap (λ (y : Item). is_refused y.answer) e ∙ well (is_refused answer) c.1 | inr j ↦ absurd j ]
  note-well u other x i = absurd i

  -- of a trace
  gets-well : (t : List Entry) (x : Item) → IsIn x (gets_of script key low high object t) → is_refused x.answer ≡ false
  gets-well [] x i = absurd i
  gets-well (e ∷ older) x i = elim (in-append (get_items script key low high object e.actor e.notes) (gets_of script key low high object older) x i) [
    | inl j ↦ entry e.actor e.notes j
    | inr j ↦ gets-well older x j
  ]
    where
      entry : (a : Actor) (notes : List Note) → IsIn x (get_items script key low high object a notes) → is_refused x.answer ≡ false
      entry Coordinator notes j = absurd j
      entry (Server s) notes j = absurd j
      entry (Session u) notes j = let r = in-flat_map (get_item script key low high object u) (reverse notes) x j in note-well u r.0 x r.2

module _ (script : Script) (facts : Facts script) (whole : List Entry) (run : IsRun script whole) (key : List ℕ) where
  -- what the run keeps of calls
  calls : Calls script whole
  calls = calls_kept script facts whole run

  -- the key's line, and what of it wasn't refused
  abbrev line : List Update
  line = line_of key whole

  -- the updates that were not refused
  abbrev ws : List Update
  ws = not_refused line

  -- the line is lawful
  lawful : IsLine script key line
  lawful = facts.lines whole run key

  -- what a reply to an ended call told
  pub ended-told : (c : Caller) (v : Version) (a : Answer) (n : ℕ) (op : Op) → EndedAt whole c v a n → call_of script c ≡ Some op → key_of op ≡ Some key
      → Tells line c v a op ⊎ ((v ≡ no_version) × (((is_doubt a ≡ true) × (is_write op ≡ true))
      ⊎ ((is_refused a ≡ true) × (is_write op ≡ true → NoCall whole c))))
  ended-told c v a n op h called on_key = elim (calls.replied c v a n h op key called on_key) [
    | inl r ↦ inl (facts.replies whole run r.0 c v a r.1 op key called on_key)
    | inr r ↦ inr r
  ]

  -- a get that ended and wasn't refused: it began, and tells the object after its version
  record GetTold (c : Caller) (v : Version) (a : Answer) : Type 0 where
    pub entry : ℕ
    pub begun : BeganAt whole c entry
    pub low : v.0 ≤ length line
    pub answer : a ≡ get_answer (line_object (upto v.0 line))

  -- such a get tells so
  get-told : (c : Caller) (v : Version) (a : Answer) (n : ℕ) → EndedAt whole c v a n → call_of script c ≡ Some (Get key) → is_refused a ≡ false → GetTold c v a
  get-told c v a n h called well = elim (calls.replied c v a n h (Get key) key called refl) [
    | inl r ↦ (let b = calls.asked r.0 c v a key r.1 called in by b.0 b.1 (facts.replies whole run r.0 c v a r.1 (Get key) key called refl))
    | inr r ↦ elim r.1 [ inl z ↦ absurd (false≢true z.1) | inr z ↦ absurd (false≢true (sym well ∙ z.0)) ]
  ]
    where
      by : (m : ℕ) → BeganAt whole c m → Tells line c v a (Get key) → GetTold c v a
      by m b (inl t) = absurd (false≢true t.0)
      by m b (inr (inl t)) = absurd (false≢true t.0)
      by m b (inr (inr t)) = record { entry = m; begun = b; low = t.1; answer = t.2 }

  -- an update of the line whose call ended without a doubt: with its version and answer
  write-told : (u : Update) → IsIn u line → (v : Version) (a : Answer) (n : ℕ) → EndedAt whole u.caller v a n
      → is_doubt a ≡ false → (u.version ≡ v) × (u.answer ≡ a)
  write-told u i v a n h sure =
      let l = (update-at script key line u lawful i).1 in
      elim (ended-told u.caller v a n l.op h l.called l.on_key) [
        | inl (inl t) ↦ absurd (false≢true (sym sure ∙ t.1))
        | inl (inr (inl t)) ↦ (let q = caller-once script key line lawful u t.1.0 i t.1.1 (sym t.1.2) in
            (ap (λ (y : Update). y.version) q ∙ t.1.3, ap (λ (y : Update). y.answer) q ∙ t.1.4))
        | inl (inr (inr t)) ↦ absurd (true≢false (sym l.writes ∙ t.0))
        | inr t ↦ elim t.1 [
          | inl z ↦ absurd (false≢true (sym sure ∙ z.0))
          | inr z ↦ (let p = calls.lined key u i in absurd (z.1 l.writes p.0 p.1 p.2 p.3))
        ]
      ]

  -- ---- the history by its writes

  -- the writes, each with its operation, and the gets above each
  abbrev story : Option ℕ → (us : List Update) → Writes script key us → List Item
  story high [] law = gets_of script key 0 high None whole
  story high (u ∷ us) law = gets_of script key u.version.0 high u.object whole ++ write_of u law.0.op ∷ story (Some u.version.0) us law.1

  -- it is the history
  story_is : (high : Option ℕ) (us : List Update) (law : Writes script key us) → history_on script key whole high us ≡ story high us law
  story_is high [] law = refl
  story_is high (u ∷ us) law =
      ap (λ (o : Option Op).
      gets_of script key u.version.0 high u.object whole ++ when_some o [] (λ (op : Op). write_of u op ∷ [])
      ++ history_on script key whole (Some u.version.0) us)
      law.0.called
      ∙ append_assoc (gets_of script key u.version.0 high u.object whole) (write_of u law.0.op ∷ []) (history_on script key whole (Some u.version.0) us)
      ∙ ap (λ (l : List Item). gets_of script key u.version.0 high u.object whole ++ write_of u law.0.op ∷ l)
      (story_is (Some u.version.0) us law.1)

  -- the versions of a place
  abbrev Below : Option ℕ → ℕ → Type 0
  Below None v = v ≤ length line
  Below (Some h) v = v < h

  -- where a part of the writes stands: they are all up to each version from their newest on to the next write
  abbrev Place : Option ℕ → List Update → Type 0
  Place high us = ((v : ℕ) → Below high v → top_above 0 us ≤ v → upto v ws ≡ us) × ((w : Update) → IsIn w us → IsIn w ws × Below high w.version.0)

  -- the whole
  place-whole : Place None ws
  place-whole = (
    (λ v b l. upto_all ws v l),
    (λ w i. (i, (in-below line w (line-numbered script key line lawful) (not_refused-in line w i).0).1)),
  )

  -- the part before a write
  place-next : (high : Option ℕ) (u : Update) (us : List Update) → Writes script key (u ∷ us) → Place high (u ∷ us) → Place (Some u.version.0) us
  place-next high u us law p = (
    (λ v b l. sym (upto_upto v u.version.0 ws (below-le v b))
        ∙ ap (upto v) (p.0 u.version.0 (p.1 u (inl refl)).1 (omega arith)) ∙ upto_past v u us b ∙ upto_all us v l),
    (λ w i. ((p.1 w (inr i)).0, law.0.above w i)),
  )
    where
      below-le : (v : ℕ) → v < u.version.0 → v ≤ u.version.0
      below-le v b = omega (arith, b)

  -- a get in its place has a version of the place
  in-place : (low : ℕ) (high : Option ℕ) (v : ℕ) → v ≤ length line → in_place low high v ≡ true → (low ≤ v) × Below high v
  in-place low None v l t = (leb-true low v t, l)
  in-place low (Some h) v l t = let b = and_parts (leb low v) (ltb v h) t in (leb-true low v b.0, ltb-true v h b.1)

  -- a version of the place is in it
  place-in : (low : ℕ) (high : Option ℕ) (v : ℕ) → low ≤ v → Below high v → in_place low high v ≡ true
  place-in low None v l b = le-leb low v l
  place-in low (Some h) v l b = and_from (leb low v) (ltb v h) (le-leb low v l) (lt-ltb v h b)

  -- an ended get of a place
  record Got (low : ℕ) (high : Option ℕ) (object : Option (List Value)) (x : Item) : Type 0 where
    pub entry : ℕ
    pub ended : EndedAt whole x.caller x.version x.answer entry
    pub called : call_of script x.caller ≡ Some (Get key)
    pub op : x.op ≡ Get key
    pub object_is : x.object ≡ object
    pub well : is_refused x.answer ≡ false
    pub told : GetTold x.caller x.version x.answer
    pub above : low ≤ x.version.0
    pub below : Below high x.version.0

  -- an item among the gets of a place is one
  got : (low : ℕ) (high : Option ℕ) (object : Option (List Value)) (x : Item) → IsIn x (gets_of script key low high object whole) → Got low high object x
  got low high object x i =
      let g = gets-in script key low high object whole x i in
      let w = gets-well script key low high object whole x i in
      let t = get-told x.caller x.version x.answer g.entry g.ended g.called w in
      let p = in-place low high x.version.0 t.low g.place in
      record { entry = g.entry; ended = g.ended; called = g.called; op = g.op; object_is = g.object_is; well = w; told = t; above = p.0; below = p.1 }

  -- ---- legal

  -- a get on an object: it leaves it and answers with it
  record Gets (object : Option (List Value)) (x : Item) : Type 0 where
    pub op : x.op ≡ Get key
    pub answer : x.answer ≡ get_answer object
    pub object_is : x.object ≡ object

  -- it is the effect of its operation
  get_legal : (object : Option (List Value)) (x : Item) → Gets object x → IsEffect script.space object x
  get_legal object x g = record {
    answer = g.answer ∙ sym (get_effect script.space key object) ∙ ap (λ (o : Op). (effect_of script.space object o).answer) (sym g.op);
    object = g.object_is ∙ sym (get_leaves script.space key object) ∙ ap (λ (o : Op). (effect_of script.space object o).object) (sym g.op);
  }

  -- gets above a legal list are legal
  gets_legal : (object : Option (List Value)) (rest : List Item) (xs : List Item) → ((x : Item) → IsIn x xs → Gets object x)
      → IsLegal script.space rest → object_now rest ≡ object
      → IsLegal script.space (xs ++ rest) × (object_now (xs ++ rest) ≡ object)
  gets_legal object rest [] f l e = (l, e)
  gets_legal object rest (x ∷ xs) f l e =
      let r = gets_legal object rest xs (λ y i. f y (inr i)) l e in
      let g = f x (inl refl) in
      ((subst (λ (o : Option (List Value)). IsEffect script.space o x) (sym r.1) (get_legal object x g), r.0), g.object_is)

  -- the gets of a place answer with its object
  gets-answer : (high : Option ℕ) (us : List Update) → Place high us → (x : Item)
      → IsIn x (gets_of script key (top_above 0 us) high (line_object us) whole) → Gets (line_object us) x
  gets-answer high us p x i =
      let g = got (top_above 0 us) high (line_object us) x i in
      record {
        op = g.op;
        answer = g.told.answer ∙ ap get_answer (object-after script key line lawful x.version.0 ∙ ap line_object (p.0 x.version.0 g.below g.above));
        object_is = g.object_is;
      }

  -- the story of a part is legal, and leaves the part's object
  story_legal : (high : Option ℕ) (us : List Update) (law : Writes script key us) → Place high us
      → IsLegal script.space (story high us law) × (object_now (story high us law) ≡ line_object us)
  story_legal high [] law p =
      let r = gets_legal None [] (gets_of script key 0 high None whole) (gets-answer high [] p) tt refl in
      subst (λ (l : List Item). IsLegal script.space l × (object_now l ≡ None)) (append-nil (gets_of script key 0 high None whole)) r
  story_legal high (u ∷ us) law p =
      let r = story_legal (Some u.version.0) us law.1 (place-next high u us law p) in
      let here : IsEffect script.space (object_now (story (Some u.version.0) us law.1)) (write_of u law.0.op) =
      subst (λ (o : Option (List Value)). IsEffect script.space o (write_of u law.0.op)) (sym r.1) (record { answer = law.0.answer; object = law.0.object }) in
      gets_legal u.object (write_of u law.0.op ∷ story (Some u.version.0) us law.1)
      (gets_of script key u.version.0 high u.object whole) (gets-answer high (u ∷ us) p) (here, r.0) refl

  -- ---- what stands in the history

  -- an item is a write or an ended get
  record Wrote (x : Item) : Type 0 where
    pub update : Update
    pub stands : IsIn update line
    pub well : is_refused update.answer ≡ false
    pub op : Op
    pub called : call_of script update.caller ≡ Some op
    pub writes : is_write op ≡ true
    pub on_key : key_of op ≡ Some key
    pub is : x ≡ write_of update op

  -- an item of a get
  record AGet (x : Item) : Type 0 where
    pub entry : ℕ
    pub ended : EndedAt whole x.caller x.version x.answer entry
    pub called : call_of script x.caller ≡ Some (Get key)
    pub op : x.op ≡ Get key
    pub well : is_refused x.answer ≡ false
    pub told : GetTold x.caller x.version x.answer

  -- an item of either
  abbrev Kind : Item → Type 0
  Kind x = Wrote x ⊎ AGet x

  -- a get of a place
  get-kind : (low : ℕ) (high : Option ℕ) (object : Option (List Value)) (x : Item) → IsIn x (gets_of script key low high object whole) → Kind x
  get-kind low high object x i = let g = got low high object x i in
      inr (record { entry = g.entry; ended = g.ended; called = g.called; op = g.op; well = g.well; told = g.told })

  -- an update that was not refused
  abbrev write-kind : (u : Update) (us : List Update) (law : Write script key us u) → IsIn u ws → Wrote (write_of u law.op)
  write-kind u us law i = let r = not_refused-in line u i in
      record {
        update = u;
        stands = r.0;
        well = r.1;
        op = law.op;
        called = law.called;
        writes = law.writes;
        on_key = law.on_key;
        is = refl;
      }

  -- each item of the story
  kind : (high : Option ℕ) (us : List Update) (law : Writes script key us) → Place high us → (x : Item) → IsIn x (story high us law) → Kind x
  kind high [] law p x i = get-kind 0 high None x i
  kind high (u ∷ us) law p x i = elim (in-append (gets_of script key u.version.0 high u.object whole)
      (write_of u law.0.op ∷ story (Some u.version.0) us law.1) x i) [
        | inl j ↦ get-kind u.version.0 high u.object x j
        | inr (inl e) ↦ inl (subst Wrote (sym e) (write-kind u us law.0 (p.1 u (inl refl)).0))
        | inr (inr j) ↦ kind (Some u.version.0) us law.1 (place-next high u us law p) x j
      ]

  -- each write stands there
  write-there : (high : Option ℕ) (us : List Update) (law : Writes script key us) (u : Update) → IsIn u us
      → (x : Item) × IsIn x (story high us law) × (x.caller ≡ u.caller) × (x.answer ≡ u.answer)
  write-there high [] law u i = absurd i
  write-there high (w ∷ us) law u (inl e) = (
    write_of w law.0.op,
    in_right (gets_of script key w.version.0 high w.object whole)
        (write_of w law.0.op ∷ story (Some w.version.0) us law.1) _ (inl refl),
    ap (λ (y : Update). y.caller) (sym e),
    ap (λ (y : Update). y.answer) (sym e),
  )
  write-there high (w ∷ us) law u (inr i) =
      let r = write-there (Some w.version.0) us law.1 u i in
      (r.0, in_right (gets_of script key w.version.0 high w.object whole) (write_of w law.0.op ∷ story (Some w.version.0) us law.1) r.0 (inr r.1), r.2, r.3)

  -- each ended get that wasn't refused stands there
  get-there : (high : Option ℕ) (us : List Update) (law : Writes script key us) (c : Caller) (v : Version)
      (a : Answer) (n : ℕ) → EndedAt whole c v a n → call_of script c ≡ Some (Get key) → is_refused a ≡ false → Below high v.0
      → (x : Item) × IsIn x (story high us law) × (x.caller ≡ c) × (x.answer ≡ a)
  get-there high [] law c v a n h called well b =
      (_, in-gets script key 0 high None whole c v a n h called well (place-in 0 high v.0 (omega arith) b), refl, refl)
  get-there high (u ∷ us) law c v a n h called well b = elim (cases_lt v.0 u.version.0) [
    | inl l ↦ (let r = get-there (Some u.version.0) us law.1 c v a n h called well l in
        (r.0, in_right (gets_of script key u.version.0 high u.object whole) (write_of u law.0.op ∷ story (Some u.version.0) us law.1) r.0 (inr r.1), r.2, r.3))
    | inr l ↦ (
      _,
      in_left (gets_of script key u.version.0 high u.object whole) (write_of u law.0.op ∷ story (Some u.version.0) us law.1) _
          (in-gets script key u.version.0 high u.object whole c v a n h called well (place-in u.version.0 high v.0 l b)),
      refl,
      refl,
    )
  ]

  -- ---- the order of time

  -- z may stand newer than x
  record Apart (z x : Item) : Type 0 where
    pub other : x.caller ≡ z.caller → ⊥
    pub late : (v : Version) (a : Answer) (m n : ℕ) → EndedAt whole z.caller v a m → is_doubt a ≡ false → BeganAt whole x.caller n → m < n → ⊥

  -- z ended with at least this version, wherever it ended without a doubt
  record High (low : ℕ) (z : Item) : Type 0 where
    pub op : Op
    pub called : call_of script z.caller ≡ Some op
    pub on_key : key_of op ≡ Some key
    pub high : (v : Version) (a : Answer) (m : ℕ) → EndedAt whole z.caller v a m → is_doubt a ≡ false → low ≤ v.0

  -- what ended before x began has a version below
  abbrev Low : ℕ → Item → Type 0
  Low high x = (v : ℕ) → LaterThan script whole v x.caller key → v < high

  -- then z did not end before x began
  apart_late : (low : ℕ) (z x : Item) → High low z → Low low x → (v : Version) (a : Answer) (m n : ℕ)
      → EndedAt whole z.caller v a m → is_doubt a ≡ false → BeganAt whole x.caller n → m < n → ⊥
  apart_late low z x h l v a m n e sure b less =
      let f = first_of script facts whole run z.caller x.caller v a m n e b less in
      let later = calls.ordered z.caller v a x.caller f h.op key h.called h.on_key sure in
      let p = l v.0 later in let q = h.high v a m e sure in
      omega (arith, p, q)

  -- a get's item ends with its version
  get_high : (low : ℕ) (x : Item) → AGet x → low ≤ x.version.0 → High low x
  get_high low x g l = record {
    op = Get key;
    called = g.called;
    on_key = refl;
    high = λ w a m e sure. (let u = ended_unique script facts whole run x.caller x.version w x.answer a g.entry m g.ended e in
        let q : x.version.0 ≡ w.0 = ap (λ (y : Version). y.0) u.0 in omega (arith, l, q));
  }

  -- what ended before a get began has no higher version
  get_low : (high : ℕ) (x : Item) → AGet x → x.version.0 < high → Low high x
  get_low high x g l w later = elim (calls.replied x.caller x.version x.answer g.entry g.ended (Get key) key g.called refl) [
    | inl r ↦ (let z = later.replies r.0 x.version x.answer r.1 g.called in omega (arith, z, l))
    | inr r ↦ elim r.1 [ inl z ↦ absurd (false≢true z.1) | inr z ↦ absurd (false≢true (sym g.well ∙ z.0)) ]
  ]

  -- an update's item ends with its version
  write_high : (x : Item) (w : Wrote x) → High w.update.version.0 x
  write_high x w = subst (High w.update.version.0) (sym w.is) (record {
    op = w.op;
    called = w.called;
    on_key = w.on_key;
    high = λ v a m e sure. (let t = (write-told w.update w.stands v a m e sure).0 in
        let q : w.update.version.0 ≡ v.0 = ap (λ (y : Version). y.0) t in omega (arith, q));
  })

  -- what ended before an update's call began has a lower version
  write_low : (high : ℕ) (x : Item) (w : Wrote x) → w.update.version.0 ≤ high → Low high x
  write_low high x w l v later =
      let z = later.updates w.update w.stands (ap (λ (y : Item). y.caller) (sym w.is)) in omega (arith, z, l)

  -- a get is no write
  get_no_write : (z x : Item) → AGet z → Wrote x → x.caller ≡ z.caller → ⊥
  get_no_write z x g w e =
      let q : Some w.op ≡ Some (Get key) = sym w.called ∙ ap (call_of script) (sym (ap (λ (y : Item). y.caller) w.is) ∙ e) ∙ g.called in
      let r : w.op ≡ Get key = cc in
      true≢false (sym w.writes ∙ ap is_write r)

  -- two writes of one caller are the same
  same-write : (z x : Item) (a : Wrote z) (b : Wrote x) → x.caller ≡ z.caller → b.update ≡ a.update
  same-write z x a b e = caller-once script key line lawful b.update a.update b.stands a.stands
      (sym (ap (λ (y : Item). y.caller) b.is) ∙ e ∙ ap (λ (y : Item). y.caller) a.is)

  -- two ends of gets of one caller have the same version
  same-get : (z x : Item) → AGet z → AGet x → x.caller ≡ z.caller → x.version.0 ≡ z.version.0
  same-get z x a b e = ap (λ (y : Version). y.0) (ended_unique script facts whole run z.caller x.version z.version
      x.answer z.answer b.entry a.entry (subst (λ (c : Caller). EndedAt whole c x.version x.answer b.entry) e b.ended) a.ended).0

  -- gets in one place, the last ended first
  gets_apart : (low : ℕ) (high : Option ℕ) (object : Option (List Value)) (t : List Entry) → IsRun script t
      → ((c : Caller) (v : Version) (a : Answer) (n : ℕ) → EndedAt t c v a n → EndedAt whole c v a n)
      → Pairwise Apart (gets_of script key low high object t)
  gets_apart low high object [] r up = tt
  gets_apart low high object (x ∷ older) r up =
      pairwise-append Apart (get_items script key low high object x.actor x.notes) (gets_of script key low high object older)
      (entry_short script key low high object Apart x.actor x.notes own)
      (gets_apart low high object older r.1 (λ c v a n h. up c v a n (inr h)))
      (λ z w i j. cross z w (entry_got script key low high object x.actor x.notes z i) (gets-in script key low high object older w j))
    where
      own : (u : SessionId) → x.actor ≡ Session u
          → (b : _) × (m : ℕ) × (n : ℕ) × (stop : Option _) × (x.notes ≡ began_notes b m ++ end_notes n stop)
      own u e = let turn = turn_is script older x u r.0 e in (turn.start, _, _, turn.turn.stop, all_notes _ _ _ turn)

      cross : (z w : Item)
          → (x.actor ≡ Session z.caller.session) × ((n : Note) × IsIn n x.notes × GetNote script key low high object z.caller.session n z)
          → GetEnd script older key low high object w → Apart z w
      cross z w p g =
          let note : IsIn (a_note.Ended z.caller.number z.version z.answer) x.notes = subst (λ (n : Note). IsIn n x.notes) p.1.2.note_is p.1.1 in
          record {
            other = λ e. not_again script facts older x r z.caller z.version w.version z.answer w.answer g.entry p.0 note
                (subst (λ (c : Caller). EndedAt older c w.version w.answer g.entry) e g.ended);
            late = λ v a m n h sure b l.
                (let here = (ended_unique script facts whole run z.caller z.version v z.answer a (length older + 1) m
                (up z.caller z.version z.answer (length older + 1) (inl (p.0, note, refl))) h).2 in
                let first = begins_first script facts whole run w.caller w.version w.answer g.entry n
                (up w.caller w.version w.answer g.entry (inr g.ended)) b in
                let low = ((calls_kept script facts older r.1).ended_low w.caller w.version w.answer g.entry g.ended).2 in
                omega (arith, here, first, low, l));
          }

  -- an item of a part: below the next write
  low-kind : (high : ℕ) (us : List Update) (law : Writes script key us) → Place (Some high) us → (x : Item) → IsIn x (story (Some high) us law)
      → (Wrote x × ((w : Wrote x) → w.update.version.0 < high)) ⊎ (AGet x × (x.version.0 < high))
  low-kind high [] law p x i = let g = got 0 (Some high) None x i in
      inr (record { entry = g.entry; ended = g.ended; called = g.called; op = g.op; well = g.well; told = g.told }, g.below)
  low-kind high (u ∷ us) law p x i = elim (in-append (gets_of script key u.version.0 (Some high) u.object whole)
      (write_of u law.0.op ∷ story (Some u.version.0) us law.1) x i) [
        | inl j ↦ (let g = got u.version.0 (Some high) u.object x j in
            inr (record { entry = g.entry; ended = g.ended; called = g.called; op = g.op; well = g.well; told = g.told }, g.below))
        | inr (inl e) ↦ inl (
          subst Wrote (sym e) (write-kind u us law.0 (p.1 u (inl refl)).0),
          λ w. (let v : w.update.version ≡ u.version = ap (λ (y : Item). y.version) (sym w.is ∙ e) in
              let q : w.update.version.0 ≡ u.version.0 = ap (λ (y : Version). y.0) v in let b = (p.1 u (inl refl)).1 in
              omega (arith, q, b)),
        )
        | inr (inr j) ↦ (let b = (p.1 u (inl refl)).1 in elim (low-kind u.version.0 us law.1 (place-next (Some high) u us law p) x j) [
          | inl r ↦ inl (r.0, λ w. (let z = r.1 w in omega (arith, z, b)))
          | inr r ↦ inr (r.0, (let z = r.1 in omega (arith, z, b)))
        ])
      ]

  -- what stands below a version is apart from what ends with at least that version
  under : (n : ℕ) (z x : Item) → High n z → Kind z → ((w : Wrote z) → n ≤ w.update.version.0)
      → (AGet z → n ≤ z.version.0) → (Wrote x × ((w : Wrote x) → w.update.version.0 < n))
      ⊎ (AGet x × (x.version.0 < n)) → Apart z x
  under n z x h k wz gz (inl b) = record {
    other = λ e. elim k [
      | inl a ↦ (let q : b.0.update.version.0 ≡ a.update.version.0 =
          ap (λ (y : Update). y.version.0) (same-write z x a b.0 e) in let p = b.1 b.0 in let r = wz a in
          absurd (omega (arith, q, p, r)))
      | inr g ↦ get_no_write z x g b.0 e
    ];
    late = apart_late n z x h (write_low n x b.0 (let p = b.1 b.0 in omega (arith, p)));
  }
  under n z x h k wz gz (inr b) = record {
    other = λ e. elim k [
      | inl a ↦ get_no_write x z b.0 a (sym e)
      | inr g ↦ (let q = same-get z x g b.0 e in let p = b.1 in let r = gz g in absurd (omega (arith, q, p, r)))
    ];
    late = apart_late n z x h (get_low n x b.0 b.1);
  }

  -- no item of the story ended before an older one began
  story_apart : (high : Option ℕ) (us : List Update) (law : Writes script key us) → Place high us → Pairwise Apart (story high us law)
  story_apart high [] law p = gets_apart 0 high None whole run (λ c v a n h. h)
  story_apart high (u ∷ us) law p =
      let next = place-next high u us law p in
      let item = write_of u law.0.op in
      let wrote = write-kind u us law.0 (p.1 u (inl refl)).0 in
      pairwise-append Apart (gets_of script key u.version.0 high u.object whole) (item ∷ story (Some u.version.0) us law.1)
      (gets_apart u.version.0 high u.object whole run (λ c v a n h. h)) (
        (λ x j. under u.version.0 item x (write_high item wrote) (inl wrote)
            (λ w. (let v : w.update.version.0 ≡ u.version.0 = ap (λ (y : Item). y.version.0) (sym w.is) in
            omega (arith, v))) (λ g. absurd (get_no_write item item g wrote refl)) (low-kind u.version.0 us law.1 next x j)),
        story_apart (Some u.version.0) us law.1 next,
      )
      (λ z x i j. let g = got u.version.0 high u.object z i in
      let a : AGet z = record { entry = g.entry; ended = g.ended; called = g.called; op = g.op; well = g.well; told = g.told } in
      let h = get_high u.version.0 z a g.above in
      elim j [
        | inl e ↦ subst (Apart z) (sym e) (record {
          other = λ q. get_no_write z item a wrote q;
          late = apart_late u.version.0 z item h (write_low u.version.0 item wrote (omega arith));
        })
        | inr k ↦ under u.version.0 z x h (inr a) (λ w. absurd (get_no_write z z a w refl)) (λ y. g.above) (low-kind u.version.0 us law.1 next x k)
      ])

  -- ---- linear

  -- the updates that were not refused are effects of writes
  abbrev law0 : Writes script key ws
  law0 = writes script key line lawful

  -- the whole story
  abbrev story0 : List Item
  story0 = story None ws law0

  -- it is the history
  history_is : history_of script key whole ≡ story0
  history_is = story_is None ws law0

  -- its items are apart
  all_apart : Pairwise Apart story0
  all_apart = story_apart None ws law0 place-whole

  -- items that are apart stand once
  each_once : (zs : List Item) → Pairwise Apart zs → EachOnce zs
  each_once [] p = tt
  each_once (z ∷ zs) p = ((λ y i. (p.0 y i).other), each_once zs p.1)

  -- an item's call wasn't refused
  never-refused : (c : Caller) → ((e : CallEnd) → EndedAt whole c e.version e.answer e.entry
      → is_doubt e.answer ≡ false → is_refused e.answer ≡ false) → was_refused whole c ≡ false
  never-refused c f = by (end_of c whole) refl
    where
      by : (o : Option CallEnd) → end_of c whole ≡ o → when_some o false (λ (e : CallEnd). is_refused e.answer) ≡ false
      by None q = refl
      by (Some e) q = let n = end_noted c whole e q in f e (ended_at c whole e n.0) n.1

  -- each item is a begun call of the script's
  is_call : (x : Item) → Kind x → IsCall script whole key x
  is_call x (inl w) = subst (IsCall script whole key) (sym w.is) (
      let p = calls.lined key w.update w.stands in
      let b = (calls.sent w.update.caller.session p.0 p.1 w.update.caller.number p.2 p.3).begun in
      record {
        begun = begin_is w.update.caller whole b.0 b.1;
        called = w.called;
        on_key = w.on_key;
        not_refused = never-refused w.update.caller (λ e h sure. sym
            (ap is_refused (write-told w.update w.stands e.version e.answer e.entry h sure).1) ∙ w.well);
      })
  is_call x (inr g) = record {
    begun = begin_is x.caller whole g.told.entry g.told.begun;
    called = g.called ∙ ap Some (sym g.op);
    on_key = ap key_of g.op;
    not_refused = never-refused x.caller (λ e h sure. sym
        (ap is_refused (ended_unique script facts whole run x.caller x.version e.version x.answer e.answer g.entry
        e.entry g.ended h).1) ∙ g.well);
  }

  -- an ended call that wasn't refused stands there
  answered : (c : Caller) (v : Version) (a : Answer) (n : ℕ) (op : Op) → EndedAt whole c v a n → is_doubt a ≡ false
      → call_of script c ≡ Some op → key_of op ≡ Some key → is_refused a ≡ false
      → (x : Item) × IsIn x story0 × (x.caller ≡ c) × (x.answer ≡ a)
  answered c v a n op h sure called on_key well = elim (ended-told c v a n op h called on_key) [
    | inl (inl t) ↦ absurd (false≢true (sym sure ∙ t.1))
    | inl (inr (inl t)) ↦ (let u = t.1.0 in
        let r = write-there None ws law0 u (in-not_refused line u t.1.1 (ap is_refused t.1.4 ∙ well)) in
        (r.0, r.1, r.2 ∙ t.1.2, r.3 ∙ t.1.4))
    | inl (inr (inr t)) ↦ (let o = get-of op key t.0 on_key in get-there None ws law0 c v a n h (called ∙ ap Some o) well t.1)
    | inr t ↦ elim t.1 [ inl z ↦ absurd (false≢true (sym sure ∙ z.0)) | inr z ↦ absurd (false≢true (sym well ∙ z.0)) ]
  ]

  -- an item that ended before another began stands before it
  in_order : (x y : Item) (n : ℕ) → IsIn x story0 → IsIn y story0 → begin_of y.caller whole ≡ Some n
      → ended_before whole x.caller n ≡ true → IsBefore y x story0
  in_order x y n i j b e =
      let r = ended_early x.caller whole n e in
      let noted = end_noted x.caller whole r.0 r.1 in
      let ended = ended_at x.caller whole r.0 noted.0 in
      let began = began_at y.caller whole n b in
      stands_before Apart story0 x y all_apart i j
      (λ q. (let f = begins_first script facts whole run y.caller r.0.version r.0.answer r.0.entry n
      (subst (λ (z : Item). EndedAt whole z.caller r.0.version r.0.answer r.0.entry) q ended) began in let l = r.2 in omega (arith, l, f)))
      (λ apart. apart.late r.0.version r.0.answer r.0.entry n ended noted.1 began r.2)

  -- the history is linear
  pub linear : IsLinear script whole key
  linear = record {
    legal = subst (λ (h : List Item). IsLegal script.space h) (sym history_is) (story_legal None ws law0 place-whole).0;
    answered_once = λ c a h. subst (λ (l : List Item). (x : Item) × IsIn x l × (x.caller ≡ c) × (x.answer ≡ a)) (sym history_is)
        (let n = end_noted c whole (record { entry = h.entry; version = h.version; answer = a }) h.ended in
        answered c h.version a h.entry h.op (ended_at c whole
        (record { entry = h.entry; version = h.version; answer = a }) n.0) n.1 h.called h.on_key h.not_refused);
    honest = record {
      calls = λ x i. is_call x (kind None ws law0 place-whole x (subst (λ (l : List Item). IsIn x l) history_is i));
      once = subst EachOnce (sym history_is) (each_once story0 all_apart);
    };
    in_order = λ x y n i j b e. subst (λ (l : List Item). IsBefore y x l) (sym history_is)
        (in_order x y n (subst (λ (l : List Item). IsIn x l) history_is i) (subst (λ (l : List Item). IsIn y l) history_is j) b e);
  }
