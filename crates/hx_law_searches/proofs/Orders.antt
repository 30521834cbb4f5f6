-- What the items of a key's history are, in what order their versions stand, and what is known of one that ended before an entry.
use Rattle.hx_law_lemmas.proofs.Lemmas.Vocabulary.{[], and_parts, Answer, ap, append-nil, arith, call_of, CallEnd, Caller, cond, cond_both, EachOnce, end_of}
use Rattle.hx_law_lemmas.proofs.Lemmas.Vocabulary.{ended_before, Entry, Facts, false, false≢true, Get, gets_of, history_of, history_on, in_place, inl, inr}
use Rattle.hx_law_lemmas.proofs.Lemmas.Vocabulary.{is_doubt, is_write, IsBefore, IsIn, IsLine, IsRun, Item, key_of, leb, leb-true, line_of, List, ltb, ltb-true}
use Rattle.hx_law_lemmas.proofs.Lemmas.Vocabulary.{None, not_refused, note_of_end, Op, Option, refl, Script, Some, subst, sym, true, true≢false, Update, Value}
use Rattle.hx_law_lemmas.proofs.Lemmas.Vocabulary.{Version, when_some, write_item, ℕ, ◌++◌, ◌<◌, ◌∙◌, ◌∷◌, ◌≡◌, ◌≤◌, ◌⊎◌}
use Rattle.hx_law_lemmas.proofs.Lemmas.{in-append, gets-in, EndedAt, ended_at, end-noted, Sorted, numbered-sorted, caller-once, line-numbered, update-at}
use Rattle.hx_law_searches.proofs.Calls.{Calls}
use Rattle.hx_law_searches.proofs.CallsKept.{calls_kept}
use Rattle.hx_law_searches.proofs.Histories.{ended-told, linear, write_of}
use Rattle.hx_law_searches.proofs.Times.{ended_unique}
use Rattle.hx_law_searches.proofs.Writes.{not_refused-in, not_refused-sorted}

-- what stands before another in joined lists
before-append : (xs ys : List Item) (z x : Item) → IsBefore z x (xs ++ ys) → IsIn x (xs ++ ys) × (IsIn z xs ⊎ IsBefore z x ys)
before-append [] ys z x b = (before-in ys b, inr b)
  where
    before-in : (l : List Item) → IsBefore z x l → IsIn x l
    before-in [] b = absurd b
    before-in (y ∷ l) (inl p) = inr p.1
    before-in (y ∷ l) (inr b) = inr (before-in l b)
before-append (y ∷ xs) ys z x (inl p) = (inr p.1, inl (inl p.0))
before-append (y ∷ xs) ys z x (inr b) = let r = before-append xs ys z x b in (inr r.0, elim r.1 [ inl i ↦ inl (inr i) | inr c ↦ inr c ])

-- of items that stand once two are of different calls
once-before : (l : List Item) (z x : Item) → EachOnce l → IsBefore z x l → x.caller ≡ z.caller → ⊥
once-before [] z x o b e = absurd b
once-before (y ∷ l) z x o (inl p) e = o.0 x p.1 (e ∙ ap (λ (w : Item). w.caller) p.0)
once-before (y ∷ l) z x o (inr b) e = once-before l z x o.1 b e

-- a version in its place is no lower than the write before it, and below the write after it
place-low : (low : ℕ) (high : Option ℕ) (v : ℕ) → in_place low high v ≡ true → low ≤ v
place-low low None v e = leb-true low v e
place-low low (Some h) v e = leb-true low v (and_parts (leb low v) (ltb v h) e).0

-- an end is no doubt
end-sure : (c : Caller) (t : List Entry) (e : CallEnd) → end_of c t ≡ Some e → is_doubt e.answer ≡ false
end-sure c t e q = by (note_of_end c t) q
  where
    by : (o : Option CallEnd) → when_some o None (λ (x : CallEnd). cond (is_doubt x.answer) None (Some x)) ≡ Some e → is_doubt e.answer ≡ false
    by None q = absurd (cc)
    by (Some x) q = cond_both (is_doubt x.answer) None (Some x) (λ (o : Option CallEnd). o ≡ Some e → is_doubt e.answer ≡ false) (λ t r. absurd (cc))
        (λ t r. (let s : x ≡ e = cc in sym (ap (λ (y : CallEnd). is_doubt y.answer) s) ∙ t)) q

module _ (script : Script) (key : List ℕ) (whole : List Entry) where
  -- an item of a write
  pub record Wrote (us : List Update) (x : Item) : Type 0 where
    pub update : Update
    pub stands : IsIn update us
    pub op : Op
    pub called : call_of script update.caller ≡ Some op
    pub is : x ≡ write_of update op

  -- an item of a get that ended
  pub record Got (x : Item) : Type 0 where
    pub entry : ℕ
    pub ended : EndedAt whole x.caller x.version x.answer entry
    pub called : call_of script x.caller ≡ Some (Get key)
    pub op : x.op ≡ Get key

  -- a get in its place
  got : (low : ℕ) (high : Option ℕ) (object : Option (List Value)) (x : Item)
      → IsIn x (gets_of script key low high object whole) → Got x × (in_place low high x.version.0 ≡ true)
  got low high object x i =
      let g = gets-in script key low high object whole x i in
      (record { entry = g.entry; ended = g.ended; called = g.called; op = g.op }, g.place)

  -- the item of a write
  wrote : (w : Update) (us : List Update) (x : Item) → IsIn x (write_item script w) → Wrote (w ∷ us) x
  wrote w us x i = by (call_of script w.caller) refl i
    where
      by : (o : Option Op) → call_of script w.caller ≡ o → IsIn x (when_some o [] (λ (op : Op). write_of w op ∷ [])) → Wrote (w ∷ us) x
      by None e j = absurd j
      by (Some op) e (inl q) = record { update = w; stands = inl refl; op = op; called = e; is = q }
      by (Some op) e (inr j) = absurd j

  -- what an item is
  kind : (high : Option ℕ) (us : List Update) (x : Item) → IsIn x (history_on script key whole high us) → Wrote us x ⊎ Got x
  kind high [] x i = inr (got 0 high None x i).0
  kind high (w ∷ us) x i = elim (in-append (gets_of script key w.version.0 high w.object whole ++ write_item script w)
      (history_on script key whole (Some w.version.0) us) x i) [
        | inl j ↦ elim (in-append (gets_of script key w.version.0 high w.object whole) (write_item script w) x j) [
          | inl k ↦ inr (got w.version.0 high w.object x k).0
          | inr k ↦ inl (wrote w us x k)
        ]
        | inr j ↦ elim (kind (Some w.version.0) us x j) [
          | inl k ↦ inl (record { update = k.update; stands = inr k.stands; op = k.op; called = k.called; is = k.is })
          | inr k ↦ inr k
        ]
      ]

  -- items between writes are below the next one
  below-high : (high : ℕ) (us : List Update) → Sorted us → ((w : Update) → IsIn w us → w.version.0 < high)
      → (x : Item) → IsIn x (history_on script key whole (Some high) us) → x.version.0 < high
  below-high high [] s f x i = ltb-true x.version.0 high (and_parts (leb 0 x.version.0) (ltb x.version.0 high) (got 0 (Some high) None x i).1).1
  below-high high (w ∷ us) s f x i = elim (in-append
      (gets_of script key w.version.0 (Some high) w.object whole ++ write_item script w)
      (history_on script key whole (Some w.version.0) us) x i) [
        | inl j ↦ elim (in-append (gets_of script key w.version.0 (Some high) w.object whole) (write_item script w) x j) [
          | inl k ↦ ltb-true x.version.0 high (and_parts (leb w.version.0 x.version.0) (ltb x.version.0 high) (got w.version.0 (Some high) w.object x k).1).1
          | inr k ↦ at-write (wrote w [] x k)
        ]
        | inr j ↦ (let l = below-high w.version.0 us s.2 s.0 x j in let h = f w (inl refl) in omega (arith, l, h))
      ]
    where
      at-write : Wrote (w ∷ []) x → x.version.0 < high
      at-write k = elim k.stands [
        | inl q ↦ (let e : x.version.0 ≡ w.version.0 =
            ap (λ (y : Item). y.version.0) k.is ∙ ap (λ (y : Update). y.version.0) q in let h = f w (inl refl) in
            omega (arith, e, h))
        | inr m ↦ absurd m
      ]

  -- no write stands after an item of a lower version
  in-order : (high : Option ℕ) (us : List Update) → Sorted us → (z x : Item)
      → IsBefore z x (history_on script key whole high us) → is_write x.op ≡ true → x.version.0 ≤ z.version.0
  in-order high [] s z x b t =
      let i = (before-append (gets_of script key 0 high None whole) [] z x
      (subst (IsBefore z x) (sym (append-nil (gets_of script key 0 high None whole))) b)).0 in
      let g = (got 0 high None x (subst (IsIn x) (append-nil (gets_of script key 0 high None whole)) i)).0 in
      absurd (true≢false (sym t ∙ ap is_write g.op))
  in-order high (w ∷ us) s z x b t =
      let front = gets_of script key w.version.0 high w.object whole ++ write_item script w in
      let r = before-append front (history_on script key whole (Some w.version.0) us) z x b in
      elim r.1 [
        | inr c ↦ in-order (Some w.version.0) us s.2 z x c t
        | inl i ↦ (let a = here-low z i in let c = high-of (in-append front (history_on script key whole (Some w.version.0) us) x r.0) in omega (arith, a, c))
      ]
    where
      here-version : (y : Item) → Wrote (w ∷ []) y → y.version.0 ≡ w.version.0
      here-version y k = elim k.stands [ inl q ↦ ap (λ (v : Item). v.version.0) k.is ∙ ap (λ (v : Update). v.version.0) q | inr m ↦ absurd m ]

      here-low : (y : Item) → IsIn y (gets_of script key w.version.0 high w.object whole ++ write_item script w) → w.version.0 ≤ y.version.0
      here-low y i = elim (in-append (gets_of script key w.version.0 high w.object whole) (write_item script w) y i) [
        | inl k ↦ place-low w.version.0 high y.version.0 (got w.version.0 high w.object y k).1
        | inr k ↦ (let e = here-version y (wrote w [] y k) in omega (arith, e))
      ]

      high-of : IsIn x (gets_of script key w.version.0 high w.object whole ++ write_item script w)
          ⊎ IsIn x (history_on script key whole (Some w.version.0) us) → x.version.0 ≤ w.version.0
      high-of (inr j) = let l = below-high w.version.0 us s.2 s.0 x j in omega (arith, l)
      high-of (inl i) = elim (in-append (gets_of script key w.version.0 high w.object whole) (write_item script w) x i) [
        | inl k ↦ absurd (true≢false (sym t ∙ ap is_write (got w.version.0 high w.object x k).0.op))
        | inr k ↦ (let e = here-version x (wrote w [] x k) in omega (arith, e))
      ]

module _ (script : Script) (facts : Facts script) (whole : List Entry) (run : IsRun script whole) (key : List ℕ) where
  -- what the run keeps of calls
  calls : Calls script whole
  calls = calls_kept script facts whole run

  -- the key's line
  abbrev pub line : List Update
  line = line_of key whole

  -- it is lawful
  pub lawful : IsLine script key line
  lawful = facts.lines whole run key

  -- it is sorted
  pub sorted : Sorted line
  sorted = numbered-sorted line (line-numbered script key line lawful)

  -- the history
  abbrev pub items : List Item
  items = history_of script key whole

  -- what an item is
  pub item-kind : (x : Item) → IsIn x items → Wrote script key whole line x ⊎ Got script key whole x
  item-kind x i = elim (kind script key whole None (not_refused line) x i) [
    | inl k ↦ inl (record { update = k.update; stands = (not_refused-in line k.update k.stands).0; op = k.op; called = k.called; is = k.is })
    | inr k ↦ inr k
  ]

  -- an item of a write
  pub item-wrote : (x : Item) → IsIn x items → is_write x.op ≡ true → Wrote script key whole line x
  item-wrote x i t = elim (item-kind x i) [ inl k ↦ k | inr g ↦ absurd (true≢false (sym t ∙ ap is_write g.op)) ]

  -- no write stands after an item of a lower version
  pub item-order : (z x : Item) → IsBefore z x items → is_write x.op ≡ true → x.version.0 ≤ z.version.0
  item-order z x b t = in-order script key whole None (not_refused line) (not_refused-sorted line sorted) z x b t

  -- two items are of different calls
  pub item-once : (z x : Item) → IsBefore z x items → x.caller ≡ z.caller → ⊥
  item-once z x b e = once-before items z x (linear script facts whole run key).honest.once b e

  -- an update of the line whose call ended without a doubt: with its version
  write-told : (u : Update) → IsIn u line → (v : Version) (a : Answer) (n : ℕ) → EndedAt whole u.caller v a n → is_doubt a ≡ false → u.version ≡ v
  write-told u i v a n h sure =
      let l = (update-at script key line u lawful i).1 in
      elim (ended-told script facts whole run key u.caller v a n l.op h l.called l.on_key) [
        | inl (inl t) ↦ absurd (false≢true (sym sure ∙ t.1))
        | inl (inr (inl t)) ↦ (let q = caller-once script key line lawful u t.1.0 i t.1.1 (sym t.1.2) in ap (λ (y : Update). y.version) q ∙ t.1.3)
        | inl (inr (inr t)) ↦ absurd (true≢false (sym l.writes ∙ t.0))
        | inr t ↦ elim t.1 [
          | inl z ↦ absurd (false≢true (sym sure ∙ z.0))
          | inr z ↦ (let p = calls.lined key u i in absurd (z.1 l.writes p.0 p.1 p.2 p.3))
        ]
      ]

  -- what ended with an item's version before an entry
  pub record Ended (x : Item) (n : ℕ) : Type 0 where
    pub answer : Answer
    pub op : Op
    pub called : call_of script x.caller ≡ Some op
    pub on_key : key_of op ≡ Some key
    pub sure : is_doubt answer ≡ false
    pub entry : ℕ
    pub ended : EndedAt whole x.caller x.version answer entry
    pub before : entry < n

  -- an item that ended before an entry
  pub item-ended : (x : Item) → IsIn x items → (n : ℕ) → ended_before whole x.caller n ≡ true → Ended x n
  item-ended x i n e = by (end_of x.caller whole) refl e
    where
      at : (k : Wrote script key whole line x ⊎ Got script key whole x) → (a : CallEnd)
          → EndedAt whole x.caller a.version a.answer a.entry → is_doubt a.answer ≡ false → a.entry < n → Ended x n
      at (inl k) a h sure l =
          let law = (update-at script key line k.update lawful k.stands).1 in
          let caller : x.caller ≡ k.update.caller = ap (λ (y : Item). y.caller) k.is in
          let v : x.version ≡ a.version = ap (λ (y : Item). y.version) k.is
          ∙ write-told k.update k.stands a.version a.answer a.entry
          (subst (λ (y : Caller). EndedAt whole y a.version a.answer a.entry) caller h) sure in
          record {
            answer = a.answer;
            op = law.op;
            called = ap (call_of script) caller ∙ law.called;
            on_key = law.on_key;
            sure = sure;
            entry = a.entry;
            ended = subst (λ (y : Version). EndedAt whole x.caller y a.answer a.entry) (sym v) h;
            before = l;
          }
      at (inr g) a h sure l =
          let v = (ended_unique script facts whole run x.caller x.version a.version x.answer a.answer g.entry a.entry g.ended h).0 in
          record {
            answer = a.answer;
            op = Get key;
            called = g.called;
            on_key = refl;
            sure = sure;
            entry = a.entry;
            ended = subst (λ (y : Version). EndedAt whole x.caller y a.answer a.entry) (sym v) h;
            before = l;
          }

      by : (o : Option CallEnd) → end_of x.caller whole ≡ o → when_some o false (λ (e : CallEnd). ltb e.entry n) ≡ true → Ended x n
      by None f q = absurd (false≢true q)
      by (Some a) f q = at (item-kind x i) a (ended_at x.caller whole a (end-noted x.caller whole a f)) (end-sure x.caller whole a f) (ltb-true a.entry n q)
