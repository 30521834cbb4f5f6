-- What is consistent keeps every clause.
use Rattle.hx_law_lemmas.proofs.Lemmas.Vocabulary.{[], All, All-head, All-tail, and_from, and_parts, Answer, ap, append_assoc, Bool, CallEnd}
use Rattle.hx_law_lemmas.proofs.Lemmas.Vocabulary.{EachOnce, false, false_from_ne_true, false≢true, FinishedSearch, IfSome, inl, inr}
use Rattle.hx_law_lemmas.proofs.Lemmas.Vocabulary.{is_doubt, is_refused, IsBefore, IsIn, IsLegal, Item, key_of, keys_ascend, List, list_all, list_any, map}
use Rattle.hx_law_lemmas.proofs.Lemmas.Vocabulary.{None, not, not-false, not_from_false, Op, Option, option_map, or_cases, refl, reverse, reverse-append, Row}
use Rattle.hx_law_lemmas.proofs.Lemmas.Vocabulary.{same_text, same_text_self, Search, slice_get, Some, subst, suc, sym, take, text_below, true, when_some, zero}
use Rattle.hx_law_lemmas.proofs.Lemmas.Vocabulary.{ℕ, ◌&&◌, ◌++◌, ◌+◌, ◌∙◌, ◌∷◌, ◌≡◌, ◌≢◌, ◌⊎◌}
use Rattle.hx_law_lemmas.proofs.Lemmas.{in-reverse, map-in, in-slice_get}
use Rattle.std.specs.Option.{is_some}
use Rattle.hx_types.specs.declared.calls.Answer.TheVariants as an_answer
use Rattle.hx_report_lines.specs.declared.blocks.Block.{Block}
use Rattle.hx_report_lines.specs.declared.calls.CallLine.{CallLine}
use Rattle.hx_report_lines.specs.declared.histories.HistoryLines.{HistoryLines}
use Rattle.hx_report_lines.specs.declared.histories.ItemLine.{ItemLine}
use Rattle.hx_report_lines.specs.Values.{IsBlock, IsCallOf, IsReportValue, ReportValue, has_end}
use Rattle.hx_audit.specs.declared.verdicts.Clause.{Clause}
use Rattle.hx_audit.specs.declared.verdicts.Clause.TheVariants as clauses
use Rattle.hx_audit.specs.declared.verdicts.Verdict.TheVariants as verdicts
use Rattle.hx_audit.specs.Accounts.{IsAnsweredBy, IsCallBy, IsLinearBy, IsSearchTrueBy, ended_before}
use Rattle.hx_audit.specs.Clauses.{HasItem, IsEffectOfCall, IsInTime, IsKnown, IsRowOf, IsTrueAt, ended_before_begin, is_above, is_in_time, is_known, is_on}
use Rattle.hx_audit.specs.Clauses.{is_refused_call, row_above, KeepsInCall, KeepsInHistory}
use Rattle.hx_audit.specs.Told.{account_of, call_at, end_told, item_told, items_at, same_caller, search_told}
use Rattle.hx_audit.specs.Verdicts.{IsVerdict, KeepsInPiece, Placed, block_from, block_lines, blocks_from, call_lines, calls_from, histories_from}
use Rattle.hx_audit.specs.Verdicts.{history_lines, lines_of_calls, space_lines}
use Rattle.hx_audit.proofs.Lemmas.{one_caller, faults, own_items, found_in, own_call}
use Rattle.hx_law_audit.proofs.Along.{Along}
use Rattle.hx_law_audit.proofs.Consistent.{LinearLines, TimelyBy, Told, in_told}
use Rattle.hx_law_audit.specs.Meaning.{IsConsistent}

-- what holds along a history holds at each place
module _ {A : Type 0} (f : A → Item) (R : List Item → Item → Type 0) where
  onto : (x : Item) (xs older : List Item) → reverse (x ∷ xs) ++ older ≡ reverse xs ++ (x ∷ older)
  onto x xs older = ap (λ (l : List Item). l ++ older) (reverse-append (x ∷ []) xs) ∙ append_assoc (reverse xs) (x ∷ []) older

  nil : (xs : List Item) → xs ++ [] ≡ xs
  nil [] = refl
  nil (x ∷ xs) = ap (λ (l : List Item). x ∷ l) (nil xs)

  older_along : (newer older : List Item) → Along R (newer ++ older) → Along R older
  older_along [] older h = h
  older_along (x ∷ newer) older h = older_along newer older h.1

  places : (older : List Item) (xs : List A) → Along R (reverse (map f xs) ++ older) → (k : ℕ)
      → IfSome (slice_get xs k) (λ x. R (reverse (map f (take k xs)) ++ older) (f x))
  places older [] h k = tt
  places older (x ∷ xs) h zero = (older_along (reverse (map f xs)) (f x ∷ older) (subst (Along R) (onto (f x) (map f xs) older) h)).0
  places older (x ∷ xs) h (suc k) = by (slice_get xs k) (places (f x ∷ older) xs (subst (Along R) (onto (f x) (map f xs) older) h) k)
    where
      by : (o : Option A) → IfSome o (λ y. R (reverse (map f (take k xs)) ++ (f x ∷ older)) (f y))
          → IfSome o (λ y. R (reverse (f x ∷ map f (take k xs)) ++ older) (f y))
      by None g = tt
      by (Some y) g = subst (λ (l : List Item). R l (f y)) (sym (onto (f x) (map f (take k xs)) older)) g

  pub at_places : (xs : List A) → Along R (reverse (map f xs)) → (k : ℕ) → IfSome (slice_get xs k) (λ x. R (reverse (map f (take k xs))) (f x))
  at_places xs h k = by (slice_get xs k) (places [] xs (subst (Along R) (sym (nil (reverse (map f xs)))) h) k)
    where
      by : (o : Option A) → IfSome o (λ x. R (reverse (map f (take k xs)) ++ []) (f x)) → IfSome o (λ x. R (reverse (map f (take k xs))) (f x))
      by None g = tt
      by (Some y) g = subst (λ (l : List Item). R l (f y)) (nil (reverse (map f (take k xs)))) g

any_has : {A : Type 0} (p : A → Bool) (xs : List A) → list_any p xs ≡ true → (x : A) × IsIn x xs × (p x ≡ true)
any_has p [] t = absurd (false≢true t)
any_has p (y ∷ xs) t = elim (or_cases (p y) (list_any p xs) t) [
  | inl q ↦ (y, inl refl, q)
  | inr q ↦ (let r = any_has p xs q in (r.0, inr r.1, r.2))
]

to_told : (b : Block) (x : ItemLine) (xs : List ItemLine) → IsIn x xs → IsIn (item_told b.calls x) (Told b xs)
to_told b x xs i = in-reverse (map (item_told b.calls) xs) (item_told b.calls x) (map-in (item_told b.calls) xs x i)

-- ---- legal

legal_kept : (b : Block) (h : HistoryLines) → IsLegal b.space (Told b h.items) → (k : ℕ) → IsEffectOfCall b h k
legal_kept b h legal = faults b.space (map (item_told b.calls) h.items) None ((λ n. legal), (λ l. refl)) tt

-- ---- foreign

abbrev OnceBy : List Item → Item → Type 0
OnceBy older x = (y : Item) → IsIn y older → y.caller ≡ x.caller → ⊥

once_along : (items : List Item) → EachOnce items → Along OnceBy items
once_along [] o = tt
once_along (x ∷ older) o = (o.0, once_along older o.1)

each_along : (P : Item → Type 0) (items : List Item) → ((x : Item) → IsIn x items → P x) → Along (λ older x. P x) items
each_along P [] h = tt
each_along P (x ∷ older) h = (h x (inl refl), each_along P older (λ y i. h y (inr i)))

all_in : {A : Type 0} (P : A → Type 0) (xs : List A) → All P xs → (x : A) → IsIn x xs → P x
all_in P [] h x i = absurd i
all_in P (y ∷ xs) h x (inl e) = subst P (sym e) (All-head P y xs h)
all_in P (y ∷ xs) h x (inr i) = all_in P xs (All-tail P y xs h) x i

doubt_not_refused : (a : Answer) → is_doubt a ≡ true → is_refused a ≡ false
doubt_not_refused (an_answer.Doubt region epoch) e = refl
doubt_not_refused other e = absurd (false≢true e)

-- a call with an end tells whether it was refused
refused_from : (l : CallLine) → is_some l.end ≡ has_end l.answer
    → when_some (end_told l) false (λ (e : CallEnd). is_refused e.answer) ≡ false → is_refused_call l ≡ false
refused_from l ended q = by l.answer l.end ended q
  where
    by : (answer : Option Answer) (end : Option ℕ) → is_some end ≡ has_end answer
        → when_some (when_some end None (λ n. when_some answer None
        (λ (a : Answer). Some (record { entry = n; version = l.version; answer = a })))) false
        (λ (e : CallEnd). is_refused e.answer) ≡ false
        → when_some answer false is_refused ≡ false
    by None end e r = refl
    by (Some a) None e r = doubt_not_refused a (not-false (is_doubt a) (sym e))
    by (Some a) (Some n) e r = r

on_from : (key : List ℕ) (op : Op) → key_of op ≡ Some key → is_on key op ≡ true
on_from key op e = ap (λ (o : Option (List ℕ)). when_some o false (λ k. same_text k key)) e ∙ same_text_self key

call_kept : (b : Block) → IsBlock b → (key : List ℕ) (x : ItemLine)
    → IsCallBy (account_of b) key (item_told b.calls x)
    → when_some (call_at b.calls x.caller) false (λ (l : CallLine). is_on key l.op && not (is_refused_call l)) ≡ true
call_kept b valid key x c = by (call_at b.calls x.caller) refl c.begun c.on_key c.not_refused
  where
    by : (o : Option CallLine) → call_at b.calls x.caller ≡ o
        → is_some (option_map (λ (l : CallLine). l.begin) o) ≡ true
        → key_of (when_some o (Search []) (λ (l : CallLine). l.op)) ≡ Some key
        → when_some (when_some o None end_told) false (λ (e : CallEnd). is_refused e.answer) ≡ false
        → when_some o false (λ (l : CallLine). is_on key l.op && not (is_refused_call l)) ≡ true
    by None q begun on_key not_refused = absurd (false≢true begun)
    by (Some l) q begun on_key not_refused =
        let f = found_in (λ (m : CallLine). same_caller m.caller x.caller) b.calls l q in
        and_from (is_on key l.op) (not (is_refused_call l)) (on_from key l.op on_key)
        (not_from_false (is_refused_call l) (refused_from l (all_in (IsCallOf b.space) b.calls valid.calls l f.0).ended not_refused))

known_kept : (b : Block) → IsBlock b → (h : HistoryLines) → EachOnce (Told b h.items)
    → ((x : Item) → IsIn x (Told b h.items) → IsCallBy (account_of b) h.key x) → (k : ℕ) → IsKnown b h k
known_kept b valid h once calls k =
    by (slice_get h.items k) (at_places (item_told b.calls) OnceBy h.items (once_along (Told b h.items) once) k)
    (at_places (item_told b.calls) (λ older x. IsCallBy (account_of b) h.key x) h.items (each_along (IsCallBy (account_of b) h.key) (Told b h.items) calls) k)
  where
    by : (o : Option ItemLine) → IfSome o (λ x. OnceBy (Told b (take k h.items)) (item_told b.calls x))
        → IfSome o (λ x. IsCallBy (account_of b) h.key (item_told b.calls x))
        → IfSome o (λ (x : ItemLine). is_known b.calls h.key (take k h.items) x ≡ true)
    by None f g = tt
    by (Some x) f g =
        and_from (when_some (call_at b.calls x.caller) false
        (λ (l : CallLine). is_on h.key l.op && not (is_refused_call l)))
        (not (list_any (λ (y : ItemLine). same_caller y.caller x.caller) (take k h.items)))
        (call_kept b valid h.key x g)
        (not_from_false (list_any (λ (y : ItemLine). same_caller y.caller x.caller) (take k h.items))
        (false_from_ne_true (list_any (λ (y : ItemLine). same_caller y.caller x.caller) (take k h.items))
        (λ t. let r = any_has (λ (y : ItemLine). same_caller y.caller x.caller) (take k h.items) t in
        f (item_told b.calls r.0) (to_told b r.0 (take k h.items) r.1) (one_caller r.0.caller x.caller r.2))))

-- ---- order

before_second : (y z : Item) (xs : List Item) → IsBefore y z xs → IsIn z xs
before_second y z [] i = absurd i
before_second y z (w ∷ xs) (inl p) = inr p.1
before_second y z (w ∷ xs) (inr b) = inr (before_second y z xs b)

abbrev InOrder : Block → List Item → Type 0
InOrder b items = (x y : Item) (n : ℕ) → IsIn x items → IsIn y items → x.caller ≢ y.caller
    → (account_of b).begin_of y.caller ≡ Some n → ended_before (account_of b) x.caller n ≡ true → IsBefore y x items

timely_along : (b : Block) (items : List Item) → EachOnce items → InOrder b items → Along (TimelyBy b) items
timely_along b [] o h = tt
timely_along b (z ∷ older) o h = (here, timely_along b older o.1 rest)
  where
    rest : InOrder b older
    rest x y n i j apart begin ended = by (h x y n (inr i) (inr j) apart begin ended)
      where
        by : ((y ≡ z) × IsIn x older) ⊎ IsBefore y x older → IsBefore y x older
        by (inl p) = absurd (o.0 y j (ap (λ (w : Item). w.caller) p.0))
        by (inr w) = w

    here : TimelyBy b older z
    here y n i begin ended = by (h z y n (inl refl) (inr i) (λ e. o.0 y i (sym e)) begin ended)
      where
        by : ((y ≡ z) × IsIn z older) ⊎ IsBefore y z older → ⊥
        by (inl p) = o.0 y i (ap (λ (w : Item). w.caller) p.0)
        by (inr w) = o.0 z (before_second y z older w) refl

in_time_kept : (b : Block) (h : HistoryLines) → Along (TimelyBy b) (Told b h.items) → (k : ℕ) → IsInTime b h k
in_time_kept b h timely k = by (slice_get h.items k) (at_places (item_told b.calls) (TimelyBy b) h.items timely k)
  where
    late : (x y : ItemLine) → TimelyBy b (Told b (take k h.items)) (item_told b.calls x) → IsIn y (take k h.items)
        → ended_before_begin (account_of b) x.caller y.caller ≡ true → ⊥
    late x y f i t = at ((account_of b).begin_of y.caller) refl t
      where
        at : (o : Option ℕ) → (account_of b).begin_of y.caller ≡ o → when_some o false (ended_before (account_of b) x.caller) ≡ true → ⊥
        at None q e = false≢true e
        at (Some n) q e = f (item_told b.calls y) n (to_told b y (take k h.items) i) q e

    by : (o : Option ItemLine) → IfSome o (λ x. TimelyBy b (Told b (take k h.items)) (item_told b.calls x))
        → IfSome o (λ (x : ItemLine). is_in_time (account_of b) (take k h.items) x ≡ true)
    by None f = tt
    by (Some x) f =
        not_from_false (list_any (λ (y : ItemLine). ended_before_begin (account_of b) x.caller y.caller) (take k h.items))
        (false_from_ne_true (list_any (λ (y : ItemLine). ended_before_begin (account_of b) x.caller y.caller) (take k h.items))
        (λ t. let r = any_has (λ (y : ItemLine). ended_before_begin (account_of b) x.caller y.caller) (take k h.items) t in late x r.0 f r.1 r.2))

-- ---- missing

missing_kept : (b : Block) → IsBlock b → ((key : List ℕ) → IsLinearBy (account_of b) b.space key) → (l : CallLine) → IsIn l b.calls → HasItem b l
missing_kept b valid linear l i key e k q fits =
    let at = own_call None b.calls valid.calls_ascend l i in
    let u : IsAnsweredBy (account_of b) key l.caller e.answer = record {
      op = l.op;
      called = ap (option_map (λ (m : CallLine). m.op)) at;
      on_key = k;
      entry = e.entry;
      version = e.version;
      ended = ap (λ (o : Option CallLine). when_some o None end_told) at ∙ q;
      not_refused = fits;
    } in
    let r = (linear key).answered_once l.caller e.answer u in
    let z = in_told b r.0 (items_at b.histories key) r.1 in
    record { item = z.0; stands = z.1; of_caller = sym (ap (λ (x : Item). x.caller) z.2) ∙ r.2; answered = sym (ap (λ (x : Item). x.answer) z.2) ∙ r.3 }

-- ---- true

above_kept : (rows : List Row) (k : ℕ) (r : Row) → keys_ascend (map (λ (x : Row). x.key) rows) ≡ true
    → slice_get rows k ≡ Some r → is_above (row_above rows k) r.key ≡ true
above_kept rows zero r up e = refl
above_kept [] (suc k) r up e = absurd (cc)
above_kept (x ∷ []) (suc k) r up e = absurd (cc)
above_kept (x ∷ (y ∷ rows)) (suc zero) r up e =
    let parts = and_parts (list_all (text_below x.key) (map (λ (z : Row). z.key) (y ∷ rows))) (keys_ascend (map (λ (z : Row). z.key) (y ∷ rows))) up in
    let first = and_parts (text_below x.key y.key) (list_all (text_below x.key) (map (λ (z : Row). z.key) rows)) parts.0 in
    let q : y ≡ r = cc in
    ap (λ (z : Row). text_below x.key z.key) (sym q) ∙ first.0
above_kept (x ∷ (y ∷ rows)) (suc (suc k)) r up e =
    let parts = and_parts (list_all (text_below x.key) (map (λ (z : Row). z.key) (y ∷ rows))) (keys_ascend (map (λ (z : Row). z.key) (y ∷ rows))) up in
    above_kept (y ∷ rows) (suc k) r parts.1 e

true_kept : (b : Block) (l : CallLine) → ((s : FinishedSearch) → search_told l ≡ Some s → IsSearchTrueBy (account_of b) s) → (k : ℕ) → IsTrueAt b l k
true_kept b l all k s e = by (slice_get s.rows k) refl (all s e)
  where
    by : (o : Option Row) → slice_get s.rows k ≡ o → IsSearchTrueBy (account_of b) s → IfSome o (IsRowOf (account_of b) s (row_above s.rows k))
    by None q t = tt
    by (Some r) q t = record { true_row = t.rows r (in-slice_get s.rows k r q); in_order = above_kept s.rows k r t.in_order q }

-- ---- all clauses

history_is : (b : Block) → IsBlock b → (h : HistoryLines) → IsIn h b.histories → IsLinearBy (account_of b) b.space h.key → LinearLines b h.key h.items
history_is b valid h i linear =
    subst (LinearLines b h.key) (own_items b.histories valid.histories_ascend h i)
    (record { legal = linear.legal; calls = linear.honest.calls; once = linear.honest.once; in_order = linear.in_order })

pub calls_keep : (b : Block) → IsBlock b → IsConsistent b → (clause : Clause) (l : CallLine) → IsIn l b.calls → (place : ℕ) → KeepsInCall clause b l place
calls_keep b valid c clauses.Foreign l i place = tt
calls_keep b valid c clauses.Legal l i place = tt
calls_keep b valid c clauses.Missing l i zero = missing_kept b valid c.linear l i
calls_keep b valid c clauses.Missing l i (suc k) = tt
calls_keep b valid c clauses.Order l i place = tt
calls_keep b valid c clauses.Whole l i zero = λ key s e. c.whole l s i e key
calls_keep b valid c clauses.Whole l i (suc k) = tt
calls_keep b valid c clauses.True l i zero = tt
calls_keep b valid c clauses.True l i (suc k) = true_kept b l (λ s e. c.true_rows l s i e) k

pub histories_keep : (b : Block) → IsBlock b → IsConsistent b → (clause : Clause) (h : HistoryLines)
    → IsIn h b.histories → (place : ℕ) → KeepsInHistory clause b h place
histories_keep b valid c clauses.Foreign h i zero = tt
histories_keep b valid c clauses.Foreign h i (suc k) = let lines = history_is b valid h i (c.linear h.key) in known_kept b valid h lines.once lines.calls k
histories_keep b valid c clauses.Legal h i zero = tt
histories_keep b valid c clauses.Legal h i (suc k) = legal_kept b h (history_is b valid h i (c.linear h.key)).legal k
histories_keep b valid c clauses.Missing h i place = tt
histories_keep b valid c clauses.Order h i zero = tt
histories_keep b valid c clauses.Order h i (suc k) = let lines = history_is b valid h i (c.linear h.key) in
    in_time_kept b h (timely_along b (Told b h.items) lines.once lines.in_order) k
histories_keep b valid c clauses.Whole h i place = tt
histories_keep b valid c clauses.True h i place = tt

-- ---- pieces of a report

in_either : {A : Type 0} (x : A) (xs ys : List A) → IsIn x (xs ++ ys) → IsIn x xs ⊎ IsIn x ys
in_either x [] ys i = inr i
in_either x (y ∷ xs) ys (inl e) = inl (inl e)
in_either {A} x (y ∷ xs) ys (inr i) = by (in_either x xs ys i)
  where
    by : IsIn x xs ⊎ IsIn x ys → IsIn x (y ∷ xs) ⊎ IsIn x ys
    by (inl j) = inl (inr j)
    by (inr j) = inr j

module _ (clause : Clause) where
  abbrev Holds : List Placed → Type 0
  Holds ps = (p : Placed) → IsIn p ps → (place : ℕ) → KeepsInPiece clause p.block p.piece place

  both : (xs ys : List Placed) → Holds xs → Holds ys → Holds (xs ++ ys)
  both xs ys f g p i place = by (in_either p xs ys i)
    where
      by : IsIn p xs ⊎ IsIn p ys → KeepsInPiece clause p.block p.piece place
      by (inl j) = f p j place
      by (inr j) = g p j place

  for_calls : (b : Block) (line : ℕ) (calls : List CallLine)
      → ((l : CallLine) → IsIn l calls → (place : ℕ) → KeepsInCall clause b l place) → Holds (calls_from b line calls)
  for_calls b line [] h p i place = absurd i
  for_calls b line (x ∷ rest) h p (inl e) place = subst (λ (q : Placed). KeepsInPiece clause q.block q.piece place) (sym e) (h x (inl refl) place)
  for_calls b line (x ∷ rest) h p (inr i) place = for_calls b (line + call_lines x) rest (λ l j. h l (inr j)) p i place

  for_histories : (b : Block) (line : ℕ) (histories : List HistoryLines)
      → ((h : HistoryLines) → IsIn h histories → (place : ℕ) → KeepsInHistory clause b h place)
      → Holds (histories_from b line histories)
  for_histories b line [] h p i place = absurd i
  for_histories b line (x ∷ rest) h p (inl e) place = subst (λ (q : Placed). KeepsInPiece clause q.block q.piece place) (sym e) (h x (inl refl) place)
  for_histories b line (x ∷ rest) h p (inr i) place = for_histories b (line + history_lines x) rest (λ l j. h l (inr j)) p i place

  for_blocks : (line : ℕ) (blocks : List Block) → ((b : Block) → IsIn b blocks → IsBlock b × IsConsistent b) → Holds (blocks_from line blocks)
  for_blocks line [] h = λ p i place. absurd i
  for_blocks line (b ∷ rest) h =
      let c = h b (inl refl) in
      let first = line + space_lines b.space in
      both (block_from b line) (blocks_from (line + block_lines b) rest)
      (both (calls_from b first b.calls) (histories_from b (first + lines_of_calls b.calls) b.histories)
      (for_calls b first b.calls (calls_keep b c.0 c.1 clause))
      (for_histories b (first + lines_of_calls b.calls) b.histories (histories_keep b c.0 c.1 clause)))
      (for_blocks (line + block_lines b) rest (λ x j. h x (inr j)))

pub consistent_keeps : (r : ReportValue) → IsReportValue r → ((b : Block) → IsIn b r.blocks → IsConsistent b) → IsVerdict r verdicts.Yes
consistent_keeps r valid all clause = for_blocks clause 2 r.blocks (λ b i. (all_in IsBlock r.blocks valid.blocks b i, all b i))
