-- A block whose lines keep every clause is consistent.
use Rattle.hx_law_lemmas.proofs.Lemmas.Vocabulary.{[], and_from, and_parts, Answer, ap, Bool, CallEnd, Caller, EachOnce, false, false≢true, find}
use Rattle.hx_law_lemmas.proofs.Lemmas.Vocabulary.{FinishedSearch, IfSome, inl, inr, is_refused, IsBefore, IsEffect, IsIn, IsLegal, Item, key_of, keys_ascend}
use Rattle.hx_law_lemmas.proofs.Lemmas.Vocabulary.{List, list_all, list_any, map, None, not, not-true, object_now, Op, Option, option_map, or_left, or_right}
use Rattle.hx_law_lemmas.proofs.Lemmas.Vocabulary.{refl, reverse, Row, same_text, Search, slice_get, slice_get-map, Some, subst, suc, sym, take, text_below}
use Rattle.hx_law_lemmas.proofs.Lemmas.Vocabulary.{true, when_some, zero, ℕ, ◌&&◌, ◌∙◌, ◌∷◌, ◌≡◌, ◌≢◌, ◌⊎◌}
use Rattle.hx_law_lemmas.proofs.Lemmas.{in-map, in-reverse, map-in, of-reverse}
use Rattle.std.specs.Option.{is_some}
use Rattle.hx_types.proofs.Lemmas.{text_below-trans}
use Rattle.hx_report_lines.specs.declared.blocks.Block.{Block}
use Rattle.hx_report_lines.specs.declared.calls.CallLine.{CallLine}
use Rattle.hx_report_lines.specs.declared.histories.HistoryLines.{HistoryLines}
use Rattle.hx_report_lines.specs.declared.histories.ItemLine.{ItemLine}
use Rattle.hx_audit.specs.Accounts.{IsAnsweredBy, IsCallBy, IsSearchTrueBy, IsTrueRowBy, ended_before}
use Rattle.hx_audit.specs.Clauses.{HasItem, IsEffectOfCall, IsInTime, IsKnown, IsRowOf, IsTrueAt, ended_before_begin, is_above, is_in_time, is_known, is_on}
use Rattle.hx_audit.specs.Clauses.{is_refused_call, row_above}
use Rattle.hx_audit.specs.Told.{account_of, call_at, end_told, item_told, items_at, op_told, same_caller, search_told}
use Rattle.hx_audit.proofs.Lemmas.{one_caller, same_self, one_key, found_in}
use Rattle.hx_law_audit.proofs.Along.{Along, along_all, along_each, along_legal, along_once, along_part}

-- ---- lists

any_in : {A : Type 0} (p : A → Bool) (x : A) (xs : List A) → IsIn x xs → p x ≡ true → list_any p xs ≡ true
any_in p x [] i t = absurd i
any_in p x (y ∷ xs) (inl e) t = or_left (p y) (list_any p xs) (ap p (sym e) ∙ t)
any_in p x (y ∷ xs) (inr i) t = or_right (p y) (list_any p xs) (any_in p x xs i t)

take_map : {A B : Type 0} (f : A → B) (k : ℕ) (xs : List A) → take k (map f xs) ≡ map f (take k xs)
take_map f zero xs = refl
take_map f (suc k) [] = refl
take_map {A} {B} f (suc k) (x ∷ xs) = ap (λ (l : List B). f x ∷ l) (take_map f k xs)

-- ---- a history

abbrev pub Told : Block → List ItemLine → List Item
Told b xs = reverse (map (item_told b.calls) xs)

pub in_told : (b : Block) (y : Item) (xs : List ItemLine) → IsIn y (Told b xs) → (x : ItemLine) × IsIn x xs × (y ≡ item_told b.calls x)
in_told b y xs i = in-map (item_told b.calls) xs y (of-reverse (map (item_told b.calls) xs) y i)

-- each item is the effect of its call
legal_lines : (b : Block) (h : HistoryLines) → ((k : ℕ) → IsEffectOfCall b h k) → Along (λ older x. IsEffect b.space (object_now older) x) (Told b h.items)
legal_lines b h all = along_all (item_told b.calls) (λ older x. IsEffect b.space (object_now older) x) h.items
    (λ k. at k (slice_get h.items k) (slice_get-map (item_told b.calls) h.items k) (all k))
  where
    at : (k : ℕ) (o : Option ItemLine) → slice_get (map (item_told b.calls) h.items) k
        ≡ option_map (item_told b.calls) o → IfSome (slice_get (map (item_told b.calls) h.items) k)
        (IsEffect b.space (object_now (reverse (take k (map (item_told b.calls) h.items)))))
        → IfSome o (λ x. IsEffect b.space (object_now (reverse (map (item_told b.calls) (take k h.items)))) (item_told b.calls x))
    at k None e f = tt
    at k (Some x) e f =
        subst (λ (l : List Item). IsEffect b.space (object_now (reverse l)) (item_told b.calls x)) (take_map (item_told b.calls) k h.items)
        (subst (λ o. IfSome o (IsEffect b.space (object_now (reverse (take k (map (item_told b.calls) h.items)))))) e f)

-- what is known of an item: its call, and that no other item has it
record KnownBy (b : Block) (key : List ℕ) (older : List Item) (x : Item) : Type 0 where
  call : IsCallBy (account_of b) key x
  once : (y : Item) → IsIn y older → y.caller ≡ x.caller → ⊥

refused_told : (l : CallLine) → is_refused_call l ≡ false → when_some (end_told l) false (λ (e : CallEnd). is_refused e.answer) ≡ false
refused_told l r = by_end l.end
  where
    by_answer : (n : ℕ) (o : Option Answer) → when_some o false is_refused ≡ false
        → when_some (when_some o None (λ (a : Answer). Some (record { entry = n; version = l.version; answer = a })))
        false (λ (e : CallEnd). is_refused e.answer) ≡ false
    by_answer n None q = refl
    by_answer n (Some a) q = q

    by_end : (o : Option ℕ) → when_some (when_some o None
        (λ n. when_some l.answer None (λ (a : Answer). Some (record { entry = n; version = l.version; answer = a }))))
        false (λ (e : CallEnd). is_refused e.answer) ≡ false
    by_end None = refl
    by_end (Some n) = by_answer n l.answer r

on_told : (key : List ℕ) (op : Op) → is_on key op ≡ true → key_of op ≡ Some key
on_told key op t = by (key_of op) t
  where
    by : (o : Option (List ℕ)) → when_some o false (λ k. same_text k key) ≡ true → o ≡ Some key
    by None q = absurd (false≢true q)
    by (Some k) q = ap Some (one_key k key q)

call_told : (b : Block) (key : List ℕ) (x : ItemLine)
    → when_some (call_at b.calls x.caller) false (λ (l : CallLine). is_on key l.op && not (is_refused_call l)) ≡ true
    → IsCallBy (account_of b) key (item_told b.calls x)
call_told b key x t = by (call_at b.calls x.caller) refl t
  where
    by : (o : Option CallLine) → call_at b.calls x.caller ≡ o
        → when_some o false (λ (l : CallLine). is_on key l.op && not (is_refused_call l)) ≡ true
        → IsCallBy (account_of b) key (item_told b.calls x)
    by None q u = absurd (false≢true u)
    by (Some l) q u =
        let parts = and_parts (is_on key l.op) (not (is_refused_call l)) u in
        record {
          begun = ap (λ (o : Option CallLine). is_some (option_map (λ (m : CallLine). m.begin) o)) q;
          called = ap (option_map (λ (m : CallLine). m.op)) q ∙ ap Some (sym (op_is q));
          on_key = ap key_of (op_is q) ∙ on_told key l.op parts.0;
          not_refused = ap (λ (o : Option CallLine). when_some (when_some o None end_told) false
              (λ (e : CallEnd). is_refused e.answer)) q ∙ refused_told l (not-true (is_refused_call l) parts.1);
        }
      where
        op_is : call_at b.calls x.caller ≡ Some l → op_told b.calls x.caller ≡ l.op
        op_is z = ap (λ (o : Option CallLine). when_some o (Search []) (λ (m : CallLine). m.op)) z

known_lines : (b : Block) (h : HistoryLines) → ((k : ℕ) → IsKnown b h k) → Along (KnownBy b h.key) (Told b h.items)
known_lines b h all = along_all (item_told b.calls) (KnownBy b h.key) h.items (λ k. at k (slice_get h.items k) (all k))
  where
    known : (k : ℕ) (x : ItemLine) → is_known b.calls h.key (take k h.items) x ≡ true → KnownBy b h.key (Told b (take k h.items)) (item_told b.calls x)
    known k x t =
        let parts = and_parts (when_some (call_at b.calls x.caller) false
        (λ (l : CallLine). is_on h.key l.op && not (is_refused_call l)))
        (not (list_any (λ (y : ItemLine). same_caller y.caller x.caller) (take k h.items))) t in
        record {
          call = call_told b h.key x parts.0;
          once = λ y i e. (let z = in_told b y (take k h.items) i in
              false≢true (sym (not-true (list_any (λ (w : ItemLine). same_caller w.caller x.caller) (take k h.items)) parts.1)
              ∙ any_in (λ (w : ItemLine). same_caller w.caller x.caller) z.0 (take k h.items) z.1
              (same_self z.0.caller x.caller (sym (ap (λ (w : Item). w.caller) z.2) ∙ e))));
        }

    at : (k : ℕ) (o : Option ItemLine) → IfSome o (λ (x : ItemLine). is_known b.calls h.key (take k h.items) x ≡ true)
        → IfSome o (λ (x : ItemLine). KnownBy b h.key (Told b (take k h.items)) (item_told b.calls x))
    at k None f = tt
    at k (Some x) f = known k x f

-- no call of an older item began after this one's had ended
abbrev pub TimelyBy : Block → List Item → Item → Type 0
TimelyBy b older x = (y : Item) (n : ℕ) → IsIn y older → (account_of b).begin_of y.caller ≡ Some n → ended_before (account_of b) x.caller n ≡ true → ⊥

timely_lines : (b : Block) (h : HistoryLines) → ((k : ℕ) → IsInTime b h k) → Along (TimelyBy b) (Told b h.items)
timely_lines b h all = along_all (item_told b.calls) (TimelyBy b) h.items (λ k. at k (slice_get h.items k) (all k))
  where
    timely : (k : ℕ) (x : ItemLine) → is_in_time (account_of b) (take k h.items) x ≡ true → TimelyBy b (Told b (take k h.items)) (item_told b.calls x)
    timely k x t y n i begin ended =
        let z = in_told b y (take k h.items) i in
        let same : y.caller ≡ z.0.caller = ap (λ (w : Item). w.caller) z.2 in
        false≢true (sym (not-true (list_any (λ (w : ItemLine). ended_before_begin (account_of b) x.caller w.caller) (take k h.items)) t)
        ∙ any_in (λ (w : ItemLine). ended_before_begin (account_of b) x.caller w.caller) z.0 (take k h.items) z.1
        (ap (λ (o : Option ℕ). when_some o false (ended_before (account_of b) x.caller)) (ap (account_of b).begin_of (sym same) ∙ begin) ∙ ended))

    at : (k : ℕ) (o : Option ItemLine) → IfSome o (λ (x : ItemLine). is_in_time (account_of b) (take k h.items) x
        ≡ true) → IfSome o (λ (x : ItemLine). TimelyBy b (Told b (take k h.items)) (item_told b.calls x))
    at k None f = tt
    at k (Some x) f = timely k x f

-- calls that ended before others began stand before them
in_order : (b : Block) (items : List Item) → Along (TimelyBy b) items → (x y : Item) (n : ℕ) → IsIn x items
    → IsIn y items → x.caller ≢ y.caller → (account_of b).begin_of y.caller ≡ Some n
    → ended_before (account_of b) x.caller n ≡ true → IsBefore y x items
in_order b [] h x y n i j apart begin ended = absurd i
in_order b (z ∷ older) h x y n (inl e) (inl f) apart begin ended = absurd (apart (ap (λ (w : Item). w.caller) (e ∙ sym f)))
in_order b (z ∷ older) h x y n (inl e) (inr j) apart begin ended =
    absurd (h.0 y n j begin (ap (λ (w : Item). ended_before (account_of b) w.caller n) (sym e) ∙ ended))
in_order b (z ∷ older) h x y n (inr i) (inl f) apart begin ended = inl (f, i)
in_order b (z ∷ older) h x y n (inr i) (inr j) apart begin ended = inr (in_order b older h.1 x y n i j apart begin ended)

-- what holds of each history holds of each key's
pub at_key : (b : Block) (Q : List ℕ → List ItemLine → Type 0) → ((key : List ℕ) → Q key [])
    → ((h : HistoryLines) → IsIn h b.histories → Q h.key h.items) → (key : List ℕ) → Q key (items_at b.histories key)
at_key b Q none each key = by (find (λ (h : HistoryLines). same_text h.key key) b.histories) refl
  where
    by : (o : Option HistoryLines) → find (λ (h : HistoryLines). same_text h.key key) b.histories ≡ o → Q key (when_some o [] (λ (h : HistoryLines). h.items))
    by None q = none key
    by (Some h) q = let f = found_in (λ (x : HistoryLines). same_text x.key key) b.histories h q in
        subst (λ k. Q k h.items) (one_key h.key key f.1) (each h f.0)

-- an answered call stands in its history
pub answered : (b : Block) → ((l : CallLine) → IsIn l b.calls → HasItem b l)
    → (key : List ℕ) (c : Caller) (answer : Answer) → IsAnsweredBy (account_of b) key c answer
    → (x : Item) × IsIn x ((account_of b).history_of key) × (x.caller ≡ c) × (x.answer ≡ answer)
answered b has key c answer u = by (call_at b.calls c) refl u.called u.ended
  where
    by : (o : Option CallLine) → call_at b.calls c ≡ o → option_map (λ (l : CallLine). l.op) o ≡ Some u.op
        → when_some o None end_told ≡ Some (record { entry = u.entry; version = u.version; answer = answer })
        → (x : Item) × IsIn x (Told b (items_at b.histories key)) × (x.caller ≡ c) × (x.answer ≡ answer)
    by None q called ended = absurd (cc)
    by (Some l) q called ended =
        let f = found_in (λ (m : CallLine). same_caller m.caller c) b.calls l q in
        let op : l.op ≡ u.op = cc in
        let item = has l f.0 key (record { entry = u.entry; version = u.version; answer = answer }) (ap key_of op ∙ u.on_key) ended u.not_refused in (
          item_told b.calls item.item,
          in-reverse (map (item_told b.calls) (items_at b.histories key))
              (item_told b.calls item.item) (map-in (item_told b.calls)
              (items_at b.histories key) item.item item.stands),
          item.of_caller ∙ one_caller l.caller c f.1,
          item.answered,
        )

-- rows ascend where each stands above the one before
abbrev above_at : Option Row → List Row → ℕ → Option Row
above_at above rows zero = above
above_at above rows (suc k) = slice_get rows k

abbrev Rising : Option Row → List Row → Type 0
Rising above rows = (k : ℕ) → IfSome (slice_get rows k) (λ (x : Row). is_above (above_at above rows k) x.key ≡ true)

next_rising : (above : Option Row) (r : Row) (rows : List Row) → Rising above (r ∷ rows) → Rising (Some r) rows
next_rising above r rows h zero = h (suc zero)
next_rising above r rows h (suc k) = h (suc (suc k))

all_above : (key : List ℕ) (r : Row) (rows : List Row) → (key ≡ r.key) ⊎ (text_below key r.key ≡ true)
    → Rising (Some r) rows → list_all (text_below key) (map (λ (x : Row). x.key) rows) ≡ true
all_above key r [] low h = refl
all_above key r (x ∷ rows) low h =
    and_from (text_below key x.key) (list_all (text_below key) (map (λ (y : Row). y.key) rows)) (first low)
    (all_above key x rows (inr (first low)) (next_rising (Some r) x rows h))
  where
    first : (key ≡ r.key) ⊎ (text_below key r.key ≡ true) → text_below key x.key ≡ true
    first (inl e) = ap (λ k. text_below k x.key) e ∙ h zero
    first (inr l) = text_below-trans key r.key x.key l (h zero)

rows_ascend : (above : Option Row) (rows : List Row) → Rising above rows → keys_ascend (map (λ (x : Row). x.key) rows) ≡ true
rows_ascend above [] h = refl
rows_ascend above (r ∷ rows) h =
    and_from (list_all (text_below r.key) (map (λ (x : Row). x.key) rows)) (keys_ascend (map (λ (x : Row). x.key) rows))
    (all_above r.key r rows (inl refl) (next_rising above r rows h)) (rows_ascend (Some r) rows (next_rising above r rows h))

-- what stands in a list stands at a place
place_in : {A : Type 0} (P : A → Type 0) (x : A) (xs : List A) → IsIn x xs → ((k : ℕ) → IfSome (slice_get xs k) P) → P x
place_in P x [] i h = absurd i
place_in P x (y ∷ xs) (inl e) h = subst P (sym e) (h zero)
place_in P x (y ∷ xs) (inr i) h = place_in P x xs i (λ k. h (suc k))

pub true_search : (b : Block) (l : CallLine) (s : FinishedSearch) → search_told l ≡ Some s → ((k : ℕ) → IsTrueAt b l k) → IsSearchTrueBy (account_of b) s
true_search b l s e all =
    record {
      rows = λ r i. place_in (IsTrueRowBy (account_of b) s) r s.rows i (λ k. row (slice_get s.rows k) k (all k s e));
      in_order = rows_ascend None s.rows rising;
    }
  where
    row : (o : Option Row) (k : ℕ) → IfSome o (IsRowOf (account_of b) s (row_above s.rows k)) → IfSome o (IsTrueRowBy (account_of b) s)
    row None k h = tt
    row (Some r) k h = h.true_row

    order : (o above : Option Row) → IfSome o (IsRowOf (account_of b) s above) → IfSome o (λ (x : Row). is_above above x.key ≡ true)
    order None above h = tt
    order (Some r) above h = h.in_order

    rising : Rising None s.rows
    rising zero = order (slice_get s.rows zero) None (all zero s e)
    rising (suc k) = order (slice_get s.rows (suc k)) (slice_get s.rows k) (all (suc k) s e)

-- what is said of the lines of one history
pub record LinearLines (b : Block) (key : List ℕ) (xs : List ItemLine) : Type 0 where
  pub legal : IsLegal b.space (Told b xs)
  pub calls : (x : Item) → IsIn x (Told b xs) → IsCallBy (account_of b) key x
  pub once : EachOnce (Told b xs)
  pub in_order : (x y : Item) (n : ℕ) → IsIn x (Told b xs) → IsIn y (Told b xs) → x.caller ≢ y.caller
      → (account_of b).begin_of y.caller ≡ Some n → ended_before (account_of b) x.caller n ≡ true → IsBefore y x (Told b xs)

pub no_lines : (b : Block) (key : List ℕ) → LinearLines b key []
no_lines b key = record { legal = tt; calls = λ x i. absurd i; once = tt; in_order = λ x y n i j apart begin ended. absurd i }

pub linear_at : (b : Block) (h : HistoryLines) → ((k : ℕ) → IsKnown b h k) → ((k : ℕ) → IsEffectOfCall b h k)
    → ((k : ℕ) → IsInTime b h k) → LinearLines b h.key h.items
linear_at b h known legal order =
    record {
      legal = along_legal b.space (Told b h.items) (legal_lines b h legal);
      calls = along_each (IsCallBy (account_of b) h.key) (Told b h.items)
          (along_part (KnownBy b h.key) (λ older x. IsCallBy (account_of b) h.key x) (λ older x k. k.call)
          (Told b h.items) (known_lines b h known));
      once = along_once (Told b h.items) (along_part (KnownBy b h.key)
          (λ older x. (y : Item) → IsIn y older → y.caller ≡ x.caller → ⊥) (λ older x k. k.once) (Told b h.items)
          (known_lines b h known));
      in_order = in_order b (Told b h.items) (timely_lines b h order);
    }
