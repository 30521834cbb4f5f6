-- What a report of a run tells of calls and histories is what the run tells.
use Rattle.hx_law_lemmas.proofs.Lemmas.Vocabulary.{[], ap, begin_of, Bool, call_of, CallEnd, Caller, cond, end_of, Entry, false, false≢true, find, history_of}
use Rattle.hx_law_lemmas.proofs.Lemmas.Vocabulary.{inl, inr, IsCall, IsIn, IsLinear, IsSome, Item, List, map, None, note_of_end, Op, Option, option_map}
use Rattle.hx_law_lemmas.proofs.Lemmas.Vocabulary.{record_at, refl, reverse, reverse-reverse, same_text, same_text_self, Script, Search, Some, subst, sym}
use Rattle.hx_law_lemmas.proofs.Lemmas.Vocabulary.{TraceFits, true, when_some, ℕ, ◌∙◌, ◌∷◌, ◌≡◌, ◌≢◌}
use Rattle.hx_history.specs.declared.key_histories.KeyHistory.{KeyHistory}
use Rattle.hx_history.specs.Listed.{AreHistories, IsHistory, keys_of_histories}
use Rattle.hx_law_lemmas.proofs.Lemmas.{all-in, of-reverse, began_at, begin_is, ended_at}
use Rattle.hx_report_lines.specs.declared.blocks.Block.{Block}
use Rattle.hx_report_lines.specs.declared.calls.CallLine.{CallLine}
use Rattle.hx_report_lines.specs.declared.histories.HistoryLines.{HistoryLines}
use Rattle.hx_audit.specs.Told.{account_of, call_at, end_told, item_told, items_at, op_told}
use Rattle.hx_audit.proofs.Lemmas.{one_key}
use Rattle.hx_law_audit.specs.Meaning.{run_account}
use Rattle.hx_law_audit.proofs.RunLines.{call_line, call_lines, history_lines, item_line, line_end, line_is, sure}
use Rattle.hx_law_audit.proofs.RunNotes.{began_called, ended_began}
use Rattle.hx_law_audit.proofs.RunTold.{IsTold}
use Rattle.hx_law_audit.proofs.SameAccounts.{SameAccounts, stop_of}

module _ (script : Script) (trace : List Entry) (fits : TraceFits script trace) (listed : List KeyHistory)
    (histories : AreHistories script trace listed) (linear : (key : List ℕ) → IsLinear script trace key)
    (told : (key : List ℕ) (x : Item) → IsIn x (history_of script key trace) → IsTold x) where
  module _ (b : Block) (calls_are : b.calls ≡ call_lines script trace) (histories_are : b.histories ≡ map history_lines listed) where
    -- the line of a caller
    at : (c : Caller) → call_at b.calls c ≡ option_map (λ n. call_line script (record_at c trace n)) (begin_of c trace)
    at c = ap (λ calls. call_at calls c) calls_are ∙ line_is script trace fits c

    -- ---- begins and operations

    begin : (c : Caller) → begin_of c trace ≡ (account_of b).begin_of c
    begin c = sym (ap (option_map (λ (l : CallLine). l.begin)) (at c) ∙ by (begin_of c trace))
      where
        by : (o : Option ℕ) → option_map (λ (l : CallLine). l.begin) (option_map (λ n. call_line script (record_at c trace n)) o) ≡ o
        by None = refl
        by (Some n) = refl

    op_is : (c : Caller) (n : ℕ) → begin_of c trace ≡ Some n → (account_of b).op_of c ≡ call_of script c
    op_is c n e =
        let called = began_called script trace fits c n (began_at c trace n e) in
        ap (option_map (λ (l : CallLine). l.op)) (at c ∙ ap (option_map (λ m. call_line script (record_at c trace m))) e)
        ∙ ap (λ o. Some (when_some o (Search []) (λ (op : Op). op))) called.1 ∙ sym called.1

    op_on : (c : Caller) (op : Op) → IsSome (begin_of c trace) → call_of script c ≡ Some op → (account_of b).op_of c ≡ Some op
    op_on c op some e = by (begin_of c trace) refl some
      where
        by : (o : Option ℕ) → begin_of c trace ≡ o → IsSome o → (account_of b).op_of c ≡ Some op
        by None q s = absurd (cc)
        by (Some n) q s = op_is c n q ∙ e

    op_back : (c : Caller) (op : Op) → (account_of b).op_of c ≡ Some op → call_of script c ≡ Some op
    op_back c op e = by (begin_of c trace) refl
      where
        by : (o : Option ℕ) → begin_of c trace ≡ o → call_of script c ≡ Some op
        by None q = absurd (let z : None ≡ Some op = sym
            (ap (option_map (λ (l : CallLine). l.op)) (at c
            ∙ ap (option_map (λ m. call_line script (record_at c trace m))) q)) ∙ e in cc)
        by (Some n) q = sym (op_is c n q) ∙ e

    -- ---- ends

    -- a call that didn't begin didn't end
    no_end : (c : Caller) → begin_of c trace ≡ None → end_of c trace ≡ None
    no_end c q = by (note_of_end c trace) refl
      where
        by : (o : Option CallEnd) → note_of_end c trace ≡ o → when_some o None sure ≡ None
        by None e = refl
        by (Some e) n =
            let began = ended_began script trace fits c e.version e.answer e.entry (ended_at c trace e n) in
            absurd (let s = subst (λ (o : Option ℕ). IsSome o) q (begin_is c trace began.0 began.1) in cc)

    end : (c : Caller) → option_map stop_of (end_of c trace) ≡ option_map stop_of ((account_of b).end_of c)
    end c = sym (by (begin_of c trace) refl)
      where
        by : (o : Option ℕ) → begin_of c trace ≡ o → option_map stop_of ((account_of b).end_of c) ≡ option_map stop_of (end_of c trace)
        by None q = ap (λ o. option_map stop_of (when_some o None end_told))
            (at c ∙ ap (option_map (λ m. call_line script (record_at c trace m))) q) ∙ sym (ap (option_map stop_of) (no_end c q))
        by (Some n) q = ap (λ o. option_map stop_of (when_some o None end_told))
            (at c ∙ ap (option_map (λ m. call_line script (record_at c trace m))) q) ∙ line_end script trace c n

    -- ---- histories

    -- the item of a line is the item
    item_is : (key : List ℕ) (x : Item) → IsIn x (history_of script key trace) → item_told b.calls (item_line x) ≡ x
    item_is key x i = by (begin_of x.caller trace) refl call.begun
      where
        call : IsCall script trace key x
        call = (linear key).honest.calls x i

        by : (o : Option ℕ) → begin_of x.caller trace ≡ o → IsSome o → item_told b.calls (item_line x) ≡ x
        by None q s = absurd (cc)
        by (Some n) q s =
            let op_same : op_told b.calls x.caller ≡ x.op =
            ap (λ o. when_some o (Search []) (λ (l : CallLine). l.op)) (at x.caller ∙ ap (option_map (λ m. call_line script (record_at x.caller trace m))) q)
            ∙ ap (λ o. when_some o (Search []) (λ (op : Op). op)) call.called in
            λ j. record { version = x.version; caller = x.caller; op = op_same j; answer = told key x i j; object = x.object }

    items_are : (key : List ℕ) (xs : List Item) → ((x : Item) → IsIn x xs → IsIn x (history_of script key trace))
        → map (item_told b.calls) (map item_line xs) ≡ xs
    items_are key [] h = refl
    items_are key (x ∷ xs) h = λ j. item_is key x (h x (inl refl)) j ∷ items_are key xs (λ y i. h y (inr i)) j

    -- the lines of a listed history tell the history
    of_listed : (h : KeyHistory) → IsIn h listed → reverse (map (item_told b.calls) (map item_line h.items)) ≡ history_of script h.key trace
    of_listed h i =
        let is = all-in (IsHistory script trace) listed h histories.each i in
        ap (λ xs. reverse (map (item_told b.calls) (map item_line xs))) is.items
        ∙ ap reverse (items_are h.key (reverse (history_of script h.key trace)) (λ x j. of-reverse (history_of script h.key trace) x j))
        ∙ reverse-reverse (history_of script h.key trace)

    -- what isn't found isn't listed
    found_key : (key : List ℕ) (hs : List KeyHistory)
        → find (λ (h : HistoryLines). same_text h.key key) (map history_lines hs) ≡ None → IsIn key (keys_of_histories hs) → ⊥
    found_key key [] e i = i
    found_key key (h ∷ hs) e i = by (found_key key hs) (same_text h.key key) refl e i
      where
        by : (find (λ (g : HistoryLines). same_text g.key key) (map history_lines hs) ≡ None
            → IsIn key (keys_of_histories hs) → ⊥) → (t : Bool) → same_text h.key key ≡ t
            → cond t (Some (history_lines h)) (find (λ (g : HistoryLines). same_text g.key key)
            (map history_lines hs)) ≡ None → IsIn key (keys_of_histories (h ∷ hs)) → ⊥
        by later true t q j = absurd (cc)
        by later false t q (inl z) = false≢true (sym t ∙ ap (λ k. same_text k key) (sym z) ∙ same_text_self key)
        by later false t q (inr j) = later q j

    -- what is found is listed
    found_line : (key : List ℕ) (hs : List KeyHistory) (l : HistoryLines)
        → find (λ (h : HistoryLines). same_text h.key key) (map history_lines hs) ≡ Some l → (h : KeyHistory)
        × IsIn h hs × (l ≡ history_lines h) × (h.key ≡ key)
    found_line key [] l e = absurd (cc)
    found_line key (h ∷ hs) l e = by (found_line key hs l) (same_text h.key key) refl e
      where
        by : (find (λ (g : HistoryLines). same_text g.key key) (map history_lines hs) ≡ Some l → (h : KeyHistory)
            × IsIn h hs × (l ≡ history_lines h) × (h.key ≡ key)) → (t : Bool) → same_text h.key key ≡ t
            → cond t (Some (history_lines h)) (find (λ (g : HistoryLines). same_text g.key key)
            (map history_lines hs)) ≡ Some l → (g : KeyHistory) × IsIn g (h ∷ hs) × (l ≡ history_lines g) × (g.key ≡ key)
        by later true t q = let z : l ≡ history_lines h = cc in (h, inl refl, z, one_key h.key key t)
        by later false t q = let r = later q in (r.0, inr r.1, r.2, r.3)

    none_of : (xs : List Item) → (xs ≢ [] → ⊥) → [] ≡ xs
    none_of [] f = refl
    none_of (x ∷ xs) f = absurd (f (λ e. absurd (cc)))

    history : (key : List ℕ) → history_of script key trace ≡ (account_of b).history_of key
    history key = sym (ap (λ hs. reverse (map (item_told b.calls) (items_at hs key))) histories_are
        ∙ by (find (λ (h : HistoryLines). same_text h.key key) (map history_lines listed)) refl)
      where
        by : (o : Option HistoryLines) → find (λ (h : HistoryLines). same_text h.key key) (map history_lines listed) ≡ o
            → reverse (map (item_told b.calls) (when_some o [] (λ (h : HistoryLines). h.items))) ≡ history_of script key trace
        by None e = none_of (history_of script key trace) (λ some. found_key key listed e (histories.every key some))
        by (Some l) e =
            let f = found_line key listed l e in
            ap (λ (g : HistoryLines). reverse (map (item_told b.calls) g.items)) f.2 ∙ of_listed f.0 f.1 ∙ ap (λ k. history_of script k trace) f.3

    pub same_accounts : SameAccounts (run_account script trace) (account_of b)
    same_accounts = record { op = op_on; op_back = op_back; begin = begin; end = end; history = history }
