-- Where the verdict is yes, the items of all keys have one order.
use Rattle.hx_law_lemmas.proofs.Lemmas.Vocabulary.{[], Answer, ap, CallEnd, Caller, false, find, IsIn, Item, List, lt-ltb, ltb, map, None, Option}
use Rattle.hx_law_lemmas.proofs.Lemmas.Vocabulary.{option_map, refl, reverse, same_text, Some, subst, sym, true, when_some, ℕ, ◌<◌, ◌≡◌, ◌≤◌}
use Rattle.hx_law_lemmas.proofs.Lemmas.{map-in}
use Rattle.hx_law_order.specs.Order.{AreInTime}
use Rattle.hx_law_order.proofs.Lemmas.{in-time-of-different, histories_have, once as none_twice}
use Rattle.hx_report_lines.specs.declared.blocks.Block.{Block}
use Rattle.hx_report_lines.specs.declared.calls.CallLine.{CallLine}
use Rattle.hx_report_lines.specs.declared.histories.HistoryLines.{HistoryLines}
use Rattle.hx_audit.specs.Accounts.{IsLinearBy, ended_before}
use Rattle.hx_audit.specs.Told.{account_of, call_at, end_told, item_told, same_caller}
use Rattle.hx_audit.proofs.Lemmas.{one_key, found_in}
use Rattle.hx_law_audit.specs.Meaning.{EndsFollow, YesMeansOneOrder, times_told}
use Rattle.hx_law_audit.proofs.Consistent.{in_told}
use Rattle.hx_law_audit.proofs.Meant.{yes_means}

-- a call that ended before a time is over by then
is_over : (b : Block) (c : Caller) (e n : ℕ) → option_map (λ (z : CallEnd). z.entry) ((account_of b).end_of c)
    ≡ Some e → e < n → ended_before (account_of b) c n ≡ true
is_over b c e n q l = by ((account_of b).end_of c) q
  where
    by : (o : Option CallEnd) → option_map (λ (z : CallEnd). z.entry) o ≡ Some e → when_some o false (λ (z : CallEnd). ltb z.entry n) ≡ true
    by None r = absurd (cc)
    by (Some z) r = let s : z.entry ≡ e = cc in lt-ltb z.entry n (subst (λ m. m < n) (sym s) l)

-- the end of a call is that of its line
end_at : (l : CallLine) (e : ℕ) → option_map (λ (z : CallEnd). z.entry) (end_told l) ≡ Some e → l.end ≡ Some e
end_at l e q = by l.end q
  where
    by_answer : (n : ℕ) (o : Option Answer) → option_map (λ (z : CallEnd). z.entry)
        (when_some o None (λ (a : Answer). Some (record { entry = n; version = l.version; answer = a }))) ≡ Some e
        → Some n ≡ Some e
    by_answer n None r = absurd (cc)
    by_answer n (Some a) r = r

    by : (o : Option ℕ) → option_map (λ (z : CallEnd). z.entry)
        (when_some o None (λ n. when_some l.answer None
        (λ (a : Answer). Some (record { entry = n; version = l.version; answer = a })))) ≡ Some e → o ≡ Some e
    by None r = absurd (cc)
    by (Some n) r = by_answer n l.answer r

-- no call ended before it began
sound : (b : Block) → EndsFollow b → (c : Caller) (m e : ℕ) → (account_of b).begin_of c ≡ Some m
    → option_map (λ (z : CallEnd). z.entry) ((account_of b).end_of c) ≡ Some e → m ≤ e
sound b follow c m e begin end = by (call_at b.calls c) refl begin end
  where
    by : (o : Option CallLine) → call_at b.calls c ≡ o → option_map (λ (l : CallLine). l.begin) o ≡ Some m
        → option_map (λ (z : CallEnd). z.entry) (when_some o None end_told) ≡ Some e → m ≤ e
    by None q s t = absurd (cc)
    by (Some l) q s t =
        let f = found_in (λ (x : CallLine). same_caller x.caller c) b.calls l q in
        let z : l.begin ≡ m = cc in
        subst (λ n. n ≤ e) z (follow l e f.0 (end_at l e t))

-- an item stands in the history of a key of the report
key_told : (b : Block) (key : List ℕ) (x : Item) → IsIn x ((account_of b).history_of key) → IsIn key (map (λ (h : HistoryLines). h.key) b.histories)
key_told b key x i = by (find (λ (h : HistoryLines). same_text h.key key) b.histories) refl i
  where
    by : (o : Option HistoryLines) → find (λ (h : HistoryLines). same_text h.key key) b.histories ≡ o
        → IsIn x (reverse (map (item_told b.calls) (when_some o [] (λ (h : HistoryLines). h.items))))
        → IsIn key (map (λ (h : HistoryLines). h.key) b.histories)
    by None q j = absurd (in_told b x [] j).1
    by (Some h) q j =
        let f = found_in (λ (y : HistoryLines). same_text y.key key) b.histories h q in
        subst (λ k. IsIn k (map (λ (y : HistoryLines). y.key) b.histories)) (one_key h.key key f.1) (map-in (λ (y : HistoryLines). y.key) b.histories h f.0)

in_time : (b : Block) → EndsFollow b → ((key : List ℕ) → IsLinearBy (account_of b) b.space key)
    → AreInTime (times_told b) (λ key. (account_of b).history_of key)
in_time b follow linear =
    record {
      once = λ key. none_twice ((account_of b).history_of key) (linear key).honest.once;
      in_time = λ key. in-time-of-different (times_told b) (λ (x : Item). x.caller) ((account_of b).history_of key)
          (λ x y e. ap (account_of b).begin_of e)
          (λ x m e begin end. sound b follow x.caller m e begin end)
          (λ x y i j apart o. (linear key).in_order x y o.begin i j apart o.began (is_over b x.caller o.end o.begin o.ended o.before));
      keys = map (λ (h : HistoryLines). h.key) b.histories;
      all = λ key x i. key_told b key x i;
    }

pub one_order : YesMeansOneOrder
one_order r valid verdict b i follow = histories_have (times_told b) (λ key. (account_of b).history_of key) (in_time b follow (yes_means r verdict b i).linear)
