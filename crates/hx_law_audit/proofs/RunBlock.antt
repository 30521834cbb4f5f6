-- The block of a run's report is one of a report.
use Rattle.hx_law_lemmas.proofs.Lemmas.Vocabulary.{[], All, All-cons, All-head, All-nil, All-tail, and_parts, ap, arith, Bool, Config, Entry, history_of, inl}
use Rattle.hx_law_lemmas.proofs.Lemmas.Vocabulary.{inr, IsIn, IsRun, IsScript, Item, KeyFits, keys_ascend, length, List, list_all, lt-ltb, map, nat_lt, None}
use Rattle.hx_law_lemmas.proofs.Lemmas.Vocabulary.{Option, refl, Script, ServerId, Some, subst, sym, text_below, Totals, true, Value, ℕ, ◌+◌, ◌<◌, ◌^◌}
use Rattle.hx_law_lemmas.proofs.Lemmas.Vocabulary.{◌∷◌, ◌≡◌, ◌≢◌}
use Rattle.hx_history.specs.declared.key_histories.KeyHistory.{KeyHistory}
use Rattle.hx_history.specs.Listed.{AreHistories, IsHistory}
use Rattle.hx_lex.specs.Spelling.{IsText}
use Rattle.hx_law_texts.specs.Sayable.{IsSayableScript}
use Rattle.hx_law_lemmas.proofs.Lemmas.{Pairwise, all-in, all-of, in-map, of-reverse}
use Rattle.hx_law_searches.proofs.Lemmas.{runs_are_linear}
use Rattle.hx_report_lines.specs.declared.epochs.EpochLine.{EpochLine}
use Rattle.hx_report_lines.specs.declared.histories.HistoryLines.{HistoryLines}
use Rattle.hx_report_lines.specs.Values.{Ascends, AscendsFrom, Is64, IsBlock, IsDriverLine, IsEpochOf, IsHistoryOf, IsItemOf, IsRawLine, MaybeObjectIsSayable}
use Rattle.hx_law_audit.specs.Running.{TotalsAreSayable}
use Rattle.hx_law_audit.proofs.RunAnswers.{all_below, item_good, key_good}
use Rattle.hx_law_audit.proofs.RunCalls.{ascends_from, caller_small, calls_ascend, calls_good}
use Rattle.hx_law_audit.proofs.RunConfigs.{IsGoodConfig, configs_hold, configs_of, lost_of_space}
use Rattle.hx_law_audit.proofs.RunLines.{history_lines, item_line}
use Rattle.hx_law_audit.proofs.RunNotes.{caller_in}
use Rattle.hx_law_audit.proofs.RunObjects.{CanBeSaid}
use Rattle.hx_law_audit.proofs.RunRaw.{IsRaw, one_line, text_of_line, trace_is, trace_raw}
use Rattle.hx_law_audit.proofs.RunServers.{RisesFrom}
use Rattle.hx_law_audit.proofs.RunText.{block_of, config_line, drivers_from}
use Rattle.hx_law_audit.proofs.RunVersions.{items_low}

-- ---- order

rises_ascends : (last : Option ℕ) (xs : List ℕ) → RisesFrom last xs → AscendsFrom nat_lt last xs
rises_ascends last [] h = tt
rises_ascends None (x ∷ xs) h = (refl, rises_ascends (Some x) xs h)
rises_ascends (Some m) (x ∷ xs) h = (lt-ltb m x h.0, rises_ascends (Some x) xs h.1)

keys_pairwise : (ks : List (List ℕ)) → keys_ascend ks ≡ true → Pairwise (λ a b. text_below a b ≡ true) ks
keys_pairwise [] h = tt
keys_pairwise (k ∷ rest) h =
    let p = and_parts (list_all (text_below k) rest) (keys_ascend rest) h in
    ((λ j i. all_below k rest p.0 j i), keys_pairwise rest p.1)

same_keys : (listed : List KeyHistory) → map (λ (h : HistoryLines). h.key) (map history_lines listed) ≡ map (λ (h : KeyHistory). h.key) listed
same_keys [] = refl
same_keys (h ∷ listed) = ap (λ l. h.key ∷ l) (same_keys listed)

histories_ascend : (listed : List KeyHistory) → keys_ascend (map (λ (h : KeyHistory). h.key) listed) ≡ true
    → Ascends text_below (map (λ (h : HistoryLines). h.key) (map history_lines listed))
histories_ascend listed h =
    subst (Ascends text_below) (sym (same_keys listed))
    (ascends_from text_below None (map (λ (h : KeyHistory). h.key) listed) (λ m e. absurd (cc))
    (keys_pairwise (map (λ (h : KeyHistory). h.key) listed) h))

-- ---- drivers

drivers_good : (number : ℕ) (totals : List Totals) → number + length totals < 2 ^ 32
    → All (λ (t : Totals). Is64 t.posts) totals → All (λ (t : Totals). Is64 t.deliver) totals
    → All (λ (t : Totals). Is64 t.lose) totals → All (λ (t : Totals). Is64 t.twice) totals → All IsDriverLine (drivers_from number totals)
drivers_good number [] few posts deliver lose twice = All-nil IsDriverLine
drivers_good number (t ∷ rest) few posts deliver lose twice =
    All-cons IsDriverLine (record { driver = number; totals = t }) (drivers_from (number + 1) rest)
    (
    record {
      driver = omega (arith, few);
      posts = All-head (λ (t : Totals). Is64 t.posts) t rest posts;
      deliver = All-head (λ (t : Totals). Is64 t.deliver) t rest deliver;
      lose = All-head (λ (t : Totals). Is64 t.lose) t rest lose;
      twice = All-head (λ (t : Totals). Is64 t.twice) t rest twice;
    }
    )
    (drivers_good (number + 1) rest (omega (arith, few)) (All-tail (λ (t : Totals). Is64 t.posts) t rest posts)
    (All-tail (λ (t : Totals). Is64 t.deliver) t rest deliver)
    (All-tail (λ (t : Totals). Is64 t.lose) t rest lose) (All-tail (λ (t : Totals). Is64 t.twice) t rest twice))

-- ---- the lines of the trace

raw_good : (l : List ℕ) → IsRaw l → IsRawLine l
raw_good l r = record {
  begins = elim r.begins [ inl e ↦ inl (r.rest, e) | inr e ↦ inr (r.rest, e) ];
  one_line = one_line l r.plain;
  utf8 = text_of_line l r.plain;
}

module _ (script : Script) (valid : IsScript script) (said : IsSayableScript script) (trace : List Entry)
    (run : IsRun script trace) (few : length trace + 1 < 2 ^ 64) where
  -- ---- histories

  said_is : (o : Option (List Value)) → CanBeSaid o → MaybeObjectIsSayable o
  said_is None h = tt
  said_is (Some object) h = h

  item_of : (key : List ℕ) (x : Item) → IsIn x (history_of script key trace) → IsItemOf script.space (item_line x)
  item_of key x i =
      let low = items_low script valid trace run key x i in
      let call = (runs_are_linear script valid trace run key).honest.calls x i in
      let good = item_good script valid said trace run key x i in
      record {
        version = omega (arith, low, few);
        caller = caller_small script valid x.caller (caller_in script x.caller x.op call.called);
        object = good.1;
        said = said_is x.object good.0;
      }

  history_of_run : (h : KeyHistory) → IsHistory script trace h → IsHistoryOf script.space (history_lines h)
  history_of_run h is =
      let key = by h.items is.some (λ x i. known x i) in
      record {
        key = key.0;
        said = key.1;
        some = some h.items is.some;
        items = all-of (IsItemOf script.space) (map item_line h.items) (λ l i. let m = in-map item_line h.items l i in
            subst (IsItemOf script.space) (sym m.2) (item_of h.key m.0 (known m.0 m.1)));
      }
    where
      known : (x : Item) → IsIn x h.items → IsIn x (history_of script h.key trace)
      known x i = of-reverse (history_of script h.key trace) x (subst (λ (l : List Item). IsIn x l) is.items i)

      by : (xs : List Item) → xs ≢ [] → ((x : Item) → IsIn x xs → IsIn x (history_of script h.key trace)) → KeyFits h.key × IsText h.key
      by [] apart within = absurd (apart refl)
      by (x ∷ xs) apart within = key_good script valid said trace run h.key x (within x (inl refl))

      some : (xs : List Item) → xs ≢ [] → map item_line xs ≢ []
      some [] apart e = apart refl
      some (x ∷ xs) apart e = absurd (cc)

  -- ---- configurations

  config_of : (c : Config) → IsGoodConfig script (length trace) c → IsEpochOf script.space (config_line c)
  config_of c h = record {
    epoch = (let e = h.epoch in omega (arith, e, few));
    servers = h.of_space.servers;
    ascend = rises_ascends None (map (λ (s : ServerId). s.0) c.servers) h.rise;
    lost = lost_of_space script.space c h.of_space;
  }

  same_epochs : (cs : List Config) → map (λ (e : EpochLine). e.epoch.0) (map config_line cs) ≡ map (λ (c : Config). c.epoch.0) cs
  same_epochs [] = refl
  same_epochs (c ∷ cs) = ap (λ l. c.epoch.0 ∷ l) (same_epochs cs)

  -- ---- the block

  pub block_good : (listed : List KeyHistory) → AreHistories script trace listed → (totals : List Totals)
      → TotalsAreSayable totals → (with_trace : Bool) → IsBlock (block_of script trace listed totals with_trace)
  block_good listed histories totals t with_trace =
      let hold = configs_hold script valid trace run in
      record {
        space = record { valid = valid.space; bounds = said.bounds };
        calls = calls_good script valid said trace run few;
        calls_ascend = calls_ascend script trace;
        histories = all-of (IsHistoryOf script.space) (map history_lines listed)
            (λ l i. let m = in-map history_lines listed l i in
            subst (IsHistoryOf script.space) (sym m.2) (history_of_run m.0
            (all-in (IsHistory script trace) listed m.0 histories.each m.1)));
        histories_ascend = histories_ascend listed histories.ascending;
        epochs = all-of (IsEpochOf script.space) (map config_line (configs_of script trace))
            (λ l i. let m = in-map config_line (configs_of script trace) l i in
            subst (IsEpochOf script.space) (sym m.2) (config_of m.0 (hold.each m.0 m.1)));
        epochs_ascend = subst (Ascends nat_lt) (sym (same_epochs (configs_of script trace)))
            (rises_ascends None (map (λ (c : Config). c.epoch.0) (configs_of script trace)) hold.rise);
        raw = all-of IsRawLine (trace_raw with_trace trace) (λ l i. raw_good l (trace_is with_trace trace l i));
        drivers = (let n = t.few in drivers_good 1 totals (omega (arith, n)) t.posts t.deliver t.lose t.twice);
      }
