-- The report of a run is consistent.
use Rattle.hx_law_lemmas.proofs.Lemmas.Vocabulary.{[], ap, begin_of, CallEnd, Caller, end_of, Entry, FinishedSearch, history_of, IsIn, IsLinear, IsRun}
use Rattle.hx_law_lemmas.proofs.Lemmas.Vocabulary.{IsScript, Item, List, map, None, Op, Option, record_at, rows_in, Script, Search, search_of, Some, Space}
use Rattle.hx_law_lemmas.proofs.Lemmas.Vocabulary.{subst, sym, Term, terms_of, TraceFits, when_some, with_rows, ℕ, ◌∙◌, ◌≡◌}
use Rattle.hx_history.specs.declared.key_histories.KeyHistory.{KeyHistory}
use Rattle.hx_history.specs.Listed.{AreHistories, IsHistory}
use Rattle.hx_law_lemmas.proofs.Lemmas.{all-in, of-reverse, began_at}
use Rattle.hx_law_searches.proofs.Lemmas.{runs_are_linear, runs_fit, runs_search_well}
use Rattle.hx_report_lines.specs.declared.blocks.Block.{Block}
use Rattle.hx_report_lines.specs.declared.calls.CallLine.{CallLine}
use Rattle.hx_audit.specs.Accounts.{IsLinearBy}
use Rattle.hx_audit.specs.Told.{account_of, end_told, search_told}
use Rattle.hx_law_audit.specs.Meaning.{IsConsistent, run_account}
use Rattle.hx_law_audit.proofs.Modelled.{agree}
use Rattle.hx_law_audit.proofs.RunAccounts.{same_accounts}
use Rattle.hx_law_audit.proofs.RunLines.{call_line, call_lines, history_lines, line_end, line_in}
use Rattle.hx_law_audit.proofs.RunNotes.{began_called}
use Rattle.hx_law_audit.proofs.RunTold.{IsTold, all_told}
use Rattle.hx_law_audit.proofs.SameAccounts.{SameAccounts, Stop, linear_by, stop_of, told_end, true_by, whole_by}

-- the search that a line tells is the caller's
search_is : (script : Script) (trace : List Entry) → TraceFits script trace → (c : Caller) (n : ℕ)
    → begin_of c trace ≡ Some n → search_told (call_line script (record_at c trace n)) ≡ search_of script trace c
search_is script trace fits c n began =
    let called = began_called script trace fits c n (began_at c trace n began) in
    (λ i. when_some (terms_of (when_some (called.1 i) (Search []) (λ (op : Op). op))) None (λ (terms : List Term). ended terms i))
    ∙ sym (λ i. when_some (called.1 i) None (λ (op : Op). when_some (terms_of op) None
    (λ (terms : List Term). when_some (began i) None
    (λ m. when_some (end_of c trace) None (λ (e : CallEnd). with_rows c terms m e.entry (rows_in e.answer))))))
  where
    rows : List Term → Stop → Option FinishedSearch
    rows terms s = with_rows c terms n s.entry (rows_in s.answer)

    ended : (terms : List Term) → when_some (end_told (call_line script (record_at c trace n))) None
        (λ (e : CallEnd). rows terms (stop_of e)) ≡ when_some (end_of c trace) None (λ (e : CallEnd). rows terms (stop_of e))
    ended terms =
        told_end None (rows terms) (end_told (call_line script (record_at c trace n)))
        ∙ ap (λ o. when_some o None (rows terms)) (line_end script trace c n)
        ∙ sym (told_end None (rows terms) (end_of c trace))

module _ (script : Script) (valid : IsScript script) (trace : List Entry) (run : IsRun script trace)
    (listed : List KeyHistory) (histories : AreHistories script trace listed) where
  pub fits : TraceFits script trace
  fits = runs_fit script valid trace run

  pub linear : (key : List ℕ) → IsLinear script trace key
  linear key = runs_are_linear script valid trace run key

  -- each item's answer is told
  pub told : (key : List ℕ) (x : Item) → IsIn x (history_of script key trace) → IsTold x
  told key x i = all_told script.space (history_of script key trace) (linear key).legal x i

  pub told_listed : (h : KeyHistory) → IsIn h listed → (x : Item) → IsIn x h.items → IsTold x
  told_listed h i x j =
      let is = all-in (IsHistory script trace) listed h histories.each i in
      told h.key x (of-reverse (history_of script h.key trace) x (subst (λ (l : List Item). IsIn x l) is.items j))

  module _ (b : Block) (space_is : b.space ≡ script.space) (calls_are : b.calls ≡ call_lines script trace)
      (histories_are : b.histories ≡ map history_lines listed) where
    same : SameAccounts (run_account script trace) (account_of b)
    same = same_accounts script trace fits listed histories linear told b calls_are histories_are

    -- a finished search of a line is one of the run
    searched : (l : CallLine) → IsIn l b.calls → (s : FinishedSearch) → search_told l ≡ Some s → (c : Caller) × (search_of script trace c ≡ Some s)
    searched l i s e =
        let f = line_in script trace l (subst (λ calls. IsIn l calls) calls_are i) in
        (f.caller, sym (search_is script trace fits f.caller f.entry f.began) ∙ sym (ap search_told f.is) ∙ e)

    pub consistent : IsConsistent b
    consistent =
        record {
          linear = λ key. subst (λ (s : Space). IsLinearBy (account_of b) s key) (sym space_is)
              (linear_by (run_account script trace) (account_of b) same script.space key
              ((agree script trace).linear key (linear key)));
          whole = λ l s i e key. (let c = searched l i s e in
              whole_by (run_account script trace) (account_of b) same key s
              (((agree script trace).whole key s).0 ((runs_search_well script valid trace run c.0 s c.1).1 key)));
          true_rows = λ l s i e. (let c = searched l i s e in
              true_by (run_account script trace) (account_of b) same s
              (((agree script trace).true_search s).0 (runs_search_well script valid trace run c.0 s c.1).0));
        }
