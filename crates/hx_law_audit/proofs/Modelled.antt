-- Of a run, the definitions by an account say what the model's do.
use Rattle.hx_law_lemmas.proofs.Lemmas.Vocabulary.{[], ap, began_before, changes_object, cond, Entry, FinishedSearch, history_of, IsChangeShown, IsLinear}
use Rattle.hx_law_lemmas.proofs.Lemmas.Vocabulary.{IsSearchTrue, IsSearchWhole, IsTrueRow, Item, ItemWithNewer, last_change, List, None, Option, refl, Row}
use Rattle.hx_law_lemmas.proofs.Lemmas.Vocabulary.{Script, Some, subst, sym, ℕ, ◌&&◌, ◌↔◌, ◌∷◌, ◌≡◌}
use Rattle.hx_audit.specs.Accounts as by
use Rattle.hx_law_audit.specs.Meaning.{AccountsAgree, run_account}

module _ (script : Script) (trace : List Entry) where
  linear : (key : List ℕ) → IsLinear script trace key → by.IsLinearBy (run_account script trace) script.space key
  linear key l =
      record {
        legal = l.legal;
        answered_once = λ c answer u. l.answered_once c answer
            (record {
              op = u.op;
              called = u.called;
              on_key = u.on_key;
              entry = u.entry;
              version = u.version;
              ended = u.ended;
              not_refused = u.not_refused;
            });
        honest = record {
          calls = λ x i. (let c = l.honest.calls x i in record { begun = c.begun; called = c.called; on_key = c.on_key; not_refused = c.not_refused });
          once = l.honest.once;
        };
        in_order = λ x y n i j apart begin ended. l.in_order x y n i j begin ended;
      }

  same_change : (n : ℕ) (newer items : List Item) → last_change trace n newer items ≡ by.last_change (run_account script trace) n newer items
  same_change n newer [] = refl
  same_change n newer (x ∷ older) =
      ap (cond (changes_object x && began_before trace x.caller n) (Some (record { item = x; newer = newer }))) (same_change n (x ∷ newer) older)

  shown : (key : List ℕ) (s : FinishedSearch) (o : Option ItemWithNewer) → IsChangeShown trace s key o ↔ by.IsChangeShownBy (run_account script trace) s key o
  shown key s None = ((λ h. h), (λ h. h))
  shown key s (Some c) = ((λ h. h), (λ h. h))

  whole : (key : List ℕ) (s : FinishedSearch) → IsSearchWhole script trace key s ↔ by.IsSearchWholeBy (run_account script trace) key s
  whole key s =
      let e = same_change s.end [] (history_of script key trace) in
      let both = shown key s (last_change trace s.end [] (history_of script key trace)) in (
        λ h. subst (by.IsChangeShownBy (run_account script trace) s key) e (both.0 h),
        λ h. both.1 (subst (by.IsChangeShownBy (run_account script trace) s key) (sym e) h),
      )

  true_row : (s : FinishedSearch) (r : Row) → IsTrueRow script trace s r → by.IsTrueRowBy (run_account script trace) s r
  true_row s r t = record {
    cut = t.cut;
    stands = t.stands;
    changes = t.changes;
    version = t.version;
    object = t.object;
    match = t.match;
    began = t.began;
    newest = t.newest;
  }

  row_true : (s : FinishedSearch) (r : Row) → by.IsTrueRowBy (run_account script trace) s r → IsTrueRow script trace s r
  row_true s r t = record {
    cut = t.cut;
    stands = t.stands;
    changes = t.changes;
    version = t.version;
    object = t.object;
    match = t.match;
    began = t.began;
    newest = t.newest;
  }

  true_search : (s : FinishedSearch) → IsSearchTrue script trace s ↔ by.IsSearchTrueBy (run_account script trace) s
  true_search s = (
    λ h. record { rows = λ r i. true_row s r (h.rows r i); in_order = h.in_order },
    λ h. record { rows = λ r i. row_true s r (h.rows r i); in_order = h.in_order },
  )

pub agree : AccountsAgree
agree script trace = record { linear = linear script trace; whole = whole script trace; true_search = true_search script trace }
