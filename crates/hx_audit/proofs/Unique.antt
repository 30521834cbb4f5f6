-- The history of a key stands once, so what is said of each history is said of each key.
use Rattle.std.proofs.Common.{◌≡◌, ℕ, inl, inr, Bool, true, false, List, [], ◌∷◌, map, reverse, cond, Option, None, Some, refl, sym, ap, ◌∙◌, subst}
use Rattle.std.specs.List.{find}
use Rattle.std.proofs.lemmas.Bool.{cond-false, cond-true}
use Rattle.hx_types.proofs.Lemmas.{text_below-differs, text_below-trans}
use Rattle.hx_types.specs.Words.{IsIn, same_text, text_below, when_some}
use Rattle.hx_model.specs.Types.{Row}
use Rattle.hx_model.specs.Matching.{matches}
use Rattle.hx_model.specs.Searching.{FinishedSearch}
use Rattle.hx_model.proofs.Lemmas.{same_text_self}
use Rattle.hx_report_lines.specs.declared.blocks.Block.{Block}
use Rattle.hx_report_lines.specs.declared.calls.CallLine.{CallLine}
use Rattle.hx_report_lines.specs.declared.histories.HistoryLines.{HistoryLines}
use Rattle.hx_report_lines.specs.declared.histories.ItemLine.{ItemLine}
use Rattle.hx_report_lines.specs.Values.{AscendsFrom}
use Rattle.hx_audit.specs.Accounts.{IsChangeShownBy, IsSearchWholeBy, IsTrueRowBy, last_change}
use Rattle.hx_audit.specs.Clauses.{IsWhole}
use Rattle.hx_audit.specs.Told.{account_of, item_told, items_at, search_told}
use Rattle.hx_audit.specs.Walking.{AllShown, HasCut, HistoriesAscend}
use Rattle.hx_audit.proofs.Keys.{one_key}

abbrev IsKey : List ℕ → HistoryLines → Bool
IsKey key h = same_text h.key key

above_in : (key : List ℕ) (hs : List HistoryLines)
    → AscendsFrom text_below (Some key) (map (λ (h : HistoryLines). h.key) hs) → (h : HistoryLines) → IsIn h hs
    → text_below key h.key ≡ true
above_in key [] up h i = absurd i
above_in key (x ∷ hs) up h (inl e) = ap (λ (y : HistoryLines). text_below key y.key) e ∙ up.0
above_in key (x ∷ hs) up h (inr i) = text_below-trans key x.key h.key up.0 (above_in x.key hs up.1 h i)

-- a history is the one of its key
found_own : (last : Option (List ℕ)) (hs : List HistoryLines)
    → AscendsFrom text_below last (map (λ (h : HistoryLines). h.key) hs) → (h : HistoryLines) → IsIn h hs
    → find (IsKey h.key) hs ≡ Some h
found_own last [] up h i = absurd i
found_own last (x ∷ hs) up h (inl e) = cond-true (same_text x.key h.key) (Some x) (find (IsKey h.key) hs)
    (ap (λ (y : HistoryLines). same_text y.key h.key) (sym e) ∙ same_text_self h.key) ∙ ap Some (sym e)
found_own last (x ∷ hs) up h (inr i) =
    cond-false (same_text x.key h.key) (Some x) (find (IsKey h.key) hs) (text_below-differs x.key h.key (above_in x.key hs up.1 h i))
    ∙ found_own (Some x.key) hs up.1 h i

pub found_in : {A : Type 0} (test : A → Bool) (xs : List A) (x : A) → find test xs ≡ Some x → IsIn x xs × (test x ≡ true)
found_in test [] x e = absurd (cc)
found_in {A} test (y ∷ xs) x e = by (test y) refl e (found_in test xs x)
  where
    by : (b : Bool) → test y ≡ b → cond b (Some y) (find test xs) ≡ Some x
        → (find test xs ≡ Some x → IsIn x xs × (test x ≡ true)) → IsIn x (y ∷ xs) × (test x ≡ true)
    by true t q rest = let z : x ≡ y = cc in (inl z, ap test z ∙ t)
    by false t q rest = let r = rest q in (inr r.0, r.1)

-- the items of a history are those of its key
pub own_items : (hs : List HistoryLines) → HistoriesAscend hs → (h : HistoryLines) → IsIn h hs → items_at hs h.key ≡ h.items
own_items hs up h i = ap (λ (o : Option HistoryLines). when_some o [] (λ (x : HistoryLines). x.items)) (found_own None hs up h i)

-- the change of these lines is shown
abbrev Shown : Block → FinishedSearch → List ℕ → List ItemLine → Type 0
Shown b s key items = IsChangeShownBy (account_of b) s key (last_change (account_of b) s.end [] (reverse (map (item_told b.calls) items)))

-- what each history shows, each key does
pub whole_keys : (b : Block) (s : FinishedSearch) → AllShown b s b.histories → (key : List ℕ) → IsSearchWholeBy (account_of b) key s
whole_keys b s all key = by (find (IsKey key) b.histories) refl
  where
    by : (o : Option HistoryLines) → find (IsKey key) b.histories ≡ o → Shown b s key (when_some o [] (λ (h : HistoryLines). h.items))
    by None q = tt
    by (Some h) q = let f = found_in (IsKey key) b.histories h q in subst (λ k. Shown b s k h.items) (one_key h.key key f.1) (all h f.0)

pub keys_whole : (b : Block) (s : FinishedSearch) → HistoriesAscend b.histories
    → ((key : List ℕ) → IsSearchWholeBy (account_of b) key s) → AllShown b s b.histories
keys_whole b s up all h i = subst (Shown b s h.key) (own_items b.histories up h i) (all h.key)

-- of a call that is this finished search
pub whole_told : (b : Block) (l : CallLine) (s : FinishedSearch) → search_told l ≡ Some s → AllShown b s b.histories → IsWhole b l
whole_told b l s e all key t q =
    let z : Some s ≡ Some t = sym e ∙ q in
    let one : s ≡ t = cc in
    subst (IsSearchWholeBy (account_of b) key) one (whole_keys b s all key)

pub told_whole : (b : Block) (l : CallLine) (s : FinishedSearch) → HistoriesAscend b.histories → search_told l ≡ Some s → IsWhole b l → AllShown b s b.histories
told_whole b l s up e whole = keys_whole b s up (λ key. whole key s e)

-- a row that matches and has its change is true
pub true_row : (b : Block) (s : FinishedSearch) (r : Row) → matches s.terms r.key r.object ≡ true
    → HasCut (account_of b) s r [] (reverse (map (item_told b.calls) (items_at b.histories r.key)))
    → IsTrueRowBy (account_of b) s r
true_row b s r m h = record {
  cut = h.cut;
  stands = h.stands;
  changes = h.is.changes;
  version = h.is.version;
  object = h.is.object;
  match = m;
  began = h.is.began;
  newest = h.is.newest;
}

pub row_cut : (b : Block) (s : FinishedSearch) (r : Row) → IsTrueRowBy (account_of b) s r
    → HasCut (account_of b) s r [] (reverse (map (item_told b.calls) (items_at b.histories r.key)))
row_cut b s r h = record {
  cut = h.cut;
  stands = h.stands;
  is = record { changes = h.changes; version = h.version; object = h.object; began = h.began; newest = h.newest };
}
