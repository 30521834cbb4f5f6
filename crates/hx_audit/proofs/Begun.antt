-- The changes of a key that began before all later ones: that halving finds the first of them that
-- began before a time, and that this is the last change that did.
use Rattle.std.proofs.Common.{◌≡◌, ℕ, zero, suc, ◌-◌, ◌<◌, ◌≤◌, inl, inr, Bool, true, false, ◌&&◌, ◌||◌, ◌↔◌, cond}
use Rattle.std.proofs.Common.{List, [], ◌∷◌, ◌++◌, ◌+◌, map, take, length, get_or, leb, ltb, Option, None, Some, refl}
use Rattle.std.proofs.Common.{sym, ap, ◌∙◌, subst, arith}
use Rattle.std.specs.Borrow.{Bor}
use Rattle.std.specs.List.{All, AllWithin, find, list_any, slice_get}
use Rattle.std.specs.List.Sorted.{IsPartitionedBy}
use Rattle.std.specs.Option.{option_or}
use Rattle.std.proofs.lemmas.Bool.{cases_lt, cond-false, cond-true, false_from_ne_true, false≢true, le-ltb, lt-ltb, ltb-true}
use Rattle.std.proofs.lemmas.List.{map-append, take_more}
use Rattle.std.proofs.lemmas.List.Elements.{All-cons, All-head, All-nil, All-tail, All-weaker}
use Rattle.std.proofs.lemmas.List.Folds.{find-append}
use Rattle.std.proofs.lemmas.List.Sorted.{IsNonDecreasingBy-push, IsNonDecreasingBy-short, IsPartitionedBy-leb}
use Rattle.hx_model.specs.Types.{Item}
use Rattle.hx_types.specs.Words.{IsIn}
use Rattle.hx_model.specs.Searching.{FinishedSearch, IsShown, ItemWithNewer, changes_object}
use Rattle.hx_report_lines.specs.declared.blocks.Block.{Block}
use Rattle.hx_report_lines.specs.declared.histories.HistoryLines.{HistoryLines}
use Rattle.hx_report_lines.specs.declared.histories.ItemLine.{ItemLine}
use Rattle.hx_audit.specs.declared.latest.LatestChange.{LatestChange}
use Rattle.hx_audit.specs.declared.latest.LatestChanges.{LatestChanges}
use Rattle.hx_audit.specs.Accounts.{IsChangeShownBy, began_before, ended_before, last_change}
use Rattle.hx_audit.specs.Latest.{AllFall, AreLatest, AreLatestOf, AreSame, Falls, IsLatest, IsLatestIn, IsLatestShown, ShowsLatest, change_of, is_begun}
use Rattle.hx_audit.specs.Moments.{earlier, is_late}
use Rattle.hx_audit.specs.Told.{account_of, item_told}
use Rattle.hx_audit.specs.Walking.{AllShown, HasIn, IsShownAt}
use Rattle.hx_audit.proofs.Changes.{shown_from, shown_to, told, told_last, told_none}

-- ---- halving

-- a begin stands at a time or later where it was begun for nothing at it
for_nothing : (time begin : ℕ) → leb (time - begin) 0 ≡ leb time begin
for_nothing time begin = grind arith

pub parted : (changes : List LatestChange) (time : ℕ) → Falls changes → IsPartitionedBy (λ (c : LatestChange). leb time c.begin) changes
parted changes time falls i j d le l b =
    sym (for_nothing time (get_or changes i d).begin)
    ∙ IsPartitionedBy-leb (λ (c : LatestChange). time - c.begin) changes 0 (falls time) i j d le l (for_nothing time (get_or changes j d).begin ∙ b)

-- behind those that began at a time or later stands the first that began before it
pub found_at : (time : ℕ) (changes : List LatestChange) (i : ℕ)
    → AllWithin (λ (c : LatestChange). leb time c.begin ≡ true) changes 0 i
    → AllWithin (λ (c : LatestChange). leb time c.begin ≡ false) changes i (length changes)
    → slice_get changes i ≡ find (is_begun time) changes
found_at time [] i high low = refl
found_at time (c ∷ rest) zero high low = sym (cond-true (is_begun time c) (Some c) (find (is_begun time) rest)
    (let e = low zero c (omega arith) (omega arith) in grind (arith, e)))
found_at time (c ∷ rest) (suc i) high low =
    found_at time rest i (λ k d a b. high (suc k) d (omega arith) (omega (arith, b))) (λ k d a b. low (suc k) d (omega (arith, a)) (omega (arith, b)))
    ∙ sym (cond-false (is_begun time c) (Some c) (find (is_begun time) rest) (let e = high zero c (omega arith) (omega arith) in grind (arith, e)))

-- ---- one more change

pub falls_none : (changes : List LatestChange) → changes ≡ [] → Falls changes
falls_none changes e time = IsNonDecreasingBy-short (λ (c : LatestChange). time - c.begin) changes (let n = ap length e in omega (arith, n))

pub falls_more : (changes : List LatestChange) (c : LatestChange)
    → ((d : LatestChange) → 0 < length changes → c.begin < (get_or changes (length changes - 1) d).begin)
    → Falls changes → Falls (changes ++ c ∷ [])
falls_more changes c lowest falls time = IsNonDecreasingBy-push (λ (x : LatestChange). time - x.begin) changes c
    (falls time) (λ d some. let less = lowest d some in omega (arith, less))

passes : {A : Type 0} (test : A → Bool) (xs : List A) (x : A) → IsIn x xs → test x ≡ true → find test xs ≡ None → ⊥
passes test [] x i t n = i
passes test (y ∷ xs) x (inl e) t n = let z = sym (cond-true (test y) (Some y) (find test xs) (ap test (sym e) ∙ t)) ∙ n in cc
passes {A} test (y ∷ xs) x (inr i) t n = by (test y) n (passes test xs x i t)
  where
    by : (b : Bool) → cond b (Some y) (find test xs) ≡ None → (find test xs ≡ None → ⊥) → ⊥
    by true z rest = absurd (cc)
    by false z rest = rest z

pub in_at : {A : Type 0} (xs : List A) (i : ℕ) (x : A) → slice_get xs i ≡ Some x → IsIn x xs
in_at [] i x e = absurd (cc)
in_at (y ∷ xs) zero x e = inl (let q : y ≡ x = cc in sym q)
in_at (y ∷ xs) (suc i) x e = inr (in_at xs i x e)

-- what didn't begin before all of these isn't found, since one of them is
pub found_before : (changes : List LatestChange) (c : LatestChange) (time : ℕ)
    → HasIn (λ (x : LatestChange). x.begin ≤ c.begin) changes
    → find (is_begun time) changes ≡ find (is_begun time) (changes ++ c ∷ [])
found_before changes c time h = by (find (is_begun time) changes) refl ∙ sym (find-append (is_begun time) changes (c ∷ []))
  where
    late : find (is_begun time) changes ≡ None → is_begun time c ≡ false
    late n = false_from_ne_true (is_begun time c) (λ t. let less = ltb-true c.begin time t in let le = h.is in
        passes (is_begun time) changes h.item h.stands (lt-ltb h.item.begin time (omega (arith, less, le))) n)

    by : (o : Option LatestChange) → find (is_begun time) changes ≡ o
        → find (is_begun time) changes ≡ option_or (find (is_begun time) changes) (find (is_begun time) (c ∷ []))
    by None e = e ∙ sym (cond-false (is_begun time c) (Some c) None (late e)) ∙ ap (λ o. option_or o (find (is_begun time) (c ∷ []))) (sym e)
    by (Some d) e = e ∙ ap (λ o. option_or o (find (is_begun time) (c ∷ []))) (sym e)

-- ---- a walk down a history, newest first

-- what is left decides of each time at which none of these had begun
pub record IsLatestFrom (b : Block) (items rest : List ItemLine) (changes : List LatestChange) (over : Option ℕ) : Type 0 where
  pub newer : List Item
  pub over_is : (time : ℕ) → is_late over (Some time) ≡ list_any (λ (x : Item). ended_before (account_of b) x.caller time) newer
  pub falls : Falls changes
  pub found : (time : ℕ) (c : LatestChange) → find (is_begun time) changes ≡ Some c → AreSame b (Some c) (last_change (account_of b) time [] (told b items))
  pub left : (time : ℕ) → find (is_begun time) changes ≡ None
      → last_change (account_of b) time newer (told b rest) ≡ last_change (account_of b) time [] (told b items)

pub latest_begun : (b : Block) (items rest : List ItemLine) (changes : List LatestChange) → rest ≡ items → changes ≡ [] → IsLatestFrom b items rest changes None
latest_begun b items rest changes e none =
    record {
      newer = [];
      over_is = λ time. refl;
      falls = falls_none changes none;
      found = λ time c f. absurd (let z = sym f ∙ ap (find (is_begun time)) none in cc);
      left = λ time f. ap (λ (l : List ItemLine). last_change (account_of b) time [] (told b l)) e;
    }

-- the earlier of two times is before a time where one of them is
late_earlier : (first other : Option ℕ) (time : ℕ) → is_late (earlier first other) (Some time) ≡ (is_late first (Some time) || is_late other (Some time))
late_earlier None other time = refl
late_earlier (Some m) None time = or_false (ltb m time)
  where
    or_false : (t : Bool) → t ≡ (t || false)
    or_false true = refl
    or_false false = refl
late_earlier (Some m) (Some n) time = elim (cases_lt n m) [
  | inl l ↦ ap (λ o. is_late o (Some time)) (cond-true (ltb n m) (Some n) (Some m) (lt-ltb n m l)) ∙ lower l (ltb m time) refl
  | inr l ↦ ap (λ o. is_late o (Some time)) (cond-false (ltb n m) (Some n) (Some m) (le-ltb n m l)) ∙ upper l (ltb m time) refl
]
  where
    lower : n < m → (t : Bool) → ltb m time ≡ t → ltb n time ≡ (ltb m time || ltb n time)
    lower l true q = lt-ltb n time (let p = ltb-true m time q in omega (arith, p, l)) ∙ sym (ap (λ t. t || ltb n time) q)
    lower l false q = sym (ap (λ t. t || ltb n time) q)

    upper : m ≤ n → (t : Bool) → ltb m time ≡ t → ltb m time ≡ (ltb m time || ltb n time)
    upper l true q = q ∙ sym (ap (λ t. t || ltb n time) q)
    upper l false q = q ∙ sym (ap (λ t. t || ltb n time) q
        ∙ false_from_ne_true (ltb n time) (λ t. false≢true
        (sym q ∙ lt-ltb m time (let p = ltb-true n time t in omega (arith, p, l)))))

module _ (b : Block) (items rest older : List ItemLine) (x : Bor ItemLine) (changes new : List LatestChange) (over next begin end : Option ℕ)
    (w : IsLatestFrom b items rest changes over) (split : rest ≡ older ++ x.now ∷ []) (next_is : next ≡ earlier end over)
    (end_is : (time : ℕ) → is_late end (Some time) ≡ ended_before (account_of b) x.now.caller time)
    (begin_is : (time : ℕ) → is_late begin (Some time) ≡ (changes_object (item_told b.calls x.now) && began_before (account_of b) x.now.caller time))
    (found_is : (time : ℕ) → find (is_begun time) new ≡ find (is_begun time) (changes ++ change_of x begin next)) where
  abbrev here : Item
  here = item_told b.calls x.now

  over_more : (time : ℕ) → is_late next (Some time) ≡ list_any (λ (y : Item). ended_before (account_of b) y.caller time) (here ∷ w.newer)
  over_more time = ap (λ o. is_late o (Some time)) next_is ∙ late_earlier end over time ∙ (λ i. end_is time i || w.over_is time i)

  parts : (time : ℕ) → find (is_begun time) new ≡ option_or (find (is_begun time) changes) (find (is_begun time) (change_of x begin next))
  parts time = found_is time ∙ find-append (is_begun time) changes (change_of x begin next)

  -- the walk at this item
  at_item : (time : ℕ) → last_change (account_of b) time w.newer (told b rest)
      ≡ cond (is_late begin (Some time)) (Some (record { item = here; newer = w.newer }))
      (last_change (account_of b) time (here ∷ w.newer) (told b older))
  at_item time =
      ap (last_change (account_of b) time w.newer) (told_last b rest older x.now split)
      ∙ ap (λ t. cond t (Some (record { item = here; newer = w.newer }))
      (last_change (account_of b) time (here ∷ w.newer) (told b older))) (sym (begin_is time))

  found_more : (time : ℕ) (c : LatestChange) → find (is_begun time) new ≡ Some c → AreSame b (Some c) (last_change (account_of b) time [] (told b items))
  found_more time c f = by (find (is_begun time) changes) refl (sym (parts time) ∙ f)
    where
      mine : (o : Option ℕ) → begin ≡ o → find (is_begun time) changes ≡ None
          → find (is_begun time) (change_of x o next) ≡ Some c
          → AreSame b (Some c) (last_change (account_of b) time [] (told b items))
      mine None q n z = absurd (cc)
      mine (Some m) q n z = at (ltb m time) refl z
        where
          at : (t : Bool) → ltb m time ≡ t → cond {A = Option LatestChange} t
              (Some (record { item = x; begin = m; over = next })) None ≡ Some c
              → AreSame b (Some c) (last_change (account_of b) time [] (told b items))
          at false u v = absurd (cc)
          at true u v =
              let same : record { item = x; begin = m; over = next } ≡ c = cc in
              let fits = at_item time ∙ cond-true (is_late begin (Some time))
              (Some (record { item = here; newer = w.newer }))
              (last_change (account_of b) time (here ∷ w.newer) (told b older)) (ap (λ o. is_late o (Some time)) q ∙ u) in
              subst (AreSame b (Some c)) (sym fits ∙ w.left time n)
              (subst (λ (d : LatestChange). IsLatest b d (record { item = here; newer = w.newer })) same
              (record { item = refl; over = over_more }))

      by : (o : Option LatestChange) → find (is_begun time) changes ≡ o
          → option_or o (find (is_begun time) (change_of x begin next)) ≡ Some c
          → AreSame b (Some c) (last_change (account_of b) time [] (told b items))
      by (Some d) n z = w.found time c (n ∙ z)
      by None n z = mine begin refl n z

  left_more : (time : ℕ) → find (is_begun time) new ≡ None
      → last_change (account_of b) time (here ∷ w.newer) (told b older) ≡ last_change (account_of b) time [] (told b items)
  left_more time f = by (find (is_begun time) changes) refl (sym (parts time) ∙ f)
    where
      not_late : (o : Option ℕ) → find (is_begun time) (change_of x o next) ≡ None → is_late o (Some time) ≡ false
      not_late None z = refl
      not_late (Some m) z = at (ltb m time) z
        where
          at : (t : Bool) → cond {A = Option LatestChange} t (Some (record { item = x; begin = m; over = next })) None ≡ None → t ≡ false
          at false v = refl
          at true v = absurd (cc)

      by : (o : Option LatestChange) → find (is_begun time) changes ≡ o
          → option_or o (find (is_begun time) (change_of x begin next)) ≡ None
          → last_change (account_of b) time (here ∷ w.newer) (told b older) ≡ last_change (account_of b) time [] (told b items)
      by (Some d) n z = absurd (cc)
      by None n z =
          sym (at_item time ∙ cond-false (is_late begin (Some time)) (Some (record { item = here; newer = w.newer }))
          (last_change (account_of b) time (here ∷ w.newer) (told b older)) (not_late begin z))
          ∙ w.left time n

  pub latest_more : (Falls changes → Falls new) → IsLatestFrom b items older new next
  latest_more falls = record { newer = here ∷ w.newer; over_is = over_more; falls = falls w.falls; found = found_more; left = left_more }

-- at the end of a history all is found
pub latest_all : (b : Block) (h : HistoryLines) (rest : List ItemLine) (changes : List LatestChange) (over : Option ℕ)
    → IsLatestFrom b h.items rest changes over → length rest ≡ 0 → AreLatestOf b h changes
latest_all b h rest changes over w e = record { falls = w.falls; last = λ time. by time (find (is_begun time) changes) refl }
  where
    by : (time : ℕ) (o : Option LatestChange) → find (is_begun time) changes ≡ o → AreSame b o (last_change (account_of b) time [] (told b h.items))
    by time None n = subst (AreSame b None) (sym (ap (last_change (account_of b) time w.newer) (told_none b rest e)) ∙ w.left time n) tt
    by time (Some c) n = w.found time c n

-- ---- searches

same_shown : (b : Block) (s : FinishedSearch) (key : List ℕ) (o : Option LatestChange) (p : Option ItemWithNewer)
    → AreSame b o p → IsLatestShown s key o ↔ IsChangeShownBy (account_of b) s key p
same_shown b s key None None same = (λ h. tt, λ h. tt)
same_shown b s key None (Some w) same = absurd same
same_shown b s key (Some c) None same = absurd same
same_shown b s key (Some c) (Some w) same = (
  λ h over. subst (λ (y : Item). IsShown s key y y.object) same.item
      (shown_from s key (item_told b.calls c.item.now) c.item.now.object (h (same.over s.begin ∙ over))),
  λ h late. shown_to s key (item_told b.calls c.item.now) c.item.now.object
      (subst (λ (y : Item). IsShown s key y y.object) (sym same.item) (h (sym (same.over s.begin) ∙ late))),
)

-- what a search has to show of a history
pub shows_is : (b : Block) (s : FinishedSearch) (latest : LatestChanges) → IsLatestIn b latest → ShowsLatest s latest ↔ IsShownAt b s latest.history.now
shows_is b s latest h = same_shown b s latest.history.now.key (find (is_begun s.end) latest.changes.items)
    (last_change (account_of b) s.end [] (told b latest.history.now.items)) (h.last s.end)

abbrev histories_of : List LatestChanges → List HistoryLines
histories_of histories = map (λ (latest : LatestChanges). latest.history.now) histories

shown_each : (b : Block) (s : FinishedSearch) (xs : List LatestChanges) → All (IsLatestIn b) xs → All (ShowsLatest s) xs → AllShown b s (histories_of xs)
shown_each b s [] each all h i = absurd i
shown_each b s (x ∷ xs) each all h (inl e) = subst (IsShownAt b s) (sym e)
    ((shows_is b s x (All-head (IsLatestIn b) x xs each)).0 (All-head (ShowsLatest s) x xs all))
shown_each b s (x ∷ xs) each all h (inr i) = shown_each b s xs (All-tail (IsLatestIn b) x xs each) (All-tail (ShowsLatest s) x xs all) h i

each_shown : (b : Block) (s : FinishedSearch) (xs : List LatestChanges) → All (IsLatestIn b) xs → AllShown b s (histories_of xs) → All (ShowsLatest s) xs
each_shown b s [] each all = All-nil (ShowsLatest s)
each_shown b s (x ∷ xs) each all =
    All-cons (ShowsLatest s) x xs ((shows_is b s x (All-head (IsLatestIn b) x xs each)).1
    (all x.history.now (inl refl))) (each_shown b s xs (All-tail (IsLatestIn b) x xs each) (λ h i. all h (inr i)))

-- and of all histories of a block
pub all_shown : (b : Block) (s : FinishedSearch) (xs : List LatestChanges) → AreLatest b xs → All (ShowsLatest s) xs → AllShown b s b.histories
all_shown b s xs h all = subst (AllShown b s) h.histories_are (shown_each b s xs h.each all)

pub shown_all : (b : Block) (s : FinishedSearch) (xs : List LatestChanges) → AreLatest b xs → AllShown b s b.histories → All (ShowsLatest s) xs
shown_all b s xs h all = each_shown b s xs h.each (subst (AllShown b s) (sym h.histories_are) all)

pub all_fall : (b : Block) (xs : List LatestChanges) → AreLatest b xs → AllFall xs
all_fall b xs h = All-weaker (IsLatestIn b) (λ (latest : LatestChanges). Falls latest.changes.items) (λ latest l. l.falls) xs h.each

-- ---- a loop over histories

pub histories_more : (histories : List HistoryLines) (xs new : List LatestChanges) (y : LatestChanges) (i : ℕ)
    (h : HistoryLines) → new ≡ xs ++ y ∷ [] → y.history.now ≡ h → histories_of xs ≡ take i histories
    → i < length histories → h ≡ get_or histories i h
    → histories_of new ≡ take (i + 1) histories
histories_more histories xs new y i h e q w l is =
    ap histories_of e ∙ map-append (λ (latest : LatestChanges). latest.history.now) xs (y ∷ [])
    ∙ (λ j. w j ++ (q ∙ is) j ∷ [])
    ∙ sym (take_more histories i h l)
