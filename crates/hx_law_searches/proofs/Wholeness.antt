-- A finished search shows the last change of each key that began before it ended, where it or a later item ended before the search began.
use Rattle.hx_law_lemmas.proofs.Lemmas.Vocabulary.{[], add-one, all_asked, and_from, and_parts, ap, arith, began_before, below, Bool, Caller, cases_Bool}
use Rattle.hx_law_lemmas.proofs.Lemmas.Vocabulary.{changes_object, Contains, Contains-below, declared_subspaces, ended_before, Entry, Facts, false, false≢true}
use Rattle.hx_law_lemmas.proofs.Lemmas.Vocabulary.{FinishedSearch, get_or, has_place, history_of, inl, inr, is_done, is_some, is_write, IsChangeShown, IsIn}
use Rattle.hx_law_lemmas.proofs.Lemmas.Vocabulary.{IsRun, IsScript, IsSearchWhole, IsShown, IsSpace, Item, ItemWithNewer, keeps_at, key_region, last_change}
use Rattle.hx_law_lemmas.proofs.Lemmas.Vocabulary.{length, line_of, List, list_all, list_any, map, matches, merged_parts, None, Option, Part, place_of, refl}
use Rattle.hx_law_lemmas.proofs.Lemmas.Vocabulary.{RegionId, Row, Script, Some, Space, subspace_count, subst, suc, sym, Term, true, Update, Value, Version}
use Rattle.hx_law_lemmas.proofs.Lemmas.Vocabulary.{when_some, zero, ℕ, ◌+◌, ◌<◌, ◌∙◌, ◌∷◌, ◌≡◌, ◌≤◌, ◌⊎◌}
use Rattle.hx_region.proofs.Lemmas.{asked}
use Rattle.hx_law_lemmas.proofs.Lemmas.{any-in, before-first, in-map, BeganAt, LastChange, last-is, IsCovered, merged-covers, merged-in, part_rows}
use Rattle.hx_law_lemmas.proofs.Lemmas.{same_version, keeps-key, keeps-new, passes-key, Made, kept-newest, row_with, stands}
use Rattle.hx_law_searches.proofs.Changes.{change-item, item-change, made, sorted}
use Rattle.hx_law_searches.proofs.Gathering.{Finished, ShownBefore}
use Rattle.hx_law_searches.proofs.Histories.{write_of}
use Rattle.hx_law_searches.proofs.Items.{began-before}
use Rattle.hx_law_searches.proofs.Orders.{Wrote, item-ended, item-order}
use Rattle.hx_law_searches.proofs.Shown.{early, front, full, late}
use Rattle.hx_law_searches.proofs.Trueness.{kept, row-early, row-stands, terms-same}

-- what a list contains stands in it
contains-in : {A : Type 0} (xs : List A) (x : A) → Contains xs x → IsIn x xs
contains-in {A} xs x c = by xs c.0 c.1 c.2
  where
    by : (ys : List A) (k : ℕ) → k < length ys → get_or ys k x ≡ x → IsIn x ys
    by [] k l e = absurd (omega (arith, l))
    by (y ∷ ys) zero l e = inl (sym e)
    by (y ∷ ys) (suc k) l e = inr (by ys k (omega (arith, l)) e)

-- a number below the bound stands among the numbers below it
below-in : (n k : ℕ) → k < n → IsIn k (below n)
below-in n k l = contains-in (below n) k (Contains-below n k l)

-- where all pass a test each does
all-pass : {A : Type 0} (test : A → Bool) (xs : List A) (x : A) → list_all test xs ≡ true → IsIn x xs → test x ≡ true
all-pass test [] x h i = absurd i
all-pass test (y ∷ xs) x h (inl e) = ap test e ∙ (and_parts (test y) (list_all test xs) h).0
all-pass test (y ∷ xs) x h (inr i) = all-pass test xs x (and_parts (test y) (list_all test xs) h).1 i

-- a subspace of the space is the key's or a declared one
subspace-is : (space : Space) (s : ℕ) → s < subspace_count space → (s ≡ 0) ⊎ IsIn s (declared_subspaces space)
subspace-is space zero l = inl refl
subspace-is space (suc n) l = inr (subst (λ k. IsIn k (declared_subspaces space)) (add-one n)
    (map-in (below (length space.subspaces)) (below-in (length space.subspaces) n (omega (arith, l)))))
  where
    map-in : (ks : List ℕ) → IsIn n ks → IsIn (n + 1) (map (λ k. k + 1) ks)
    map-in [] i = absurd i
    map-in (k ∷ ks) (inl e) = inl (ap (λ j. j + 1) e)
    map-in (k ∷ ks) (inr i) = inr (map-in ks i)

-- a change that is kept passes its place in each subspace, and keeps its object there
passes-keeps : (space : Space) → IsSpace space → (key : List ℕ) (older : List Update) (u : Update)
    → Made space key older u → u.changes ≡ true → (o : List Value) → u.object ≡ Some o → (s : ℕ) → s < subspace_count space
    → (has_place (place_of space s key o) u ≡ true) × (keeps_at (place_of space s key o) u ≡ true)
passes-keeps space valid key older u made c o e s l = elim (subspace-is space s l) [
  | inl z ↦ subst (λ k. (has_place (place_of space k key o) u ≡ true) × (keeps_at (place_of space k key o) u ≡ true)) (sym z) at-key
  | inr i ↦ keeps-new space valid key older u made c s i o e
]
  where
    same-place : place_of space 0 key o ≡ key_region space key
    same-place = refl

    at-key : (has_place (place_of space 0 key o) u ≡ true) × (keeps_at (place_of space 0 key o) u ≡ true)
    at-key = (
      ap (λ (g : RegionId). has_place g u) same-place ∙ passes-key space key older u made,
      ap (λ (g : RegionId). keeps_at g u) same-place ∙ keeps-key space key older u made ∙ ap (λ (x : Option (List Value)). is_some x) e,
    )

-- a row that some part was shown
record PartRow (script : Script) (t : List Entry) (c : Caller) (n : ℕ) (r : Row) : Type 0 where
  pub region : RegionId
  pub rows : List Row
  pub by : ShownBefore script t c n region rows
  pub inside : IsIn r rows

module _ (script : Script) (valid : IsScript script) (facts : Facts script) (t : List Entry) (run : IsRun script t)
    (c : Caller) (s : FinishedSearch) (known : Finished script facts t c s) where
  -- each row of the search is
  part-row : (r : Row) → IsIn r (merged_parts known.gathered.parts) → PartRow script t c s.end r
  part-row = merged-in known.gathered.parts (PartRow script t c s.end) of
    where
      of : (p : Part) → IsIn p known.gathered.parts → (r : Row) → IsIn r (part_rows p) → PartRow script t c s.end r
      of p i r = by p.rows refl
        where
          by : (o : Option (List Row)) → p.rows ≡ o → IsIn r (when_some o [] (λ (rows : List Row). rows)) → PartRow script t c s.end r
          by None e j = absurd j
          by (Some rows) e j = record { region = p.region; rows = rows; by = known.gathered.parted.each p i rows e; inside = j }

  module _ (key : List ℕ) (cut : ItemWithNewer) (last : LastChange t s.end [] (history_of script key t) cut) where
    -- the items of the key
    abbrev all : List Item
    all = history_of script key t

    -- the key's line
    abbrev here : List Update
    here = line_of key t

    -- the last change is a change that began before the search ended
    passed : (changes_object cut.item ≡ true) × (began_before t cut.item.caller s.end ≡ true)
    passed = and_parts (changes_object cut.item) (began_before t cut.item.caller s.end) last.passing

    -- it writes
    write : is_write cut.item.op ≡ true
    write = (and_parts (is_write cut.item.op) (is_done cut.item.answer) passed.0).0

    -- it is that of a change of the line
    wrote : (w : Wrote script key t here cut.item) × (w.update.changes ≡ true)
    wrote = item-change script facts t run key cut.item last.stands passed.0

    -- its update
    abbrev u : Update
    u = wrote.0.update

    -- it has the item's version
    version-is : cut.item.version ≡ u.version
    version-is = ap (λ (x : Item). x.version) wrote.0.is

    -- no change that began before the search ended is newer
    no-newer : (w : Update) → IsIn w here → w.changes ≡ true → (m : ℕ) → BeganAt t w.caller m → m < s.end → w.version.0 ≤ u.version.0
    no-newer w i ch m b l =
        let x = change-item script facts t run key w i ch in
        let p = and_from (changes_object (write_of w x.op)) (began_before t w.caller s.end) x.changes (began-before script facts t run w.caller m s.end b l) in
        elim (last.others (write_of w x.op) x.stands p) [
          | inl e ↦ (let v : w.version.0 ≡ u.version.0 = ap (λ (y : Item). y.version.0) e ∙ ap (λ (y : Version). y.0) version-is in omega (arith, v))
          | inr f ↦ (let o = item-order script facts t run key cut.item (write_of w x.op) f x.writes in
              let v = ap (λ (y : Version). y.0) version-is in omega (arith, o, v))
        ]

    -- some item with at least its version ended before the search began
    committed : list_any (λ (x : Item). ended_before t x.caller s.begin) (cut.item ∷ cut.newer) ≡ true → (y : Item)
        × IsIn y all × (u.version.0 ≤ y.version.0) × (ended_before t y.caller s.begin ≡ true)
    committed any =
        let a = any-in (λ (x : Item). ended_before t x.caller s.begin) (cut.item ∷ cut.newer) any in
        let p = at a.0 a.1 in
        (a.0, p.0, p.1, a.2)
      where
        at : (y : Item) → IsIn y (cut.item ∷ cut.newer) → IsIn y all × (u.version.0 ≤ y.version.0)
        at y (inl e) = (
          subst (λ (z : Item). IsIn z all) (sym e) last.stands,
          (let v : y.version.0 ≡ u.version.0 = ap (λ (z : Item). z.version.0) e
              ∙ ap (λ (z : Version). z.0) version-is in omega (arith, v)),
        )
        at y (inr j) = elim (last.before y j) [
          | inl k ↦ absurd k
          | inr f ↦ (
            before-first all y cut.item f,
            (let o = item-order script facts t run key y cut.item f write in let v = ap (λ (z : Version). z.0) version-is in omega (arith, o, v)),
          )
        ]

    -- where it has an object that matches
    module _ (o : List Value) (object : u.object ≡ Some o) (match : matches s.terms key o ≡ true) (y : Item)
        (there : IsIn y all) (reached : u.version.0 ≤ y.version.0) (ended : ended_before t y.caller s.begin ≡ true) where
      -- the update's key
      key-is : u.key ≡ key
      key-is = (stands script.space key here (made script facts t run key) u wrote.0.stands).made.key_is

      -- where its object lies in the subspace that was asked
      abbrev g : RegionId
      g = place_of script.space known.gathered.parted.subspace key o

      -- that region was asked
      asked-there : IsIn g (map (λ (p : Part). p.region) known.gathered.parts)
      asked-there =
          let parted = known.gathered.parted in
          subst (IsIn g) (sym parted.regions_are)
          (contains-in parted.regions g (all_asked script.space parted.config s.terms valid.space parted.subspace parted.regions parted.plan key o match))

      -- the update passes it and keeps its object there
      placed : (has_place g u ≡ true) × (keeps_at g u ≡ true)
      placed =
          let parted = known.gathered.parted in
          let a = stands script.space key here (made script facts t run key) u wrote.0.stands in
          passes-keeps script.space valid.space key a.older u a.made wrote.1 o object parted.subspace
          (asked script.space parted.config s.terms parted.subspace parted.regions parted.plan).subspace

      -- the row that was shown there
      row-there : (rows : List Row) → ShownBefore script t c s.end g rows → IsIn (row_with u o) rows
      row-there rows by =
          let reach = front script facts t run c s.begin known.begun s.end g rows by key in
          let e = item-ended script facts t run key y there s.begin ended in
          full script facts t run c s.begin known.begun s.end g rows by key (row_with u o)
          (kept-newest script.space key g reach valid.space here (made script facts t run key) u o wrote.0.stands object wrote.1 placed.0 placed.1
          (late script facts t run c s.begin known.begun s.end g rows by key y.caller y.version e.answer e.entry
          e.ended e.before e.op e.called e.on_key e.sure u wrote.0.stands placed.0 reached)
          (λ w i l m. unchanged w i l m (cases_Bool w.changes)))
          (ap (λ (l : List Term). matches l u.key o) (terms-same script valid facts t run c s known g rows by)
          ∙ ap (λ (k : List ℕ). matches s.terms k o) key-is ∙ match)
        where
          unchanged : (w : Update) → IsIn w here → u.version.0 < w.version.0
              → w.version.0 ≤ front script facts t run c s.begin known.begun s.end g rows by key → (w.changes ≡ true)
              ⊎ (w.changes ≡ false) → w.changes ≡ false
          unchanged w i l m (inr f) = f
          unchanged w i l m (inl ch) =
              let e = early script facts t run c s.begin known.begun s.end g rows by key w i m in
              let n = no-newer w i ch e.0 e.1 e.2 in absurd (omega (arith, l, n))

      -- it is covered by a row of the join
      covered : IsCovered (merged_parts known.gathered.parts) (row_with u o)
      covered =
          let m = in-map (λ (p : Part). p.region) known.gathered.parts g asked-there in
          by m.0 m.1 (sym m.2) m.0.rows refl (all-pass (λ (p : Part). is_some p.rows) known.gathered.parts m.0 known.gathered.all m.1)
        where
          by : (p : Part) → IsIn p known.gathered.parts → p.region ≡ g → (x : Option (List Row)) → p.rows ≡ x
              → is_some p.rows ≡ true → IsCovered (merged_parts known.gathered.parts) (row_with u o)
          by p i e None f q = absurd (false≢true (sym (ap (λ (x : Option (List Row)). is_some x) f) ∙ q))
          by p i e (Some rows) f q =
              merged-covers known.gathered.parts p i (row_with u o)
              (subst (λ (x : Option (List Row)). IsIn (row_with u o) (when_some x [] (λ (rows : List Row). rows))) (sym f)
              (row-there rows (subst (λ (h : RegionId). ShownBefore script t c s.end h rows) e (known.gathered.parted.each p i rows f))))

      -- that row is the update's own
      covered-is : (z : Row) → IsIn z (merged_parts known.gathered.parts) → z.key ≡ u.key → u.version.0 ≤ z.version.0 → z ≡ row_with u o
      covered-is z i k l =
          let p = part-row z i in
          let found = kept script valid facts t run c s known p.region p.rows p.by z p.inside in
          let j = subst (λ (x : List ℕ). IsIn found.update (line_of x t)) (k ∙ key-is)
          (row-stands script valid facts t run c s known p.region p.rows p.by z p.inside).0 in
          let e = row-early script valid facts t run c s known p.region p.rows p.by z p.inside in
          let n = no-newer found.update j found.changes e.0 e.1 e.2 in
          let w : z.version.0 ≡ found.update.version.0 = ap (λ (x : Version). x.0) found.version in
          let same : found.update ≡ u = same_version here found.update u (sorted script facts t run key) j wrote.0.stands (omega (arith, n, w, l)) in
          let a : z.version ≡ u.version = found.version ∙ ap (λ (x : Update). x.version) same in
          let b : z.object ≡ o = (let q : Some z.object ≡ Some o = sym found.object ∙ ap (λ (x : Update). x.object) same ∙ object in cc) in
          (λ m. record { key = k m; version = a m; object = b m })

      -- so it is shown
      shown : IsIn (record { key = key; version = cut.item.version; object = o }) s.rows
      shown =
          let r = covered in
          let same = covered-is r.0 r.1 r.2 r.3 in
          subst (λ (l : List Row). IsIn (record { key = key; version = cut.item.version; object = o }) l) (sym known.gathered.rows_are)
          (subst (λ (x : Row). IsIn x (merged_parts known.gathered.parts))
          (same ∙ (λ m. record { key = key-is m; version = sym version-is m; object = o })) r.1)

    -- the last change is shown
    cut-shown : list_any (λ (x : Item). ended_before t x.caller s.begin) (cut.item ∷ cut.newer) ≡ true → IsShown s key cut.item cut.item.object
    cut-shown any =
        let k = committed any in
        by k.0 k.1 k.2 k.3 cut.item.object refl
      where
        by : (y : Item) → IsIn y all → u.version.0 ≤ y.version.0 → ended_before t y.caller s.begin ≡ true
            → (x : Option (List Value)) → cut.item.object ≡ x → IsShown s key cut.item x
        by y i l e None q = tt
        by y i l e (Some o) q = λ m. shown o (ap (λ (z : Item). z.object) (sym wrote.0.is) ∙ q) m y i l e

  -- the search is whole
  pub search-whole : (key : List ℕ) → IsSearchWhole script t key s
  search-whole key = by (last_change t s.end [] (history_of script key t)) refl
    where
      by : (x : Option ItemWithNewer) → last_change t s.end [] (history_of script key t) ≡ x → IsChangeShown t s key x
      by None e = tt
      by (Some cut) e = λ any. cut-shown key cut (last-is t s.end [] (history_of script key t) cut e) any
