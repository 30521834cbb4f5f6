-- Each row of a finished search is a change that matches, began before the search ended, and wasn't followed by a change that ended before the search began.
use Rattle.hx_law_lemmas.proofs.Lemmas.Vocabulary.{[], and_parts, ap, arith, began_before, Bool, Caller, cases_order, changes_object, ended_before, Entry}
use Rattle.hx_law_lemmas.proofs.Lemmas.Vocabulary.{Facts, false, FinishedSearch, has_place, history_of, inl, inr, is_write, IsBefore, IsIn, IsRun, IsScript}
use Rattle.hx_law_lemmas.proofs.Lemmas.Vocabulary.{IsSearchTrue, IsTrueRow, Item, keys_ascend, line_of, List, list_any, map, matches, merged_parts}
use Rattle.hx_law_lemmas.proofs.Lemmas.Vocabulary.{no_change_before, None, not, Option, Part, part_at, refl, RegionId, Row, Script, Search, Some, subst, sym}
use Rattle.hx_law_lemmas.proofs.Lemmas.Vocabulary.{Term, true, true≢false, Update, upto, Version, when_some, ℕ, ◌&&◌, ◌<◌, ◌∙◌, ◌≡◌, ◌≤◌}
use Rattle.hx_law_lemmas.proofs.Lemmas.{any-in, before-first, BeganAt, cut-at, merged-ascends, merged-in, part_rows, row_key, Sorted, in-only, in-upto}
use Rattle.hx_law_lemmas.proofs.Lemmas.{in-upto_from, only-in, only-sorted, same_version, upto-low, upto-sorted, Lies, keeps-where, passes-key, passes-old}
use Rattle.hx_law_lemmas.proofs.Lemmas.{Changed, Kept, Stands, kept-is, next-change, stands, ascend-test}
use Rattle.hx_law_searches.proofs.Changes.{change-item, item-change, made, sorted}
use Rattle.hx_law_searches.proofs.Gathering.{Finished, ShownBefore}
use Rattle.hx_law_searches.proofs.Histories.{write_of}
use Rattle.hx_law_searches.proofs.Items.{began-before}
use Rattle.hx_law_searches.proofs.Orders.{item-ended, item-once, item-order}
use Rattle.hx_law_searches.proofs.Shown.{early, front, late, sound}

module _ (script : Script) (valid : IsScript script) (facts : Facts script) (t : List Entry) (run : IsRun script t) where
  -- a region's part of a line up to a version is sorted
  pub part-sorted : (key : List ℕ) (g : RegionId) (v : ℕ) → Sorted (upto v (part_at g (line_of key t)))
  part-sorted key g v = upto-sorted v (part_at g (line_of key t)) (only-sorted g (line_of key t) (sorted script facts t run key))

  module _ (c : Caller) (s : FinishedSearch) (known : Finished script facts t c s) where
    -- the terms of what was shown are the search's
    pub terms-same : (g : RegionId) (rows : List Row) (by : ShownBefore script t c s.end g rows) → by.shown.shows.terms ≡ s.terms
    terms-same g rows by = let q : Some (Search by.shown.shows.terms) ≡ Some (Search s.terms) =
        sym by.shown.called ∙ known.called in let r : Search by.shown.shows.terms ≡ Search s.terms = cc in cc

    module _ (g : RegionId) (rows : List Row) (by : ShownBefore script t c s.end g rows) (r : Row) (inside : IsIn r rows) where
      -- the key's line
      abbrev here : List Update
      here = line_of r.key t

      -- how far what was shown reaches
      abbrev reach : ℕ
      reach = front script facts t run c s.begin known.begun s.end g rows by r.key

      -- what is kept of it
      pub kept : Kept g (upto (front script facts t run c s.begin known.begun s.end g rows by r.key) (part_at g (line_of r.key t))) r
      kept = kept-is g (upto reach (part_at g here)) (part-sorted r.key g reach) r (sound script facts t run c s.begin known.begun s.end g rows by r inside).0

      -- the update of the row
      abbrev u : Update
      u = kept.update

      -- it stands in the line with a place in the region
      pub row-stands : IsIn kept.update (line_of r.key t) × (has_place g kept.update ≡ true)
      row-stands = only-in g here u (in-upto reach (part_at g here) u kept.stands)

      -- its call began before the search ended
      pub row-early : (m : ℕ) × BeganAt t kept.update.caller m × (m < s.end)
      row-early = early script facts t run c s.begin known.begun s.end g rows by r.key u row-stands.0
          (upto-low reach (part_at g here) u (only-sorted g here (sorted script facts t run r.key)) kept.stands)

      -- a later change of its object passes the region
      passes-here : (w : Changed script.space r.key here u r.object) → has_place g w.update ≡ true
      passes-here w =
          let a = stands script.space r.key here (made script facts t run r.key) u row-stands.0 in
          elim (keeps-where script.space valid.space r.key a.older u a.made g kept.keeps) [
            | inl e ↦ ap (λ (h : RegionId). has_place h w.update) e ∙ passes-key script.space r.key w.older w.update w.made
            | inr l ↦ lies a w l
          ]
        where
          lies : (a : Stands script.space r.key here u) → (w : Changed script.space r.key here u r.object)
              → Lies script.space valid.space r.key a.older u a.made g → has_place g w.update ≡ true
          lies a w l =
              let o : r.object ≡ l.object = (let q : Some r.object ≡ Some l.object = sym kept.object ∙ l.is in cc) in
              ap (λ (h : RegionId). has_place h w.update) (sym l.place)
              ∙ passes-old script.space valid.space r.key w.older w.update w.made w.changes l.subspace l.stands l.object (w.object ∙ ap Some o)

      -- no later change ended before the search began
      not-ended : (x y : Item) → x.version ≡ u.version → x.caller ≡ u.caller → is_write x.op ≡ true
          → IsBefore y x (history_of script r.key t) → changes_object y ≡ true → ended_before t y.caller s.begin ≡ true → ⊥
      not-ended x y v own write b change ended =
          let i = before-first (history_of script r.key t) y x b in
          let w = item-change script facts t run r.key y i change in
          let e = item-ended script facts t run r.key y i s.begin ended in
          let version : y.version.0 ≡ w.0.update.version.0 = ap (λ (z : Item). z.version.0) w.0.is in
          let here-version : x.version.0 ≡ u.version.0 = ap (λ (z : Version). z.0) v in
          let l = item-order script facts t run r.key y x b write in
          let other : u.version.0 ≡ w.0.update.version.0 → ⊥ =
          λ q. item-once script facts t run r.key y x b
          (own ∙ ap (λ (z : Update). z.caller) (same_version here u w.0.update
          (sorted script facts t run r.key) row-stands.0 w.0.stands q) ∙ ap (λ (z : Item). z.caller) (sym w.0.is)) in
          let n = next-change script.space r.key here (made script facts t run r.key) u r.object row-stands.0
          kept.object w.0.update w.0.stands (above u.version.0 w.0.update.version.0
          (omega (arith, l, version, here-version)) other) w.1 in
          let p = passes-here n.0 in
          let low = late script facts t run c s.begin known.begun s.end g rows by r.key y.caller y.version e.answer
          e.entry e.ended e.before e.op e.called e.on_key e.sure n.0.update n.0.stands p (let m = n.1 in
          omega (arith, m, version)) in
          let there = in-upto_from reach (part_at g here) n.0.update
          (only-sorted g here (sorted script facts t run r.key)) (in-only g here n.0.update n.0.stands p) low in
          true≢false (sym n.0.changes ∙ kept.newest n.0.update there n.0.above)
        where
          above : (a b : ℕ) → a ≤ b → (a ≡ b → ⊥) → a < b
          above a b l n = elim (cases_order a b) [ inl e ↦ absurd (n e) | inr (inl h) ↦ h | inr (inr h) ↦ absurd (omega (arith, h, l)) ]

      -- so none of these did
      no-later : (x : Item) → x.version ≡ u.version → x.caller ≡ u.caller → is_write x.op ≡ true → (l : List Item)
          → ((y : Item) → IsIn y l → IsBefore y x (history_of script r.key t)) → no_change_before t s.begin l ≡ true
      no-later x v own write l f = test (list_any (λ (x : Item). changes_object x && ended_before t x.caller s.begin) l) refl
        where
          test : (b : Bool) → list_any (λ (x : Item). changes_object x && ended_before t x.caller s.begin) l ≡ b → not b ≡ true
          test false e = refl
          test true e =
              let a = any-in (λ (x : Item). changes_object x && ended_before t x.caller s.begin) l e in
              let p = and_parts (changes_object a.0) (ended_before t a.0.caller s.begin) a.2 in
              absurd (not-ended x a.0 v own write (f a.0 a.1) p.0 p.1)

      -- the row is true
      true-row : IsTrueRow script t s r
      true-row =
          let i = change-item script facts t run r.key u row-stands.0 kept.changes in
          let cut = cut-at [] (history_of script r.key t) (write_of u i.op) i.stands in
          let b = row-early in
          record {
            cut = cut.cut;
            stands = cut.stands;
            changes = ap changes_object cut.item ∙ i.changes;
            version = ap (λ (x : Item). x.version) cut.item ∙ sym kept.version;
            object = ap (λ (x : Item). x.object) cut.item ∙ kept.object;
            match = ap (λ (l : List Term). matches l r.key r.object) (sym (terms-same g rows by))
                ∙ (sound script facts t run c s.begin known.begun s.end g rows by r inside).1;
            began = ap (λ (x : Item). began_before t x.caller s.end) cut.item ∙ began-before script facts t run u.caller b.0 s.end b.1 b.2;
            newest = no-later (write_of u i.op) refl refl i.writes cut.cut.newer (λ y j. elim (cut.before y j) [ inl k ↦ absurd k | inr b ↦ b ]);
          }

    -- the rows of a part are true
    part-true : (p : Part) → IsIn p known.gathered.parts → (r : Row) → IsIn r (part_rows p) → IsTrueRow script t s r
    part-true p i r = by p.rows refl
      where
        by : (o : Option (List Row)) → p.rows ≡ o → IsIn r (when_some o [] (λ (rows : List Row). rows)) → IsTrueRow script t s r
        by None e j = absurd j
        by (Some rows) e j = true-row p.region rows (known.gathered.parted.each p i rows e) r j

    -- the search is true
    pub search-true : IsSearchTrue script t s
    search-true = record {
      rows = λ r i. merged-in known.gathered.parts (IsTrueRow script t s) part-true r (subst (λ (l : List Row). IsIn r l) known.gathered.rows_are i);
      in_order = ap (λ (l : List Row). keys_ascend (map row_key l)) known.gathered.rows_are
          ∙ ascend-test row_key (merged_parts known.gathered.parts) (merged-ascends known.gathered.parts);
    }
