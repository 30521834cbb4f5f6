-- What is known at the end of a run of rows that were shown to a search: they are what the region
-- keeps of each line up to a front that reaches as far as any call that ended before the search
-- began.
use Rattle.hx_law_lemmas.proofs.Lemmas.Vocabulary.{[], Answer, ap, arith, call_of, Caller, cond_both, Entry, Facts, false, has_place, inl, inr, is_doubt, IsIn}
use Rattle.hx_law_lemmas.proofs.Lemmas.Vocabulary.{IsPartOf, IsRun, kept_row, key_of, leb, leb-false, leb-true, length, line_of, List, matches, None, Op}
use Rattle.hx_law_lemmas.proofs.Lemmas.Vocabulary.{part_at, refl, RegionId, Row, Script, Session, ShowsRows, Some, subst, sym, Term, true, Update, upto}
use Rattle.hx_law_lemmas.proofs.Lemmas.Vocabulary.{Version, ℕ, ◌<◌, ◌∙◌, ◌∷◌, ◌≡◌, ◌≤◌}
use Rattle.hx_law_lemmas.proofs.Lemmas.{numbered-within as in-below, upto_past, BeganAt, EndedAt, Sorted, in-upto, in-upto_from, only-in, top-least, upto_all}
use Rattle.hx_law_lemmas.proofs.Lemmas.{line-numbered, line-sorted}
use Rattle.hx_law_searches.proofs.Calls.{IsKnown, ended-known}
use Rattle.hx_law_searches.proofs.CallsKept.{calls_kept}
use Rattle.hx_law_searches.proofs.Items.{began-unique}
use Rattle.hx_law_searches.proofs.Moments.{ended-part, part-before, part-began, part-run}
use Rattle.hx_law_searches.proofs.Gathering.{ShownBefore}

-- a region's part of a line up to a version is that of its front
upto-part : (v : ℕ) (g : RegionId) (us : List Update) → Sorted us → upto v (part_at g us) ≡ part_at g (upto v us)
upto-part v g [] h = refl
upto-part v g (u ∷ us) h =
    cond_both (leb u.version.0 v) (u ∷ us) (upto v us) (λ l. upto v (part_at g (u ∷ us)) ≡ part_at g l)
    (λ t. upto_all (part_at g (u ∷ us)) v (top-least (part_at g (u ∷ us)) v (λ x i. low x (only-in g (u ∷ us) x i).0 (leb-true u.version.0 v t))))
    (λ t. cond_both (has_place g u) (u ∷ part_at g us) (part_at g us) (λ l. upto v l ≡ part_at g (upto v us))
    (λ q. upto_past v u (part_at g us) (leb-false u.version.0 v t) ∙ upto-part v g us h.2)
    (λ q. upto-part v g us h.2))
  where
    low : (x : Update) → IsIn x (u ∷ us) → u.version.0 ≤ v → x.version.0 ≤ v
    low x (inl e) b = let s : x.version.0 ≡ u.version.0 = ap (λ (y : Update). y.version.0) e in omega (arith, s, b)
    low x (inr i) b = let a = h.0 x i in omega (arith, a, b)

module _ (script : Script) (facts : Facts script) (t : List Entry) (run : IsRun script t) (c : Caller) (begin : ℕ)
    (began : BeganAt t c begin) (n : ℕ) (g : RegionId) (rows : List Row) (by : ShownBefore script t c n g rows) where
  -- the trace before the entry that showed them
  abbrev older : List Entry
  older = by.shown.older

  -- what that entry did
  abbrev shows : ShowsRows script older by.shown.entry (Session c.session) by.shown.epoch c.number g rows
  shows = by.shown.shows

  -- the terms that were asked for
  abbrev pub terms : List Term
  terms = shows.terms

  -- how far the rows of each key reach
  abbrev pub front : List ℕ → ℕ
  front = shows.front

  -- it is a part of the run
  part : IsPartOf older t
  part = part-before by.shown.entry older t by.shown.part

  -- and a run
  older-run : IsRun script older
  older-run = part-run script older t part run

  -- the key's line is sorted
  sorted : (key : List ℕ) → Sorted (line_of key t)
  sorted key = line-sorted script key (line_of key t) (facts.lines t run key)

  -- up to the front the line is that of then
  line-same : (key : List ℕ) → upto (front key) (line_of key t) ≡ upto (front key) (line_of key older)
  line-same key = shows.stays key t run part

  -- so is the region's part
  part-same : (key : List ℕ) → upto (front key) (part_at g (line_of key t)) ≡ upto (front key) (part_at g (line_of key older))
  part-same key =
      upto-part (front key) g (line_of key t) (sorted key) ∙ ap (part_at g) (line-same key)
      ∙ sym (upto-part (front key) g (line_of key older) (line-sorted script key (line_of key older) (facts.lines older older-run key)))

  -- each row is what is kept of its key, and matches
  pub sound : (r : Row) → IsIn r rows → (kept_row g None (upto (front r.key) (part_at g (line_of r.key t))) ≡ Some r) × (matches terms r.key r.object ≡ true)
  sound r i = let s = shows.sound r i in (ap (kept_row g None) (part-same r.key) ∙ s.0, s.1)

  -- each kept row that matches is shown
  pub full : (key : List ℕ) (r : Row) → kept_row g None (upto (front key) (part_at g (line_of key t))) ≡ Some r
      → matches terms r.key r.object ≡ true → IsIn r rows
  full key r e m = shows.full key r (ap (kept_row g None) (sym (part-same key)) ∙ e) m

  -- the search had begun by then
  begun-then : begin ≤ length older
  begun-then =
      let e = began-unique script facts t run c begin by.shown.begin began (part-began older t part c by.shown.begin by.shown.begun) in
      let l = ((calls_kept script facts older older-run).began_low c by.shown.begin by.shown.begun).1 in
      omega (arith, e, l)

  -- the front reaches as far as any call that ended before the search began
  pub late : (key : List ℕ) (a : Caller) (v : Version) (answer : Answer) (m : ℕ) → EndedAt t a v answer m → m < begin
      → (op : Op) → call_of script a ≡ Some op → key_of op ≡ Some key → is_doubt answer ≡ false
      → (u : Update) → IsIn u (line_of key t) → has_place g u ≡ true → u.version.0 ≤ v.0 → u.version.0 ≤ front key
  late key a v answer m ended less op called on_key sure u i placed low =
      let e = ended-part older t part a v answer m ended (let b = begun-then in omega (arith, b, less)) in
      reach (ended-known script older a v answer ((calls_kept script facts older older-run).replied a v answer m e) op key called on_key sure)
    where
      reach : IsKnown script older key v.0 → u.version.0 ≤ front key
      reach (inl z) = absurd (let b = (in-below (line_of key t) u
          (line-numbered script key (line_of key t) (facts.lines t run key)) i).0 in omega (arith, b, low, z))
      reach (inr told) =
          let same = facts.told_stays older older-run key v.0 told t run part in
          shows.reaches key v.0 told u (in-upto v.0 (line_of key older) u
          (subst (λ (l : List Update). IsIn u l) same (in-upto_from v.0 (line_of key t) u (sorted key) i low))) placed low

  -- an update up to the front is of a call that began before
  pub early : (key : List ℕ) (u : Update) → IsIn u (line_of key t) → u.version.0 ≤ front key → (m : ℕ) × BeganAt t u.caller m × (m < n)
  early key u i low =
      let k = calls_kept script facts older older-run in
      let there = in-upto (front key) (line_of key older) u
      (subst (λ (l : List Update). IsIn u l) (line-same key)
      (in-upto_from (front key) (line_of key t) u (sorted key) i low)) in
      let p = k.lined key u there in
      let b = (k.sent u.caller.session p.0 p.1 u.caller.number p.2 p.3).begun in
      let l = (k.began_low u.caller b.0 b.1).1 in
      (b.0, part-began older t part u.caller b.0 b.1, (let z = by.before in omega (arith, l, z)))
