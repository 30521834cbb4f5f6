-- What a finished search was gathered from, as facts on the whole run.
use Rattle.hx_law_lemmas.proofs.Lemmas.Vocabulary.{[], Answer, ap, arith, begin_of, call_of, CallEnd, Caller, end_of, Entry, Facts, FinishedSearch, inl, inr}
use Rattle.hx_law_lemmas.proofs.Lemmas.Vocabulary.{IsRun, length, List, None, numbered, Op, Option, refl, RegionId, Row, rows_in, Script, Search, search_of}
use Rattle.hx_law_lemmas.proofs.Lemmas.Vocabulary.{Some, Space, subst, sym, Term, terms_of, Version, when_some, with_rows, ℕ, ◌+◌, ◌<◌, ◌∙◌, ◌∷◌, ◌≡◌, ◌⊎◌}
use Rattle.hx_types.specs.declared.calls.Answer.TheVariants as an_answer
use Rattle.hx_law_lemmas.proofs.Lemmas.{BeganAt, EndedAt, began_at, ended_at, end-noted, Gathered}
use Rattle.hx_law_chains.proofs.Lemmas.{named}
use Rattle.hx_law_searches.proofs.Moments.{part-length}
use Rattle.hx_law_searches.proofs.Searched.{WasShown, searched-run, shown-up, turn-of}

-- rows that were shown before an entry
pub record ShownBefore (script : Script) (t : List Entry) (c : Caller) (n : ℕ) (g : RegionId) (rows : List Row) : Type 0 where
  pub shown : WasShown script t c g rows
  pub before : length shown.older < n

-- what is known of rows may be said in other words
abbrev pub gathered-map : (space : Space) (terms : List Term) (P Q : RegionId → List Row → Type 0)
    → ((g : RegionId) (rows : List Row) → P g rows → Q g rows) → (rows : List Row) → Gathered space terms P rows
    → Gathered space terms Q rows
gathered-map space terms P Q f rows h = record {
  parts = h.parts;
  parted = record {
    config = h.parted.config;
    subspace = h.parted.subspace;
    regions = h.parted.regions;
    plan = h.parted.plan;
    regions_are = h.parted.regions_are;
    each = λ p i rs e. f p.region rs (h.parted.each p i rs e);
  };
  all = h.all;
  rows_are = h.rows_are;
}

-- how a finished search was gathered, before the entry that ended it
abbrev pub EndGathered : Script → List Entry → Caller → List Term → List Row → ℕ → Type 0
EndGathered script [] c terms rows n = ⊥
EndGathered script (x ∷ older) c terms rows n =
    ((n ≡ length older + 1) × Gathered script.space terms (λ g rs. WasShown script older c g rs) rows) ⊎ EndGathered script older c terms rows n

module _ (script : Script) (facts : Facts script) where
  -- every finished search was gathered so
  ends-gathered : (t : List Entry) → IsRun script t → (c : Caller) (ver : Version) (rows : List Row) (terms : List Term) (n : ℕ)
      → EndedAt t c ver (an_answer.Rows rows) n → call_of script c ≡ Some (Search terms) → EndGathered script t c terms rows n
  ends-gathered [] run c ver rows terms n h called = absurd h
  ends-gathered (x ∷ older) run c ver rows terms n (inr h) called = inr (ends-gathered older run.1 c ver rows terms n h called)
  ends-gathered (x ∷ older) run c ver rows terms n (inl h) called =
      inl (
        h.2,
        ((turn-of script facts older x run (searched-run script facts older run.1) c.session h.0).ends c.number ver rows terms h.1
            (ap (λ (l : List Op). numbered l c.number) (named script older c.session).1 ∙ called)).0,
      )

  -- what was shown before an entry stays so
  before-up : (older : List Entry) (x : Entry) (c : Caller) (n : ℕ) (g : RegionId) (rows : List Row)
      → ShownBefore script older c n g rows → ShownBefore script (x ∷ older) c n g rows
  before-up older x c n g rows f = record { shown = shown-up script older x c g rows f.shown; before = f.before }

  -- what was shown by now was shown before the next entry
  before-now : (older : List Entry) (x : Entry) (c : Caller) (g : RegionId) (rows : List Row)
      → WasShown script older c g rows → ShownBefore script (x ∷ older) c (length older + 1) g rows
  before-now older x c g rows w = record {
    shown = shown-up script older x c g rows w;
    before = (let l = part-length (w.entry ∷ w.older) older w.part in omega (arith, l));
  }

  -- a whole search
  gathered-by : (t : List Entry) → (c : Caller) (terms : List Term) (rows : List Row) (n : ℕ)
      → EndGathered script t c terms rows n → Gathered script.space terms (ShownBefore script t c n) rows
  gathered-by [] c terms rows n h = absurd h
  gathered-by (x ∷ older) c terms rows n (inl h) =
      subst (λ k. Gathered script.space terms (ShownBefore script (x ∷ older) c k) rows) (sym h.0)
      (gathered-map script.space terms (λ g rs. WasShown script older c g rs)
      (ShownBefore script (x ∷ older) c (length older + 1)) (λ g rs f. before-now older x c g rs f) rows h.1)
  gathered-by (x ∷ older) c terms rows n (inr h) =
      gathered-map script.space terms (ShownBefore script older c n) (ShownBefore script (x ∷ older) c n)
      (λ g rs f. before-up older x c n g rs f) rows (gathered-by older c terms rows n h)

  -- what is known of a finished search
  pub record Finished (t : List Entry) (c : Caller) (s : FinishedSearch) : Type 0 where
    pub called : call_of script c ≡ Some (Search s.terms)
    pub begun : BeganAt t c s.begin
    pub gathered : Gathered script.space s.terms (ShownBefore script t c s.end) s.rows

  -- a search by its parts
  terms-are : (op : Op) (terms : List Term) → terms_of op ≡ Some terms → op ≡ Search terms
  terms-are (Search ts) terms e = let q : ts ≡ terms = cc in ap Search q
  terms-are other terms e = absurd (cc)

  -- rows that an answer has are its own
  rows-are : (a : Answer) (rows : List Row) → rows_in a ≡ Some rows → a ≡ an_answer.Rows rows
  rows-are (an_answer.Rows rs) rows e = let q : rs ≡ rows = cc in ap an_answer.Rows q
  rows-are other rows e = absurd (cc)

  -- each finished search is known so
  pub finished : (t : List Entry) → IsRun script t → (c : Caller) (s : FinishedSearch) → search_of script t c ≡ Some s → Finished t c s
  finished t run c s = op-by (call_of script c) refl
    where
      row-by : (terms : List Term) → call_of script c ≡ Some (Search terms) → (begin : ℕ) → begin_of c t ≡ Some begin → (e : CallEnd) → end_of c t ≡ Some e
          → (o : Option (List Row)) → rows_in e.answer ≡ o → with_rows c terms begin e.entry o ≡ Some s → Finished t c s
      row-by terms called begin b e f None g q = absurd (cc)
      row-by terms called begin b e f (Some rows) g q =
          let d = ended_at c t e (end-noted c t e f) in
          let h = subst (λ (a : Answer). EndedAt t c e.version a e.entry) (rows-are e.answer rows g) d in
          subst (Finished t c) (let r : record { terms = terms; begin = begin; end = e.entry; rows = rows } ≡ s = cc in r)
          (record {
            called = called;
            begun = began_at c t begin b;
            gathered = gathered-by t c terms rows e.entry (ends-gathered t run c e.version rows terms e.entry h called);
          })

      end-by : (terms : List Term) → call_of script c ≡ Some (Search terms) → (begin : ℕ) → begin_of c t ≡ Some begin → (o : Option CallEnd) → end_of c t ≡ o
          → when_some o None (λ (e : CallEnd). with_rows c terms begin e.entry (rows_in e.answer)) ≡ Some s → Finished t c s
      end-by terms called begin b None f q = absurd (cc)
      end-by terms called begin b (Some e) f q = row-by terms called begin b e f (rows_in e.answer) refl q

      begin-by : (terms : List Term) → call_of script c ≡ Some (Search terms) → (o : Option ℕ) → begin_of c t ≡ o
          → when_some o None (λ begin. when_some (end_of c t) None
          (λ (e : CallEnd). with_rows c terms begin e.entry (rows_in e.answer))) ≡ Some s → Finished t c s
      begin-by terms called None b q = absurd (cc)
      begin-by terms called (Some begin) b q = end-by terms called begin b (end_of c t) refl q

      terms-by : (op : Op) → call_of script c ≡ Some op → (o : Option (List Term)) → terms_of op ≡ o
          → when_some o None (λ (terms : List Term). when_some (begin_of c t) None
          (λ begin. when_some (end_of c t) None (λ (e : CallEnd). with_rows c terms begin e.entry
          (rows_in e.answer)))) ≡ Some s → Finished t c s
      terms-by op called None f q = absurd (cc)
      terms-by op called (Some terms) f q = begin-by terms (called ∙ ap Some (terms-are op terms f)) (begin_of c t) refl q

      op-by : (o : Option Op) → call_of script c ≡ o
          → when_some o None (λ (op : Op). when_some (terms_of op) None
          (λ (terms : List Term). when_some (begin_of c t) None
          (λ begin. when_some (end_of c t) None (λ (e : CallEnd). with_rows c terms begin e.entry
          (rows_in e.answer))))) ≡ Some s → Finished t c s
      op-by None called q = absurd (cc)
      op-by (Some op) called q = terms-by op called (terms_of op) refl q
