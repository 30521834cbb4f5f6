-- The order of begins and ends in a run.
use Rattle.hx_law_lemmas.proofs.Lemmas.Vocabulary.{[], Answer, ap, arith, Caller, Entry, Facts, inl, inr, IsIn, IsRun, List, Script, Session, Some, sym}
use Rattle.hx_law_lemmas.proofs.Lemmas.Vocabulary.{Version, ℕ, ◌<◌, ◌∙◌, ◌∷◌, ◌≡◌, ◌≤◌}
use Rattle.hx_types.specs.declared.traces.Note.TheVariants as a_note
use Rattle.hx_law_lemmas.proofs.Lemmas.{CallStop, BeganAt, EndedAt, begins_now, ends_now, may_start}
use Rattle.hx_law_searches.proofs.Calls.{Calls, EndedFirst}
use Rattle.hx_law_searches.proofs.CallsKept.{calls_kept, turn_is}

module _ (script : Script) (facts : Facts script) where
  -- what is said of calls
  calls : (t : List Entry) → IsRun script t → Calls script t
  calls t run = calls_kept script facts t run

  -- a call that ends now has not ended before
  pub not_again : (older : List Entry) (x : Entry) → IsRun script (x ∷ older) → (c : Caller) (v w : Version) (a b : Answer) (n : ℕ)
      → x.actor ≡ Session c.session → IsIn (a_note.Ended c.number v a) x.notes → EndedAt older c w b n → ⊥
  not_again older x run c v w a b n acts i h =
      let turn = turn_is script older x c.session run.0 acts in
      let now = ends_now _ _ _ turn c.number v a i in
      let old = (calls older run.1).ended_low c w b n h in
      elim (may_start _ _ _ turn) [
        | inl r ↦ (let l = old.1 (sym r.1 ∙ turn.turn.running _ now.stop_is) in omega (arith, l, now.number, r.0))
        | inr r ↦ omega (arith, old.0, now.number, r.0)
      ]

  -- a call ends once
  pub ended_unique : (t : List Entry) → IsRun script t → (c : Caller) (v w : Version) (a b : Answer) (m n : ℕ) → EndedAt t c v a m
      → EndedAt t c w b n → (v ≡ w) × (a ≡ b) × (m ≡ n)
  ended_unique [] run c v w a b m n h g = absurd h
  ended_unique (x ∷ older) run c v w a b m n (inl h) (inl g) =
      let turn = turn_is script older x c.session run.0 h.0 in
      let p = ends_now _ _ _ turn c.number v a h.1 in
      let q = ends_now _ _ _ turn c.number w b g.1 in
      let r : Some (record { version = v; answer = a }) ≡ Some (record { version = w; answer = b }) = sym p.stop_is ∙ q.stop_is in
      let e = same_stop (record { version = v; answer = a }) (record { version = w; answer = b }) r in
      (ap (λ (s : CallStop). s.version) e, ap (λ (s : CallStop). s.answer) e, h.2 ∙ sym g.2)
    where
      same_stop : (s t : CallStop) → Some s ≡ Some t → s ≡ t
      same_stop s t e = cc
  ended_unique (x ∷ older) run c v w a b m n (inl h) (inr g) = absurd (not_again older x run c v w a b n h.0 h.1 g)
  ended_unique (x ∷ older) run c v w a b m n (inr h) (inl g) = absurd (not_again older x run c w v b a m g.0 g.1 h)
  ended_unique (x ∷ older) run c v w a b m n (inr h) (inr g) = ended_unique older run.1 c v w a b m n h g

  -- a call begins before it ends, or in the same entry
  pub begins_first : (t : List Entry) → IsRun script t → (c : Caller) (v : Version) (a : Answer) (n m : ℕ) → EndedAt t c v a n
      → BeganAt t c m → m ≤ n
  begins_first [] run c v a n m h g = absurd h
  begins_first (x ∷ older) run c v a n m (inl h) g =
      let r = (calls (x ∷ older) run).began_low c m g in omega (arith, r.1, h.2)
  begins_first (x ∷ older) run c v a n m (inr h) (inl g) =
      let r = (calls older run.1).ended_low c v a n h in
      let b = begins_now _ _ _ (turn_is script older x c.session run.0 g.0) c.number g.1 in
      absurd (omega (arith, r.0, b.0))
  begins_first (x ∷ older) run c v a n m (inr h) (inr g) = begins_first older run.1 c v a n m h g

  -- ended at an earlier entry than the one at which another began
  pub first_of : (t : List Entry) → IsRun script t → (a b : Caller) (v : Version) (answer : Answer) (m n : ℕ) → EndedAt t a v answer m
      → BeganAt t b n → m < n → EndedFirst t a v answer b
  first_of [] run a b v answer m n h g l = absurd h
  first_of (x ∷ older) run a b v answer m n (inl h) g l =
      let r = (calls (x ∷ older) run).began_low b n g in absurd (omega (arith, r.1, h.2, l))
  first_of (x ∷ older) run a b v answer m n (inr h) (inl g) l = inl (g.0, g.1, (m, h))
  first_of (x ∷ older) run a b v answer m n (inr h) (inr g) l = inr (first_of older run.1 a b v answer m n h g l)
