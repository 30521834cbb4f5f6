-- A session's calls begin one after another, each after the one before ended; and what ended has begun.
use Rattle.hx_law_lemmas.proofs.Lemmas.Vocabulary.{[], Answer, ap, arith, Caller, Entry, Facts, inl, inr, IsIn, IsRun, length, List, refl, Script, session_of}
use Rattle.hx_law_lemmas.proofs.Lemmas.Vocabulary.{subst, sym, Version, ℕ, ◌+◌, ◌<◌, ◌∙◌, ◌∷◌, ◌≡◌}
use Rattle.hx_types.specs.declared.traces.Note.TheVariants as a_note
use Rattle.hx_law_lemmas.proofs.Lemmas.{started, begins_now, ends_now, may_start, BeganAt, EndedAt}
use Rattle.hx_law_searches.proofs.Lemmas.{Calls, calls_kept, turn_is}

module _ (script : Script) (facts : Facts script) where
  -- what is said of calls
  calls : (t : List Entry) → IsRun script t → Calls script t
  calls t run = calls_kept script facts t run

  -- a call that ended has begun
  pub ended_began : (t : List Entry) → IsRun script t → (c : Caller) (v : Version) (a : Answer) (n : ℕ) → EndedAt t c v a n → (m : ℕ) × BeganAt t c m
  ended_began [] run c v a n h = absurd h
  ended_began (x ∷ older) run c v a n (inr h) = let r = ended_began older run.1 c v a n h in (r.0, inr r.1)
  ended_began (x ∷ older) run c v a n (inl h) =
      let turn = turn_is script older x c.session run.0 h.0 in
      let now = ends_now _ _ _ turn c.number v a h.1 in
      elim (may_start _ _ _ turn) [
        | inl r ↦ (let b = (calls older run.1).running c.session (sym r.1 ∙ turn.turn.running _ now.stop_is) in
            (b.0, inr (subst (λ k. BeganAt older (record { session = c.session; number = k }) b.0) (sym r.0 ∙ sym now.number) b.1)))
        | inr r ↦ (length older + 1, inl (h.0, subst (λ k. IsIn (a_note.Began k) x.notes) (sym now.number) r.1, refl))
      ]

  -- a lower call ended at an earlier entry than the one at which a higher one began
  pub ends_before : (t : List Entry) → IsRun script t → (c : Caller) (k : ℕ) → c.number < k → (v : Version) (a : Answer) (n m : ℕ)
      → EndedAt t c v a n → BeganAt t (record { session = c.session; number = k }) m → n < m
  ends_before [] run c k l v a n m h g = absurd h
  ends_before (x ∷ older) run c k l v a n m (inl h) (inl g) =
      let turn = turn_is script older x c.session run.0 h.0 in
      let now = ends_now _ _ _ turn c.number v a h.1 in
      let b = begins_now _ _ _ turn k g.1 in
      let new : (started turn.start (session_of script c.session older)).begun
      ≡ (session_of script c.session older).begun + 1 = ap (λ w. (started w (session_of script c.session older)).begun) b.1 in
      let first = now.number in
      let second = b.0 in
      absurd (omega (arith, l, first, second, new))
  ends_before (x ∷ older) run c k l v a n m (inl h) (inr g) =
      let turn = turn_is script older x c.session run.0 h.0 in
      let first = (ends_now _ _ _ turn c.number v a h.1).number in
      let low = ((calls older run.1).began_low (record { session = c.session; number = k }) m g).0 in
      elim (may_start _ _ _ turn) [
        | inl r ↦ (let q = r.0 in absurd (omega (arith, l, first, low, q)))
        | inr r ↦ (let q = r.0 in absurd (omega (arith, l, first, low, q)))
      ]
  ends_before (x ∷ older) run c k l v a n m (inr h) (inl g) =
      let low = ((calls older run.1).ended_low c v a n h).2 in
      let here = g.2 in
      omega (arith, low, here)
  ends_before (x ∷ older) run c k l v a n m (inr h) (inr g) = ends_before older run.1 c k l v a n m h g
