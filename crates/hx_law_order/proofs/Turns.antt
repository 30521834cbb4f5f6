-- In a run a session's calls that ended did so before its later ones began.
use Rattle.hx_law_lemmas.proofs.Lemmas.Vocabulary.{[], Answer, ap, arith, Caller, Entry, Facts, inl, inr, IsRun, List, Script, session_of, SessionId, Version}
use Rattle.hx_law_lemmas.proofs.Lemmas.Vocabulary.{ℕ, ◌+◌, ◌<◌, ◌∷◌, ◌≡◌}
use Rattle.hx_law_lemmas.proofs.Lemmas.{started, end-noted, begins_now, ends_now, may_start, BeganAt, EndedAt, began_at, ended_at}
use Rattle.hx_law_searches.proofs.Lemmas.{calls_kept, turn_is, facts}
use Rattle.hx_law_order.specs.Headline.{RunsKeepTurns}

module _ (script : Script) (known : Facts script) (u : SessionId) (i j : ℕ) (low : i < j) where
  abbrev caller : ℕ → Caller
  caller n = record { session = u; number = n }

  -- the later call began at a later entry
  in-turn : (t : List Entry) → IsRun script t → (v : Version) (a : Answer) (n m : ℕ) → EndedAt t (caller i) v a n → BeganAt t (caller j) m → n < m
  in-turn [] run v a n m h g = absurd h
  in-turn (x ∷ older) run v a n m (inl h) (inl g) =
      let turn = turn_is script older x u run.0 h.0 in
      let ends = ends_now _ _ _ turn i v a h.1 in
      let begins = begins_now _ _ _ turn j g.1 in
      let s = session_of script u older in
      let now : (started turn.start s).begun ≡ s.begun + 1 = ap (λ b. (started b s).begun) begins.1 in
      let number = ends.number in
      absurd (omega (arith, low, now, number, begins.0))
  in-turn (x ∷ older) run v a n m (inl h) (inr g) =
      let turn = turn_is script older x u run.0 h.0 in
      let ends = ends_now _ _ _ turn i v a h.1 in
      let began = (calls_kept script known older run.1).began_low (caller j) m g in
      let number = ends.number in
      absurd (elim (may_start _ _ _ turn) [ inl r ↦ omega (arith, low, r.0, number, began.0) | inr r ↦ omega (arith, low, r.0, number, began.0) ])
  in-turn (x ∷ older) run v a n m (inr h) (inl g) =
      let ended = (calls_kept script known older run.1).ended_low (caller i) v a n h in omega (arith, ended.2, g.2)
  in-turn (x ∷ older) run v a n m (inr h) (inr g) = in-turn older run.1 v a n m h g

-- in every run sessions take turns
pub turns_are_kept : RunsKeepTurns
turns_are_kept script valid trace run u i j e n low ended began =
    in-turn script (facts script valid) u i j low trace run e.version e.answer e.entry n
    (ended_at (record { session = u; number = i }) trace e (end-noted (record { session = u; number = i }) trace e ended))
    (began_at (record { session = u; number = j }) trace n began)
