-- The rows that a replica finds, where each of its slots keeps what its region keeps of the key's line up to a front.
use Rattle.hx_law_lemmas.proofs.Lemmas.Vocabulary.{ap, found_in, inl, inr, is_key_region, IsIn, kept_row, KeyState, List, matches, None, object_of, part_at}
use Rattle.hx_law_lemmas.proofs.Lemmas.Vocabulary.{RegionId, Replica, Row, rows_of, Some, Space, state_in, subst, sym, Term, true, Update, upto, ℕ, ◌∙◌, ◌≡◌}
use Rattle.hx_law_lemmas.proofs.Lists.{in-filter}
use Rattle.hx_law_lemmas.proofs.Replicas.{state-from}
use Rattle.hx_law_lemmas.proofs.FoundRows.{found-row, kept-key, row-found}
use Rattle.hx_law_lemmas.proofs.Placed.{AllMade}

module _ (space : Space) (g : RegionId) (r : Replica) (line : List ℕ → List Update) (made : (key : List ℕ) → AllMade space key (line key)) (front : List ℕ → ℕ)
    (kept : (key : List ℕ) → object_of g (state_in space r key) ≡ kept_row g None (upto (front key) (part_at g (line key))))
    (ordered : (t : KeyState) → IsIn t r.states → state_in space r t.base.key ≡ t) where
  -- each row that is found is what is kept of its key, and matches
  pub rows-sound : (terms : List Term) (row : Row) → IsIn row (found_in g terms r.states)
      → (kept_row g None (upto (front row.key) (part_at g (line row.key))) ≡ Some row) × (matches terms row.key row.object ≡ true)
  rows-sound terms row i =
      let f = found-row g terms r.states row i in
      let m = (in-filter (λ (x : Row). matches terms x.key x.object) (rows_of g r.states) row i).1 in
      let e : kept_row g None (upto (front f.0.base.key) (part_at g (line f.0.base.key))) ≡ Some row =
      sym (kept f.0.base.key) ∙ ap (object_of g) (ordered f.0 f.1) ∙ f.2 in
      let k = kept-key space f.0.base.key (line f.0.base.key) (made f.0.base.key) g (front f.0.base.key) row e in
      (subst (λ (j : List ℕ). kept_row g None (upto (front j) (part_at g (line j))) ≡ Some row) (sym k) e, m)

  -- each kept row that matches is found
  pub rows-full : (terms : List Term) (key : List ℕ) (row : Row)
      → kept_row g None (upto (front key) (part_at g (line key))) ≡ Some row → matches terms row.key row.object ≡ true
      → IsIn row (found_in g terms r.states)
  rows-full terms key row e m = elim (state-from (is_key_region space r.region) key r.states) [
    | inr i ↦ row-found g terms r.states (state_in space r key) row i (kept key ∙ e) m
    | inl n ↦ absurd (let q : None ≡ Some row = sym (ap (object_of g) n) ∙ kept key ∙ e in cc)
  ]
