-- A line that stays up to a version, whatever entry comes next, stays so however the run goes on.
use Rattle.hx_law_lemmas.proofs.Lemmas.Vocabulary.{[], Entry, inl, inr, IsPartOf, IsRun, line_of, List, refl, Script, StaysUpTo, subst, upto, ℕ, ◌∙◌, ◌∷◌, ◌≡◌}

-- what each entry keeps, and under which it leaves the line up to the version
pub stays-by : (script : Script) (Holds : List Entry → Type 0) (key : List ℕ) (v : ℕ)
    → ((x : Entry) (older : List Entry) → IsRun script (x ∷ older) → Holds older → Holds (x ∷ older)
    × (upto v (line_of key (x ∷ older)) ≡ upto v (line_of key older)))
    → (t : List Entry) → Holds t → StaysUpTo script t key v
stays-by script Holds key v step t h later run part = (go later run part).1
  where
    go : (later : List Entry) → IsRun script later → IsPartOf t later → Holds later × (upto v (line_of key later) ≡ upto v (line_of key t))
    go [] run e = subst (λ (s : List Entry). Holds s × (upto v (line_of key s) ≡ upto v (line_of key t))) e (h, refl)
    go (x ∷ older) run (inl e) = subst (λ (s : List Entry). Holds s × (upto v (line_of key s) ≡ upto v (line_of key t))) e (h, refl)
    go (x ∷ older) run (inr p) = let r = go older run.1 p in let s = step x older run r.0 in (s.0, s.1 ∙ r.1)
