-- A snapshot that is installed gives each key what was committed of it.
use Rattle.std.proofs.Common.{◌≡◌, ℕ, ◌<◌, nat_lt, Bool, true, false, cond, eqb, List, [], ◌∷◌, map, Option, None, Some, refl, ap, sym, ◌∙◌, subst, arith}
use Rattle.std.specs.List.{AllByRecursion, filter}
use Rattle.std.proofs.lemmas.Bool.{cond_both, cond-false, cond-true, eq-eqb, lt-ltb, ltb-true, ne_eqb, false≢true}
use Rattle.hx_model.specs.Types.{Kept, RegionId}
use Rattle.hx_types.proofs.Lemmas.{same_text-symm, text_below-differs}
use Rattle.hx_types.specs.Words.{same_text, text_below, when_some}
use Rattle.hx_law_folds.specs.Folding.{KeysAscend}
use Rattle.hx_law_folds.proofs.Lemmas.{from-key}
use Rattle.hx_model.proofs.Lemmas.{eq_of_same_text}
use Rattle.hx_model.specs.ServerSteps.{state_from}
use Rattle.hx_model.specs.Slots.{KeyState, kept_of, new_state, snapshot_of, state_among}
use Rattle.hx_store.specs.Reading.{come_back}

-- a key below all others has no slot
absent : (marks : Bool) (key : List ℕ) (states : List KeyState)
    → AllByRecursion (λ (t : KeyState). text_below key t.base.key ≡ true) states
    → state_among marks key states ≡ new_state marks key
absent marks key [] h = refl
absent marks key (s ∷ rest) h = cond-false (same_text s.base.key key) s _
    (same_text-symm s.base.key key ∙ text_below-differs key s.base.key h.0) ∙ absent marks key rest h.1

module _ (g : RegionId) (marks : Bool) (key : List ℕ) where
  abbrev back : List KeyState → KeyState
  back states = state_among marks key (map (state_from marks) (snapshot_of g states))

  abbrev above_zero : KeyState → Bool
  above_zero s = nat_lt 0 s.floor

  zero-floor : (s : KeyState) → above_zero s ≡ false → s.floor ≡ 0
  zero-floor s f = by s.floor f
    where
      by : (n : ℕ) → nat_lt 0 n ≡ false → n ≡ 0
      by n f = (let no : 0 < n → ⊥ = λ l. false≢true (sym f ∙ lt-ltb 0 n l) in omega (arith, no))

  -- of a slot something is committed, or nothing
  some-back : (s : KeyState) → above_zero s ≡ true → come_back g marks key s ≡ state_from marks (kept_of g s)
  some-back s t =
      let l = ltb-true 0 s.floor t in
      ap (λ (o : Option Kept). when_some o (new_state marks key) (state_from marks))
      (cond-false (eqb s.floor 0) None (Some (kept_of g s)) (ne_eqb s.floor 0 (λ e. omega (arith, l, e))))

  none-back : (s : KeyState) → above_zero s ≡ false → come_back g marks key s ≡ new_state marks key
  none-back s f = ap (λ (o : Option Kept). when_some o (new_state marks key) (state_from marks))
      (cond-true (eqb s.floor 0) None (Some (kept_of g s)) (eq-eqb s.floor 0 (zero-floor s f)))

  pub comes-back : (states : List KeyState) → KeysAscend states → back states ≡ come_back g marks key (state_among marks key states)
  comes-back [] h = refl
  comes-back (s ∷ rest) h =
      let more = comes-back rest h.1 in
      cond_both (above_zero s) (s ∷ filter above_zero rest) (filter above_zero rest)
      (λ (l : List KeyState). state_among marks key (map (state_from marks) (map (kept_of g) l))
      ≡ come_back g marks key (state_among marks key (s ∷ rest)))
      (
      λ t. ap (λ (k : List ℕ). cond (same_text k key) (state_from marks (kept_of g s)) (back rest)) (from-key marks (kept_of g s))
      ∙ pick (same_text s.base.key key) (some-back s t) more
      )
      (
      λ f. cond_both (same_text s.base.key key) s (state_among marks key rest) (λ (x : KeyState). back rest ≡ come_back g marks key x)
      (
      λ t. more
      ∙ ap (come_back g marks key) (absent marks key rest
      (subst (λ (k : List ℕ). AllByRecursion (λ (u : KeyState). text_below k u.base.key ≡ true) rest)
      (eq_of_same_text s.base.key key t) h.0))
      ∙ sym (none-back s f)
      )
      (λ t. more)
      )
    where
      pick : (b : Bool) → come_back g marks key s ≡ state_from marks (kept_of g s)
          → back rest ≡ come_back g marks key (state_among marks key rest)
          → cond b (state_from marks (kept_of g s)) (back rest) ≡ come_back g marks key (cond b s (state_among marks key rest))
      pick true here more = sym here
      pick false here more = more
