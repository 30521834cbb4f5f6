-- Slots in byte order of keys: which one a key finds, what replaces one, and where a new one stands.
use Rattle.std.proofs.Common.{◌≡◌, ℕ, zero, suc, Bool, true, false, ◌||◌, List, [], ◌∷◌, insert, ◌⊎◌, inl, inr, Option}
use Rattle.std.proofs.Common.{Some, None, refl, ap, sym, ◌∙◌, subst, cond, eqb}
use Rattle.std.specs.List.{AllByRecursion, list_any, slice_get}
use Rattle.std.proofs.lemmas.Bool.{cases_eq, cond_both, cond-false, cond-true, eq-eqb, eqb-true, false≢true}
use Rattle.std.proofs.lemmas.Bool.{false_from_ne_true, ne_eqb, or_cases, or_left, or_right}
use Rattle.std.proofs.lemmas.Option.{same_Some}
use Rattle.indexmap.specs.IndexMap.{set_value_at}
use Rattle.hx_model.specs.Types.{RegionId}
use Rattle.hx_types.proofs.Lemmas.{same_text-symm, text_below-apart, text_below-back, text_below-other}
use Rattle.hx_types.specs.Words.{same_text, text_below, when_some}
use Rattle.hx_model.proofs.Lemmas.{same_text_self}
use Rattle.hx_model.specs.Slots.{KeyState, new_state, state_among, with_state}
use Rattle.hx_law_folds.specs.Folding.{KeysAscend}
use Rattle.hx_store.specs.Slots.{StoreSlot, Entry}
use Rattle.hx_store.specs.Invariant.{IsSplit, IsStoreSlot, KeysApart, is_listed, is_place, key_in, state_in, states_in}
use Rattle.hx_store.specs.Stores.{has_slot}
use Rattle.hx_store.proofs.Lists.{all-at, set-elsewhere, set-here}

-- a slot that is put twice stands as it was put last
pub with-again : (s w : KeyState) (states : List KeyState) → w.base.key ≡ s.base.key → with_state w (with_state s states) ≡ with_state w states
with-again s w [] e = cond-true (same_text s.base.key w.base.key) (w ∷ []) _ (ap (same_text s.base.key) e ∙ same_text_self s.base.key)
with-again s w (x ∷ rest) e =
    cond_both (same_text x.base.key s.base.key) (s ∷ rest)
    (cond (text_below s.base.key x.base.key) (s ∷ x ∷ rest) (x ∷ with_state s rest))
    (λ (l : List KeyState). with_state w l ≡ with_state w (x ∷ rest))
    (
    λ t. cond-true (same_text s.base.key w.base.key) (w ∷ rest) _ (ap (same_text s.base.key) e ∙ same_text_self s.base.key)
    ∙ sym (cond-true (same_text x.base.key w.base.key) (w ∷ rest) _ (ap (same_text x.base.key) e ∙ t))
    )
    (
    λ t. cond_both (text_below s.base.key x.base.key) (s ∷ x ∷ rest) (x ∷ with_state s rest) (λ (l : List KeyState). with_state w l ≡ with_state w (x ∷ rest))
    (
    λ b. cond-true (same_text s.base.key w.base.key) (w ∷ x ∷ rest) _ (ap (same_text s.base.key) e ∙ same_text_self s.base.key)
    ∙ sym (cond-false (same_text x.base.key w.base.key) _ _ (ap (same_text x.base.key) e ∙ t)
    ∙ cond-true (text_below w.base.key x.base.key) (w ∷ x ∷ rest) _ (ap (λ (k : List ℕ). text_below k x.base.key) e ∙ b))
    )
    (
    λ b. cond-false (same_text x.base.key w.base.key) _ _ (ap (same_text x.base.key) e ∙ t)
    ∙ cond-false (text_below w.base.key x.base.key) _ _ (ap (λ (k : List ℕ). text_below k x.base.key) e ∙ b)
    ∙ ap (λ (l : List KeyState). x ∷ l) (with-again s w rest e)
    ∙ sym (cond-false (same_text x.base.key w.base.key) _ _ (ap (same_text x.base.key) e ∙ t)
    ∙ cond-false (text_below w.base.key x.base.key) _ _ (ap (λ (k : List ℕ). text_below k x.base.key) e ∙ b))
    )
    )

-- and is found
pub found-with : (marks : Bool) (s : KeyState) (states : List KeyState) → state_among marks s.base.key (with_state s states) ≡ s
found-with marks s [] = cond-true (same_text s.base.key s.base.key) s _ (same_text_self s.base.key)
found-with marks s (x ∷ rest) =
    cond_both (same_text x.base.key s.base.key) (s ∷ rest)
    (cond (text_below s.base.key x.base.key) (s ∷ x ∷ rest) (x ∷ with_state s rest))
    (λ (l : List KeyState). state_among marks s.base.key l ≡ s)
    (λ t. cond-true (same_text s.base.key s.base.key) s _ (same_text_self s.base.key))
    (
    λ t. cond_both (text_below s.base.key x.base.key) (s ∷ x ∷ rest) (x ∷ with_state s rest) (λ (l : List KeyState). state_among marks s.base.key l ≡ s)
    (λ b. cond-true (same_text s.base.key s.base.key) s _ (same_text_self s.base.key))
    (λ b. cond-false (same_text x.base.key s.base.key) x _ t ∙ found-with marks s rest)
    )

-- two places of one key are one
pub same-place : (es : List Entry) (i j : ℕ) (e f : Entry) → KeysApart es → slice_get es i ≡ Some e → slice_get es j ≡ Some f → same_text f.0 e.0 ≡ true → j ≡ i
same-place [] i j e f h at there s = absurd cc
same-place (x ∷ es) zero zero e f h at there s = refl
same-place (x ∷ es) zero (suc j) e f h at there s =
    let same : x ≡ e = same_Some x e at in
    let differs = same_text-symm f.0 e.0 ∙ subst (λ (y : Entry). same_text y.0 f.0 ≡ false) same
    (all-at (λ (y : Entry). same_text x.0 y.0 ≡ false) es j f h.0 there) in
    absurd (false≢true (sym differs ∙ s))
same-place (x ∷ es) (suc i) zero e f h at there s =
    let same : x ≡ f = same_Some x f there in
    let differs = subst (λ (y : Entry). same_text y.0 e.0 ≡ false) same (all-at (λ (y : Entry). same_text x.0 y.0 ≡ false) es i e h.0 at) in
    absurd (false≢true (sym differs ∙ s))
same-place (x ∷ es) (suc i) (suc j) e f h at there s = ap suc (same-place es i j e f h.1 at there s)

-- what is listed is there
pub listed-there : (es : List Entry) (j : ℕ) → is_listed es j ≡ true → (f : Entry) × (slice_get es j ≡ Some f)
listed-there es j h = by (slice_get es j) refl
  where
    by : (o : Option Entry) → slice_get es j ≡ o → (f : Entry) × (slice_get es j ≡ Some f)
    by None q = absurd (false≢true (sym (ap (λ (p : Option Entry). when_some p false (λ (e : Entry). e.1.listed)) q) ∙ h))
    by (Some f) q = (f, q)

-- the slots of places of which one is asked for
module _ (g : RegionId) (marks : Bool) (es : List Entry)
    (each : AllByRecursion (λ (x : Entry). IsStoreSlot g marks x.0 x.1) es) (apart : KeysApart es) (i : ℕ) (e : Entry)
    (at : slice_get es i ≡ Some e) where
  abbrev AreThere : List ℕ → Type 0
  AreThere order = AllByRecursion (λ j. is_listed es j ≡ true) order

  -- a listed place is the one asked for, or of another key
  abbrev IsThis : ℕ → Type 0
  IsThis j = (j ≡ i) × (state_in es j ≡ e.1.slot.state)

  abbrev IsOther : ℕ → Type 0
  IsOther j = (j ≡ i → ⊥) × (same_text (state_in es j).base.key e.0 ≡ false) × ((state_in es j).base.key ≡ key_in es j)

  which : (j : ℕ) → is_listed es j ≡ true → IsThis j ⊎ IsOther j
  which j h =
      let there = listed-there es j h in
      let f : Entry = there.0 in
      let state : state_in es j ≡ f.1.slot.state = ap (λ (o : Option Entry). when_some o (new_state false []) (λ (x : Entry). x.1.slot.state)) there.1 in
      let key : (state_in es j).base.key ≡ f.0 = ap (λ (s : KeyState). s.base.key) state
      ∙ (all-at (λ (x : Entry). IsStoreSlot g marks x.0 x.1) es j f each there.1).key_is in
      let same_key : key_in es j ≡ f.0 = ap (λ (o : Option Entry). when_some o [] (λ (x : Entry). x.0)) there.1 in
      elim (cases_eq j i) [
        | inl p ↦ inl (p, state ∙ ap (λ (x : Entry). x.1.slot.state) (same_Some f e (sym there.1 ∙ ap (slice_get es) p ∙ at)))
        | inr n ↦ inr (
          n,
          ap (λ (k : List ℕ). same_text k e.0) key
              ∙ false_from_ne_true (same_text f.0 e.0) (λ s. n (same-place es i j e f apart at there.1 s)),
          key ∙ sym same_key,
        )
      ]

  key_here : e.1.slot.state.base.key ≡ e.0
  key_here = (all-at (λ (x : Entry). IsStoreSlot g marks x.0 x.1) es i e each at).key_is

  -- the slot of its key
  pub found-place : (order : List ℕ) → AreThere order
      → state_among marks e.0 (states_in es order) ≡ cond (list_any (is_place i) order) e.1.slot.state (new_state marks e.0)
  found-place [] h = refl
  found-place (j ∷ rest) h = elim (which j h.0) [
    | inl p ↦ cond-true (same_text (state_in es j).base.key e.0) (state_in es j) _
        (ap (λ (s : KeyState). same_text s.base.key e.0) p.1 ∙ ap (λ (k : List ℕ). same_text k e.0) key_here ∙ same_text_self e.0)
        ∙ p.1
        ∙ sym (cond-true (list_any (is_place i) (j ∷ rest)) e.1.slot.state _ (or_left (eqb j i) _ (eq-eqb j i p.0)))
    | inr o ↦ cond-false (same_text (state_in es j).base.key e.0) (state_in es j) _ o.1 ∙ found-place rest h.1
        ∙ ap (λ b. cond (b || list_any (is_place i) rest) e.1.slot.state (new_state marks e.0)) (sym (ne_eqb j i o.0))
  ]

  -- whether its key has a slot
  pub has-place : (order : List ℕ) → AreThere order → has_slot e.0 (states_in es order) ≡ list_any (is_place i) order
  has-place [] h = refl
  has-place (j ∷ rest) h = elim (which j h.0) [
    | inl p ↦ or_left (same_text (state_in es j).base.key e.0) _
        (ap (λ (s : KeyState). same_text s.base.key e.0) p.1 ∙ ap (λ (k : List ℕ). same_text k e.0) key_here ∙ same_text_self e.0)
        ∙ sym (or_left (eqb j i) _ (eq-eqb j i p.0))
    | inr o ↦ (λ k. o.1 k || has-place rest h.1 k) ∙ ap (λ b. b || list_any (is_place i) rest) (sym (ne_eqb j i o.0))
  ]

  module _ (w : StoreSlot) (key_is : w.slot.state.base.key ≡ e.0) where
    abbrev new : List Entry
    new = set_value_at es i w

    state-here : state_in new i ≡ w.slot.state
    state-here = ap (λ (o : Option Entry). when_some o (new_state false []) (λ (x : Entry). x.1.slot.state)) (set-here es i e w at)

    state-other : (j : ℕ) → (j ≡ i → ⊥) → state_in new j ≡ state_in es j
    state-other j n = ap (λ (o : Option Entry). when_some o (new_state false []) (λ (x : Entry). x.1.slot.state)) (set-elsewhere es i j w n)

    -- places of higher keys are others
    unchanged : (order : List ℕ) → AreThere order → AllByRecursion
        (λ (t : KeyState). text_below e.0 t.base.key ≡ true) (states_in es order) → states_in new order ≡ states_in es order
    unchanged [] h a = refl
    unchanged (j ∷ rest) h a = elim (which j h.0) [
      | inl p ↦ absurd (text_below-apart e.0 e.0 (sym (ap (text_below e.0) (ap (λ (s : KeyState). s.base.key) p.1 ∙ key_here)) ∙ a.0) refl)
      | inr o ↦ λ k. state-other j o.0 k ∷ unchanged rest h.1 a.1 k
    ]

    others : (order : List ℕ) → AreThere order → list_any (is_place i) order ≡ false → states_in new order ≡ states_in es order
    others [] h n = refl
    others (j ∷ rest) h n = elim (which j h.0) [
      | inl p ↦ absurd (false≢true (sym n ∙ or_left (eqb j i) _ (eq-eqb j i p.0)))
      | inr o ↦ λ k. state-other j o.0 k ∷ others rest h.1
          (false_from_ne_true (list_any (is_place i) rest) (λ t. false≢true (sym n ∙ or_right (eqb j i) _ t))) k
    ]

    -- a listed slot is replaced
    pub replaced : (order : List ℕ) → AreThere order → KeysAscend (states_in es order)
        → list_any (is_place i) order ≡ true → with_state w.slot.state (states_in es order) ≡ states_in new order
    replaced [] h a t = absurd (false≢true t)
    replaced (j ∷ rest) h a t = elim (which j h.0) [
      | inl p ↦ (let here : (state_in es j).base.key ≡ e.0 = ap (λ (s : KeyState). s.base.key) p.1 ∙ key_here in
          cond-true (same_text (state_in es j).base.key w.slot.state.base.key) (w.slot.state ∷ states_in es rest) _
          (ap (same_text (state_in es j).base.key) key_is ∙ ap (λ (k : List ℕ). same_text k e.0) here ∙ same_text_self e.0)
          ∙ (λ k. sym (ap (state_in new) p.0 ∙ state-here) k ∷ sym
          (unchanged rest h.1 (subst (λ (k : List ℕ). AllByRecursion
          (λ (s : KeyState). text_below k s.base.key ≡ true) (states_in es rest)) here a.0)) k))
      | inr o ↦ (let more : list_any (is_place i) rest ≡ true = later j rest o.0 t in
          let low : text_below (state_in es j).base.key e.0 ≡ true = below (state_in es j).base.key rest h.1 a.0 more in
          cond-false (same_text (state_in es j).base.key w.slot.state.base.key) _ _ (ap (same_text (state_in es j).base.key) key_is ∙ o.1)
          ∙ cond-false (text_below w.slot.state.base.key (state_in es j).base.key) _ _
          (ap (λ (k : List ℕ). text_below k (state_in es j).base.key) key_is
          ∙ text_below-back (state_in es j).base.key e.0 low)
          ∙ (λ k. sym (state-other j o.0) k ∷ replaced rest h.1 a.1 more k))
    ]
      where
        later : (j : ℕ) (rest : List ℕ) → (j ≡ i → ⊥) → list_any (is_place i) (j ∷ rest) ≡ true → list_any (is_place i) rest ≡ true
        later j rest n t = elim (or_cases (eqb j i) (list_any (is_place i) rest) t) [
          | inl s ↦ absurd (n (eqb-true j i s))
          | inr s ↦ s
        ]

        below : (low : List ℕ) (rest : List ℕ) → AreThere rest
            → AllByRecursion (λ (s : KeyState). text_below low s.base.key ≡ true) (states_in es rest)
            → list_any (is_place i) rest ≡ true → text_below low e.0 ≡ true
        below low [] h a t = absurd (false≢true t)
        below low (k ∷ rest) h a t = elim (which k h.0) [
          | inl p ↦ sym (ap (text_below low) (ap (λ (s : KeyState). s.base.key) p.1 ∙ key_here)) ∙ a.0
          | inr o ↦ below low rest h.1 a.1 (later k rest o.0 t)
        ]

    -- one that isn't listed yet comes behind those of lower keys
    pub inserted : (p : ℕ) (order : List ℕ) → AreThere order → list_any (is_place i) order ≡ false
        → IsSplit es e.0 p order → with_state w.slot.state (states_in es order) ≡ states_in new (insert order p i)
    inserted zero [] h n s = ap (λ (t : KeyState). t ∷ []) (sym state-here)
    inserted (suc p) [] h n s = absurd s
    inserted zero (j ∷ rest) h n s = elim (which j h.0) [
      | inl p ↦ absurd (false≢true (sym n ∙ or_left (eqb j i) _ (eq-eqb j i p.0)))
      | inr o ↦ (let low : text_below (state_in es j).base.key e.0 ≡ false = ap (λ (k : List ℕ). text_below k e.0) o.2 ∙ s in
          cond-false (same_text (state_in es j).base.key w.slot.state.base.key) _ _ (ap (same_text (state_in es j).base.key) key_is ∙ o.1)
          ∙ cond-true (text_below w.slot.state.base.key (state_in es j).base.key) _ _
          (ap (λ (k : List ℕ). text_below k (state_in es j).base.key) key_is
          ∙ text_below-other (state_in es j).base.key e.0 o.1 low)
          ∙ (λ k. sym state-here k ∷ sym (others (j ∷ rest) h n) k))
    ]
    inserted (suc p) (j ∷ rest) h n s = elim (which j h.0) [
      | inl q ↦ absurd (false≢true (sym n ∙ or_left (eqb j i) _ (eq-eqb j i q.0)))
      | inr o ↦ (let low : text_below (state_in es j).base.key e.0 ≡ true = ap (λ (k : List ℕ). text_below k e.0) o.2 ∙ s.0 in
          cond-false (same_text (state_in es j).base.key w.slot.state.base.key) _ _ (ap (same_text (state_in es j).base.key) key_is ∙ o.1)
          ∙ cond-false (text_below w.slot.state.base.key (state_in es j).base.key) _ _
          (ap (λ (k : List ℕ). text_below k (state_in es j).base.key) key_is
          ∙ text_below-back (state_in es j).base.key e.0 low)
          ∙ (λ k. sym (state-other j o.0) k ∷ inserted p rest h.1
          (false_from_ne_true (list_any (is_place i) rest) (λ t. false≢true (sym n ∙ or_right (eqb j i) _ t))) s.1 k))
    ]
