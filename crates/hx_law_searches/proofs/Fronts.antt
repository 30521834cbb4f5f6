-- How far an installed replica's slot shows its key's line: up to a front that is fixed, and that reaches all that is committed along its chain.
use Rattle.hx_law_lemmas.proofs.Lemmas.Vocabulary.{[], ap, arith, cond_both, has_place, inl, inr, IsIn, IsSpace, kept_row, key_region, KeyState, leb, length}
use Rattle.hx_law_lemmas.proofs.Lemmas.Vocabulary.{List, members_of, None, object_of, refl, RegionId, Script, ServerId, subst, sym, top_above, top_of, true}
use Rattle.hx_law_lemmas.proofs.Lemmas.Vocabulary.{Update, upto, ℕ, ◌<◌, ◌∙◌, ◌∷◌, ◌≡◌, ◌≤◌, ◌⊎◌}
use Rattle.hx_law_lemmas.proofs.Lemmas.{upto_here, upto_past, Differ, Sorted, in-only, in-top, in-upto, in-upto_from, only, only-in, only-sorted, top-least}
use Rattle.hx_law_lemmas.proofs.Lemmas.{upto-low, upto-sorted, passes-key, places-apart}
use Rattle.hx_law_folds.specs.Folding.{IsSlotOf}
use Rattle.hx_law_folds.proofs.Lemmas.{object-line}
use Rattle.hx_law_epochs.proofs.Lemmas.{placed-number, stands-cases}
use Rattle.hx_law_chains.proofs.Lemmas.{only-upto, sorted-descends, Own, Seat, Along, Fixed, KeyOk, World, around, law-of, lawful-made, lawful-sorted}

-- up to the top of a part up to a version it is that part
upto-top : (v : ℕ) (us : List Update) → Sorted us → upto (top_above 0 (upto v us)) us ≡ upto v us
upto-top v [] h = refl
upto-top v (u ∷ us) h =
    cond_both (leb u.version.0 v) (u ∷ us) (upto v us) (λ l. upto (top_above 0 l) (u ∷ us) ≡ l)
    (λ t. upto_here u.version.0 u us (omega arith))
    (λ t. upto_past (top_above 0 (upto v us)) u us (below (upto v us) (λ w i. h.0 w (in-upto v us w i))) ∙ upto-top v us h.2)
  where
    below : (ws : List Update) → ((w : Update) → IsIn w ws → w.version.0 < u.version.0) → top_above 0 ws < u.version.0
    below [] f = h.1
    below (w ∷ ws) f = f w (inl refl)

-- a top is 0 or that of an update
top-in : (us : List Update) → (top_above 0 us ≡ 0) ⊎ ((u : Update) × IsIn u us × (u.version.0 ≡ top_above 0 us))
top-in [] = inl refl
top-in (u ∷ us) = inr (u, inl refl, refl)

module _ (script : Script) (valid : IsSpace script.space) (w : World)
    (differ : (g : RegionId) → Differ (members_of w.config g)) (g : RegionId) (i : ServerId)
    (seat : Seat script w g i) (key : List ℕ) (ok : KeyOk script w key) where
  -- the key's line
  abbrev line : List Update
  line = w.line key

  -- the replica's slot of the key
  abbrev slot : KeyState
  slot = seat.slot key

  -- what the slot relies on
  own : Own (w.line key) g (around script w key g i) (seat.slot key)
  own = ok.own g i (seat.slot key) (seat.held key)

  -- the line is sorted
  sorted : Sorted line
  sorted = lawful-sorted script w.known key line ok.lawful

  -- how far it shows the line: up to the last update with a place there that it has committed
  abbrev pub front : ℕ
  front = top_above 0 (upto (seat.slot key).floor (only g (w.line key)))

  -- no further than its floor
  front-floor : front ≤ slot.floor
  front-floor = top-least (upto slot.floor (only g line)) slot.floor (λ u j. upto-low slot.floor (only g line) u (only-sorted g line sorted) j)

  -- nor than the line
  pub front-within : front ≤ length line
  front-within = let a = front-floor in let b = own.content.floor in let c = own.top_line in omega (arith, a, b, c)

  -- the part up to it is the part up to the floor
  front-part : upto front (only g line) ≡ upto slot.floor (only g line)
  front-part = upto-top slot.floor (only g line) (only-sorted g line sorted)

  -- the slot keeps what its region keeps of the line up to the front
  pub front-kept : IsSlotOf g slot → object_of g slot ≡ kept_row g None (upto front (only g line))
  front-kept h =
      object-line g line (sorted-descends line sorted) slot h own.content
      ∙ ap (kept_row g None) (sym (only-upto g slot.floor line sorted) ∙ sym front-part)

  -- each holder of the key's region has accepted the front
  accepted : (u : Update) → IsIn u line → has_place g u ≡ true → u.version.0 ≤ slot.floor
      → (s : ServerId) (t : KeyState) → w.holds key (key_region script.space key) s t → u.version.0 ≤ top_of t
  accepted u j p l s t h =
      let law = law-of script w.known key line u ok.lawful j in
      elim (stands-cases w.config u.places (places-apart script.space valid key line
      (lawful-made script w.known key line ok.lawful) u j) differ (key_region script.space key) s g i
      (placed-number u.places (key_region script.space key) (passes-key script.space key law.0 u law.1.made))
      (placed-number u.places g p) (ok.listed (key_region script.space key) s t h) (ok.listed g i slot (seat.held key))) [
        | inl q ↦ (let same = seat.only key t (subst (λ (x : ServerId). w.holds key g x t) q.1 (subst (λ (r : RegionId). w.holds key r s t) q.0 h)) in
            let e : top_of t ≡ top_of slot = ap top_of same in let f = own.content.floor in omega (arith, e, f, l))
        | inr (inl a) ↦ own.taken u j p (let f = own.content.floor in omega (arith, f, l)) (key_region script.space key) s t h a
        | inr (inr a) ↦ (let b = own.freed u j p l (key_region script.space key) s t h a in
            let f = (ok.own (key_region script.space key) s t h).content.floor in omega (arith, b, f))
      ]

  -- so the front is fixed
  pub front-fixed : Fixed script w key front
  front-fixed = (
    front-within,
    λ s t h. elim (top-in (upto slot.floor (only g line))) [
      | inl e ↦ omega (arith, e)
      | inr u ↦ (let e = u.2 in
          let k = only-in g line u.0 (in-upto slot.floor (only g line) u.0 u.1) in
          let a = accepted u.0 k.0 k.1 (upto-low slot.floor (only g line) u.0 (only-sorted g line sorted) u.1) s t h in
          omega (arith, e, a))
    ],
  )

  -- and reaches all with a place there that is committed along its chain
  pub front-reaches : (v : ℕ) → Along script w key v → (u : Update) → IsIn u line → has_place g u ≡ true → u.version.0 ≤ v → u.version.0 ≤ front
  front-reaches v a u j p l =
      let c = a u j l g i slot (seat.held key) p in
      (in-top (upto slot.floor (only g line)) u (upto-sorted slot.floor (only g line) (only-sorted g line sorted))
      (in-upto_from slot.floor (only g line) u (only-sorted g line sorted) (in-only g line u j p) c)).1
