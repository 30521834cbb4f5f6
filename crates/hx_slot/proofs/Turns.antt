-- The early updates whose turns have come.
use Rattle.std.proofs.Common.{◌≡◌, ℕ, zero, suc, ◌<◌, ◌≤◌, Bool, true, false, List, [], ◌∷◌, length, get_or, is_some}
use Rattle.std.proofs.Common.{slice_get, Option, Some, None, refl, ap, sym, ◌∙◌, subst, arith, cond, eqb, ltb}
use Rattle.std.specs.List.{AllByRecursion, filter, find, position, position_or_len}
use Rattle.std.specs.Option.{IfSome, option_map}
use Rattle.std.proofs.lemmas.Bool.{cond_both, cond-false, cond-true, eqb-true, false≢true, ltb-false, ltb-true, ne_eqb, not-false}
use Rattle.std.proofs.lemmas.Option.{slice_get_past, slice_get_read}
use Rattle.std.proofs.lemmas.List.Folds.{find_at}
use Rattle.hx_model.specs.Types.{RegionId, Update}
use Rattle.hx_types.specs.Words.{when_some}
use Rattle.hx_model.specs.Slots.{KeyState, Move, Take, after_at, follows, moved, moved_all, other_version, taken, top_of, turns}
use Rattle.hx_slot.specs.declared.updates.PlacedUpdate.{PlacedUpdate}
use Rattle.hx_slot.specs.Updates.{IsHeld}
use Rattle.hx_slot.specs.Invariant.{updates_of}
use Rattle.hx_slot.specs.States.{HasFewPlaces, IsLater, IsPlacedIn}
use Rattle.hx_slot.proofs.Newest.{place_number-within}

abbrev pub comes_after : ℕ → PlacedUpdate → Bool
comes_after v p = eqb p.after.0 v

-- an early update's turn comes after the version of its place
follows-held : (g : RegionId) (v : ℕ) (p : PlacedUpdate) → IsHeld g p → follows g v p.update ≡ comes_after v p
follows-held g v p h = ap (λ (o : Option ℕ). when_some o false (λ after. eqb after v)) h.turn

-- the first of them is found by its place
pub find-held : (g : RegionId) (v : ℕ) (early : List PlacedUpdate) → AllByRecursion (IsHeld g) early
    → find (follows g v) (updates_of early) ≡ option_map (λ (p : PlacedUpdate). p.update) (find (comes_after v) early)
find-held g v [] h = refl
find-held g v (p ∷ rest) h =
    ap (λ b. cond b (Some p.update) (find (follows g v) (updates_of rest))) (follows-held g v p h.0)
    ∙ cond_both (comes_after v p) (Some p) (find (comes_after v) rest)
    (λ (o : Option PlacedUpdate). cond (comes_after v p) (Some p.update) (find (follows g v) (updates_of rest))
    ≡ option_map (λ (q : PlacedUpdate). q.update) o)
    (λ e. cond-true (comes_after v p) _ _ e)
    (λ e. cond-false (comes_after v p) _ _ e ∙ find-held g v rest h.1)

-- what stands at the place that is found
pub found-place : {A : Type 0} (test : A → Bool) (xs : List A) (i : ℕ) → position test xs ≡ Some i → find test xs ≡ slice_get xs i
found-place test xs i =
    cond_both (ltb (position_or_len test xs) (length xs)) (Some (position_or_len test xs)) None (λ (o : Option ℕ). o ≡ Some i → find test xs ≡ slice_get xs i)
    (λ b e. let s : position_or_len test xs ≡ i = cc in find_at test xs ∙ ap (slice_get xs) s)
    (λ b e. absurd (cc))

pub no-place : {A : Type 0} (test : A → Bool) (xs : List A) → position test xs ≡ None → find test xs ≡ None
no-place test xs =
    cond_both (ltb (position_or_len test xs) (length xs)) (Some (position_or_len test xs)) None (λ (o : Option ℕ). o ≡ None → find test xs ≡ None)
    (λ b e. absurd (cc))
    (λ b e. find_at test xs ∙ slice_get_past xs (position_or_len test xs) (ltb-false (position_or_len test xs) (length xs) b))

pub found-within : {A : Type 0} (test : A → Bool) (xs : List A) (i : ℕ) → position test xs ≡ Some i → i < length xs
found-within test xs i =
    cond_both (ltb (position_or_len test xs) (length xs)) (Some (position_or_len test xs)) None (λ (o : Option ℕ). o ≡ Some i → i < length xs)
    (λ b e. let s : position_or_len test xs ≡ i = cc in let l = ltb-true (position_or_len test xs) (length xs) b in omega (arith, s, l))
    (λ b e. absurd (cc))

-- what is found passes the test, and holds what each holds
pub find-some : {A : Type 0} (P : A → Type 0) (test : A → Bool) (xs : List A) (x : A) → AllByRecursion P xs → find test xs ≡ Some x → P x × (test x ≡ true)
find-some {A} P test [] x h = λ e. absurd (cc)
find-some {A} P test (y ∷ xs) x h =
    cond_both (test y) (Some y) (find test xs) (λ (o : Option A). o ≡ Some x → P x × (test x ≡ true))
    (λ b e. let s : y ≡ x = cc in (subst P s h.0, ap test (sym s) ∙ b))
    (λ b e. find-some P test xs x h.1 e)

-- the early update that is found by its place
pub record IsTurn (g : RegionId) (v : ℕ) (early : List PlacedUpdate) (i : ℕ) (p : PlacedUpdate) : Type 0 where
  pub found : find (follows g v) (updates_of early) ≡ Some p.update
  pub within : i < length early
  pub held : IsHeld g p
  pub after : p.after.0 ≡ v

pub turn-found : (g : RegionId) (v : ℕ) (early : List PlacedUpdate) (i : ℕ) (p : PlacedUpdate)
    → AllByRecursion (IsHeld g) early → position (comes_after v) early ≡ Some i → p ≡ get_or early i p → IsTurn g v early i p
turn-found g v early i p h e r =
    let within = found-within (comes_after v) early i e in
    let at = found-place (comes_after v) early i e ∙ slice_get_read early (length early) i p refl within r in
    let facts = find-some (IsHeld g) (comes_after v) early p h at in
    record {
      found = find-held g v early h ∙ ap (λ (o : Option PlacedUpdate). option_map (λ (q : PlacedUpdate). q.update) o) at;
      within = within;
      held = facts.0;
      after = eqb-true p.after.0 v facts.1;
    }

pub turn-none : (g : RegionId) (v : ℕ) (early : List PlacedUpdate) → AllByRecursion (IsHeld g) early
    → position (comes_after v) early ≡ None → find (follows g v) (updates_of early) ≡ None
turn-none g v early h e = find-held g v early h ∙ ap
    (λ (o : Option PlacedUpdate). option_map (λ (q : PlacedUpdate). q.update) o) (no-place (comes_after v) early e)

-- each early update's turn comes after a lower version
pub later-held : (g : RegionId) (early : List PlacedUpdate) → AllByRecursion (IsHeld g) early → AllByRecursion (IsLater g) (updates_of early)
later-held g [] h = tt
later-held g (p ∷ rest) h =
    (subst (λ (o : Option ℕ). IfSome o (λ after. after < p.update.version.0)) (sym h.0.turn) h.0.after, later-held g rest h.1)

-- each has a place in the region, and few places
pub places-held : (g : RegionId) (early : List PlacedUpdate) → AllByRecursion (IsHeld g) early → AllByRecursion (IsPlacedIn g) (updates_of early)
places-held g [] h = tt
places-held g (p ∷ rest) h = (place_number-within g p.update.places p.keeps h.0.placed.place, places-held g rest h.1)

pub few-held : (g : RegionId) (early : List PlacedUpdate) → AllByRecursion (IsHeld g) early → AllByRecursion HasFewPlaces (updates_of early)
few-held g [] h = tt
few-held g (p ∷ rest) h = (h.0.placed.few, few-held g rest h.1)

-- an update whose version is past doesn't come after any later one
other-follows : (g : RegionId) (v w : ℕ) (u : Update) → IsLater g u → v ≤ w → other_version v u ≡ false → follows g w u ≡ false
other-follows g v w u l b e =
    by (after_at g u) l (eqb-true u.version.0 v (not-false (eqb u.version.0 v) e))
  where
    by : (o : Option ℕ) → IfSome o (λ after. after < u.version.0) → u.version.0 ≡ v → when_some o false (λ after. eqb after w) ≡ false
    by None l q = refl
    by (Some after) l q = ne_eqb after w (λ s. omega (arith, l, q, b, s))

-- an update that follows on a version is above it
pub above : (g : RegionId) (w : ℕ) (u : Update) → IsLater g u → follows g w u ≡ true → w < u.version.0
above g w u l e = by (after_at g u) l e
  where
    by : (o : Option ℕ) → IfSome o (λ after. after < u.version.0) → when_some o false (λ after. eqb after w) ≡ true → w < u.version.0
    by None l e = absurd (false≢true e)
    by (Some after) l e = let q = eqb-true after w e in omega (arith, q, l)

-- what is found among the early updates is found without those of a past version
find-later : (g : RegionId) (v w : ℕ) (us : List Update) → AllByRecursion (IsLater g) us → v ≤ w
    → find (follows g w) (filter (other_version v) us) ≡ find (follows g w) us
find-later g v w [] h b = refl
find-later g v w (u ∷ rest) h b =
    cond_both (other_version v u) (u ∷ filter (other_version v) rest) (filter (other_version v) rest)
    (λ (us : List Update). find (follows g w) us ≡ find (follows g w) (u ∷ rest))
    (λ e. ap (λ (o : Option Update). cond (follows g w u) (Some u) o) (find-later g v w rest h.1 b))
    (λ e. find-later g v w rest h.1 b ∙ sym (cond-false (follows g w u) _ _ (other-follows g v w u h.0 b e)))

-- the same turns come without those of a past version
pub turns-later : (g : RegionId) (n v w : ℕ) (us : List Update) → AllByRecursion (IsLater g) us → v ≤ w
    → turns g n w (filter (other_version v) us) ≡ turns g n w us
turns-later g zero v w us h b = refl
turns-later g (suc n) v w us h b =
    ap (λ (o : Option Update). when_some o [] (λ (u : Update). Take u ∷ turns g n u.version.0 (filter (other_version v) us))) (find-later g v w us h b)
    ∙ by (find (follows g w) us) refl (λ u l. turns-later g n v u.version.0 us h l)
  where
    by : (o : Option Update) → find (follows g w) us ≡ o
        → ((u : Update) → v ≤ u.version.0 → turns g n u.version.0 (filter (other_version v) us) ≡ turns g n u.version.0 us)
        → when_some o [] (λ (u : Update). Take u ∷ turns g n u.version.0 (filter (other_version v) us))
        ≡ when_some o [] (λ (u : Update). Take u ∷ turns g n u.version.0 us)
    by None e more = refl
    by (Some u) e more =
        let facts = find-some (IsLater g) (follows g w) us u h e in
        let l = above g w u facts.0 facts.1 in
        ap (λ (moves : List Move). Take u ∷ moves) (more u (omega (arith, l, b)))

-- the first of several turns
pub turns-first : (g : RegionId) (n m top : ℕ) (early : List Update) (u : Update) → n ≡ suc m
    → Some u ≡ find (follows g top) early → turns g n top early ≡ Take u ∷ turns g m u.version.0 early
turns-first g n m top early u e f =
    ap (λ k. turns g k top early) e ∙ ap (λ (o : Option Update). when_some o [] (λ (w : Update). Take w ∷ turns g m w.version.0 early)) (sym f)

-- one turn, and those after it
pub record IsStep (g : RegionId) (n : ℕ) (old new : KeyState) : Type 0 where
  pub state : moved_all (turns g n (top_of new) new.early) new ≡ moved_all (turns g (suc n) (top_of old) old.early) old
  pub count : suc (length (taken (turns g n (top_of new) new.early))) ≡ length (taken (turns g (suc n) (top_of old) old.early))

pub turn-step : (g : RegionId) (n : ℕ) (old new : KeyState) → true ≡ is_some (find (follows g (top_of old)) old.early)
    → new ≡ moved_all (turns g 1 (top_of old) old.early) old → AllByRecursion (IsLater g) old.early → IsStep g n old new
turn-step g n old new f e later =
    let r = by (find (follows g (top_of old)) old.early) refl f e in record { state = r.0; count = r.1 }
  where
    after : (u : Update) → turns g n u.version.0 (filter (other_version u.version.0) old.early) ≡ turns g n u.version.0 old.early
    after u = turns-later g n u.version.0 u.version.0 old.early later (omega arith)

    by : (o : Option Update) → find (follows g (top_of old)) old.early ≡ o → true ≡ is_some o
        → new ≡ moved_all (when_some o [] (λ (u : Update). Take u ∷ [])) old
        → (moved_all (turns g n (top_of new) new.early) new ≡ moved_all (when_some o [] (λ (u : Update). Take u ∷ turns g n u.version.0 old.early)) old)
        × (suc (length (taken (turns g n (top_of new) new.early))) ≡ length (taken (when_some o [] (λ (u : Update). Take u ∷ turns g n u.version.0 old.early))))
    by None q f e = absurd (false≢true (sym f))
    by (Some u) q f e = (
      ap (λ (s : KeyState). moved_all (turns g n (top_of s) s.early) s) e ∙ ap (λ (moves : List Move). moved_all moves (moved (Take u) old)) (after u),
      ap (λ (s : KeyState). suc (length (taken (turns g n (top_of s) s.early)))) e ∙ ap (λ (moves : List Move). suc (length (taken moves))) (after u),
    )
