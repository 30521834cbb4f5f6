-- What an offer is answered, and what it makes of a slot.
use Rattle.std.proofs.Common.{◌≡◌, ℕ, suc, ◌+◌, ◌<◌, ◌≤◌, Bool, true, false, List, [], ◌∷◌, length, get_or, Option}
use Rattle.std.proofs.Common.{Some, refl, ap, sym, ◌∙◌, subst, arith, cond, eqb, leb, add-one}
use Rattle.std.specs.List.{All, AllByRecursion}
use Rattle.std.specs.Option.{option_map}
use Rattle.std.proofs.lemmas.Bool.{cond-false, cond-true, le-leb, lt-leb}
use Rattle.hx_model.specs.Types.{Place, RegionId, Update}
use Rattle.hx_types.specs.declared.outcomes.Offer.TheVariants.{Accepted, Known, Early}
use Rattle.hx_types.specs.Words.{same_region, when_some}
use Rattle.hx_model.specs.Neighbours.{place_number}
use Rattle.hx_model.specs.Slots.{Hold, KeyState, Move, Take, follows, moved, offer_answer, offered, place_in, taken, top_of, turns}
use Rattle.hx_slot.specs.Updates.{IsHeld}
use Rattle.hx_slot.specs.States.{IsLater}
use Rattle.hx_slot.proofs.Turns.{turns-later}

-- the place with the region's number is the region's
pub place_in-at : (g : RegionId) (places : List Place) (d : Place) → place_number g places < length places
    → place_in g places ≡ Some (get_or places (place_number g places) d)
place_in-at g [] d l = absurd (omega arith)
place_in-at g (p ∷ rest) d l =
    by (same_region p.region g) refl l (place_in-at g rest d)
  where
    by : (b : Bool) → same_region p.region g ≡ b → cond b 0 (place_number g rest + 1) < length (p ∷ rest)
        → (place_number g rest < length rest → place_in g rest ≡ Some (get_or rest (place_number g rest) d))
        → cond b (Some p) (place_in g rest) ≡ Some (get_or (p ∷ rest) (cond b 0 (place_number g rest + 1)) d)
    by true e l more = refl
    by false e l more = more (omega arith) ∙ ap (λ n. Some (get_or (p ∷ rest) n d)) (sym (add-one (place_number g rest)))

-- whether the update follows is told by its place's version
pub follows-at : (g : RegionId) (v : ℕ) (u : Update) (p : Place) → place_in g u.places ≡ Some p → follows g v u ≡ eqb p.after.0 v
follows-at g v u p e = ap (λ (o : Option Place). when_some (option_map (λ (q : Place). q.after.0) o) false (λ after. eqb after v)) e

-- an update up to the top is known
pub offer-known : (g : RegionId) (s : KeyState) (u : Update) → u.version.0 ≤ top_of s → offer_answer g s u ≡ Known
offer-known g s u l = cond-true (leb u.version.0 (top_of s)) _ _ (le-leb u.version.0 (top_of s) l)

pub offered-known : (g : RegionId) (s : KeyState) (u : Update) → u.version.0 ≤ top_of s → offered g s u ≡ []
offered-known g s u l = cond-true (leb u.version.0 (top_of s)) _ _ (le-leb u.version.0 (top_of s) l)

-- one that doesn't follow is early
pub offered-early : (g : RegionId) (s : KeyState) (u : Update) → top_of s < u.version.0 → follows g (top_of s) u ≡ false → offered g s u ≡ Hold u ∷ []
offered-early g s u l f = cond-false (leb u.version.0 (top_of s)) _ _ (lt-leb u.version.0 (top_of s) l) ∙ cond-false (follows g (top_of s) u) _ _ f

pub offer-early : (g : RegionId) (s : KeyState) (u : Update) → top_of s < u.version.0 → follows g (top_of s) u ≡ false → offer_answer g s u ≡ Early
offer-early g s u l f = cond-false (leb u.version.0 (top_of s)) _ _ (lt-leb u.version.0 (top_of s) l) ∙ cond-false (follows g (top_of s) u) _ _ f

-- one that follows is accepted
pub offered-taken : (g : RegionId) (s : KeyState) (u : Update) → top_of s < u.version.0
    → follows g (top_of s) u ≡ true → offered g s u ≡ Take u ∷ turns g (length s.early) u.version.0 s.early
offered-taken g s u l f = cond-false (leb u.version.0 (top_of s)) _ _ (lt-leb u.version.0 (top_of s) l) ∙ cond-true (follows g (top_of s) u) _ _ f

pub offer-taken : (g : RegionId) (s : KeyState) (u : Update) → top_of s < u.version.0 → follows g (top_of s) u ≡ true
    → offer_answer g s u ≡ Accepted (suc (length (taken (turns g (length s.early) u.version.0 s.early))))
offer-taken g s u l f =
    cond-false (leb u.version.0 (top_of s)) _ _ (lt-leb u.version.0 (top_of s) l)
    ∙ cond-true (follows g (top_of s) u) _ _ f
    ∙ ap (λ (moves : List Move). Accepted (length (taken moves))) (offered-taken g s u l f)

-- the turns after an update is taken are those of the early updates that were there
pub turns-taken : (g : RegionId) (s : KeyState) (u : Update) → AllByRecursion (IsLater g) s.early
    → turns g (length s.early) (top_of (moved (Take u) s)) (moved (Take u) s).early ≡ turns g (length s.early) u.version.0 s.early
turns-taken g s u later = turns-later g (length s.early) u.version.0 u.version.0 s.early later (omega arith)

-- the place that is read by the region's number
pub placed-read : (g : RegionId) (places read : List Place) (n : ℕ) (d : Place) → n ≡ place_number g places
    → place_number g places < length places → read ≡ places → place_in g places ≡ Some (get_or read n d)
placed-read g places read n d e l r = place_in-at g places d l ∙ ap (λ k. Some (get_or places k d)) (sym e)
    ∙ ap (λ (ps : List Place). Some (get_or ps n d)) (sym r)

pub held-read : (g : RegionId) (u : Update) (read : List Place) (n : ℕ) (d : Place) → n ≡ place_number g u.places
    → place_number g u.places < length u.places → read ≡ u.places
    → All (λ (p : Place). p.after.0 < u.version.0) u.places → length u.places ≤ 17
    → IsHeld g (record { update = u; after = (get_or read n d).after; keeps = (get_or read n d).keeps })
held-read g u read n d e l r after few =
    record {
      placed = record { place = ap (λ (o : Option Place). option_map (λ (p : Place). p.keeps) o) (placed-read g u.places read n d e l r); few = few };
      turn = ap (λ (o : Option Place). option_map (λ (p : Place). p.after.0) o) (placed-read g u.places read n d e l r);
      after = subst (λ (ps : List Place). (get_or ps n d).after.0 < u.version.0) (sym r) (after n d (omega (arith, e, l)));
    }

-- whether the update follows is told by the place that is read
pub follows-read : (g : RegionId) (u : Update) (read : List Place) (n : ℕ) (d : Place) (v top : ℕ)
    → n ≡ place_number g u.places → place_number g u.places < length u.places → read ≡ u.places → v ≡ top
    → follows g top u ≡ eqb (get_or read n d).after.0 v
follows-read g u read n d v top e l r t = follows-at g top u (get_or read n d) (placed-read g u.places read n d e l r)
    ∙ ap (eqb (get_or read n d).after.0) (sym t)

-- the turns after an update was accepted
pub accepted-turns : (g h : RegionId) (old new : KeyState) (u : Update) (most : ℕ) → new ≡ moved (Take u) old → h ≡ g
    → most ≡ length old.early → AllByRecursion (IsLater g) old.early
    → turns h most (top_of new) new.early ≡ turns g (length old.early) u.version.0 old.early
accepted-turns g h old new u most e r n later =
    ap (λ (x : RegionId). turns x most (top_of new) new.early) r
    ∙ ap (λ (s : KeyState). turns g most (top_of s) s.early) e
    ∙ ap (λ k. turns g k (top_of (moved (Take u) old)) (moved (Take u) old).early) n
    ∙ turns-taken g old u later
