-- Prefixes of keys, by their places.
use Rattle.std.proofs.Common.{◌≡◌, ℕ, zero, suc, Bool, false, List, [], ◌∷◌, ◌++◌, get_or, refl, sym, subst}
use Rattle.std.specs.List.{slice_get}
use Rattle.indexmap.specs.IndexMap.{set_value_at}
use Rattle.hx_types.specs.Words.{when_some}
use Rattle.hx_types.specs.Prefixes.{IsPrefixOf}
use Rattle.hx_store.specs.Prefixes.{ArePrefixes}

abbrev Key : Type 0
Key = List ℕ × Bool

-- the prefixes of keys, by their places
prefix-seen : (ks : List Key) (ps : List ℕ) (i : ℕ) → ArePrefixes ks ps → IsPrefixOf (when_some (slice_get ks i) [] (λ (k : Key). k.0)) (get_or ps i 0)
prefix-seen [] [] i h = record { prefix_is = refl; bytes = tt }
prefix-seen [] (p ∷ ps) i h = absurd h
prefix-seen (k ∷ ks) [] i h = absurd h
prefix-seen (k ∷ ks) (p ∷ ps) zero h = h.0
prefix-seen (k ∷ ks) (p ∷ ps) (suc i) h = prefix-seen ks ps i h.1

pub prefix-there : (key : List ℕ) (ks : List Key) (ps : List ℕ) (i p : ℕ) → ArePrefixes ks ps
    → key ≡ when_some (slice_get ks i) [] (λ (k : Key). k.0) → p ≡ get_or ps i 0 → IsPrefixOf key p
prefix-there key ks ps i p h e q = subst (λ (k : List ℕ). IsPrefixOf k p) (sym e)
    (subst (λ n. IsPrefixOf (when_some (slice_get ks i) [] (λ (k : Key). k.0)) n) (sym q) (prefix-seen ks ps i h))

pub set-prefix : (ks : List Key) (ps : List ℕ) (i : ℕ) (b : Bool) → ArePrefixes ks ps → ArePrefixes (set_value_at ks i b) ps
set-prefix [] ps i b h = h
set-prefix (k ∷ ks) [] i b h = absurd h
set-prefix (k ∷ ks) (p ∷ ps) zero b h = h
set-prefix (k ∷ ks) (p ∷ ps) (suc i) b h = (h.0, set-prefix ks ps i b h.1)

pub added-prefix : (ks : List Key) (ps : List ℕ) (key : List ℕ) (p : ℕ) → ArePrefixes ks ps → IsPrefixOf key p
    → ArePrefixes (ks ++ (key, false) ∷ []) (ps ++ p ∷ [])
added-prefix [] [] key p h own = (own, tt)
added-prefix [] (q ∷ ps) key p h own = absurd h
added-prefix (k ∷ ks) [] key p h own = absurd h
added-prefix (k ∷ ks) (q ∷ ps) key p h own = (h.0, added-prefix ks ps key p h.1 own)
