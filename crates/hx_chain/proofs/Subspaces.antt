-- The places in the declared subspaces, gathered one subspace after another.
use Rattle.std.proofs.Common.{◌≡◌, ℕ, ◌+◌, ◌-◌, ◌≤◌, Option, None, Some, List, [], ◌∷◌, ◌++◌, map, refl, sym, ap, ◌∙◌, append_assoc, append-nil, arith}
use Rattle.std.specs.List.{flat_map}
use Rattle.std.specs.Option.{option_map}
use Rattle.std.proofs.lemmas.Grind.{flat_map-append}
use Rattle.hx_model.specs.Types.{Place, RegionId, Space, Touch, Value}
use Rattle.hx_types.specs.Words.{below}
use Rattle.hx_types.proofs.Lemmas.{map_below_next}
use Rattle.hx_model.specs.Regions.{place_of}
use Rattle.hx_chain.specs.Crossing.{crossed, place_for, places_in}

-- those in one subspace, by the regions of the objects
places_crossed : (space : Space) (key : List ℕ) (touches : List Touch) (s : ℕ) (old new : Option (List Value))
    → map (place_for (option_map (place_of space s key) new) touches)
    (crossed (option_map (place_of space s key) old) (option_map (place_of space s key) new))
    ≡ places_in space key old new touches s
places_crossed space key touches s None None = refl
places_crossed space key touches s None (Some new) = refl
places_crossed space key touches s (Some old) None = refl
places_crossed space key touches s (Some old) (Some new) = refl

module _ (space : Space) (key : List ℕ) (old new : Option (List Value)) (touches : List Touch) where
  -- those in the declared subspaces before one
  abbrev pub places_before : ℕ → List Place
  places_before s = flat_map (places_in space key old new touches) (map (λ n. n + 1) (below (s - 1)))

  -- one subspace more
  pub places_next : (others : List Place) (s : ℕ) (before after : Option RegionId) → 1 ≤ s
      → before ≡ option_map (place_of space s key) old → after ≡ option_map (place_of space s key) new
      → others ++ places_before s ++ map (place_for after touches) (crossed before after) ≡ others ++ places_before (s + 1)
  places_next others s before after l p q =
      let here = places_in space key old new touches in
      let number : s - 1 + 1 ≡ s = omega (arith, l) in
      let next : s - 1 + 1 ≡ s + 1 - 1 = omega (arith, l) in
      let it : map (place_for after touches) (crossed before after) ≡ here s = rw (p, q) (places_crossed space key touches s old new) in
      let at_end : flat_map here ((s - 1 + 1) ∷ []) ≡ here s = append-nil (here (s - 1 + 1)) ∙ ap here number in
      append_assoc others (places_before s) (map (place_for after touches) (crossed before after))
      ∙ ap (λ (more : List Place). others ++ (places_before s ++ more)) (it ∙ sym at_end)
      ∙ ap (λ (more : List Place). others ++ more)
      (sym (flat_map-append here (map (λ n. n + 1) (below (s - 1))) ((s - 1 + 1) ∷ []))
      ∙ ap (flat_map here) (sym (map_below_next (λ n. n + 1) (s - 1)))
      ∙ ap (λ n. flat_map here (map (λ n. n + 1) (below n))) next)
