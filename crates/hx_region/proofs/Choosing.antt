-- Candidates compared one after another.
use Rattle.std.proofs.Common.{◌≡◌, ℕ, ◌+◌, List, [], ◌∷◌, ◌++◌, map, Option, None, refl, ap, ◌∙◌}
use Rattle.hx_model.specs.Types.{Config}
use Rattle.hx_types.specs.Words.{below}
use Rattle.hx_types.proofs.Lemmas.{map_below_next}
use Rattle.hx_model.specs.Planning.{QueryRegions, chosen, fewer_of}

-- the last candidate is compared with the best of those before it
pub chosen_end : (config : Config) (best : Option QueryRegions) (qs : List QueryRegions) (q : QueryRegions)
    → chosen config best (qs ++ q ∷ []) ≡ fewer_of config q (chosen config best qs)
chosen_end config best [] q = refl
chosen_end config best (x ∷ qs) q = chosen_end config (fewer_of config x best) qs q

pub chosen_next : (config : Config) (f : ℕ → QueryRegions) (n : ℕ)
    → chosen config None (map f (below (n + 1))) ≡ fewer_of config (f n) (chosen config None (map f (below n)))
chosen_next config f n = ap (chosen config None) (map_below_next f n) ∙ chosen_end config None (map f (below n)) (f n)
