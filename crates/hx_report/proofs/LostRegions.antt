-- The lost regions up to one, by counting up.
use Rattle.std.proofs.Common.{◌≡◌, ℕ, ◌+◌, true, false, List, [], ◌∷◌, ◌++◌, map, refl, ap, ◌∙◌, add-one, append-nil}
use Rattle.std.specs.List.{filter}
use Rattle.std.proofs.lemmas.List.{map-append}
use Rattle.std.proofs.lemmas.List.Elements.{filter-append}
use Rattle.hx_model.specs.Types.{Config, RegionId}
use Rattle.hx_types.specs.Configs.{is_lost}
use Rattle.hx_types.specs.Words.{below}

abbrev region : ℕ → RegionId
region n = record { 0 = n }

abbrev number : RegionId → ℕ
number g = g.0

-- the lost ones among the regions below a number
abbrev pub lost_below : Config → ℕ → List ℕ
lost_below config n = map number (filter (is_lost config) (map region (below n)))

one_more : (config : Config) (n : ℕ) → lost_below config (n + 1) ≡ lost_below config n ++ map number (filter (is_lost config) (region n ∷ []))
one_more config n =
    rw add-one
    (ap (λ gs. map number (filter (is_lost config) gs)) (map-append region (below n) (n ∷ []))
    ∙ ap (λ gs. map number gs) (filter-append (is_lost config) (map region (below n)) (region n ∷ []))
    ∙ map-append number (filter (is_lost config) (map region (below n))) (filter (is_lost config) (region n ∷ [])))

pub lost_next : (config : Config) (n : ℕ) → is_lost config (region n) ≡ true → lost_below config (n + 1) ≡ lost_below config n ++ n ∷ []
lost_next config n e = rw (one_more config n) (rw e refl)

pub kept_next : (config : Config) (n : ℕ) → is_lost config (region n) ≡ false → lost_below config (n + 1) ≡ lost_below config n
kept_next config n e = rw (one_more config n) (rw e (append-nil (lost_below config n)))
