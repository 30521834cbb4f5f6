-- What parts look like once a region's rows were found.
use Rattle.std.proofs.Common.{◌≡◌, ℕ, zero, suc, ◌<◌, Bool, true, false, cond, ◌&&◌, ◌||◌, ◌==◌, List, [], ◌∷◌, map, Some, refl, ap, sym, ◌∙◌, subst, arith}
use Rattle.std.specs.List.{All, list_all, list_any, slice_get}
use Rattle.std.specs.Prelude.{is_some, slice_set}
use Rattle.std.proofs.lemmas.Bool.{cond-true, cond-false}
use Rattle.std.proofs.lemmas.List.Elements.{All-head, All-tail}
use Rattle.std.proofs.lemmas.Option.{same_Some}
use Rattle.hx_model.specs.Types.{RegionId, Row}
use Rattle.hx_types.specs.Spaces.{IsAscending}
use Rattle.hx_types.specs.Words.{same_region}
use Rattle.hx_model.specs.SessionSteps.{Part as PartSeen, all_parts, lacks_part, with_part}
use Rattle.hx_session.specs.declared.parts.SearchPart.{SearchPart}
use Rattle.hx_session.specs.Changes.{is_found, lacks_rows, part_seen}

abbrev pub regions_of : List PartSeen → List ℕ
regions_of parts = map (λ (p : PartSeen). p.region.0) parts

-- which part lacks rows looks the same from the definitions
pub lacking_seen : (g : RegionId) (parts : List SearchPart) → list_any (lacks_rows g) parts ≡ list_any (lacks_part g) (map part_seen parts)
lacking_seen g [] = refl
lacking_seen g (p ∷ rest) = ap (λ b. lacks_rows g p || b) (lacking_seen g rest)

found_rows : (b : Bool) (g : RegionId) (rows : List Row) (p : PartSeen)
    → (b || is_some p.rows) ≡ is_some ((cond b (record { region = g; rows = Some rows }) p)).rows
found_rows true g rows p = refl
found_rows false g rows p = refl

pub all_found_seen : (g : RegionId) (rows : List Row) (parts : List SearchPart)
    → list_all (is_found g) parts ≡ all_parts (map (with_part g rows) (map part_seen parts))
all_found_seen g rows [] = refl
all_found_seen g rows (p ∷ rest) =
    ap (λ b. is_found g p && b) (all_found_seen g rows rest)
    ∙ ap (λ b. b && all_parts (map (with_part g rows) (map part_seen rest))) (found_rows (same_region p.region g) g rows (part_seen p))

pub same_number : (n : ℕ) → (n == n) ≡ true
same_number n = grind arith

differs : (m n : ℕ) → m < n → (n == m) ≡ false
differs m n l = grind (arith, l)

differs_below : (m n : ℕ) → m < n → (m == n) ≡ false
differs_below m n l = grind (arith, l)

-- later parts are of other regions
others_stay : (g : RegionId) (rows : List Row) (parts : List PartSeen) → All (λ m. g.0 < m) (regions_of parts) → parts ≡ map (with_part g rows) parts
others_stay g rows [] above = refl
others_stay g rows (p ∷ rest) above =
    ap (λ (ps : List PartSeen). p ∷ ps) (others_stay g rows rest (All-tail (λ m. g.0 < m) p.region.0 (regions_of rest) above))
    ∙ ap (λ (q : PartSeen). q ∷ map (with_part g rows) rest)
    (sym (cond-false (same_region p.region g) _ p
    (differs g.0 p.region.0 (All-head (λ m. g.0 < m) p.region.0 (regions_of rest) above))))

above_found : (low : ℕ) (parts : List PartSeen) (place : ℕ) (p : PartSeen) → All (λ m. low < m) (regions_of parts)
    → slice_get parts place ≡ Some p → low < p.region.0
above_found low [] place p above e = absurd cc
above_found low (q ∷ rest) zero p above e =
    subst (λ (x : PartSeen). low < x.region.0) (same_Some q p e) (All-head (λ m. low < m) q.region.0 (regions_of rest) above)
above_found low (q ∷ rest) (suc place) p above e = above_found low rest place p (All-tail (λ m. low < m) q.region.0 (regions_of rest) above) e

-- the part at a place is the only one of its region
pub kept_there : (g : RegionId) (rows : List Row) (parts : List PartSeen) (place : ℕ) (p : PartSeen)
    → IsAscending (regions_of parts) → slice_get parts place ≡ Some p → p.region ≡ g
    → slice_set parts place (record { region = g; rows = Some rows }) ≡ map (with_part g rows) parts
kept_there g rows [] place p ascend e is = absurd cc
kept_there g rows (q ∷ rest) zero p ascend e is =
    let here : q.region ≡ g = ap (λ (x : PartSeen). x.region) (same_Some q p e) ∙ is in
    ap (λ (ps : List PartSeen). record { region = g; rows = Some rows } ∷ ps)
    (others_stay g rows rest (subst (λ (h : RegionId). All (λ m. h.0 < m) (regions_of rest)) here ascend.0))
    ∙ ap (λ (x : PartSeen). x ∷ map (with_part g rows) rest)
    (sym (cond-true (same_region q.region g) _ q (ap (λ (h : RegionId). h.0 == g.0) here ∙ same_number g.0)))
kept_there g rows (q ∷ rest) (suc place) p ascend e is =
    let low : q.region.0 < g.0 = subst (λ (h : RegionId). q.region.0 < h.0) is (above_found q.region.0 rest place p ascend.0 e) in
    ap (λ (ps : List PartSeen). q ∷ ps) (kept_there g rows rest place p ascend.1 e is)
    ∙ ap (λ (x : PartSeen). x ∷ map (with_part g rows) rest) (sym (cond-false (same_region q.region g) _ q (differs_below q.region.0 g.0 low)))

-- rows that are found leave the regions
same_regions : (g : RegionId) (rows : List Row) (b : Bool) (p : PartSeen) → same_region p.region g ≡ b
    → (cond b (record { region = g; rows = Some rows }) p).region.0 ≡ p.region.0
same_regions g rows true p e = same g.0 p.region.0 e
  where
    same : (m n : ℕ) → (n == m) ≡ true → m ≡ n
    same m n t = grind (arith, t)
same_regions g rows false p e = refl

pub regions_stay : (g : RegionId) (rows : List Row) (parts : List PartSeen) → regions_of (map (with_part g rows) parts) ≡ regions_of parts
regions_stay g rows [] = refl
regions_stay g rows (p ∷ rest) =
    ap (λ n. n ∷ regions_of (map (with_part g rows) rest)) (same_regions g rows (same_region p.region g) p refl)
    ∙ ap (λ ns. p.region.0 ∷ ns) (regions_stay g rows rest)
