-- The replica of a region among those in ascending order of regions.
use Rattle.std.proofs.Common.{◌≡◌, ℕ, zero, suc, ◌<◌, ◌≤◌, List, [], ◌∷◌, map, length, get_or, Option, Some, None, refl, ap, sym, ◌∙◌, arith, ⊎_elim}
use Rattle.std.specs.List.{HoldsAt, slice_get}
use Rattle.std.specs.Option.{option_map}
use Rattle.std.specs.List.Sorted.{IsNonDecreasingBy, IsPartitionPoint}
use Rattle.std.specs.Ordering.{nat_cmp, ordering_index}
use Rattle.std.specs.declared.cmp.Ordering.TheVariants as an_order
use Rattle.std.proofs.lemmas.Bool.{cases_lt, cond-true, cond-false, eq-eqb, ne_eqb}
use Rattle.std.proofs.lemmas.Bool.Decides.{nat_tests}
use Rattle.std.proofs.lemmas.Cmp.{ranked}
use Rattle.std.proofs.lemmas.List.{get_or-map, length-map}
use Rattle.hx_model.specs.Types.{RegionId}
use Rattle.hx_types.specs.Words.{same_region}
use Rattle.hx_model.specs.ServerSteps.{Replica as ReplicaState, replica_of}
use Rattle.hx_replica.specs.declared.replicas.Replica.{Replica}
use Rattle.hx_replica.specs.Replicas.{AscendByRegion, views_of}

abbrev number_of : Replica → ℕ
number_of r = r.region.0

-- what is above the first region
pub higher : (r : Replica) (rest : List Replica) (j : ℕ) (d : Replica) → AscendByRegion (r ∷ rest) → j < length rest → r.region.0 < (get_or rest j d).region.0
higher r rest j d h l =
    let e = get_or-map number_of rest j d 0 l in
    let n = length-map rest number_of in
    let b : r.region.0 < get_or (map number_of rest) j 0 = h.0 j 0 (omega (arith, n)) in
    omega (arith, e, b)

rising : (rs : List Replica) → AscendByRegion rs → IsNonDecreasingBy number_of rs
rising [] h i j d l m = absurd (omega arith)
rising (r ∷ rest) h zero zero d l m = omega arith
rising (r ∷ rest) h zero (suc j) d l m = let b = higher r rest j d h (omega arith) in omega (arith, b)
rising (r ∷ rest) h (suc i) zero d l m = absurd (omega arith)
rising (r ∷ rest) h (suc i) (suc j) d l m = rising rest h.1 i j d (omega arith) (omega arith)

not_falling : (g a b : ℕ) → a ≤ b → ordering_index (nat_cmp a g) ≤ ordering_index (nat_cmp b g)
not_falling g a b l = grind (arith, nat_tests)

-- regions that ascend can be searched for one
pub searchable : (g : ℕ) (rs : List Replica) → AscendByRegion rs → IsNonDecreasingBy (λ (r : Replica). ordering_index (nat_cmp r.region.0 g)) rs
searchable g rs h = λ a b d le lt. not_falling g _ _ (rising rs h a b d le lt)

abbrev lent : Option ReplicaState → Option (Option ReplicaState)
lent o = option_map (λ r. Some r) o

-- the replica at the place that was found is the region's
pub found : (g : RegionId) (rs : List Replica) (i : ℕ) → AscendByRegion rs → i < length rs
    → HoldsAt (λ (r : Replica). nat_cmp r.region.0 g.0 ≡ an_order.Equal) rs i
    → Some (slice_get (views_of rs) i) ≡ lent (replica_of g (views_of rs))
found g [] i h l e = absurd (omega arith)
found g (r ∷ rest) zero h l e = ap lent (sym (cond-true (same_region r.region g) _ _
    (eq-eqb r.region.0 g.0 (ranked r.region.0 g.0 an_order.Equal (sym (e r))))))
found g (r ∷ rest) (suc i) h l e =
    let within : i < length rest = omega arith in
    let b = higher r rest i r h within in
    let q : (get_or rest i r).region.0 ≡ g.0 = ranked (get_or rest i r).region.0 g.0 an_order.Equal (sym (e r)) in
    found g rest i h.1 within e ∙ ap lent (sym (cond-false (same_region r.region g) _ _ (ne_eqb r.region.0 g.0 (λ k. omega (arith, b, q, k)))))

none_of : (g : RegionId) (rs : List Replica) → ((k : ℕ) (d : Replica) → k < length rs → (get_or rs k d).region.0 ≡ g.0 → ⊥) → replica_of g (views_of rs) ≡ None
none_of g [] h = refl
none_of g (r ∷ rest) h = cond-false (same_region r.region g) _ _ (ne_eqb r.region.0 g.0 (h 0 r (omega arith)))
    ∙ none_of g rest (λ k d l. h (suc k) d (omega arith))

-- where the region would stand between others, there is none
pub missing : (g : RegionId) (rs : List Replica) (i : ℕ)
    → IsPartitionPoint (λ (r : Replica). nat_cmp r.region.0 g.0 ≡ an_order.Less)
    (λ (r : Replica). nat_cmp r.region.0 g.0 ≡ an_order.Greater) rs i → None ≡ lent (replica_of g (views_of rs))
missing g rs i p = ap lent (sym (none_of g rs (λ k d l. ⊎_elim
    (λ low same. let b : (get_or rs k d).region.0 < g.0 =
    ranked (get_or rs k d).region.0 g.0 an_order.Less (sym (p.0 k d (omega arith) low)) in omega (arith, b, same))
    (λ high same. let b : g.0 < (get_or rs k d).region.0 =
    ranked (get_or rs k d).region.0 g.0 an_order.Greater (sym (p.1 k d high l)) in omega (arith, b, same))
    (cases_lt k i))))
