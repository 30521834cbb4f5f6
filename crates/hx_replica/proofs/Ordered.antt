-- Replicas whose stores have put their slots in order are the same as before to the definitions.
use Rattle.std.proofs.Common.{◌≡◌, ℕ, zero, suc, ◌+◌, ◌<◌, ◌≤◌, true, List, [], ◌∷◌, Some, add-one, arith, get_or, length, map, refl, ap, set, sym, ◌∙◌, subst}
use Rattle.std.specs.List.{All, AllByRecursion, slice_get}
use Rattle.std.specs.Option.{option_map}
use Rattle.std.proofs.lemmas.List.Elements.{All-from_recursion, recursion_from_All}
use Rattle.hx_model.specs.Types.{RegionId, Space}
use Rattle.hx_types.specs.Spaces.{IsAscending}
use Rattle.hx_model.specs.ServerSteps.{Replica as ReplicaState, replica_of}
use Rattle.hx_replica.specs.declared.replicas.Replica.{Replica}
use Rattle.hx_replica.specs.declared.servers.Server.TheInside.{Inside}
use Rattle.hx_replica.specs.Invariant.{value_of}
use Rattle.hx_replica.specs.Replicas.{AreOrdered, AreReplicas, IsReplicaIn, in_order, rooms_of, view_of, views_of}
use Rattle.hx_replica.specs.Servers.{ServerValue}
use Rattle.hx_replica.proofs.Changing.{below_views}
use Rattle.hx_replica.proofs.Planning.{found_there}

-- the first replicas have put theirs in order
abbrev pub ordered_upto : ℕ → List Replica → List Replica
ordered_upto zero rs = rs
ordered_upto (suc n) [] = []
ordered_upto (suc n) (r ∷ rs) = in_order r ∷ ordered_upto n rs

pub one_ordered : (n : ℕ) (rs : List Replica) (y x : Replica) → n < length rs → y ≡ get_or (ordered_upto n rs) n y → x ≡ in_order y
    → set (ordered_upto n rs) n x ≡ ordered_upto (n + 1) rs
one_ordered n rs y x l at is = by n rs l at ∙ ap (λ m. ordered_upto m rs) (sym (add-one n))
  where
    by : (n : ℕ) (rs : List Replica) → n < length rs → y ≡ get_or (ordered_upto n rs) n y → set (ordered_upto n rs) n x ≡ ordered_upto (suc n) rs
    by n [] l at = absurd (omega (arith, l))
    by zero (r ∷ rs) l at = ap (λ z. z ∷ rs) (is ∙ ap in_order at)
    by (suc n) (r ∷ rs) l at = ap (λ zs. in_order r ∷ zs) (by n rs (omega (arith, l)) at)

pub all_ordered : (n : ℕ) (rs : List Replica) → length rs ≤ n → ordered_upto n rs ≡ map in_order rs
all_ordered zero [] l = refl
all_ordered zero (r ∷ rs) l = absurd (omega (arith, l))
all_ordered (suc n) [] l = refl
all_ordered (suc n) (r ∷ rs) l = ap (λ zs. in_order r ∷ zs) (all_ordered n rs (omega (arith, l)))

-- what doesn't depend on the order stays
stay : {A : Type 0} (f : Replica → A) → ((r : Replica) → f (in_order r) ≡ f r) → (rs : List Replica) → map f (map in_order rs) ≡ map f rs
stay f same [] = refl
stay f same (r ∷ rs) = (λ j. same r j ∷ stay f same rs j)

pub ordered_views : (rs : List Replica) → views_of (map in_order rs) ≡ views_of rs
ordered_views rs = stay view_of (λ r. refl) rs

pub ordered_rooms : (rs : List Replica) → rooms_of (map in_order rs) ≡ rooms_of rs
ordered_rooms rs = stay (λ (r : Replica). r.store.rooms) (λ r. refl) rs

pub ordered_are : (space : Space) (rs : List Replica) → AreReplicas space rs → AreReplicas space (map in_order rs)
ordered_are space rs are = record {
  each = each rs are.each;
  ascend = subst IsAscending (sym (stay (λ (r : Replica). r.region.0) (λ r. refl) rs)) are.ascend;
}
  where
    each : (rs : List Replica) → AllByRecursion (IsReplicaIn space) rs → AllByRecursion (IsReplicaIn space) (map in_order rs)
    each [] h = tt
    each (r ∷ rs) h = (record { region = h.0.region; marks = h.0.marks; marked = h.0.marked }, each rs h.1)

pub are_in_order : (rs : List Replica) → AreOrdered (map in_order rs)
are_in_order rs = All-from_recursion (λ (r : Replica). r.store.ordered ≡ true) (map in_order rs) (each rs)
  where
    each : (rs : List Replica) → AllByRecursion (λ (r : Replica). r.store.ordered ≡ true) (map in_order rs)
    each [] = tt
    each (r ∷ rs) = (refl, each rs)

pub own_regions : (space : Space) (rs : List Replica) → AllByRecursion (IsReplicaIn space) rs → All (λ (r : Replica). r.store.region ≡ r.region) rs
own_regions space rs h = All-from_recursion (λ (r : Replica). r.store.region ≡ r.region) rs (by rs h)
  where
    by : (rs : List Replica) → AllByRecursion (IsReplicaIn space) rs → AllByRecursion (λ (r : Replica). r.store.region ≡ r.region) rs
    by [] h = tt
    by (r ∷ rs) h = (h.0.region, by rs h.1)

pub ordered_there : (rs : List Replica) (g : RegionId) (place : ℕ) (y : Replica) → AreOrdered rs → y ≡ get_or rs place y
    → Some (slice_get (views_of rs) place) ≡ option_map (λ (r : ReplicaState). Some r) (replica_of g (views_of rs)) → y.store.ordered ≡ true
ordered_there rs g place y h at found =
    let there = found_there (views_of rs) place (replica_of g (views_of rs)) found in
    subst (λ (r : Replica). r.store.ordered ≡ true) (sym at)
    (by rs place (recursion_from_All (λ (r : Replica). r.store.ordered ≡ true) rs h) (below_views rs place there.replica there.at_place))
  where
    by : (rs : List Replica) (place : ℕ) → AllByRecursion (λ (r : Replica). r.store.ordered ≡ true) rs
        → place < length rs → (get_or rs place y).store.ordered ≡ true
    by [] place h l = absurd (omega (arith, l))
    by (r ∷ rs) zero h l = h.0
    by (r ∷ rs) (suc place) h l = by rs place h.1 (omega (arith, l))

-- a server whose replicas are the same to the definitions, with the same rooms
pub same_value : (i : Inside) (v : ServerValue) (rs : List Replica) → value_of i ≡ v
    → views_of rs ≡ views_of i.replicas.items → rooms_of rs ≡ rooms_of i.replicas.items
    → record { space = i.space; state = record { id = i.id; config = i.config; halted = i.halted; replicas = views_of rs }; rooms = rooms_of rs } ≡ v
same_value i v rs seen views rooms =
    (λ j. record { space = i.space; state = record { id = i.id; config = i.config; halted = i.halted; replicas = views j }; rooms = rooms j })
    ∙ seen

-- a server whose stores have put their slots in order
pub ordered_value : (i : Inside) (v : ServerValue) (rs : List Replica) → value_of i ≡ v → rs ≡ map in_order i.replicas.items
    → record { space = i.space; state = record { id = i.id; config = i.config; halted = i.halted; replicas = views_of rs }; rooms = rooms_of rs } ≡ v
ordered_value i v rs seen is = same_value i v rs seen (ap views_of is ∙ ordered_views i.replicas.items) (ap rooms_of is ∙ ordered_rooms i.replicas.items)
