-- The replicas that a server has at the start.
use Rattle.std.proofs.Common.{◌≡◌, ℕ, zero, suc, ◌+◌, ◌<◌, Bool, true, false, cond, List, [], ◌∷◌, ◌++◌, map, length, refl, ap, sym, ◌∙◌, subst, arith, add-one}
use Rattle.std.specs.List.{All, AllByRecursion, filter}
use Rattle.std.proofs.lemmas.Bool.{cond_both}
use Rattle.std.proofs.lemmas.List.{append-nil, length-map, length_push, map_push}
use Rattle.std.proofs.lemmas.List.Elements.{All-nil, All-head, All-push, All-tail, All-weaker, filter-append}
use Rattle.hx_model.specs.Types.{Config, RegionId, ServerId, Space}
use Rattle.hx_types.specs.Configs.{first_config, lists}
use Rattle.hx_types.specs.Spaces.{IsAscending}
use Rattle.hx_types.specs.Subspaces.{region_count}
use Rattle.hx_types.specs.Words.{below}
use Rattle.hx_types.proofs.Lemmas.{map_below_next}
use Rattle.hx_model.specs.ServerSteps.{Replica as ReplicaState, ServerState, listed_regions, server_at_start}
use Rattle.hx_replica.specs.declared.replicas.Replica.{Replica}
use Rattle.hx_replica.specs.Replicas.{AreReplicas, IsReplicaIn, first_replica, views_of}

-- the regions below a number that pass
abbrev pub passing : (RegionId → Bool) → ℕ → List RegionId
passing p n = filter p (map (λ m. record { 0 = m }) (below n))

abbrev pub numbered : ℕ → RegionId
numbered n = record { 0 = n }

pub passing_more : (p : RegionId → Bool) (n : ℕ) → passing p (n + 1) ≡ passing p n ++ cond (p (numbered n)) (numbered n ∷ []) []
passing_more p n = ap (filter p) (map_below_next numbered n) ∙ filter-append p (map numbered (below n)) (numbered n ∷ [])

-- a region more that passes, or doesn't
pub with_more : {A : Type 0} (f : RegionId → A) (p : RegionId → Bool) (n : ℕ) (xs : List A) → xs ≡ map f (passing p n)
    → p (record { 0 = n }) ≡ true → xs ++ f (record { 0 = n }) ∷ [] ≡ map f (passing p (n + 1))
with_more f p n xs e t =
    ap (λ (l : List _). l ++ f (numbered n) ∷ []) e ∙ sym (map_push f (passing p n) (numbered n))
    ∙ ap (map f) (ap (λ b. passing p n ++ cond b (numbered n ∷ []) []) (sym t) ∙ sym (passing_more p n))

pub without_more : {A : Type 0} (f : RegionId → A) (p : RegionId → Bool) (n : ℕ) (xs : List A)
    → xs ≡ map f (passing p n) → p (record { 0 = n }) ≡ false → xs ≡ map f (passing p (n + 1))
without_more f p n xs e t =
    e ∙ ap (map f) (sym (append-nil (passing p n)) ∙ ap (λ b. passing p n ++ cond b (numbered n ∷ []) []) (sym t) ∙ sym (passing_more p n))

-- a number above all others may stand at their end
ascend_push : (xs : List ℕ) (n : ℕ) → IsAscending xs → All (λ m. m < n) xs → IsAscending (xs ++ n ∷ [])
ascend_push [] n a l = (All-nil (λ m. n < m), tt)
ascend_push (x ∷ xs) n a l =
    (All-push (λ m. x < m) xs n a.0 (All-head (λ m. m < n) x xs l), ascend_push xs n a.1 (All-tail (λ m. m < n) x xs l))

abbrev pub numbers : (RegionId → Bool) → ℕ → List ℕ
numbers p n = map (λ (g : RegionId). g.0) (passing p n)

numbers_more : (p : RegionId → Bool) (n : ℕ) → numbers p (n + 1) ≡ cond (p (numbered n)) (numbers p n ++ n ∷ []) (numbers p n)
numbers_more p n = by (p (numbered n)) refl
  where
    by : (b : Bool) → p (numbered n) ≡ b → numbers p (n + 1) ≡ cond (p (numbered n)) (numbers p n ++ n ∷ []) (numbers p n)
    by true e = sym (with_more (λ (g : RegionId). g.0) p n (numbers p n) refl e) ∙ ap (λ b. cond b (numbers p n ++ n ∷ []) (numbers p n)) (sym e)
    by false e = sym (without_more (λ (g : RegionId). g.0) p n (numbers p n) refl e) ∙ ap (λ b. cond b (numbers p n ++ n ∷ []) (numbers p n)) (sym e)

pub numbers_ascend : (p : RegionId → Bool) (n : ℕ) → IsAscending (numbers p n) × All (λ m. m < n) (numbers p n)
numbers_ascend p zero = (tt, All-nil (λ m. m < 0))
numbers_ascend p (suc n) =
    let rest = numbers_ascend p n in
    let wider : All (λ m. m < n + 1) (numbers p n) = All-weaker (λ m. m < n) (λ m. m < n + 1) (λ m h. omega arith) (numbers p n) rest.1 in
    subst (λ (k : ℕ). IsAscending (numbers p k) × All (λ m. m < k) (numbers p k)) (add-one n)
    (
    subst (λ (l : List ℕ). IsAscending l × All (λ m. m < n + 1) l) (sym (numbers_more p n))
    (
    cond_both (p (numbered n)) (numbers p n ++ n ∷ []) (numbers p n) (λ (l : List ℕ). IsAscending l × All (λ m. m < n + 1) l)
    (λ e. (ascend_push (numbers p n) n rest.0 rest.1, All-push (λ m. m < n + 1) (numbers p n) n wider (omega arith)))
    (λ e. (rest.0, wider))
    )
    )

first_each : (space : Space) (gs : List RegionId) → AllByRecursion (IsReplicaIn space) (map (first_replica space) gs)
first_each space [] = tt
first_each space (g ∷ gs) = (record { region = refl; marks = refl; marked = tt }, first_each space gs)

first_numbers : (space : Space) (gs : List RegionId) → map (λ (r : Replica). r.region.0) (map (first_replica space) gs) ≡ map (λ (g : RegionId). g.0) gs
first_numbers space [] = refl
first_numbers space (g ∷ gs) = ap (λ (l : List ℕ). g.0 ∷ l) (first_numbers space gs)

-- they are the replicas of a server, in ascending order
pub first_ones : (space : Space) (config : Config) (s : ServerId) → AreReplicas space (map (first_replica space) (listed_regions config s))
first_ones space config s =
    let p : RegionId → Bool = λ g. lists config g s in
    record {
      each = first_each space (listed_regions config s);
      ascend = subst IsAscending (sym (first_numbers space (listed_regions config s))) (numbers_ascend p (length config.regions)).0;
    }

-- installed and empty
pub first_views : (space : Space) (gs : List RegionId)
    → views_of (map (first_replica space) gs) ≡ map (λ (g : RegionId). record { region = g; installed = true; states = [] }) gs
first_views space [] = refl
first_views space (g ∷ gs) = ap (λ (l : List ReplicaState). record { region = g; installed = true; states = [] } ∷ l) (first_views space gs)

length_below : (n : ℕ) → length (below n) ≡ n
length_below zero = refl
length_below (suc n) = length_push (below n) n ∙ ap (λ (k : ℕ). k + 1) (length_below n) ∙ add-one n

-- the first configuration has a list for each region
pub first_count : (space : Space) → region_count space ≡ length (first_config space).regions
first_count space = sym (length-map (below (region_count space)) _ ∙ length_below (region_count space))

-- the server's state at the start
pub first_state : (space : Space) (s : ServerId) (config : Config) (rs : List Replica) → config ≡ first_config space
    → rs ≡ map (first_replica space) (listed_regions config s)
    → record { id = s; config = config; halted = false; replicas = views_of rs } ≡ server_at_start space s
first_state space s config rs c r =
    let with_views : List ReplicaState → ServerState = λ views. record { id = s; config = config; halted = false; replicas = views } in
    let at_start : Config → ServerState = λ k. record {
      id = s;
      config = k;
      halted = false;
      replicas = map (λ (g : RegionId). record { region = g; installed = true; states = [] }) (listed_regions k s);
    } in
    ap with_views (ap views_of r ∙ first_views space (listed_regions config s)) ∙ ap at_start c
