-- The rooms of a server's replicas.
use Rattle.std.proofs.Common.{◌≡◌, ℕ, Bool, true, false, cond, Box, Vec, Global, zero, suc, ◌<◌, List, [], ◌∷◌, ◌++◌}
use Rattle.std.proofs.Common.{get_or, length, map, set, None, Some, append-nil, append_assoc, refl, ap, sym, ◌∙◌}
use Rattle.std.proofs.Common.{subst, arith}
use Rattle.std.specs.List.{All, AllByRecursion, slice_get}
use Rattle.std.proofs.lemmas.Bool.{cond_both, eq-eqb, eqb-true, false≢true, false_from_ne_true, ne_eqb}
use Rattle.std.proofs.lemmas.List.Elements.{All-head, All-tail}
use Rattle.std.proofs.lemmas.Option.{same_Some}
use Rattle.hx_model.specs.Types.{Config, RegionId}
use Rattle.hx_types.specs.Words.{same_region}
use Rattle.hx_model.specs.ServerSteps.{Replica as ReplicaState, replica_of}
use Rattle.hx_store.specs.Stores.{KeepsRooms, Room, UsesRoom}
use Rattle.hx_store.proofs.Lemmas.{keeps-same, keeps-trans}
use Rattle.hx_replica.specs.declared.replicas.Replica.{Replica}
use Rattle.hx_replica.specs.declared.outputs.SlotChange.{SlotChange}
use Rattle.hx_replica.specs.declared.prepared.Change.{Change}
use Rattle.hx_replica.specs.declared.prepared.Change.TheVariants as a_change
use Rattle.hx_replica.specs.Plans.{AreRoomsAfter, KeepRoomsBut, UseRoomAt}
use Rattle.hx_replica.specs.Replicas.{AscendByRegion, HasKeptRooms, KeepAllRooms, KeepRegionRooms, region_rooms, rooms_of, view_of, views_of}
use Rattle.hx_replica.specs.Servers.{ServerValue}

-- rooms that are the same are kept
pub all_same : (a b : List (List Room)) → b ≡ a → KeepAllRooms a b
all_same a b e = subst (KeepAllRooms a) (sym e) (self a)
  where
    self : (rs : List (List Room)) → KeepAllRooms rs rs
    self [] = tt
    self (r ∷ rs) = (keeps-same r r refl, self rs)

-- one replica whose rooms are kept comes in place of another
pub set_rooms : (rs : List Replica) (i : ℕ) (y x : Replica) → i < length rs → y ≡ get_or rs i y
    → KeepsRooms y.store.rooms x.store.rooms → KeepAllRooms (rooms_of rs) (rooms_of (set rs i x))
set_rooms [] i y x l e k = absurd (omega (arith, l))
set_rooms (r ∷ rs) zero y x l e k = (subst (λ (z : Replica). KeepsRooms z.store.rooms x.store.rooms) e k, all_same (rooms_of rs) (rooms_of rs) refl)
set_rooms (r ∷ rs) (suc i) y x l e k = (keeps-same r.store.rooms r.store.rooms refl, set_rooms rs i y x (omega (arith, l)) e k)

-- rooms that are kept are used at most
pub kept_uses : (place : ℕ) (a b : List Room) → KeepsRooms a b → UsesRoom place a b
kept_uses place [] b h = tt
kept_uses place (x ∷ a) [] h = absurd h
kept_uses zero (x ∷ a) (y ∷ b) h = (h.0, (let l = h.1 in omega (arith, l)), h.2)
kept_uses (suc place) (x ∷ a) (y ∷ b) h = (h.0, h.1, kept_uses place a b h.2)

pub same_uses : (place : ℕ) (a b : List Room) → b ≡ a → UsesRoom place a b
same_uses place a b e = kept_uses place a b (keeps-same a b e)

-- one replica of which a slot uses room comes in place of another
pub set_uses : (rs : List Replica) (i place : ℕ) (y x : Replica) → i < length rs → y ≡ get_or rs i y
    → UsesRoom place y.store.rooms x.store.rooms → UseRoomAt i place (rooms_of rs) (rooms_of (set rs i x))
set_uses [] i place y x l e k = absurd (omega (arith, l))
set_uses (r ∷ rs) zero place y x l e k = (subst (λ (z : Replica). UsesRoom place z.store.rooms x.store.rooms) e k, all_same (rooms_of rs) (rooms_of rs) refl)
set_uses (r ∷ rs) (suc i) place y x l e k = (keeps-same r.store.rooms r.store.rooms refl, set_uses rs i place y x (omega (arith, l)) e k)

-- another replica comes in its place
pub set_other : (rs : List Replica) (i : ℕ) (x : Replica) → KeepRoomsBut i (rooms_of rs) (rooms_of (set rs i x))
set_other [] i x = tt
set_other (r ∷ rs) zero x = all_same (rooms_of rs) (rooms_of rs) refl
set_other (r ∷ rs) (suc i) x = (keeps-same r.store.rooms r.store.rooms refl, set_other rs i x)

-- the rooms after a change of a slot, after a join, and in a configuration that was adopted
pub slot_rooms : (change : Change) (number place : ℕ) (of : SlotChange) (old new : ServerValue)
    (before : List (List Room)) → change ≡ a_change.Slot number place of → before ≡ old.rooms
    → UseRoomAt number place before new.rooms → AreRoomsAfter change old new
slot_rooms change number place of old new before e b u =
    subst (λ (x : Change). AreRoomsAfter x old new) (sym e)
    (subst (λ (rs : List (List Room)). UseRoomAt number place rs new.rooms) b u)

pub join_rooms : (change : Change) (number : ℕ) (replica : Box Replica Global) (old new : ServerValue)
    (before : List (List Room)) → change ≡ a_change.Join number replica → before ≡ old.rooms
    → KeepRoomsBut number before new.rooms → AreRoomsAfter change old new
join_rooms change number replica old new before e b u =
    subst (λ (x : Change). AreRoomsAfter x old new) (sym e)
    (subst (λ (rs : List (List Room)). KeepRoomsBut number rs new.rooms) b u)

pub adopt_rooms : (change : Change) (config : Config) (replicas : Vec Replica Global) (old new : ServerValue)
    → change ≡ a_change.Adopt config replicas → KeepRegionRooms old.state.replicas old.rooms new.state.replicas
    new.rooms → AreRoomsAfter change old new
adopt_rooms change config replicas old new e k = subst (λ (x : Change). AreRoomsAfter x old new) (sym e) k

-- rooms that are kept twice are kept
pub kept_twice : (a b c : List Room) → KeepsRooms a b → KeepsRooms b c → KeepsRooms a c
kept_twice = keeps-trans

pub kept_self : (rs : List Room) → KeepsRooms rs rs
kept_self rs = keeps-same rs rs refl

-- a replica that is kept takes its place among those of higher and lower regions
untouched : (r : Replica) (xs : List Replica) → AllByRecursion (λ (x : Replica). same_region r.region x.region ≡ false) xs → HasKeptRooms r xs xs
untouched r [] h = tt
untouched r (x ∷ xs) h = (refl, (λ t. absurd (false≢true (sym h.0 ∙ t))), (λ f. refl), untouched r xs h.1)

above_differs : (r : Replica) (xs : List Replica) → All (λ m. r.region.0 < m) (map (λ (x : Replica). x.region.0) xs)
    → AllByRecursion (λ (x : Replica). same_region r.region x.region ≡ false) xs
above_differs r [] h = tt
above_differs r (x ∷ xs) h =
    let l : r.region.0 < x.region.0 = All-head (λ m. r.region.0 < m) x.region.0 (map (λ (y : Replica). y.region.0) xs) h in (
      ne_eqb r.region.0 x.region.0 (λ e. omega (arith, l, e)),
      above_differs r xs (All-tail (λ m. r.region.0 < m) x.region.0 (map (λ (y : Replica). y.region.0) xs) h),
    )

all_above : (xs : List Replica) (i n : ℕ) (y : ReplicaState) → All (λ m. n < m) (map (λ (x : Replica). x.region.0) xs)
    → slice_get (views_of xs) i ≡ Some y → n < y.region.0
all_above [] i n y h e = absurd cc
all_above (x ∷ xs) zero n y h e = subst (λ (z : ReplicaState). n < z.region.0) (same_Some (view_of x) y e)
    (All-head (λ m. n < m) x.region.0 (map (λ (z : Replica). z.region.0) xs) h)
all_above (x ∷ xs) (suc i) n y h e = all_above xs i n y (All-tail (λ m. n < m) x.region.0 (map (λ (z : Replica). z.region.0) xs) h) e

pub set_kept : (r : Replica) (xs : List Replica) (i : ℕ) (y : ReplicaState) (w : Replica) → AscendByRegion xs
    → slice_get (views_of xs) i ≡ Some y → y.region ≡ r.region → w.region ≡ r.region
    → KeepsRooms r.store.rooms w.store.rooms → HasKeptRooms r xs (set xs i w)
set_kept r [] i y w up at e f k = absurd cc
set_kept r (x ∷ xs) zero y w up at e f k =
    let same : x.region ≡ r.region = ap (λ (z : ReplicaState). z.region) (same_Some (view_of x) y at) ∙ e in (
      f ∙ sym same,
      (λ t. k),
      (λ n. absurd (false≢true (sym n ∙ eq-eqb r.region.0 x.region.0 (ap (λ (g : RegionId). g.0) (sym same))))),
      untouched r xs (above_differs r xs (subst (λ (g : RegionId). All (λ m. g.0 < m) (map (λ (z : Replica). z.region.0) xs)) same up.0)),
    )
set_kept r (x ∷ xs) (suc i) y w up at e f k =
    let l : x.region.0 < y.region.0 = all_above xs i x.region.0 y up.0 at in
    let q : y.region.0 ≡ r.region.0 = ap (λ (g : RegionId). g.0) e in (
      refl,
      (λ t. let z = eqb-true r.region.0 x.region.0 t in absurd (omega (arith, l, q, z))),
      (λ n. refl),
      set_kept r xs i y w up.1 at e f k,
    )

-- there may be none of its region
pub none_kept_rooms : (r : Replica) (xs : List Replica) → replica_of r.region (views_of xs) ≡ None → HasKeptRooms r xs xs
none_kept_rooms r xs e = untouched r xs (by xs e)
  where
    by : (ys : List Replica) → replica_of r.region (views_of ys) ≡ None → AllByRecursion (λ (x : Replica). same_region r.region x.region ≡ false) ys
    by [] n = tt
    by (y ∷ ys) n = cases (same_region y.region r.region) refl n (by ys)
      where
        cases : (b : Bool) → same_region y.region r.region ≡ b
            → cond b (Some (view_of y)) (replica_of r.region (views_of ys)) ≡ None
            → (replica_of r.region (views_of ys) ≡ None
            → AllByRecursion (λ (x : Replica). same_region r.region x.region ≡ false) ys)
            → AllByRecursion (λ (x : Replica). same_region r.region x.region ≡ false) (y ∷ ys)
        cases true t m more = absurd cc
        cases false f m more = (
          false_from_ne_true (same_region r.region y.region)
              (λ t. false≢true (sym f ∙ eq-eqb y.region.0 r.region.0 (sym (eqb-true r.region.0 y.region.0 t)))),
          more m,
        )

-- each of the replicas keeps the rooms of those that were kept so far
abbrev pub rooms_for : RegionId → List Replica → List Room
rooms_for g rs = region_rooms g (views_of rs) (rooms_of rs)

abbrev pub AllKept : List Replica → List Replica → Type 0
AllKept done next = KeepRegionRooms (views_of done) (rooms_of done) (views_of next) (rooms_of next)

pub none_yet : (next : List Replica) → AllKept [] next
none_yet [] = tt
none_yet (x ∷ xs) = (tt, none_yet xs)

pub one_kept : (r : Replica) (done next after : List Replica) → HasKeptRooms r next after → AllKept done next → AllKept (r ∷ done) after
one_kept r done [] [] h k = tt
one_kept r done [] (y ∷ ys) h k = absurd h
one_kept r done (x ∷ xs) [] h k = absurd h
one_kept r done (x ∷ xs) (y ∷ ys) h k = (
  subst (λ (g : RegionId). KeepsRooms (rooms_for g (r ∷ done)) y.store.rooms) (sym h.0)
      (
      cond_both (same_region r.region x.region) r.store.rooms (rooms_for x.region done) (λ (l : List Room). KeepsRooms l y.store.rooms) (λ t. h.1 t)
      (λ f. subst (λ (l : List Room). KeepsRooms (rooms_for x.region done) l) (sym (h.2 f)) k.0)
      ),
  one_kept r done xs ys h.3 k.1,
)

-- the replicas that are left, and those that were kept
pub record AreKeptSoFar (all left next : List Replica) : Type 0 where
  pub done : List Replica
  pub split : all ≡ left ++ done
  pub kept : AllKept done next

pub kept_first : (all next : List Replica) → AreKeptSoFar all all next
kept_first all next = record { done = []; split = sym (append-nil all); kept = none_yet next }

pub kept_next : (all left rest next after : List Replica) (r : Replica) → AreKeptSoFar all left next
    → left ≡ rest ++ r ∷ [] → HasKeptRooms r next after → AreKeptSoFar all rest after
kept_next all left rest next after r h e k = record {
  done = r ∷ h.done;
  split = h.split ∙ ap (λ (l : List Replica). l ++ h.done) e ∙ append_assoc rest (r ∷ []) h.done;
  kept = one_kept r h.done next after k h.kept;
}
