-- A replica takes the place of another of its region.
use Rattle.std.proofs.Common.{◌≡◌, ℕ, zero, suc, ◌<◌, Bool, cond, List, [], ◌∷◌, length, map, get_or, set, Some, refl, ap, sym, ◌∙◌, subst, arith}
use Rattle.std.specs.List.{AllByRecursion, slice_get}
use Rattle.std.proofs.lemmas.Bool.{cond_both, cond-true, cond-false, eq-eqb, ne_eqb}
use Rattle.std.proofs.lemmas.List.{get_or_default, map-set}
use Rattle.std.proofs.lemmas.Option.{same_Some}
use Rattle.hx_model.specs.Types.{RegionId, Space}
use Rattle.hx_types.specs.Spaces.{IsAscending}
use Rattle.hx_types.specs.Subspaces.{is_key_region}
use Rattle.hx_types.specs.Words.{same_region, same_text, text_below}
use Rattle.hx_model.specs.ServerSteps.{Replica as ReplicaState, state_in, with_replica}
use Rattle.hx_model.specs.Slots.{KeyState, Move, Take, Hold, Acknowledge, Commit, Forget, acknowledged, moved, moved_all, state_among, with_state}
use Rattle.hx_store.specs.Stores.{StoreState, accepted, after_step, state_at}
use Rattle.hx_replica.specs.declared.outputs.SlotChange.{SlotChange}
use Rattle.hx_replica.specs.declared.outputs.SlotChange.TheVariants.{Open, Accept, Acknowledge as AckChange}
use Rattle.hx_replica.specs.declared.replicas.Replica.{Replica}
use Rattle.hx_replica.specs.Outputs.{stepped}
use Rattle.hx_replica.specs.Replicas.{AreReplicas, AscendByRegion, IsReplicaIn, rooms_of, view_of, views_of}
use Rattle.hx_replica.proofs.Asking.{state_marks}
use Rattle.hx_replica.proofs.Finding.{higher}

moved_marks : (m : Move) (s : KeyState) → (moved m s).marks ≡ s.marks
moved_marks (Take u) s = refl
moved_marks (Hold u) s = refl
moved_marks (Acknowledge v) s = refl
moved_marks (Commit u) s = refl
moved_marks Forget s = refl

-- no move changes whether a slot keeps marks
pub marks_stay : (ms : List Move) (s : KeyState) → (moved_all ms s).marks ≡ s.marks
marks_stay [] s = refl
marks_stay (m ∷ rest) s = marks_stay rest (moved m s) ∙ moved_marks m s

pub stepped_marks : (change : SlotChange) (g : RegionId) (s : KeyState) → (stepped change g s).marks ≡ s.marks
stepped_marks Open g s = refl
stepped_marks (Accept u place tail_versions) g s = marks_stay (accepted g s u tail_versions.items) s
stepped_marks (AckChange v) g s = marks_stay (acknowledged s v.0) s

pub with_marked : (b : Bool) (s : KeyState) (states : List KeyState) → s.marks ≡ b
    → AllByRecursion (λ (t : KeyState). t.marks ≡ b) states → AllByRecursion (λ (t : KeyState). t.marks ≡ b) (with_state s states)
with_marked b s [] e h = (e, tt)
with_marked b s (x ∷ rest) e h =
    let P : List KeyState → Type 0 = AllByRecursion (λ (t : KeyState). t.marks ≡ b) in
    cond_both (same_text x.base.key s.base.key) (s ∷ rest) (cond (text_below s.base.key x.base.key) (s ∷ x ∷ rest) (x ∷ with_state s rest)) P
    (λ t. (e, h.1))
    (
    λ t. cond_both (text_below s.base.key x.base.key) (s ∷ x ∷ rest) (x ∷ with_state s rest) P
    (λ k. (e, h))
    (λ k. (h.0, with_marked b s rest e h.1))
    )

-- the replica at a place that holds what it should
pub replica_at : (space : Space) (rs : List Replica) (i : ℕ) (d : Replica) → AllByRecursion (IsReplicaIn space) rs
    → i < length rs → IsReplicaIn space (get_or rs i d)
replica_at space [] i d h l = absurd (omega arith)
replica_at space (r ∷ rest) zero d h l = h.0
replica_at space (r ∷ rest) (suc i) d h l = replica_at space rest i d h.1 (omega arith)

set_each : (space : Space) (rs : List Replica) (i : ℕ) (x : Replica) → AllByRecursion (IsReplicaIn space) rs
    → IsReplicaIn space x → AllByRecursion (IsReplicaIn space) (set rs i x)
set_each space [] i x h p = tt
set_each space (r ∷ rest) zero x h p = (p, h.1)
set_each space (r ∷ rest) (suc i) x h p = (h.0, set_each space rest i x h.1 p)

-- what is the same of two replicas stays where one takes the other's place
pub map_stays : {A : Type 0} (f : Replica → A) (rs : List Replica) (i : ℕ) (x : Replica) → f x ≡ f (get_or rs i x) → map f (set rs i x) ≡ map f rs
map_stays f [] i x e = refl
map_stays f (r ∷ rest) zero x e = ap (λ y. y ∷ map f rest) e
map_stays f (r ∷ rest) (suc i) x e = ap (λ (l : List _). f r ∷ l) (map_stays f rest i x e)

pub set_replicas : (space : Space) (rs : List Replica) (i : ℕ) (x : Replica) → AreReplicas space rs
    → IsReplicaIn space x → x.region ≡ (get_or rs i x).region → AreReplicas space (set rs i x)
set_replicas space rs i x h p e = record {
  each = set_each space rs i x h.each p;
  ascend = subst IsAscending (sym (map_stays (λ (r : Replica). r.region.0) rs i x (ap (λ (g : RegionId). g.0) e))) h.ascend;
}

pub below_views : (rs : List Replica) (i : ℕ) (r : ReplicaState) → slice_get (views_of rs) i ≡ Some r → i < length rs
below_views [] i r e = absurd cc
below_views (x ∷ rest) zero r e = omega arith
below_views (x ∷ rest) (suc i) r e = let b = below_views rest i r e in omega (arith, b)

pub view_at : (rs : List Replica) (i : ℕ) (d : Replica) (r : ReplicaState) → slice_get (views_of rs) i ≡ Some r → view_of (get_or rs i d) ≡ r
view_at [] i d r e = absurd cc
view_at (x ∷ rest) zero d r e = same_Some (view_of x) r e
view_at (x ∷ rest) (suc i) d r e = view_at rest i d r e

-- the first replica of a region is the one at its place
pub set_is_with : (rs : List Replica) (i : ℕ) (x r : ReplicaState) → AscendByRegion rs
    → slice_get (views_of rs) i ≡ Some r → x.region ≡ r.region → set (views_of rs) i x ≡ with_replica x (views_of rs)
set_is_with [] i x r h e s = absurd cc
set_is_with (y ∷ rest) zero x r h e s =
    let k : y.region.0 ≡ x.region.0 = ap (λ (z : ReplicaState). z.region.0) (same_Some (view_of y) r e) ∙ ap (λ (g : RegionId). g.0) (sym s) in
    sym (cond-true (same_region y.region x.region) _ _ (eq-eqb y.region.0 x.region.0 k))
set_is_with (y ∷ rest) (suc i) x r h e s =
    let within : i < length rest = below_views rest i r e in
    let b = higher y rest i y h within in
    let k : (get_or rest i y).region.0 ≡ x.region.0 = ap (λ (z : ReplicaState). z.region.0) (view_at rest i y r e) ∙ ap (λ (g : RegionId). g.0) (sym s) in
    ap (λ (l : List ReplicaState). view_of y ∷ l) (set_is_with rest i x r h.1 e s)
    ∙ sym (cond-false (same_region y.region x.region) _ _ (ne_eqb y.region.0 x.region.0 (λ q. omega (arith, b, k, q))))

set_there : {A : Type 0} (f : Replica → A) (rs : List Replica) (i : ℕ) (x : Replica) → i < length rs → slice_get (map f (set rs i x)) i ≡ Some (f x)
set_there f [] i x l = absurd (omega arith)
set_there f (r ∷ rest) zero x l = refl
set_there f (r ∷ rest) (suc i) x l = set_there f rest i x (omega arith)

module _ (space : Space) (rs : List Replica) (place : ℕ) (y : Replica) (store : StoreState)
    (are : AreReplicas space rs) (within : place < length rs) (is : y ≡ get_or rs place y) where
  -- the replica with this store in place of its own
  abbrev pub put : Replica
  put = record { region = y.region; installed = y.installed; store = store }

  here : y ≡ get_or rs place put
  here = is ∙ get_or_default rs place y put within

  pub held : IsReplicaIn space y
  held = subst (IsReplicaIn space) (sym is) (replica_at space rs place y are.each within)

  -- a store of the same kind
  pub stays : store.region ≡ y.store.region → store.keeps_marks ≡ y.store.keeps_marks
      → AllByRecursion (λ (t : KeyState). t.marks ≡ is_key_region space y.region) store.states
      → AreReplicas space (set rs place put)
  stays region marks marked =
      set_replicas space rs place put are (record {
        region = region ∙ held.region;
        marks = marks ∙ held.marks;
        marked = marked;
      }) (ap (λ (r : Replica). r.region) here)

  -- one with the same slots
  pub reserved : store.region ≡ y.store.region → store.keeps_marks ≡ y.store.keeps_marks → store.states ≡ y.store.states → AreReplicas space (set rs place put)
  reserved region marks states =
      stays region marks (subst (AllByRecursion (λ (t : KeyState). t.marks ≡ is_key_region space y.region)) (sym states) held.marked)

  pub reserved_views : store.states ≡ y.store.states → views_of (set rs place put) ≡ views_of rs
  reserved_views states =
      map_stays view_of rs place put
      (ap (λ (states : List KeyState). record { region = y.region; installed = y.installed; states = states }) states ∙ ap view_of here)

  pub reserved_rooms : store.rooms ≡ y.store.rooms → rooms_of (set rs place put) ≡ rooms_of rs
  reserved_rooms rooms = map_stays (λ (r : Replica). r.store.rooms) rs place put (rooms ∙ ap (λ (r : Replica). r.store.rooms) here)

  pub put_there : {A : Type 0} (f : Replica → A) → slice_get (map f (set rs place put)) place ≡ Some (f put)
  put_there f = set_there f rs place put within

  -- one whose slot of a key moved
  moved_marked : (key : List ℕ) (change : SlotChange) → store.states ≡ after_step y.store key (stepped change)
      → AllByRecursion (λ (t : KeyState). t.marks ≡ is_key_region space y.region) store.states
  moved_marked key change states =
      let b : Bool = is_key_region space y.region in
      let s : KeyState = state_at y.store key in
      let kept : s.marks ≡ b = ap (λ (c : Bool). (state_among c key y.store.states).marks) held.marks ∙ state_marks b key y.store.states held.marked in
      subst (AllByRecursion (λ (t : KeyState). t.marks ≡ b)) (sym states)
      (with_marked b (stepped change y.store.region s) y.store.states (stepped_marks change y.store.region s ∙ kept) held.marked)

  pub changed : (key : List ℕ) (change : SlotChange) → store.region ≡ y.store.region
      → store.keeps_marks ≡ y.store.keeps_marks → store.states ≡ after_step y.store key (stepped change)
      → AreReplicas space (set rs place put)
  changed key change region marks states = stays region marks (moved_marked key change states)

  pub changed_views : (key : List ℕ) (change : SlotChange) (r : ReplicaState) → slice_get (views_of rs) place ≡ Some r
      → store.states ≡ after_step y.store key (stepped change)
      → views_of (set rs place put) ≡ with_replica (record r { states = with_state (stepped change r.region (state_in space r key)) r.states }) (views_of rs)
  changed_views key change r e states =
      let same : view_of y ≡ r = ap view_of is ∙ view_at rs place y r e in
      let after : Bool → RegionId → List KeyState = λ b g. let s : KeyState = state_among b key y.store.states in
      with_state (stepped change g s) y.store.states in
      let moved_to : ReplicaState → ReplicaState = λ z. record z { states = with_state (stepped change z.region (state_in space z key)) z.states } in
      let states_are : store.states ≡ after (is_key_region space y.region) y.region =
      states ∙ ap (λ b. after b y.store.region) held.marks ∙ ap (after (is_key_region space y.region)) held.region in
      map-set view_of rs place put
      ∙ set_is_with rs place (view_of put) r are.ascend e (ap (λ (z : ReplicaState). z.region) same)
      ∙ ap (λ (z : ReplicaState). with_replica z (views_of rs))
      (ap (λ (states : List KeyState). record { region = y.region; installed = y.installed; states = states }) states_are ∙ ap moved_to same)
