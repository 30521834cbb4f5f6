-- What the replicas of a server become in a new configuration.
use Rattle.std.proofs.Common.{◌≡◌, ℕ, zero, suc, ◌+◌, ◌<◌, ◌≤◌, Bool, true, false, cond, ◌||◌, ◌==◌, List, [], ◌∷◌}
use Rattle.std.proofs.Common.{◌++◌, length, map, set, take, Option, None, Some, refl, ap, sym, ◌∙◌, subst, arith}
use Rattle.std.proofs.Common.{add-one, append_assoc, append-nil}
use Rattle.std.specs.Prelude.{IsSomeAnd}
use Rattle.std.specs.List.{All, AllByRecursion, flat_map, list_any, slice_get}
use Rattle.std.specs.Option.{option_map}
use Rattle.std.proofs.lemmas.Bool.{cond-true, cond-false, eq-eqb, eqb-true, false≢true, ne_eqb}
use Rattle.std.proofs.lemmas.List.{map-append, map-set}
use Rattle.std.proofs.lemmas.List.Elements.{All-head, All-tail}
use Rattle.std.proofs.lemmas.Option.{same_Some}
use Rattle.hx_model.specs.Types.{Config, Kept, RegionId, ServerId, Space, Update, Version}
use Rattle.hx_types.proofs.Lemmas.{text_below-back, text_below-differs}
use Rattle.hx_types.specs.Configs.{lists}
use Rattle.hx_types.specs.Spaces.{IsAscending}
use Rattle.hx_types.specs.Subspaces.{is_key_region}
use Rattle.hx_types.specs.Words.{list_of, provided, same_region, same_text, text_below, when_some}
use Rattle.hx_model.proofs.Lemmas.{same_text_self, moved_all-++}
use Rattle.hx_model.specs.Neighbours.{is_end}
use Rattle.hx_model.specs.ServerSteps.{Replica as ReplicaState, SlotContext as ModelContext, tail_acks, is_active}
use Rattle.hx_model.specs.ServerSteps.{listed_regions, next_at, replica_of, replica_or_new, resumed, with_replica}
use Rattle.hx_model.specs.Slots.{Forget, KeyState, Move, is_pending, moved, moved_all, pending_of, settled, with_state}
use Rattle.hx_law_folds.specs.Folding.{KeysAscend, folded}
use Rattle.hx_store.specs.Stores.{StoreState, acknowledging, after_step, has_slot, key_at, settled_at, state_at}
use Rattle.hx_store.proofs.Lemmas.{at-within, moved_all_parts, all-at}
use Rattle.hx_replica.specs.declared.replicas.Replica.{Replica}
use Rattle.hx_replica.specs.Adopting.{IsPendingAt, changed_at, lean_adopted, lean_replica, marked_end}
use Rattle.hx_replica.specs.Outputs.{tail_version}
use Rattle.hx_replica.specs.Replicas.{AreReplicas, IsReplicaIn, new_replica, view_of, views_of}
use Rattle.hx_replica.specs.Ticking.{standing}
use Rattle.hx_replica.proofs.Asking.{state_key}
use Rattle.hx_replica.proofs.Changing.{set_is_with, set_replicas, view_at}
use Rattle.hx_replica.proofs.Hearing.{found_region}
use Rattle.hx_replica.proofs.Offers.{acknowledging_append, marks_pending}
use Rattle.hx_replica.proofs.Planning.{IsFound, found_nowhere, found_there}
use Rattle.hx_replica.proofs.Resumed.{marks_of_ends}
use Rattle.hx_replica.proofs.Starting.{numbers_ascend}
use Rattle.hx_replica.proofs.Walking.{flat_more}

-- one change after another
pub changed_twice : (f g : KeyState → KeyState) (i : ℕ) (xs : List KeyState) → changed_at f i (changed_at g i xs) ≡ changed_at (λ (s : KeyState). f (g s)) i xs
changed_twice f g i [] = refl
changed_twice f g zero (x ∷ xs) = refl
changed_twice f g (suc i) (x ∷ xs) = ap (λ l. x ∷ l) (changed_twice f g i xs)

pub changed_same : (f g : KeyState → KeyState) (i : ℕ) (xs : List KeyState)
    → ((s : KeyState) → slice_get xs i ≡ Some s → f s ≡ g s) → changed_at f i xs ≡ changed_at g i xs
changed_same f g i [] h = refl
changed_same f g zero (x ∷ xs) h = ap (λ y. y ∷ xs) (h x refl)
changed_same f g (suc i) (x ∷ xs) h = ap (λ l. x ∷ l) (changed_same f g i xs h)

pub changed_not : (i : ℕ) (xs : List KeyState) → changed_at (λ (s : KeyState). s) i xs ≡ xs
changed_not i [] = refl
changed_not zero (x ∷ xs) = refl
changed_not (suc i) (x ∷ xs) = ap (λ l. x ∷ l) (changed_not i xs)

pub changed_length : (f : KeyState → KeyState) (i : ℕ) (xs : List KeyState) → length (changed_at f i xs) ≡ length xs
changed_length f i [] = refl
changed_length f zero (x ∷ xs) = refl
changed_length f (suc i) (x ∷ xs) = ap suc (changed_length f i xs)

-- a slot of the same key takes the place of the one with a number
put_at : (f : KeyState → KeyState) → ((s : KeyState) → (f s).base.key ≡ s.base.key)
    → (xs : List KeyState) (i : ℕ) (t : KeyState) → KeysAscend xs → slice_get xs i ≡ Some t
    → with_state (f t) xs ≡ changed_at f i xs
put_at f k [] i t a e = absurd cc
put_at f k (x ∷ xs) zero t a e =
    let same : x ≡ t = same_Some x t e in
    cond-true (same_text x.base.key (f t).base.key) _ _
    (ap (same_text x.base.key) (k t ∙ ap (λ (s : KeyState). s.base.key) (sym same)) ∙ same_text_self x.base.key)
    ∙ ap (λ (s : KeyState). f s ∷ xs) (sym same)
put_at f k (x ∷ xs) (suc i) t a e =
    let below : text_below x.base.key (f t).base.key ≡ true =
    ap (text_below x.base.key) (k t) ∙ all-at (λ (s : KeyState). text_below x.base.key s.base.key ≡ true) xs i t a.0 e in
    cond-false (same_text x.base.key (f t).base.key) _ _ (text_below-differs x.base.key (f t).base.key below)
    ∙ cond-false (text_below (f t).base.key x.base.key) _ _ (text_below-back x.base.key (f t).base.key below)
    ∙ ap (λ l. x ∷ l) (put_at f k xs i t a.1 e)

pub step_at : (s : StoreState) (place i : ℕ) (step : RegionId → KeyState → KeyState)
    → ((t : KeyState) → (step s.region t).base.key ≡ t.base.key) → KeysAscend s.states
    → slice_get s.states i ≡ Some (state_at s (key_at s place))
    → after_step s (key_at s place) step ≡ changed_at (step s.region) i s.states
step_at s place i step k a e = put_at (step s.region) k s.states i (state_at s (key_at s place)) a e

-- the slot with a number is that of the key at its place
pub slot_there : (s : StoreState) (place i : ℕ) → slice_get s.states i ≡ Some (state_at s (key_at s place)) → has_slot (key_at s place) s.states ≡ true
slot_there s place i at = by s.states i at
  where
    or : (a b : Bool) → b ≡ true → (a || b) ≡ true
    or true b e = refl
    or false b e = e

    by : (xs : List KeyState) (i : ℕ) → slice_get xs i ≡ Some (state_at s (key_at s place)) → has_slot (key_at s place) xs ≡ true
    by [] i e = absurd cc
    by (x ∷ xs) zero e =
        let key = key_at s place in
        ap (λ (t : KeyState). same_text t.base.key key || has_slot key xs) (same_Some x (state_at s key) e)
        ∙ ap (λ (k : List ℕ). same_text k key || has_slot key xs) (state_key s.keeps_marks key s.states)
        ∙ ap (λ b. b || has_slot key xs) (same_text_self key)
    by (x ∷ xs) (suc i) e = or (same_text x.base.key (key_at s place)) (has_slot (key_at s place) xs) (by xs i e)

pub settled_key : (g : RegionId) (s : KeyState) → (settled_at g s).base.key ≡ s.base.key
settled_key g s = ap (λ (k : Kept). k.key) (moved_all_parts (settled s) s).0

-- the first slots changed so
abbrev pub changed_upto : (KeyState → KeyState) → ℕ → List KeyState → List KeyState
changed_upto f zero xs = xs
changed_upto f (suc n) [] = []
changed_upto f (suc n) (x ∷ xs) = f x ∷ changed_upto f n xs

pub one_changed : (f : KeyState → KeyState) (n : ℕ) (xs : List KeyState) → changed_at f n (changed_upto f n xs) ≡ changed_upto f (n + 1) xs
one_changed f n xs = by n xs ∙ ap (λ m. changed_upto f m xs) (sym (add-one n))
  where
    by : (n : ℕ) (xs : List KeyState) → changed_at f n (changed_upto f n xs) ≡ changed_upto f (suc n) xs
    by zero [] = refl
    by zero (x ∷ xs) = refl
    by (suc n) [] = refl
    by (suc n) (x ∷ xs) = ap (λ l. f x ∷ l) (by n xs)

pub all_changed : (f : KeyState → KeyState) (n : ℕ) (xs : List KeyState) → length xs ≤ n → changed_upto f n xs ≡ map f xs
all_changed f zero [] l = refl
all_changed f zero (x ∷ xs) l = absurd (omega (arith, l))
all_changed f (suc n) [] l = refl
all_changed f (suc n) (x ∷ xs) l = ap (λ ys. f x ∷ ys) (all_changed f n xs (omega (arith, l)))

pub upto_length : (f : KeyState → KeyState) (n : ℕ) (xs : List KeyState) → length (changed_upto f n xs) ≡ length xs
upto_length f zero xs = refl
upto_length f (suc n) [] = refl
upto_length f (suc n) (x ∷ xs) = ap suc (upto_length f n xs)

-- the first pending updates are acknowledged, where their chain ends here
abbrev pub marked_upto : ModelContext → ℕ → KeyState → KeyState
marked_upto context k s = moved_all (acknowledging (flat_map (tail_version context) (take k (pending_of s)))) s

pub one_marked : (context : ModelContext) (k i : ℕ) (xs : List KeyState) → k < when_some (slice_get xs i) 0 (λ (s : KeyState). length (pending_of s))
    → changed_at (marked_end context k) i (changed_at (marked_upto context k) i xs) ≡ changed_at (marked_upto context (k + 1)) i xs
one_marked context k i xs l =
    changed_twice (marked_end context k) (marked_upto context k) i xs
    ∙ changed_same (λ (s : KeyState). marked_end context k (marked_upto context k s)) (marked_upto context (k + 1)) i xs
    (λ s at. one s (subst (λ (o : Option KeyState). k < when_some o 0 (λ (t : KeyState). length (pending_of t))) at l))
  where
    one : (s : KeyState) → k < length (pending_of s) → marked_end context k (marked_upto context k s) ≡ marked_upto context (k + 1) s
    one s l =
        let us = pending_of s in
        let tail_versions = flat_map (tail_version context) (take k us) in
        let before = marked_upto context k s in
        let at = at-within us k l in
        ap (λ (ps : List Update). moved_all (acknowledging (when_some (slice_get ps k) [] (tail_version context))) before) (marks_pending tail_versions s)
        ∙ ap (λ (o : Option Update). moved_all (acknowledging (when_some o [] (tail_version context))) before) at.1
        ∙ sym (moved_all-++ (acknowledging tail_versions) (acknowledging (tail_version context at.0)) s)
        ∙ ap (λ (ms : List Move). moved_all ms s) (sym (acknowledging_append tail_versions (tail_version context at.0)))
        ∙ ap (λ (vs : List Version). moved_all (acknowledging vs) s)
        (flat_more (tail_version context) us k at.0 tail_versions (tail_versions ++ tail_version context at.0)
        [] at.1 refl refl)

take_whole : {A : Type 0} (n : ℕ) (xs : List A) → length xs ≤ n → take n xs ≡ xs
take_whole zero [] l = refl
take_whole zero (x ∷ xs) l = absurd (omega (arith, l))
take_whole (suc n) [] l = refl
take_whole (suc n) (x ∷ xs) l = ap (λ ys. x ∷ ys) (take_whole n xs (omega (arith, l)))

pub all_marked_ends : (context : ModelContext) (n i : ℕ) (xs : List KeyState) → when_some (slice_get xs i) 0 (λ (s : KeyState). length (pending_of s)) ≤ n
    → changed_at (marked_upto context n) i xs ≡ changed_at (λ (s : KeyState). moved_all (tail_acks context (pending_of s)) s) i xs
all_marked_ends context n i xs l =
    changed_same (marked_upto context n) (λ (s : KeyState). moved_all (tail_acks context (pending_of s)) s) i xs
    (
    λ s at. let past = subst (λ (o : Option KeyState). when_some o 0 (λ (t : KeyState). length (pending_of t)) ≤ n) at l in
    ap (λ (us : List Update). moved_all (acknowledging (flat_map (tail_version context) us)) s) (take_whole n (pending_of s) past)
    ∙ ap (λ (ms : List Move). moved_all ms s) (marks_of_ends context (pending_of s))
    )

-- the version whose chain ends here is pending
any_at : (us : List Update) (k : ℕ) (u : Update) → slice_get us k ≡ Some u → list_any (λ (x : Update). x.version.0 == u.version.0) us ≡ true
any_at [] k u e = absurd cc
any_at (x ∷ us) zero u e =
    let same = ap (λ (y : Update). y.version.0) (same_Some x u e) in
    ap (λ b. b || list_any (λ (y : Update). y.version.0 == u.version.0) us) (eq-eqb x.version.0 u.version.0 same)
any_at (x ∷ us) (suc k) u e = by (x.version.0 == u.version.0) (any_at us k u e)
  where
    by : (b : Bool) → list_any (λ (y : Update). y.version.0 == u.version.0) us ≡ true → (b || list_any (λ (y : Update). y.version.0 == u.version.0) us) ≡ true
    by true h = refl
    by false h = h

abbrev pub ends_at : ModelContext → List KeyState → ℕ → ℕ → List Version
ends_at context xs i k = when_some (slice_get xs i) [] (λ (s : KeyState). when_some (slice_get (pending_of s) k) [] (tail_version context))

pub pending_end : (context : ModelContext) (xs : List KeyState) (i k : ℕ) (v : Version) → v ∷ [] ≡ ends_at context xs i k → IsPendingAt i v xs
pending_end context xs i k v e = of (slice_get xs i) e
  where
    ended : (us : List Update) (u : Update) (b : Bool) → v ∷ [] ≡ provided b (u.version ∷ [])
        → list_any (λ (x : Update). x.version.0 == u.version.0) us ≡ true
        → list_any (λ (x : Update). x.version.0 == v.0) us ≡ true
    ended us u false e h = absurd cc
    ended us u true e h = let same : u.version ≡ v = cc in subst (λ (w : Version). list_any (λ (x : Update). x.version.0 == w.0) us ≡ true) same h

    at : (us : List Update) (o : Option Update) → slice_get us k ≡ o → v ∷ [] ≡ when_some o [] (tail_version context)
        → list_any (λ (x : Update). x.version.0 == v.0) us ≡ true
    at us None q e = absurd cc
    at us (Some u) q e = ended us u (is_end (next_at context u)) e (any_at us k u q)

    of : (o : Option KeyState) → v ∷ [] ≡ when_some o []
        (λ (s : KeyState). when_some (slice_get (pending_of s) k) [] (tail_version context))
        → IsSomeAnd o (λ (s : KeyState). is_pending v.0 s ≡ true)
    of None e = absurd cc
    of (Some s) e = at (pending_of s) (slice_get (pending_of s) k) refl e

-- of the slot with the number
pub pending_there : (xs : List KeyState) (i : ℕ) (v : Version) (t : KeyState) → IsPendingAt i v xs → slice_get xs i ≡ Some t → is_pending v.0 t ≡ true
pending_there xs i v t h e = subst (λ (o : Option KeyState). IsSomeAnd o (λ (s : KeyState). is_pending v.0 s ≡ true)) e h

pub none_listed : (o : Option Version) → ((v : Version) → o ≡ Some v → ⊥) → list_of o ≡ []
none_listed None h = refl
none_listed (Some v) h = absurd (h v refl)

pub marked_as : (context : ModelContext) (xs : List KeyState) (i k : ℕ) (vs : List Version)
    → vs ≡ ends_at context xs i k → changed_at (λ (s : KeyState). moved_all (acknowledging vs) s) i xs
    ≡ changed_at (marked_end context k) i xs
marked_as context xs i k vs e =
    changed_same (λ (s : KeyState). moved_all (acknowledging vs) s) (marked_end context k) i xs
    (λ s at. ap (λ (l : List Version). moved_all (acknowledging l) s)
    (e ∙ ap (λ (o : Option KeyState). when_some o []
    (λ (t : KeyState). when_some (slice_get (pending_of t) k) [] (tail_version context))) at))

-- a slot that goes on forgets, acknowledges what ends here and commits what it can
pub gone_on : (context : ModelContext) (g : RegionId) (i : ℕ) (a b c d : List KeyState) → g ≡ context.region
    → b ≡ changed_at (moved Forget) i a → c ≡ changed_at
    (λ (s : KeyState). moved_all (tail_acks context (pending_of s)) s) i b → d ≡ changed_at (settled_at g) i c
    → d ≡ changed_at (lean_adopted context true) i a
gone_on context g i a b c d at first second third =
    third ∙ ap (λ (x : RegionId). changed_at (settled_at x) i c) at
    ∙ ap (changed_at (settled_at context.region) i) (second ∙ ap (changed_at marks i) first ∙ changed_twice marks (moved Forget) i a)
    ∙ changed_twice (settled_at context.region) (λ (s : KeyState). marks (moved Forget s)) i a
    ∙ changed_same (λ (s : KeyState). settled_at context.region (marks (moved Forget s))) (lean_adopted context true) i a (λ s at. one s)
  where
    marks : KeyState → KeyState
    marks s = moved_all (tail_acks context (pending_of s)) s

    one : (s : KeyState) → settled_at context.region (moved_all (tail_acks context (pending_of s)) (moved Forget s)) ≡ lean_adopted context true s
    one s =
        let ms = tail_acks context (pending_of s) in
        let x : KeyState = moved Forget s in
        ap (folded context.region) (sym (moved_all-++ ms (settled (moved_all ms x)) x))

pub adopted_marks : (context : ModelContext) (active : Bool) (s : KeyState) → (lean_adopted context active s).marks ≡ s.marks
adopted_marks context true s = (moved_all_parts (resumed context s) s).1
adopted_marks context false s = refl

all_marked : (context : ModelContext) (active b : Bool) (states : List KeyState)
    → AllByRecursion (λ (t : KeyState). t.marks ≡ b) states
    → AllByRecursion (λ (t : KeyState). t.marks ≡ b) (map (lean_adopted context active) states)
all_marked context active b [] h = tt
all_marked context active b (t ∷ rest) h = (adopted_marks context active t ∙ h.0, all_marked context active b rest h.1)

abbrev context_at : Space → Config → ServerId → RegionId → ModelContext
context_at space config server g = record { space = space; config = config; server = server; region = g }

module _ (space : Space) (config : Config) (server : ServerId) (g : RegionId) (y : Replica) (store : StoreState) (active : Bool) where
  abbrev adopted : Replica
  adopted = record { region = y.region; installed = y.installed; store = store }

  pub adopted_view : y.region ≡ g → active ≡ is_active config (view_of y)
      → store.states ≡ map (lean_adopted (context_at space config server g) active) y.store.states
      → view_of adopted ≡ lean_replica space (standing config server) (view_of y)
  adopted_view e a states =
      let here = context_at space config server in
      ap (λ (l : List KeyState). record { region = y.region; installed = y.installed; states = l })
      (states ∙ ap (λ (x : RegionId). map (lean_adopted (here x) active) y.store.states) (sym e)
      ∙ ap (λ b. map (lean_adopted (here y.region) b) y.store.states) a)

  pub adopted_is : IsReplicaIn space y → store.region ≡ y.store.region → store.keeps_marks ≡ y.store.keeps_marks
      → store.states ≡ map (lean_adopted (context_at space config server g) active) y.store.states → IsReplicaIn space adopted
  adopted_is is region marks states = record {
    region = region ∙ is.region;
    marks = marks ∙ is.marks;
    marked = subst (AllByRecursion (λ (t : KeyState). t.marks ≡ is_key_region space y.region)) (sym states)
        (all_marked (context_at space config server g) active (is_key_region space y.region) y.store.states is.marked);
  }

-- where there is no replica of a region, none changes
pub none_with : (x : ReplicaState) (vs : List ReplicaState) → replica_of x.region vs ≡ None → with_replica x vs ≡ vs
none_with x [] e = refl
none_with x (v ∷ vs) e = by (same_region v.region x.region) e (none_with x vs)
  where
    by : (b : Bool) → cond b (Some v) (replica_of x.region vs) ≡ None
        → (replica_of x.region vs ≡ None → with_replica x vs ≡ vs) → cond b (x ∷ vs) (v ∷ with_replica x vs) ≡ v ∷ vs
    by true e more = absurd cc
    by false e more = ap (λ l. v ∷ l) (more e)

-- where no place was found, there is none
pub none_placed : (place : Option ℕ) (g : RegionId) (vs : List ReplicaState) → ((p : ℕ) → place ≡ Some p → ⊥)
    → option_map (slice_get vs) place ≡ option_map (λ (x : ReplicaState). Some x) (replica_of g vs) → replica_of g vs ≡ None
none_placed None g vs n e = found_nowhere (replica_of g vs) e
none_placed (Some p) g vs n e = absurd (n p refl)

module _ (space : Space) (next : List Replica) (number : ℕ) (g : RegionId) (r : Replica) (are : AreReplicas space next) (of_region : r.region ≡ g)
    (at : Some (slice_get (views_of next) number) ≡ option_map (λ (x : ReplicaState). Some x) (replica_of g (views_of next))) where
  f : IsFound (views_of next) number (replica_of g (views_of next))
  f = found_there (views_of next) number (replica_of g (views_of next)) at

  pub kept_there : views_of (set next number r) ≡ with_replica (view_of r) (views_of next)
  kept_there = map-set view_of next number r ∙ set_is_with next number (view_of r) f.replica are.ascend f.at_place
      (of_region ∙ sym (found_region g (views_of next) f.replica f.is))

  pub kept_are : IsReplicaIn space r → AreReplicas space (set next number r)
  kept_are is = set_replicas space next number r are is
      (of_region ∙ sym (found_region g (views_of next) f.replica f.is)
      ∙ sym (ap (λ (v : ReplicaState). v.region) (view_at next number r f.replica f.at_place)))

-- new replicas
new_each : (space : Space) (gs : List RegionId) → AllByRecursion (IsReplicaIn space) (map (new_replica space) gs)
new_each space [] = tt
new_each space (g ∷ gs) = (record { region = refl; marks = refl; marked = tt }, new_each space gs)

new_numbers : (space : Space) (gs : List RegionId) → map (λ (r : Replica). r.region.0) (map (new_replica space) gs) ≡ map (λ (g : RegionId). g.0) gs
new_numbers space [] = refl
new_numbers space (g ∷ gs) = ap (λ (l : List ℕ). g.0 ∷ l) (new_numbers space gs)

listed_ascend : (config : Config) (s : ServerId) → IsAscending (map (λ (g : RegionId). g.0) (listed_regions config s))
listed_ascend config s = (numbers_ascend (λ (g : RegionId). lists config g s) (length config.regions)).0

pub new_ones : (space : Space) (config : Config) (s : ServerId) → AreReplicas space (map (new_replica space) (listed_regions config s))
new_ones space config s = record {
  each = new_each space (listed_regions config s);
  ascend = subst IsAscending (sym (new_numbers space (listed_regions config s))) (listed_ascend config s);
}

-- the replicas that were taken so far, from the last on, are at their places
pub record IsKeeping (space : Space) (config : Config) (server : ServerId) (views : List ReplicaState) (old next : List Replica) : Type 0 where
  pub taken : List ReplicaState
  pub all : views ≡ views_of old ++ taken
  pub each : AllByRecursion (IsReplicaIn space) old
  pub becomes : views_of next ≡ map (λ (g : RegionId). lean_replica space (standing config server) (replica_or_new taken g)) (listed_regions config server)
  pub are : AreReplicas space next

module _ (space : Space) (config : Config) (server : ServerId) where
  abbrev lean : ReplicaState → ReplicaState
  lean r = lean_replica space (standing config server) r

  abbrev made : List ReplicaState → RegionId → ReplicaState
  made taken g = lean (replica_or_new taken g)

  new_views : (gs : List RegionId) → views_of (map (new_replica space) gs) ≡ map (made []) gs
  new_views [] = refl
  new_views (g ∷ gs) = ap (λ (l : List ReplicaState). record { region = g; installed = false; states = [] } ∷ l) (new_views gs)

  pub none_kept : (old : List Replica) (next : List Replica) → AreReplicas space old
      → next ≡ map (new_replica space) (listed_regions config server) → IsKeeping space config server (views_of old) old next
  none_kept old next are e = record {
    taken = [];
    all = sym (append-nil (views_of old));
    each = are.each;
    becomes = ap views_of e ∙ new_views (listed_regions config server);
    are = subst (AreReplicas space) (sym e) (new_ones space config server);
  }

  made_region : (taken : List ReplicaState) (g : RegionId) → (made taken g).region ≡ g
  made_region taken g = by (replica_of g taken) refl
    where
      by : (o : Option ReplicaState) → replica_of g taken ≡ o
          → (when_some o (record { region = g; installed = false; states = [] }) (λ (r : ReplicaState). r)).region ≡ g
      by None e = refl
      by (Some r) e = found_region g taken r e

  -- regions above that of a replica stay
  above_stay : (v : ReplicaState) (taken : List ReplicaState) (gs : List RegionId)
      → All (λ m. v.region.0 < m) (map (λ (g : RegionId). g.0) gs) → map (made taken) gs ≡ map (made (v ∷ taken)) gs
  above_stay v taken [] l = refl
  above_stay v taken (g ∷ gs) l =
      let high : v.region.0 < g.0 = All-head (λ m. v.region.0 < m) g.0 (map (λ (x : RegionId). x.0) gs) l in
      let one : made (v ∷ taken) g ≡ made taken g =
      ap (λ (o : Option ReplicaState). lean (when_some o (record { region = g; installed = false; states = [] })
      (λ (r : ReplicaState). r))) (cond-false (same_region v.region g) _ _
      (ne_eqb v.region.0 g.0 (λ q. omega (arith, high, q)))) in
      ap (λ (x : ReplicaState). x ∷ map (made taken) gs) (sym one)
      ∙ ap (λ (l : List ReplicaState). made (v ∷ taken) g ∷ l)
      (above_stay v taken gs (All-tail (λ m. v.region.0 < m) g.0 (map (λ (x : RegionId). x.0) gs) l))

  pub one_kept : (v : ReplicaState) (taken : List ReplicaState) (gs : List RegionId)
      → IsAscending (map (λ (g : RegionId). g.0) gs) → with_replica (lean v) (map (made taken) gs) ≡ map (made (v ∷ taken)) gs
  one_kept v taken [] a = refl
  one_kept v taken (g ∷ gs) a = by (same_region v.region g) refl (one_kept v taken gs a.1)
    where
      some : Option ReplicaState → ReplicaState
      some o = lean (when_some o (record { region = g; installed = false; states = [] }) (λ (r : ReplicaState). r))

      by : (b : Bool) → same_region v.region g ≡ b → with_replica (lean v) (map (made taken) gs) ≡ map (made (v ∷ taken)) gs
          → cond (same_region (made taken g).region v.region) (lean v ∷ map (made taken) gs)
          (made taken g ∷ with_replica (lean v) (map (made taken) gs))
          ≡ some (cond b (Some v) (replica_of g taken)) ∷ map (made (v ∷ taken)) gs
      by true e more =
          let same : v.region.0 ≡ g.0 = eqb-true v.region.0 g.0 e in
          let region = ap (λ (x : RegionId). x.0) (made_region taken g) in
          cond-true (same_region (made taken g).region v.region) _ _ (eq-eqb (made taken g).region.0 v.region.0 (omega (arith, same, region)))
          ∙ ap (λ (l : List ReplicaState). lean v ∷ l) (above_stay v taken gs (subst (λ n. All (λ m. n < m) (map (λ (x : RegionId). x.0) gs)) (sym same) a.0))
      by false e more =
          let region = ap (λ (x : RegionId). x.0) (made_region taken g) in
          cond-false (same_region (made taken g).region v.region) _ _
          (ne_eqb (made taken g).region.0 v.region.0
          (λ q. false≢true (sym e ∙ eq-eqb v.region.0 g.0 (omega (arith, q, region)))))
          ∙ ap (λ (l : List ReplicaState). made taken g ∷ l) more

  pub more_kept : (views : List ReplicaState) (old rest next after : List Replica) (r : Replica)
      → IsKeeping space config server views old next → old ≡ rest ++ r ∷ []
      → views_of after ≡ with_replica (lean (view_of r)) (views_of next) → AreReplicas space after
      → IsKeeping space config server views rest after
  more_kept views old rest next after r so e becomes are = record {
    taken = view_of r ∷ so.taken;
    all = so.all ∙ ap (λ (l : List ReplicaState). l ++ so.taken) (ap views_of e ∙ map-append view_of rest (r ∷ []))
        ∙ append_assoc (views_of rest) (view_of r ∷ []) so.taken;
    each = front rest (subst (AllByRecursion (IsReplicaIn space)) e so.each);
    becomes = becomes ∙ ap (with_replica (lean (view_of r))) so.becomes
        ∙ one_kept (view_of r) so.taken (listed_regions config server) (listed_ascend config server);
    are = are;
  }
    where
      front : (xs : List Replica) → AllByRecursion (IsReplicaIn space) (xs ++ r ∷ []) → AllByRecursion (IsReplicaIn space) xs
      front [] h = tt
      front (x ∷ xs) h = (h.0, front xs h.1)

  -- the last one
  pub last_is : (old rest : List Replica) (r : Replica) → AllByRecursion (IsReplicaIn space) old → old ≡ rest ++ r ∷ [] → IsReplicaIn space r
  last_is old rest r h e = by rest (subst (AllByRecursion (IsReplicaIn space)) e h)
    where
      by : (xs : List Replica) → AllByRecursion (IsReplicaIn space) (xs ++ r ∷ []) → IsReplicaIn space r
      by [] h = h.0
      by (x ∷ xs) h = by xs h.1
