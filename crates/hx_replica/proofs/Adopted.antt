-- What a server posts of its replicas in a new configuration.
use Rattle.std.proofs.Common.{◌≡◌, ℕ, ◌+◌, ◌<◌, Bool, true, false, cond, List, [], ◌∷◌, ◌++◌, length, get_or, Option}
use Rattle.std.proofs.Common.{None, Some, refl, ap, sym, ◌∙◌, subst, append_assoc, append-nil}
use Rattle.std.specs.List.{flat_map, slice_get}
use Rattle.std.specs.Option.{option_map}
use Rattle.std.proofs.lemmas.Grind.{flat_map-append}
use Rattle.hx_model.specs.Types.{Config, Post, RegionId, ServerId, Space}
use Rattle.hx_types.specs.Configs.{joiner_for, lists}
use Rattle.hx_types.specs.Words.{provided, when_some}
use Rattle.hx_model.specs.ServerSteps.{Replica as ReplicaState, ServerState, SlotContext as ModelContext}
use Rattle.hx_model.specs.ServerSteps.{adopted_posts, is_active, ready_post, replica_of, replica_or_new, resumed_posts}
use Rattle.hx_model.specs.ServerSteps.{snap_posts, snap_to}
use Rattle.hx_replica.specs.declared.replicas.Replica.{Replica}
use Rattle.hx_replica.specs.Replicas.{AreReplicas, IsReplicaIn, view_of, views_of}
use Rattle.hx_replica.specs.Ticking.{kept_here, standing}
use Rattle.hx_replica.proofs.Changing.{below_views, replica_at, view_at}
use Rattle.hx_replica.proofs.Hearing.{found_region}
use Rattle.hx_replica.proofs.Planning.{found_nowhere, found_there}
use Rattle.hx_replica.proofs.Starting.{passing, passing_more}

-- a snapshot is of the region and the slots alone
snap_kept : (s : ServerState) (r : ReplicaState) (o : Option ServerId) → snap_to s (kept_here r.region r.states) o ≡ snap_to s r o
snap_kept s r None = refl
snap_kept s r (Some joiner) = refl

abbrev context_at : Space → Config → ServerId → RegionId → ModelContext
context_at space config server g = record { space = space; config = config; server = server; region = g }

-- what a replica posts that goes on, one after another
pub active_posts : (space : Space) (config : Config) (server : ServerId) (g : RegionId) (r : Replica)
    (old snapped went posts : List Post) → is_active config (view_of r) ≡ true → r.region ≡ g
    → snapped ≡ old ++ snap_posts (standing config server) (kept_here g r.store.states)
    → went ≡ snapped ++ flat_map (resumed_posts (context_at space config server g)) r.store.states
    → posts ≡ went ++ ready_post (standing config server) g → posts ≡ old ++ adopted_posts space (standing config server) (view_of r)
active_posts space config server g r old snapped went posts active at a b c =
    let s = standing config server in
    let snap = snap_posts s (kept_here g r.store.states) in
    let all = flat_map (resumed_posts (context_at space config server g)) r.store.states in
    let ready = ready_post s g in
    c ∙ ap (λ (ps : List Post). ps ++ ready) (b ∙ ap (λ (ps : List Post). ps ++ all) a)
    ∙ ap (λ (ps : List Post). ps ++ ready) (append_assoc old snap all) ∙ append_assoc old (snap ++ all) ready
    ∙ ap (λ (x : RegionId). old ++ (snap_posts s (kept_here x r.store.states)
    ++ flat_map (resumed_posts (context_at space config server x)) r.store.states ++ ready_post s x)) (sym at)
    ∙ ap (λ (l : List Post). old ++ (l ++ flat_map
    (resumed_posts (context_at space config server r.region)) r.store.states ++ ready_post s r.region))
    (snap_kept s (view_of r) (joiner_for config r.region server))
    ∙ ap (λ b. old ++ provided b (snap_posts s (view_of r)
    ++ flat_map (resumed_posts (context_at space config server r.region)) r.store.states
    ++ ready_post s r.region)) (sym active)

-- one that doesn't go on posts nothing
pub idle_posts : (space : Space) (config : Config) (server : ServerId) (r : Replica) (old : List Post)
    → is_active config (view_of r) ≡ false → old ≡ old ++ adopted_posts space (standing config server) (view_of r)
idle_posts space config server r old idle =
    sym (append-nil old)
    ∙ ap (λ b. old ++ provided b (snap_posts (standing config server) (view_of r)
    ++ flat_map (resumed_posts (context_at space config server r.region)) r.store.states
    ++ ready_post (standing config server) r.region)) (sym idle)

-- the replica at the place is the region's
pub record IsThere (space : Space) (views : List ReplicaState) (g : RegionId) (y : Replica) : Type 0 where
  pub found : replica_or_new views g ≡ view_of y
  pub region : y.region ≡ g
  pub is : IsReplicaIn space y

pub there : (space : Space) (rs : List Replica) (g : RegionId) (place : ℕ) (y : Replica) → AreReplicas space rs → y ≡ get_or rs place y
    → Some (slice_get (views_of rs) place) ≡ option_map (λ (r : ReplicaState). Some r) (replica_of g (views_of rs)) → IsThere space (views_of rs) g y
there space rs g place y are at found =
    let f = found_there (views_of rs) place (replica_of g (views_of rs)) found in
    let l : place < length rs = below_views rs place f.replica f.at_place in
    let same : view_of y ≡ f.replica = ap view_of at ∙ view_at rs place y f.replica f.at_place in
    record {
      found = ap (λ (o : Option ReplicaState). when_some o (record { region = g; installed = false; states = [] }) (λ (r : ReplicaState). r)) f.is ∙ sym same;
      region = ap (λ (r : ReplicaState). r.region) same ∙ found_region g (views_of rs) f.replica f.is;
      is = subst (IsReplicaIn space) (sym at) (replica_at space rs place y are.each l);
    }

-- a new replica posts nothing
pub new_posts : (space : Space) (config : Config) (server : ServerId) (rs : List Replica) (g : RegionId)
    (old : List Post) → None ≡ option_map (λ (r : ReplicaState). Some r) (replica_of g (views_of rs))
    → old ≡ old ++ adopted_posts space (standing config server) (replica_or_new (views_of rs) g)
new_posts space config server rs g old none =
    sym (append-nil old)
    ∙ sym
    (
    ap (λ (o : Option ReplicaState). old ++ adopted_posts space (standing config server)
    (when_some o (record { region = g; installed = false; states = [] }) (λ (r : ReplicaState). r)))
    (found_nowhere (replica_of g (views_of rs)) none)
    )

abbrev pub posts_at : Space → Config → ServerId → List ReplicaState → RegionId → List Post
posts_at space config server views g = adopted_posts space (standing config server) (replica_or_new views g)

module _ (space : Space) (config : Config) (server : ServerId) (views : List ReplicaState) (before : List Post) where
  abbrev p : RegionId → Bool
  p g = lists config g server

  abbrev said : RegionId → List Post
  said = posts_at space config server views

  -- a region more in which the server is listed, and one in which it isn't
  pub one_more : (n : ℕ) (mid after : List Post) → mid ≡ before ++ flat_map said (passing p n)
      → p (record { 0 = n }) ≡ true → after ≡ mid ++ said (record { 0 = n }) → after ≡ before ++ flat_map said (passing p (n + 1))
  one_more n mid after so t a =
      a ∙ ap (λ (ps : List Post). ps ++ said (record { 0 = n })) so ∙ append_assoc before (flat_map said (passing p n)) (said (record { 0 = n }))
      ∙ ap (λ (ps : List Post). before ++ ps)
      (
      ap (λ (ps : List Post). flat_map said (passing p n) ++ ps) (sym (append-nil (said (record { 0 = n }))))
      ∙ sym (flat_map-append said (passing p n) (record { 0 = n } ∷ []))
      ∙ ap (flat_map said) (ap (λ b. passing p n ++ cond b (record { 0 = n } ∷ []) []) (sym t) ∙ sym (passing_more p n))
      )

  pub no_more : (n : ℕ) (after : List Post) → after ≡ before ++ flat_map said (passing p n)
      → p (record { 0 = n }) ≡ false → after ≡ before ++ flat_map said (passing p (n + 1))
  no_more n after so f =
      so ∙ ap (λ (ps : List Post). before ++ ps) (ap (flat_map said)
      (sym (append-nil (passing p n)) ∙ ap (λ b. passing p n ++ cond b (record { 0 = n } ∷ []) []) (sym f)
      ∙ sym (passing_more p n)))
