-- What a server makes that adopts a configuration.
use Rattle.std.proofs.Common.{◌≡◌, ◌<◌, Bool, true, false, List, [], ◌∷◌, ◌++◌, map, Vec, refl, ap, sym, ◌∙◌, subst}
use Rattle.std.specs.List.{flat_map}
use Rattle.std.specs.declared.alloc.Global.{Global}
use Rattle.std.proofs.lemmas.Bool.{cond-true, lt-ltb}
use Rattle.hx_model.specs.Types.{Config, Post, RegionId, Space}
use Rattle.hx_types.specs.Configs.{joiner_for}
use Rattle.hx_types.specs.Words.{provided}
use Rattle.hx_model.specs.ServerSteps.{Replica as ReplicaState, ServerState, ServerStep, SlotContext, adopted}
use Rattle.hx_model.specs.ServerSteps.{adopted_posts, adopted_replica, adopted_state, install_at, is_active}
use Rattle.hx_model.specs.ServerSteps.{listed_regions, ready_post, replica_or_new, resumed_posts, context_of, unmoved}
use Rattle.hx_model.specs.ServerSteps.{with_config}
use Rattle.hx_model.specs.Slots.{Forget, KeyState, moved}
use Rattle.hx_law_folds.specs.Folding.{folded, folded_replica, folded_server}
use Rattle.hx_law_folds.proofs.Lemmas.{folded-twice, new-folded}
use Rattle.hx_replica.specs.declared.prepared.Change.{Change}
use Rattle.hx_replica.specs.declared.prepared.Change.TheVariants as a_change
use Rattle.hx_replica.specs.declared.replicas.Replica.{Replica}
use Rattle.hx_replica.specs.Adopting.{lean_adopted, lean_replica}
use Rattle.hx_replica.specs.Replicas.{new_replica}
use Rattle.hx_replica.specs.Plans.{IsAdoptionOn, IsChange}
use Rattle.hx_replica.specs.Servers.{ServerValue}
use Rattle.hx_replica.specs.Ticking.{standing}
use Rattle.hx_replica.proofs.Sending.{snap_same}

posts_same : (space : Space) (s : ServerState) (r : ReplicaState) → adopted_posts space (standing s.config s.id) r ≡ adopted_posts space s r
posts_same space s r =
    ap (λ (l : List Post). provided (is_active s.config r)
    (l ++ flat_map (resumed_posts (context_of space s r.region)) r.states ++ ready_post s r.region))
    (snap_same s r (joiner_for s.config r.region s.id))

posts_of : (space : Space) (s : ServerState) (old : List ReplicaState) (gs : List RegionId)
    → flat_map (λ (g : RegionId). adopted_posts space (standing s.config s.id) (replica_or_new old g)) gs
    ≡ flat_map (adopted_posts space s) (map (replica_or_new old) gs)
posts_of space s old [] = refl
posts_of space s old (g ∷ gs) =
    ap (λ (l : List Post). l ++ flat_map (λ (x : RegionId). adopted_posts space (standing s.config s.id)
    (replica_or_new old x)) gs) (posts_same space s (replica_or_new old g))
    ∙ ap (λ (l : List Post). adopted_posts space s (replica_or_new old g) ++ l) (posts_of space s old gs)

-- a slot, and a replica, of which nothing is folded when a configuration is adopted
lean_slot : (context : SlotContext) (active : Bool) (s : KeyState) → folded context.region s ≡ s
    → lean_adopted context active s ≡ folded context.region (adopted_state context active s)
lean_slot context true s e = refl
lean_slot context false s e = sym (ap (moved Forget) e)

lean_slots : (context : SlotContext) (active : Bool) (states : List KeyState)
    → map (lean_adopted context active) (map (folded context.region) states)
    ≡ map (folded context.region) (map (adopted_state context active) (map (folded context.region) states))
lean_slots context active [] = refl
lean_slots context active (s ∷ rest) = let a = lean_slot context active (folded context.region s)
    (folded-twice context.region s) in let b = lean_slots context active rest in λ j. a j ∷ b j

lean_one : (space : Space) (s : ServerState) (r : ReplicaState) → folded_replica r ≡ r
    → lean_replica space (standing s.config s.id) r ≡ folded_replica (adopted_replica space s r)
lean_one space s r e =
    let context = context_of space s r.region in
    let active = is_active s.config r in
    let states : map (folded r.region) r.states ≡ r.states = λ j. (e j).states in
    let all : map (lean_adopted context active) r.states
    ≡ map (folded r.region) (map (adopted_state context active) r.states) =
    subst (λ (l : List KeyState). map (lean_adopted context active) l
    ≡ map (folded r.region) (map (adopted_state context active) l)) states (lean_slots context active r.states) in
    λ j. record r { states = all j }

views_of_all : (space : Space) (s : ServerState) (old : List ReplicaState) (gs : List RegionId)
    → ((g : RegionId) → folded_replica (replica_or_new old g) ≡ replica_or_new old g)
    → map (λ (g : RegionId). lean_replica space (standing s.config s.id) (replica_or_new old g)) gs
    ≡ map folded_replica (map (adopted_replica space s) (map (replica_or_new old) gs))
views_of_all space s old [] bare = refl
views_of_all space s old (g ∷ gs) bare = let e = lean_one space s (replica_or_new old g) (bare g) in
    let rest = views_of_all space s old gs bare in λ j. e j ∷ rest j

-- a newer configuration is adopted
module _ (v : ServerValue) (config : Config) (newer : v.state.config.epoch.0 < config.epoch.0) where
  abbrev s : ServerState
  s = v.state

  abbrev next : ServerState
  next = with_config s config

  step_is : install_at v.space s config ≡ adopted v.space next
  step_is = cond-true _ (adopted v.space next) (unmoved s) (lt-ltb s.config.epoch.0 config.epoch.0 newer)

  pub adoption_posts : (old new : List Post)
      → new ≡ old ++ flat_map (λ (g : RegionId). adopted_posts v.space (standing config s.id) (replica_or_new s.replicas g)) (listed_regions config s.id)
      → new ≡ old ++ (install_at v.space s config).posts
  adoption_posts old new p =
      p ∙ ap (λ (ps : List Post). old ++ ps) (posts_of v.space next s.replicas (listed_regions config s.id))
      ∙ ap (λ (t : ServerStep). old ++ t.posts) (sym step_is)

  pub adoption_change : (copy : Config) (replicas : Vec Replica Global) → folded_server s ≡ s
      → replicas.items ≡ map (new_replica v.space) (listed_regions config s.id) → copy ≡ config
      → IsChange v (install_at v.space s config).state (a_change.Adopt copy replicas)
  adoption_change copy replicas bare new same =
      subst (λ (c : Config). IsChange v (install_at v.space s config).state (a_change.Adopt c replicas)) (sym same)
      (
      let views =
      views_of_all v.space next s.replicas (listed_regions config s.id)
      (λ g. sym (new-folded s.replicas g) ∙ ap (λ (x : ServerState). replica_or_new x.replicas g) bare) in
      record {
        new = new;
        state = ap (λ (t : ServerStep). folded_server t.state) step_is
            ∙ ap (λ (l : List ReplicaState). record { id = s.id; config = config; halted = s.halted; replicas = l }) (sym views);
      }
      )

-- the change that adopts a configuration
pub adoption : (v : ServerValue) (after : ServerState) (change : Change) (config : Config) (replicas : Vec Replica Global)
    → change ≡ a_change.Adopt config replicas → IsChange v after change → IsAdoptionOn v after config replicas.items
adoption v after change config replicas e h = subst (IsChange v after) e h
