-- What a server answers to a search in a region, where one of its replicas takes it.
use Rattle.std.proofs.Common.{◌≡◌, ℕ, zero, suc, ◌<◌, true, false, List, [], ◌∷◌, get_or, length, IfOk, Option, Result}
use Rattle.std.proofs.Common.{Ok, Err, Some, ap, sym, ◌∙◌, subst, arith}
use Rattle.std.specs.List.{slice_get}
use Rattle.std.specs.Option.{IsSomeAnd, option_map}
use Rattle.hx_model.specs.Types.{Actor, Epoch, Post, RegionId, Row, Server, Term}
use Rattle.hx_types.specs.declared.messages.Message.TheVariants as a_message
use Rattle.hx_types.specs.Configs.{lists_ready}
use Rattle.hx_types.specs.Words.{post, provided}
use Rattle.hx_model.specs.ServerSteps.{Replica as ReplicaState, ServerState, asked, if_installed, replica_for}
use Rattle.hx_model.specs.Slots.{KeyState, found_in}
use Rattle.hx_replica.specs.declared.replicas.Replica.{Replica}
use Rattle.hx_replica.specs.declared.servers.Server.TheInside.{Inside}
use Rattle.hx_replica.specs.Invariant.{IsServer, value_of}
use Rattle.hx_replica.specs.Replicas.{IsReplicaIn, view_of, views_of}
use Rattle.hx_replica.specs.Servers.{ServerValue}
use Rattle.hx_replica.proofs.Changing.{replica_at}
use Rattle.hx_replica.proofs.Hearing.{found_region, replica_for_found, installed_some}
use Rattle.hx_replica.proofs.Planning.{IsFound, found_there}

module _ (i : Inside) (v : ServerValue) (from : Actor) (epoch : Epoch) (number : ℕ) (g : RegionId) (terms : List Term) (place : ℕ) (seen : value_of i ≡ v)
    (at : Some (slice_get v.state.replicas place) ≡ option_map (λ (r : ReplicaState). Some r) (if_installed (replica_for v.state g))) where
  there : IsFound v.state.replicas place (if_installed (replica_for v.state g))
  there = found_there v.state.replicas place (if_installed (replica_for v.state g)) at

  region : there.replica.region ≡ g
  region = found_region g v.state.replicas there.replica
      (replica_for_found v.state g there.replica (installed_some (replica_for v.state g) there.replica there.is))

  abbrev answer : ServerState → RegionId → RegionId → List KeyState → List Post
  answer s h k states = provided (lists_ready s.config h s.id) (post (Server s.id) from (a_message.Found epoch number h (found_in k terms states)) ∷ [])

  posts_are : (asked v.state from epoch number terms (if_installed (replica_for v.state g))).posts ≡ answer (value_of i).state g g there.replica.states
  posts_are =
      ap (λ (o : Option ReplicaState). (asked v.state from epoch number terms o).posts) there.is
      ∙ ap (λ (x : RegionId). answer v.state x x there.replica.states) region
      ∙ ap (λ (x : ServerValue). answer x.state g g there.replica.states) (sym seen)

  -- it isn't a ready member
  pub not_ready : lists_ready i.config g i.id ≡ false → (asked v.state from epoch number terms (if_installed (replica_for v.state g))).posts ≡ []
  not_ready out = posts_are ∙ ap (λ t. provided t (post (Server i.id) from (a_message.Found epoch number g (found_in g terms there.replica.states)) ∷ [])) out

  -- it is one
  pub ready : (rows : List Row) → IsSomeAnd (slice_get v.state.replicas place)
      (λ (r : ReplicaState). rows ≡ found_in r.region terms r.states) → lists_ready i.config g i.id ≡ true
      → (asked v.state from epoch number terms (if_installed (replica_for v.state g))).posts
      ≡ post (Server i.id) from (a_message.Found epoch number g rows) ∷ []
  ready rows is listed =
      let here : rows ≡ found_in there.replica.region terms there.replica.states =
      subst (λ (o : Option ReplicaState). IsSomeAnd o
      (λ (r : ReplicaState). rows ≡ found_in r.region terms r.states)) there.at_place is in
      posts_are
      ∙ ap (λ t. provided t (post (Server i.id) from (a_message.Found epoch number g (found_in g terms there.replica.states)) ∷ [])) listed
      ∙ ap (λ (found : List Row). post (Server i.id) from (a_message.Found epoch number g found) ∷ [])
      (sym (here ∙ ap (λ (x : RegionId). found_in x terms there.replica.states) region))

-- what holds of what is found
pub if_found : {A E : Type 0} {P Q : A → Type 0} (r : Result A E) → ((x : A) → P x → Q x) → IfOk r P → IfOk r Q
if_found (Ok x) f h = f x h
if_found (Err e) f h = tt

view_there : (rs : List Replica) (place : ℕ) (y : Replica) → place < length rs → y ≡ get_or rs place y → slice_get (views_of rs) place ≡ Some (view_of y)
view_there [] place y l e = absurd (omega arith)
view_there (r ∷ rs) zero y l e = ap (λ (x : Replica). Some (view_of x)) (sym e)
view_there (r ∷ rs) (suc place) y l e = view_there rs place y (omega (arith, l)) e

-- what a search finds in a replica
pub rows_there : (i : Inside) (v : ServerValue) (place : ℕ) (y : Replica) (terms : List Term) (rows : List Row)
    → value_of i ≡ v → IsServer i → place < length i.replicas.items → y ≡ get_or i.replicas.items place y
    → rows ≡ found_in y.store.region terms y.store.states
    → IsSomeAnd (slice_get v.state.replicas place) (λ (r : ReplicaState). rows ≡ found_in r.region terms r.states)
rows_there i v place y terms rows seen is l at found =
    let rs = i.replicas.items in
    let there : slice_get (views_of rs) place ≡ Some (view_of y) = view_there rs place y l at in
    let holds : IsReplicaIn i.space y = subst (IsReplicaIn i.space) (sym at) (replica_at i.space rs place y is.replicas_are.each l) in
    subst (λ (o : Option ReplicaState). IsSomeAnd o (λ (r : ReplicaState). rows ≡ found_in r.region terms r.states))
    (sym there ∙ ap (λ (x : ServerValue). slice_get x.state.replicas place) seen)
    (found ∙ ap (λ (x : RegionId). found_in x terms y.store.states) holds.region)
