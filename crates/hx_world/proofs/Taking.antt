-- What an actor of a world is given it can take.
use Rattle.std.proofs.Common.{◌≡◌, ◌+◌, ◌<◌, ◌≤◌, inl, inr, true, false, List, [], ◌∷◌, length, Some, refl, sym, ap, ◌∙◌, subst, arith, ltb, leb}
use Rattle.std.proofs.lemmas.Bool.{and_from, and_parts, lt-ltb, le-leb, ltb-true, leb-true}
use Rattle.std.specs.List.{AllByRecursion}
use Rattle.hx_model.specs.Types.{Actor, Coordinator, Deliver, Entry, Halt, Input, Post, PostId, Script, Server, ServerId, Session, SessionId, Space}
use Rattle.hx_model.specs.Types.{Tick}
use Rattle.hx_types.specs.Posts.{ActorExists, IsSessionOf, IsSoundPost}
use Rattle.hx_types.specs.Spaces.{IsServerOf}
use Rattle.hx_types.specs.Words.{IsIn, post}
use Rattle.hx_model.specs.Runs.{MayTake, coordinator_of, has_halted, is_actor, post_named, server_of, session_of}
use Rattle.hx_model.specs.ServerSteps.{Replica, ServerState}
use Rattle.hx_model.specs.SessionSteps.{SessionState}
use Rattle.hx_replica.specs.Servers as server
use Rattle.hx_session.specs.Sessions as session
use Rattle.hx_coord.specs.Coordinators as coordinator
use Rattle.hx_law_posts.proofs.Lemmas.{KeptSound, kept-run}
use Rattle.hx_types.specs.Subspaces.{is_key_region}
use Rattle.hx_model.specs.Slots.{top_of}
use Rattle.hx_law_folds.specs.Folding.{InputFits, IsReplicaOf, IsServerOf as AreInOrder, IsSlotIn, folded, folded_replica, folded_server}
use Rattle.hx_law_folds.proofs.Lemmas.{top-folded, sound-fits}
use Rattle.hx_law_lemmas.proofs.Lemmas.{in-map}
use Rattle.hx_world.specs.Invariant.{IsFewRun}
use Rattle.hx_world.proofs.Naming.{named_within}
use Rattle.hx_world.proofs.Tallies.{few_in_all}

-- the slots of a server without their past have no higher versions
all_in : {A : Type 0} (P : A → Type 0) (xs : List A) (x : A) → AllByRecursion P xs → IsIn x xs → P x
all_in P [] x h i = absurd i
all_in P (y ∷ ys) x h (inl e) = subst P (sym e) h.0
all_in P (y ∷ ys) x h (inr i) = all_in P ys x h.1 i

small_folded : (space : Space) (s : ServerState) → AreInOrder space s → server.HasSmallVersions s → server.HasSmallVersions (folded_server s)
small_folded space s order small r i k j =
    let from = in-map folded_replica s.replicas r i in
    let state = in-map (folded from.0.region) from.0.states k (subst (λ (x : Replica). IsIn k x.states) from.2 j) in
    let slot = all_in (IsSlotIn (is_key_region space from.0.region) from.0.region) from.0.states state.0
    (all_in (IsReplicaOf space) s.replicas from.0 order from.1) state.1 in
    subst (λ n. n ≤ 4611686018427387904) (sym (ap top_of state.2 ∙ top-folded from.0.region state.0 slot.slot.floor)) (small from.0 from.1 state.0 state.1)

module _ (script : Script) (t : List Entry) (w : IsFewRun script t) where
  pub sound_here : (id : PostId) (p : Post) → post_named id t ≡ Some p → IsSoundPost script.space (length script.sessions) id.entry p
  sound_here id p named = w.sound.posts t w.run id p named

  -- who gets a post is one of the script's actors
  pub actor_here : (id : PostId) (p : Post) → post_named id t ≡ Some p → is_actor script p.to ≡ true
  actor_here id p named = by p.to (sound_here id p named).to
    where
      by : (a : Actor) → ActorExists (record { space = script.space; sessions = length script.sessions; most = id.entry + 1 }) a → is_actor script a ≡ true
      by Coordinator h = refl
      by (Server s) h = and_from _ _ (lt-ltb 0 s.0 h.0) (le-leb s.0 script.space.servers h.1)
      by (Session u) h = and_from _ _ (lt-ltb 0 u.0 h.0) (le-leb u.0 (length script.sessions) h.1)

  pub server_exists : (s : ServerId) → is_actor script (Server s) ≡ true → IsServerOf script.space s
  server_exists s h = let p = and_parts (ltb 0 s.0) (leb s.0 script.space.servers) h in (ltb-true 0 s.0 p.0, leb-true s.0 script.space.servers p.1)

  pub session_exists : (u : SessionId) → is_actor script (Session u) ≡ true → IsSessionOf (length script.sessions) u
  session_exists u h = let p = and_parts (ltb 0 u.0) (leb u.0 (length script.sessions)) h in (ltb-true 0 u.0 p.0, leb-true u.0 (length script.sessions) p.1)

  -- servers and sessions have their numbers
  kept_here : KeptSound script (length t) t
  kept_here = kept-run script w.valid t w.run

  pub server_id : (s : ServerId) → (server_of script s t).id ≡ s
  server_id s = (kept_here.servers s).id

  pub session_id : (u : SessionId) → (session_of script u t).id ≡ u
  session_id u = (kept_here.own u).id

  few_named : (id : PostId) (p : Post) → post_named id t ≡ Some p → id.entry < 4611686018427387904
  few_named id p named =
      let within = named_within id t p named in
      let few = few_in_all script t w.valid w.run w.few in
      omega (arith, within, few)

  small_here : (s : ServerId) → server.HasSmallVersions (server_of script s t)
  small_here s r i k j =
      let top = w.sound.versions t w.run s r i k j in
      let few = few_in_all script t w.valid w.run w.few in
      omega (arith, top, few)

  input_to_server : (s : ServerId) (input : Input) → MayTake t (Server s) input → server.IsInputTo script.space s input
  input_to_server s Tick may = tt
  input_to_server s Halt may = tt
  input_to_server s (Deliver id from m) may =
      record {
        sessions = length script.sessions;
        entry = id.entry;
        few = few_named id (post from (Server s) m) may;
        sound = sound_here id (post from (Server s) m) may;
      }

  -- a server that hasn't halted can take what it is given
  pub serves : (s : ServerId) (input : Input) → AreInOrder script.space (server_of script s t)
      → has_halted script t (Server s) ≡ false → MayTake t (Server s) input
      → server.CanTake script.space (folded_server (server_of script s t)) input
  serves s input order running may = record {
    running = running;
    input_to = subst (λ (x : ServerId). server.IsInputTo script.space x input) (sym (server_id s)) (input_to_server s input may);
    small = small_folded script.space (server_of script s t) order (small_here s);
  }

  -- what it is given comes after lower versions
  pub fits_here : (s : ServerId) (input : Input) → MayTake t (Server s) input → InputFits input
  fits_here s Tick may = tt
  fits_here s Halt may = tt
  fits_here s (Deliver id from m) may = sound-fits _ m (sound_here id (post from (Server s) m) may).message

  input_to_session : (st : SessionState) (u : SessionId) → st.id ≡ u → (input : Input) → MayTake t (Session u) input → session.CanTake script.space st input
  input_to_session st u same Tick may = tt
  input_to_session st u same Halt may = may
  input_to_session st u same (Deliver id from m) may =
      subst (λ (x : SessionId). session.IsSoundDelivery script.space x from m) (sym same)
      (record {
        sessions = length script.sessions;
        entry = id.entry;
        few = few_named id (post from (Session u) m) may;
        sound = sound_here id (post from (Session u) m) may;
      })

  -- a session can take what it is given
  pub attends : (u : SessionId) (input : Input) → MayTake t (Session u) input → session.CanTake script.space (session_of script u t) input
  attends u input may = input_to_session (session_of script u t) u (session_id u) input may

  -- and so can the coordinator
  pub coordinates : (input : Input) → MayTake t Coordinator input → coordinator.CanTake (coordinator_of script t) input
  coordinates Tick may = tt
  coordinates Halt may = may
  coordinates (Deliver id from m) may =
      let epoch = (w.sound.epochs t w.run).2.1 in
      let few = few_in_all script t w.valid w.run w.few in
      omega (arith, epoch, few)
