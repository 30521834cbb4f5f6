-- Each input of a server keeps all keys.
use Rattle.std.proofs.Common.{◌≡◌, ℕ, ◌⊎◌, inl, inr, true, false, not, ◌&&◌, List, [], ◌∷◌, ◌++◌, Option, None, Some, refl, sym, ap, ◌∙◌, subst, arith, eqb}
use Rattle.std.proofs.Common.{ltb}
use Rattle.std.specs.List.{flat_map}
use Rattle.std.proofs.lemmas.Bool.{and_parts, eqb-true, false≢true}
use Rattle.std.specs.Prelude.{⊤}
use Rattle.hx_model.specs.Types.{Actor, At, Coordinator, Deliver, Epoch, Input, Kept, Message, Op, Post, PostId, RegionId, Server, ServerId, Session, SessionId}
use Rattle.hx_model.specs.Types.{Term, Update, Version}
use Rattle.hx_types.specs.declared.messages.Message.TheVariants as a_message
use Rattle.hx_types.specs.Words.{IsIn, post, provided}
use Rattle.hx_types.specs.Configs.{head_of, is_lost, is_server, leads, lists}
use Rattle.hx_types.specs.Effects.{key_of}
use Rattle.hx_types.specs.Spaces.{IsSpace}
use Rattle.hx_types.specs.Subspaces.{is_key_region}
use Rattle.hx_model.specs.Hearing.{hears_ack, hears_update}
use Rattle.hx_model.specs.Neighbours.{next_of, place_number, prev_of, region_at}
use Rattle.hx_model.specs.Regions.{key_region}
use Rattle.hx_model.specs.ServerSteps.{Replica, ServerState, ServerStep, ack_step, asking_last, at_slot, call_step, context_of, halting, if_installed}
use Rattle.hx_model.specs.ServerSteps.{installed_slots, meeting, pending_with, poll_post, ready_post, replica_for, replica_of, replica_tick, saying}
use Rattle.hx_model.specs.ServerSteps.{server_step, state_in, update_step, with_slots}
use Rattle.hx_model.specs.Slots.{found_in, pending_of}
use Rattle.hx_model.proofs.Lemmas.{ServerCases, server-cases}
use Rattle.hx_law_lemmas.proofs.Lemmas.{at_session, in-append, in-find, in-provided, in_left, in_right, pending-in, replica-found, same_version, server-same}
use Rattle.hx_law_lemmas.specs.Words.{standing}
use Rattle.hx_law_folds.specs.Folding.{IsJoinableServer}
use Rattle.hx_law_epochs.proofs.Lemmas.{EpochsKept, Shaped, head-ready, installed-is, replica_for-is}
use Rattle.hx_law_chains.proofs.Adopting.{adopted-served}
use Rattle.hx_law_chains.proofs.Calm.{calm-stays, more-served}
use Rattle.hx_law_chains.proofs.Heard.{heard-at, heard-from}
use Rattle.hx_law_chains.proofs.Holders.{NoSnap, Up}
use Rattle.hx_law_chains.proofs.Messages.{ack-served, call-served, update-served}
use Rattle.hx_law_chains.proofs.Moves.{find-true}
use Rattle.hx_law_chains.proofs.Renewed.{renewed-scene, renewed-stays}
use Rattle.hx_law_chains.proofs.Saying.{accepted-here}
use Rattle.hx_law_chains.proofs.Serving.{Asked, IsSilent, Posted, Scene, Served, Stage, after, installed-now, installed-then, ready-silent, saying-served}
use Rattle.hx_law_chains.proofs.Serving.{seated-now, silent, silent-served, st, world}
use Rattle.hx_law_chains.proofs.SlotPosts.{each-one}
use Rattle.hx_law_chains.proofs.Snapped.{snapped-served}
use Rattle.hx_law_chains.proofs.Snapshots.{Carries, Sends, replica-sent}
use Rattle.hx_law_chains.proofs.Ticks.{tick-served}
use Rattle.hx_law_chains.proofs.World.{AckOk, KeyOk, Ordered, Stays, UpdateOk, Valid, lawful-sorted, stays-then}

-- a call or a search that is asked for
abbrev pub IsAsked : Asked → Actor → Message → Type 0
IsAsked asked from (a_message.Call epoch number op) = at_session from (λ u. asked.call (record { session = u; number = number }))
IsAsked asked from (a_message.Ask epoch number g terms) = asked.ask from epoch number g terms
IsAsked asked from other = ⊤

-- what is known of a message that arrives: it was posted, is true, carries what can be sent, and is asked for
pub record Arrives (e : Scene) (asked : Asked) (i : ServerId) (from : Actor) (m : Message) : Type 0 where
  pub posted : IsIn (post from (Server i) m) e.posts
  pub valid : Valid e.script (world e) from (Server i) m
  pub sends : Sends e.script.space m
  pub asks : IsAsked asked from m

module _ (stage : Stage) (epochs : EpochsKept stage.scene.Real stage.scene.servers stage.scene.known stage.scene.config stage.scene.posts)
    (shaped : Shaped stage.server (st stage)) (joinable : IsJoinableServer stage.scene.script.space (st stage)) where
  open stage use {scene as e, asked, valid, ordered as o, keys as ok, server as i, up as here}

  -- the server's state
  abbrev s0 : ServerState
  s0 = st stage

  -- what a step keeps
  abbrev Keeping : ServerStep → Type 0
  Keeping step = Served e asked i step.state step.notes step.posts

  -- that the newest configuration is asked for speaks of no call
  polls : (p : Post) → IsIn p (poll_post s0 ∷ []) → IsSilent p.message
  polls = each-one (λ p. IsSilent p.message) (poll_post s0) tt

  -- it is asked for first
  met : (epoch : Epoch) (step : ServerStep) → Keeping step → Keeping (meeting s0 epoch step)
  met epoch step =
      let poll = provided (ltb s0.config.epoch.0 epoch.0) (poll_post s0 ∷ []) in
      more-served e asked i step.state step.notes step.posts (poll ++ step.posts)
      (λ p j. elim (in-append poll step.posts p j) [
        | inl k ↦ inl (polls p (in-provided (ltb s0.config.epoch.0 epoch.0) (poll_post s0 ∷ []) p k).1)
        | inr k ↦ inr k
      ])
      (λ p j. in_right poll step.posts p j)

  -- or last
  asked-last : (ps : List Post) → Served e asked i s0 [] ps → Keeping (saying s0 (asking_last s0 ps))
  asked-last [] h = h
  asked-last (p ∷ ps) h = more-served e asked i s0 [] (p ∷ ps) (asking_last s0 (p ∷ ps))
      (λ x j. elim (in-append (p ∷ ps) (poll_post s0 ∷ []) x j) [ inl k ↦ inr k | inr k ↦ inl (polls x k) ])
      (λ x j. in_left (p ∷ ps) (poll_post s0 ∷ []) x j) h

  -- ---- a halt
  abbrev stopped : ServerState
  stopped = record s0 { halted = true }

  halts : Keeping (halting s0)
  halts = record {
    stays = stays-then e.script (world e) (world (renewed-scene e i stopped)) (world (after e i stopped [] new)) forgot
        (calm-stays (renewed-scene e i stopped) (new ++ e.posts) e.known back (λ p j. inr j) (λ d k. k) (λ d k. k) forgot.ordered forgot.keys);
    posts = λ p j. (silent e asked i stopped (world (after e i stopped [] new)) p.from p.to p.message (gone p j)).0;
    lines = λ key. inl refl;
    same = λ key v f. refl;
  }
    where
      new : List Post
      new = post (Server i) Coordinator a_message.Gone ∷ []

      gone : (p : Post) → IsIn p new → IsSilent p.message
      gone = each-one (λ p. IsSilent p.message) (post (Server i) Coordinator a_message.Gone) tt

      back : (p : Post) → IsIn p (new ++ e.posts) → NoSnap p.message ⊎ IsIn p e.posts
      back p (inl q) = inl (subst (λ (x : Post). NoSnap x.message) (sym q) tt)
      back p (inr j) = inr j

      forgot : Stays e.script (world e) (world (renewed-scene e i stopped))
      forgot = renewed-stays stage stopped (record {
        known = o.own i;
        later = omega arith;
        grows = λ g h. record { replica = h.replica; found = h.found; installed = h.installed };
        home = λ g h. o.home g i (installed-then stage g (record { replica = h.replica; found = h.found; installed = h.installed }));
        was = λ g h. (record { replica = h.replica; found = h.found; installed = h.installed }, λ key. refl);
      })

  -- ---- a replica that takes messages
  record Taking (g : RegionId) (r : Replica) : Type 0 where
    pub found : replica_of r.region s0.replicas ≡ Some r
    pub region : r.region ≡ g
    pub alive : is_lost s0.config r.region ≡ false
    pub listed : lists s0.config r.region i ≡ true

  takes : (g : RegionId) (r : Replica) → replica_for s0 g ≡ Some r → Taking g r
  takes g r z =
      let h = replica_for-is s0 g r z in
      let f = (replica-found g s0.replicas r h.found).1 in
      let found = subst (λ (x : RegionId). replica_of x s0.replicas ≡ Some r) (sym f) h.found in
      record { found = found; region = f; alive = ap (is_lost s0.config) f ∙ h.not_lost; listed = shaped.only r.region r found }

  -- ---- an update
  update : (from : Actor) (epoch : Epoch) (g : RegionId) (u : Update) (r : Replica) → Arrives e asked i from (a_message.Update epoch g u)
      → if_installed (replica_for s0 g) ≡ Some r → hears_update s0.config u (place_number r.region u.places) i from ≡ true
      → Keeping (at_slot s0 r (state_in e.script.space r u.key) (update_step (context_of e.script.space s0 r.region) (state_in e.script.space r u.key) u))
  update from epoch g u r a z t =
      let n = installed-is (replica_for s0 g) r z in
      let h = takes g r n.0 in
      let (x, place, from_is, hop_is) = heard-from from (prev_of s0.config u.places (place_number r.region u.places) i) t in
      update-served stage r h.found n.1 x u
      (subst (λ (y : RegionId). UpdateOk e.script (world e) u.key x y i u) (sym h.region)
      (subst (λ (a : Actor). Valid e.script (world e) a (Server i) (a_message.Update epoch g u)) from_is a.valid))
      place hop_is

  -- ---- an acknowledgement
  ack : (from : Actor) (epoch : Epoch) (g by : RegionId) (key : List ℕ) (v : Version) (r : Replica) (u : Update)
      → Arrives e asked i from (a_message.Ack epoch g by key v) → if_installed (replica_for s0 g) ≡ Some r
      → pending_with v.0 (state_in e.script.space r key) ≡ Some u → hears_ack s0.config u (place_number r.region u.places) i from by ≡ true
      → Keeping (at_slot s0 r (state_in e.script.space r key) (ack_step (context_of e.script.space s0 r.region) (state_in e.script.space r key) v.0))
  ack from epoch g by key v r u arrives z f t =
      let n = installed-is (replica_for s0 g) r z in
      let h = takes g r n.0 in
      let (x, place, from_is, hop_is, region) = heard-at u.places by from (next_of s0.config u.places (place_number r.region u.places) i) t in
      let a : AckOk e.script (world e) key x by r.region i v.0 = subst (λ (y : RegionId). AckOk e.script (world e) key x by y i v.0) (sym h.region)
      (subst (λ (a : Actor). Valid e.script (world e) a (Server i) (a_message.Ack epoch g by key v)) from_is arrives.valid) in
      let slot = state_in e.script.space r key in
      let seated = seated-now stage r.region (record { replica = r; found = h.found; installed = n.1 }) in
      let stands = (accepted-here seated key u
      (pending-in slot.floor slot.accepted u (in-find (λ (x : Update). eqb x.version.0 v.0) (pending_of slot) u f)).0).0 in
      let same = same_version (e.line key) u a.update (lawful-sorted e.script e.known key (e.line key) (ok key).lawful) stands a.stands
      (eqb-true u.version.0 v.0 (find-true (λ (x : Update). eqb x.version.0 v.0) (pending_of slot) u f) ∙ sym a.version) in
      ack-served stage r h.found n.1 x by key v.0 a place
      (subst (λ (y : Update). next_of s0.config y.places (place_number r.region y.places) i ≡ At x place) same hop_is)
      (subst (λ (y : Update). region_at y.places place ≡ by) same region)

  -- ---- a search
  ask : (from : Actor) (epoch : Epoch) (number : ℕ) (g : RegionId) (terms : List Term) (r : Replica)
      → Arrives e asked i from (a_message.Ask epoch number g terms) → if_installed (replica_for s0 g) ≡ Some r
      → Keeping (saying s0 (post (Server i) from (a_message.Found epoch number r.region (found_in r.region terms r.states)) ∷ []))
  ask from epoch number g terms r a z =
      let h = takes g r (installed-is (replica_for s0 g) r z).0 in
      let found = post (Server i) from (a_message.Found epoch number r.region (found_in r.region terms r.states)) in
      let here = subst (λ (x : ServerState). if_installed (replica_for x r.region) ≡ Some r) (sym stage.same)
      (subst (λ (x : RegionId). if_installed (replica_for s0 x) ≡ Some r) (sym h.region) z) in
      saying-served stage (found ∷ [])
      (each-one (λ (p : Post). Posted e asked i s0 (world e) p × NoSnap p.message) found (
        record {
          valid = tt;
          late = (terms, subst (λ (x : RegionId). asked.ask from epoch number x terms) (sym h.region) a.asks, (r, here, refl));
          says = tt;
        },
        tt,
      ))

  -- ---- a call

  -- who leads is the first member
  lead-of : (o : Option ServerId) → is_server i o ≡ true → o ≡ Some i
  lead-of None z = absurd (false≢true z)
  lead-of (Some x) z = ap Some (sym (server-same i x z))

  call : (u : SessionId) (epoch : Epoch) (number : ℕ) (op : Op) (key : List ℕ) (r : Replica) → Arrives e asked i (Session u) (a_message.Call epoch number op)
      → key_of op ≡ Some key → replica_for s0 (key_region e.script.space key) ≡ Some r → leads e.script.space s0.config i r.region ≡ true
      → Keeping (at_slot s0 r (state_in e.script.space r key)
      (call_step (context_of e.script.space s0 r.region) (state_in e.script.space r key) (record { session = u; number = number }) op))
  call u epoch number op key r a on_key z l =
      let h = takes (key_region e.script.space key) r z in
      let b = and_parts (is_key_region e.script.space r.region && not (is_lost s0.config r.region)) (is_server i (head_of s0.config r.region)) l in
      let k = and_parts (is_key_region e.script.space r.region) (not (is_lost s0.config r.region)) b.0 in
      let head = lead-of (head_of s0.config r.region) b.1 in
      let at = installed-now stage r.region
      (epochs.ready s0.config (o.own i) r.region i (head-ready s0.config (epochs.orderly s0.config (o.own i)) r.region i h.alive head)) in
      let q : Some at.replica ≡ Some r = sym at.found ∙ h.found in
      let one : at.replica ≡ r = cc in
      let s = replica-sent e.script.space s0 joinable r (replica-found r.region s0.replicas r h.found).0 key in
      call-served stage r h.found (ap (λ (x : Replica). x.installed) (sym one) ∙ at.installed) key l h.region head s.slot (s.marks ∙ k.0)
      (record { session = u; number = number }) op a.valid on_key a.asks

  -- ---- a snapshot
  snap : (from : Actor) (epoch : Epoch) (g : RegionId) (snapshot : List Kept) (pending : List Update) (r : Replica)
      → Arrives e asked i from (a_message.Snap epoch g snapshot pending) → replica_for s0 g ≡ Some r → r.installed ≡ false
      → Keeping (with_slots s0 r (installed_slots (context_of e.script.space s0 r.region) snapshot pending))
  snap from epoch g snapshot pending r a z empty =
      let h = takes g r z in
      snapped-served stage r h.found from epoch snapshot pending empty h.listed
      (subst (λ (x : RegionId). IsIn (post from (Server i) (a_message.Snap epoch x snapshot pending)) e.posts) (sym h.region) a.posted)
      (subst (λ (x : RegionId). Carries e.script.space x snapshot pending) (sym h.region) a.sends)

  -- ---- each input
  cases : (input : Input) → ((id : PostId) (from : Actor) (m : Message) → input ≡ Deliver id from m → Arrives e asked i from m)
      → ServerCases e.script.space s0 input Keeping
  cases input arrives = record {
    rests = silent-served stage [] (λ p j. absurd j);
    met = met;
    ticks = asked-last (flat_map (replica_tick e.script.space s0) s0.replicas) (tick-served stage shaped.once joinable);
    halts = λ z. halts;
    dies = λ id from z. halts;
    call = λ id u epoch number op key r z. call u epoch number op key r (arrives id (Session u) (a_message.Call epoch number op) z);
    update = λ id from epoch g u r z. update from epoch g u r (arrives id from (a_message.Update epoch g u) z);
    ack = λ id from epoch g by key v r u z. ack from epoch g by key v r u (arrives id from (a_message.Ack epoch g by key v) z);
    ask = λ id from epoch number g terms r z q t. ask from epoch number g terms r (arrives id from (a_message.Ask epoch number g terms) z) q;
    ready = λ id from epoch g snapshot pending r z q t there. silent-served stage (ready_post s0 r.region) (ready-silent s0 r.region);
    installs = λ id from epoch g snapshot pending r z q t. snap from epoch g snapshot pending r (arrives id from (a_message.Snap epoch g snapshot pending) z) q;
    adopts = λ id from config z higher. (let m = a_message.Install config in
        adopted-served stage joinable config (epochs.says (post from (Server i) m) (arrives id from m z).posted) higher);
  }

-- what each input of a server keeps
pub input-served : (e : Scene) (asked : Asked) (valid : IsSpace e.script.space) (o : Ordered (world e)) (ok : (key : List ℕ) → KeyOk e.script (world e) key)
    → EpochsKept e.Real e.servers e.known e.config e.posts → (i : ServerId) → Up e.Real e.servers i → Shaped i (e.servers i)
    → IsJoinableServer e.script.space (e.servers i) → (input : Input)
    → ((id : PostId) (from : Actor) (m : Message) → input ≡ Deliver id from m → Arrives e asked i from m)
    → let step = server_step e.script.space (e.servers i) input in Served e asked i step.state step.notes step.posts
input-served e asked valid o ok epochs i here shaped joinable input arrives =
    subst (λ (x : ServerState). let step = server_step e.script.space x input in Served e asked i step.state step.notes step.posts) (sym same)
    (server-cases e.script.space (st stage) input (λ (step : ServerStep). Served e asked i step.state step.notes step.posts)
    (cases stage epochs (subst (Shaped i) same shaped) (subst (IsJoinableServer e.script.space) same joinable) input arrives))
  where
    same : e.servers i ≡ standing (e.servers i).config i (e.servers i).replicas
    same = λ j. record { id = shaped.id j; config = (e.servers i).config; halted = here.1 j; replicas = (e.servers i).replicas }

    stage : Stage
    stage = record {
      scene = e;
      asked = asked;
      valid = valid;
      ordered = o;
      keys = ok;
      server = i;
      up = here;
      replicas = (e.servers i).replicas;
      same = same;
    }
