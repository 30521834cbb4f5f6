-- A server adopts a known configuration: it forgets acknowledgements and early updates, sends snapshots, and goes on with what is pending.
use Rattle.std.proofs.Common.{◌≡◌, ℕ, ◌<◌, ◌≤◌, inl, inr, Bool, true, false, not, ◌&&◌, List, [], ◌∷◌, ◌++◌, map, Option, None, Some, refl, sym, ap, ◌∙◌, subst}
use Rattle.std.proofs.Common.{arith, leb}
use Rattle.std.specs.List.{filter, flat_map}
use Rattle.std.proofs.lemmas.Bool.{and_parts, leb-true}
use Rattle.hx_model.specs.Types.{Config, Coordinator, Kept, Post, RegionId, Server, ServerId, Update}
use Rattle.hx_types.specs.declared.messages.Message.TheVariants as a_message
use Rattle.hx_types.specs.Words.{IsIn, post}
use Rattle.hx_types.specs.Configs.{head_of, is_lost, is_server, leads, lists_joining}
use Rattle.hx_types.specs.Spaces.{IsSpace}
use Rattle.hx_types.specs.Subspaces.{is_key_region}
use Rattle.hx_model.specs.Leading.{StuckAt, stuck_of}
use Rattle.hx_model.specs.ServerSteps.{Replica, ServerState, SlotContext, adopted, adopted_replica, doubt_in, doubts_from, is_active, leader_doubts, move_posts}
use Rattle.hx_model.specs.ServerSteps.{passed_on, replica_of, resumed, resumed_posts, state_in, with_config}
use Rattle.hx_model.specs.Slots.{Forget, KeyState, Move, moved, moved_all, pending_of, pending_of_all, snapshot_of}
use Rattle.hx_model.specs.Regions.{key_region}
use Rattle.hx_model.specs.Causes.{pending_at}
use Rattle.hx_law_lemmas.proofs.Lemmas.{Once, in-filter, in-flat_map, in-listed, in-map, in-provided, listed-in, listed-only, listed-there, mapped-found}
use Rattle.hx_law_lemmas.proofs.Lemmas.{mapped-from, pending-in, state-there}
use Rattle.hx_law_lemmas.specs.Words.{standing}
use Rattle.hx_law_folds.specs.Folding.{IsJoinableServer}
use Rattle.hx_law_epochs.specs.Epochs.{order}
use Rattle.hx_law_epochs.proofs.Lemmas.{Installed}
use Rattle.hx_law_chains.proofs.Ending.{resumed-own}
use Rattle.hx_law_chains.proofs.Forgetting.{accepted-resumed, adopting, at, done, forgotten, forgotten-joins, forgotten-pending, forgotten-snapshot}
use Rattle.hx_law_chains.proofs.Forgetting.{forgotten-state, found-done, from, kept-found, kept-joins, kept-listed, kept-once, kept-ones, kept-was, new, now-at}
use Rattle.hx_law_chains.proofs.Forgetting.{poster, slot-moved, slot-resumed}
use Rattle.hx_law_chains.proofs.Holders.{NoSnap, Up, state-here}
use Rattle.hx_law_chains.proofs.Joining.{Twin}
use Rattle.hx_law_chains.proofs.Keys.{Moved}
use Rattle.hx_law_chains.proofs.Moves.{AllAllowed}
use Rattle.hx_law_chains.proofs.Posts.{Known, Seated}
use Rattle.hx_law_chains.proofs.Renewed.{Forgets, renewed-scene, renewed-served, renewed-stays}
use Rattle.hx_law_chains.proofs.Saying.{Fine, MoveOk, OfWrite, doubt-fine, key-in, known-in, law, moves-fine, passed-fine, resumed-nosnap}
use Rattle.hx_law_chains.proofs.Sending.{Holds, sending-acts, sends, sent-twin, snap-is}
use Rattle.hx_law_chains.proofs.Serving.{Acts, Asked, Scene, Sent, Served, Stage, fine-posted, installed-then, live-now, mid, ready-silent, seated-turned}
use Rattle.hx_law_chains.proofs.Serving.{served-by, st, turned, turned-made, world}
use Rattle.hx_law_chains.proofs.SlotPosts.{each-both, each-one, each-pending, each-under}
use Rattle.hx_law_chains.proofs.Snapshots.{replica-ascends}
use Rattle.hx_law_chains.proofs.Telling.{key-place-is, pending-found, stuck-tells}
use Rattle.hx_law_chains.proofs.World.{KeyOk, Ordered, Stays, World, around}

-- a server whose slots have forgotten goes on
module _ (e : Scene) (asked : Asked) (valid : IsSpace e.script.space) (o : Ordered (world e)) (ok : (key : List ℕ) → KeyOk e.script (world e) key)
    (i : ServerId) (here : Up e.Real e.servers i) (ks : List Replica) (same : e.servers i ≡ standing (e.servers i).config i (map forgotten ks)) (once : Once ks)
    (joinable : IsJoinableServer e.script.space (standing (e.servers i).config i ks)) where
  -- its configuration
  abbrev c : Config
  c = (e.servers i).config

  -- where it begins
  abbrev stage : Stage
  stage = record { scene = e; asked = asked; valid = valid; ordered = o; keys = ok; server = i; up = here; replicas = map forgotten ks; same = same }

  -- its slots can be sent
  joins : IsJoinableServer e.script.space (st stage)
  joins = forgotten-joins e.script.space ks joinable

  -- its state after
  abbrev after : ServerState
  after = done e.script.space c i ks

  -- where its slots stand
  abbrev place : RegionId → SlotContext
  place g = at e.script.space c i ks g

  -- what is posted
  abbrev posts : List Post
  posts = new e.script.space c i ks

  -- what was installed
  abbrev installed-was : (g : RegionId) (r : Replica) → replica_of g ks ≡ Some r → r.installed ≡ true → Installed (st stage) g
  installed-was g r found installed = record { replica = forgotten r; found = mapped-found forgotten (λ r. refl) g ks r found; installed = installed }

  -- stays so
  stays : (g : RegionId) → Installed (st stage) g → Installed after g
  stays g h =
      let f = mapped-from forgotten (λ r. refl) g ks h.replica h.found in
      record {
        replica = adopted_replica e.script.space (now-at e.script.space c i ks) f.0;
        found = found-done e.script.space c i ks g f.0 f.1;
        installed = ap (λ (x : Replica). x.installed) f.2 ∙ h.installed;
      }

  -- doubts are told to the callers of what is pending
  each-doubt : (P : Post → Type 0) (at : SlotContext) (t : KeyState) (o : Option StuckAt)
      → ((x : StuckAt) → o ≡ Some x → (u : Update) → IsIn u (pending_of t) → x.version.0 ≤ u.version.0 → P (doubt_in at u.caller u.version x.region))
      → (p : Post) → IsIn p (doubts_from at t o) → P p
  each-doubt P at t None f p j = absurd j
  each-doubt P at t (Some x) f p j =
      let low = λ (u : Update). leb x.version.0 u.version.0 in
      let m = in-map (λ (u : Update). doubt_in at u.caller u.version x.region) (filter low (pending_of t)) p j in
      let k = in-filter low (pending_of t) m.0 m.1 in
      subst P (sym m.2) (f x refl m.0 k.0 (leb-true x.version.0 m.0.version.0 k.1))

  -- what goes on is no snapshot
  goes-nosnap : (h : RegionId) (t : KeyState) (p : Post) → IsIn p (resumed_posts (place h) t) → NoSnap p.message
  goes-nosnap h t =
      let t2 = moved_all (resumed (place h) t) t in
      each-both (λ p. NoSnap p.message) (flat_map (passed_on (place h)) (pending_of t) ++ flat_map (move_posts (place h)) (resumed (place h) t))
      (leader_doubts (place h) t2) (resumed-nosnap (place h) (pending_of t) (resumed (place h) t))
      (each-under (λ p. NoSnap p.message) (leads e.script.space c i h) (doubts_from (place h) t2 (stuck_of c t2))
      (each-doubt (λ p. NoSnap p.message) (place h) t2 (stuck_of c t2) (λ x z u n l. tt)))

  -- each snapshot is a twin
  twins : (key : List ℕ) (g : RegionId) (s : ServerId) (t : KeyState) → Sent stage after [] posts key g s t → Twin e.script (world e) key g s t
  twins key g s t w =
      let a = poster e.script.space c i ks once _ w.posted in
      elim a.posted [
        | inl j ↦ (let r = a.replica in let k = snap-is (now-at e.script.space c i ks) r _ j in
            sent-twin stage joins after posts stays key g s t w (forgotten r) (mapped-found forgotten (λ r. refl) r.region ks r a.found) a.installed (record {
              to = k.to;
              joiner = k.joiner;
              is = k.is
                  ∙ ap (λ (l : List Kept). post (Server i) (Server k.to) (a_message.Snap c.epoch r.region l (pending_of_all r.states)))
                  (sym (forgotten-snapshot r.region r.states))
                  ∙ ap (λ (l : List Update). post (Server i) (Server k.to)
                  (a_message.Snap c.epoch r.region (snapshot_of r.region (map (moved Forget) r.states)) l)) (sym (forgotten-pending r.states));
            }))
        | inr (inl j) ↦ (let b = in-flat_map (resumed_posts (place a.replica.region)) a.replica.states _ j in
            absurd (goes-nosnap a.replica.region b.0 _ b.2))
        | inr (inr j) ↦ absurd (ready-silent (now-at e.script.space c i ks) a.replica.region _ j)
      ]

  -- the holders once they are sent
  abbrev holds : List ℕ → RegionId → ServerId → KeyState → Type 0
  holds = Holds stage joins after posts stays twins

  -- where all stand then
  abbrev sent-now : World
  sent-now = mid stage after [] posts holds

  -- what holds there
  abbrev sent-stays : Stays e.script (world e) sent-now
  sent-stays = sends stage joins after posts stays twins

  -- the slot is held
  forgotten-held : (key : List ℕ) (g : RegionId) (r : Replica) → replica_of g ks ≡ Some r → r.installed ≡ true
      → holds key g i (moved Forget (state_in e.script.space r key))
  forgotten-held key g r found installed = subst (holds key g i) (forgotten-state e.script.space r key)
      (inl (live-now stage key g (installed-was g r found installed)))

  -- and the moves may be made
  may : (key : List ℕ) (g : RegionId) (r : Replica) → replica_of g ks ≡ Some r → r.installed ≡ true → (active : Bool)
      → AllAllowed (e.line key) g (around e.script sent-now key g i) (moved Forget (state_in e.script.space r key))
      (adopting (place g) active (moved Forget (state_in e.script.space r key)))
  may key g r found installed false = (tt, tt)
  may key g r found installed true =
      resumed-own e.script valid sent-now sent-stays.ordered key (sent-stays.keys key) g i here
      (o.home g i (installed-then stage g (installed-was g r found installed)))
      (moved Forget (state_in e.script.space r key)) (forgotten-held key g r found installed)

  -- how a slot of the server comes to be
  comes : (key : List ℕ) (g : RegionId) (r : Replica) → replica_of g ks ≡ Some r → r.installed ≡ true → r.region ≡ g
      → Moved e.script sent-now key (e.line key) g i (state_in e.script.space (adopted_replica e.script.space (now-at e.script.space c i ks) r) key)
  comes key g r found installed q =
      let t = moved Forget (state_in e.script.space r key) in
      record {
        old = t;
        held = forgotten-held key g r found installed;
        moves = adopting (place g) (is_active c r) t;
        is = slot-moved e.script.space c i ks key r ∙ ap (λ (x : RegionId). moved_all (adopting (place x) (is_active c r) t) t) q;
        allowed = may key g r found installed (is_active c r);
      }

  -- how the server acts
  abbrev acts : Acts stage after [] posts holds
  acts = sending-acts stage joins after posts stays twins refl refl
      (λ g there. let f = from e.script.space c i ks g there in o.home g i (installed-then stage g (installed-was g f.replica f.found f.installed)))
      (λ key g there. let f = from e.script.space c i ks g there in
      subst (λ (r : Replica). Moved e.script sent-now key (e.line key) g i (state_in e.script.space r key)) f.is
      (comes key g f.replica f.found f.installed f.region))

  -- where all stand after
  abbrev now : World
  now = turned stage after [] posts holds acts

  -- a post is true
  abbrev Good : Post → Type 0
  Good = Fine e.script now i after

  -- what a replica posts is true
  module _ (r : Replica) (j : IsIn r ks) (found : replica_of r.region ks ≡ Some r) (installed : r.installed ≡ true) (active : is_active c r ≡ true)
      (t : KeyState) (there : IsIn t r.states) where
    -- the slot of its key
    slot-is : state_in e.script.space r t.base.key ≡ t
    slot-is = state-there (is_key_region e.script.space r.region) r.states t (replica-ascends e.script.space (now-at e.script.space c i ks) joinable r j) there

    -- the slot after
    abbrev t2 : KeyState
    t2 = moved_all (resumed (place r.region) t) t

    -- the replica after
    abbrev at-done : Installed after r.region
    at-done = record {
      replica = adopted_replica e.script.space (now-at e.script.space c i ks) r;
      found = found-done e.script.space c i ks r.region r found;
      installed = installed;
    }

    -- and the seat
    abbrev seated : Seated
    seated = seated-turned stage after [] posts holds acts r.region at-done

    -- its slot
    slot-now : seated.seat.slot t.base.key ≡ t2
    slot-now = slot-resumed e.script.space c i ks t.base.key r active ∙ ap (λ (x : KeyState). moved_all (resumed (place r.region) x) x) slot-is

    -- what it has accepted is of the key
    of-key : (u : Update) → IsIn u t2.accepted → u.key ≡ t.base.key
    of-key u k = key-in seated t.base.key u
        (subst (λ (x : KeyState). IsIn u x.accepted) (sym slot-now) k)

    -- and known
    knows : (u : Update) → IsIn u t2.accepted → Known seated u
    knows u k = known-in seated t.base.key u
        (subst (λ (x : KeyState). IsIn u x.accepted) (sym slot-now) k)

    -- what is pending goes to the next
    passed : (p : Post) → IsIn p (flat_map (passed_on (place r.region)) (pending_of t)) → Good p
    passed = each-pending (place r.region) Good (pending_of t)
        (λ u n. passed-fine seated after u
        (knows u (subst (λ (l : List Update). IsIn u l) (sym (accepted-resumed (place r.region) t)) (pending-in t.floor t.accepted u n).0)))

    -- a move that is made
    made : (m : Move) → IsIn m (resumed (place r.region) t) → MoveOk seated m
    made = turned-made stage after [] posts holds acts r.region at-done t.base.key (record {
      old = moved Forget t;
      held = subst (λ (x : KeyState). holds t.base.key r.region i (moved Forget x)) slot-is (forgotten-held t.base.key r.region r found installed);
      moves = resumed (place r.region) t;
      is = slot-now;
      allowed = subst (λ (x : KeyState). AllAllowed (e.line t.base.key) r.region (around e.script sent-now t.base.key r.region i) (moved Forget x)
          (resumed (place r.region) (moved Forget x))) slot-is (may t.base.key r.region r found installed true);
    })

    -- what is pending of the key after the step
    after-pending : r.region ≡ key_region e.script.space t.base.key → pending_at e.script.space after t.base.key ≡ pending_of t2
    after-pending g =
        let goes = at-done.replica in
        let f = subst (λ (x : RegionId). replica_of x after.replicas ≡ Some goes) g at-done.found in
        pending-found e.script.space after t.base.key goes f ∙ ap pending_of slot-now

    -- a doubt is told by the leader, to the caller of an update that is pending
    doubts : leads e.script.space c i r.region ≡ true → (p : Post) → IsIn p (doubts_from (place r.region) t2 (stuck_of c t2)) → Good p
    doubts l = each-doubt Good (place r.region) t2 (stuck_of c t2) (λ x z u n low.
        let k = knows u (pending-in t2.floor t2.accepted u n).0 in
        let w = law seated u k in
        let b = and_parts (is_key_region e.script.space r.region && not (is_lost c r.region)) (is_server i (head_of c r.region)) l in
        let h = and_parts (is_key_region e.script.space r.region) (not (is_lost c r.region)) b.0 in
        let g = key-place-is e.script.space u.key w.0 u w.1.made r.region k.placed h.0 in
        let same_key = of-key u (pending-in t2.floor t2.accepted u n).0 in
        doubt-fine e.script now r.region i after u.caller w.1.op w.1.called w.1.writes u.version x.region
        (stuck-tells e.script i (place r.region) after t.base.key t2 x refl
        (subst (λ (y : List ℕ). leads e.script.space c i (key_region e.script.space y) ≡ true) same_key (ap (leads e.script.space c i) (sym g) ∙ l))
        (after-pending (g ∙ ap (key_region e.script.space) same_key)) z
        u.caller w.1.op w.1.called (w.1.on_key ∙ ap Some same_key) u.version (inr low)))

    -- all that goes on
    goes-on : (p : Post) → IsIn p (resumed_posts (place r.region) t) → Good p
    goes-on =
        let sent = flat_map (passed_on (place r.region)) (pending_of t) in
        let moves = flat_map (move_posts (place r.region)) (resumed (place r.region) t) in
        each-both Good (sent ++ moves) (leader_doubts (place r.region) t2)
        (each-both Good sent moves passed (moves-fine seated after (resumed (place r.region) t) made))
        (λ p m. let d = in-provided (leads e.script.space c i r.region) (doubts_from (place r.region) t2 (stuck_of c t2)) p m in doubts d.0 p d.1)

  -- what says that a replica is ready
  abbrev ready : RegionId → Post
  ready g = post (Server i) Coordinator (a_message.Ready c.epoch g)

  -- what is posted is true
  posts-fine : (p : Post) → IsIn p posts → Good p
  posts-fine p j =
      let a = poster e.script.space c i ks once p j in
      elim a.posted [
        | inl k ↦ subst Good (sym (snap-is (now-at e.script.space c i ks) a.replica p k).is) (record { valid = tt; writes = tt; says = tt })
        | inr (inl k) ↦ (let b = in-flat_map (resumed_posts (place a.replica.region)) a.replica.states p k in
            goes-on a.replica a.there a.found a.installed a.active b.0 b.1 p b.2)
        | inr (inr k) ↦ each-under Good (lists_joining c a.replica.region i) (ready a.replica.region ∷ [])
            (each-one Good (ready a.replica.region) (record { valid = tt; writes = tt; says = tt })) p k
      ]

  -- what it posts is about writes
  pub resumed-writes : (p : Post) → IsIn p posts → OfWrite e.script p.to p.message
  resumed-writes p j = (posts-fine p j).writes

  -- the step
  pub resumed-served : Served e asked i after [] posts
  resumed-served = served-by stage after [] posts holds acts (λ p j. fine-posted e asked i after now p (posts-fine p j)) (λ key. inl refl)

-- a configuration of a higher epoch is adopted
module _ (stage : Stage) (joinable : IsJoinableServer stage.scene.script.space (st stage)) (config : Config) (known : stage.scene.known config)
    (higher : (st stage).config.epoch.0 < config.epoch.0) where
  open stage use {scene as e, asked, valid, ordered as o, keys as ok, server as i, up as here, replicas as rs}

  -- the replicas that it has then
  abbrev ks : List Replica
  ks = kept-ones config i rs

  -- the server once it has forgotten
  abbrev forgets : ServerState
  forgets = standing config i (map forgotten ks)

  -- the configuration lists it wherever it is installed
  still-listed : (g : RegionId) → Installed (st stage) g → IsIn i (order config g)
  still-listed g h =
      (o.grown (e.servers i).config config (o.own i) known (omega (arith, higher))).stays g i
      ((o.grown config e.config known o.newest (o.last config known)).servers i (o.up i here)) (o.home g i (installed-then stage g h))

  -- what was installed stays so
  forgets-grows : (g : RegionId) → Installed (st stage) g → Installed forgets g
  forgets-grows g b = record {
    replica = forgotten b.replica;
    found = mapped-found forgotten (λ r. refl) g ks b.replica
        (kept-found config i rs g b.replica b.found (listed-there config g i (in-listed config g i (still-listed g b))));
    installed = b.installed;
  }

  -- nothing else is
  forgets-was : (g : RegionId) (h : Installed forgets g)
      → (b : Installed (st stage) g) × ((key : List ℕ) → state_in e.script.space h.replica key ≡ moved Forget (state_in e.script.space b.replica key))
  forgets-was g h =
      let f = mapped-from forgotten (λ r. refl) g ks h.replica h.found in
      let installed = ap (λ (x : Replica). x.installed) f.2 ∙ h.installed in (
        record { replica = f.0; found = kept-was config i rs g f.0 f.1 installed; installed = installed },
        λ key. ap (λ (r : Replica). state_in e.script.space r key) (sym f.2) ∙ forgotten-state e.script.space f.0 key,
      )

  -- the state before it goes on
  forgets-renews : Forgets stage forgets
  forgets-renews = record {
    known = known;
    later = omega (arith, higher);
    grows = forgets-grows;
    home = λ g h. (let f = mapped-from forgotten (λ r. refl) g ks h.replica h.found in
        listed-in config g i (listed-only config g i (kept-listed config i rs g f.0 f.1)));
    was = forgets-was;
  }

  -- the scene then
  abbrev scene1 : Scene
  scene1 = renewed-scene e i forgets

  -- what holds there
  abbrev stays1 : Stays e.script (world e) (world scene1)
  stays1 = renewed-stays stage forgets forgets-renews

  -- the server there
  here1 : scene1.servers i ≡ forgets
  here1 = state-here e.servers i forgets

  -- its configuration
  config1 : (scene1.servers i).config ≡ config
  config1 = ap (λ (x : ServerState). x.config) here1

  -- the step
  pub adopted-served : let step = adopted e.script.space (with_config (st stage) config) in Served e asked i step.state step.notes step.posts
  adopted-served =
      let up : Up e.Real scene1.servers i = (here.0, ap (λ (x : ServerState). x.halted) here1) in
      let parts : scene1.servers i ≡ standing (scene1.servers i).config i (map forgotten ks) =
      here1 ∙ ap (λ (x : Config). standing x i (map forgotten ks)) (sym config1) in
      let joins : IsJoinableServer e.script.space (standing (scene1.servers i).config i ks) = kept-joins config i rs e.script.space joinable in
      let both = subst (λ (x : Config). ((p : Post) → IsIn p (new e.script.space x i ks) → OfWrite e.script p.to p.message)
      × Served scene1 asked i (done e.script.space x i ks) [] (new e.script.space x i ks)) config1 (
        resumed-writes scene1 asked valid stays1.ordered stays1.keys i up ks parts (kept-once config i rs) joins,
        resumed-served scene1 asked valid stays1.ordered stays1.keys i up ks parts (kept-once config i rs) joins,
      ) in
      renewed-served stage forgets forgets-renews (done e.script.space config i ks) (new e.script.space config i ks) both.0 both.1
