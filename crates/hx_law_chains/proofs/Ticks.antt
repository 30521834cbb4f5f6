-- A tick of a server: what is pending is sent again, and snapshots to joiners.
use Rattle.std.proofs.Common.{◌≡◌, ℕ, ◌⊎◌, inl, inr, true, not, List, [], ◌++◌, refl, sym, subst}
use Rattle.std.specs.List.{flat_map}
use Rattle.std.proofs.lemmas.Bool.{and_parts}
use Rattle.hx_model.specs.Types.{Post, RegionId, ServerId, Update}
use Rattle.hx_types.specs.Words.{IsIn}
use Rattle.hx_types.specs.Configs.{is_lost}
use Rattle.hx_types.specs.Subspaces.{is_key_region}
use Rattle.hx_model.specs.ServerSteps.{Replica, SlotContext, is_active, passed_on, pending_posts, ready_post, replica_tick, snap_posts, state_in}
use Rattle.hx_model.specs.Slots.{KeyState, pending_of}
use Rattle.hx_law_lemmas.proofs.Lemmas.{Once, in-append, in-flat_map, in-provided, once-found, pending-in, state-there}
use Rattle.hx_law_folds.specs.Folding.{IsJoinableServer}
use Rattle.hx_law_chains.proofs.Holders.{NoSnap}
use Rattle.hx_law_chains.proofs.Joining.{Twin}
use Rattle.hx_law_chains.proofs.Saying.{known-in, passed-fine}
use Rattle.hx_law_chains.proofs.Sending.{Holds, sending-acts, sent-twin, snap-is}
use Rattle.hx_law_chains.proofs.Serving.{Acts, Posted, Sent, Served, Stage, fine-posted, installed-then, live-now, posted-at, ready-silent, seated-now}
use Rattle.hx_law_chains.proofs.Serving.{served-by, silent, st, turned, turned-still, world}
use Rattle.hx_law_chains.proofs.SlotPosts.{each-passed, each-pending}
use Rattle.hx_law_chains.proofs.Snapshots.{replica-ascends}
use Rattle.hx_law_chains.proofs.World.{context}

module _ (stage : Stage) (once : Once stage.replicas) (joinable : IsJoinableServer stage.scene.script.space (st stage)) where
  open stage use {scene as e, asked, valid, ordered as o, keys as ok, server as i, replicas as rs}

  -- what is posted
  abbrev new : List Post
  new = flat_map (replica_tick e.script.space (st stage)) rs

  -- where a replica's slots stand
  abbrev place : Replica → SlotContext
  place r = context e.script (world e) r.region i

  -- the replica that posts: it is found and installed, and what it posts is a snapshot, pending, or that it is ready
  record Poster (p : Post) : Type 0 where
    pub replica : Replica
    pub there : IsIn replica rs
    pub installed : replica.installed ≡ true
    pub posted : IsIn p (snap_posts (st stage) replica)
        ⊎ (IsIn p (pending_posts (place replica) replica.states) ⊎ IsIn p (ready_post (st stage) replica.region))

  poster : (p : Post) → IsIn p new → Poster p
  poster p j =
      let (r, there, k) = in-flat_map (replica_tick e.script.space (st stage)) rs p j in
      let (active, a) = in-provided (is_active (e.servers i).config r)
      (snap_posts (st stage) r ++ pending_posts (place r) r.states ++ ready_post (st stage) r.region) p k in
      record {
        replica = r;
        there = there;
        installed = (and_parts r.installed (not (is_lost (e.servers i).config r.region)) active).0;
        posted = elim (in-append (snap_posts (st stage) r ++ pending_posts (place r) r.states) (ready_post (st stage) r.region) p a) [
          | inl k ↦ elim (in-append (snap_posts (st stage) r) (pending_posts (place r) r.states) p k) [ inl m ↦ inl m | inr m ↦ inr (inl m) ]
          | inr k ↦ inr (inr k)
        ];
      }

  -- each pending update that is sent again
  each-sent : (P : Post → Type 0) (r : Replica) → ((t : KeyState) → IsIn t r.states → (u : Update) → IsIn u (pending_of t) → (p : Post)
      → IsIn p (passed_on (place r) u) → P p) → (p : Post) → IsIn p (pending_posts (place r) r.states) → P p
  each-sent P r f p j = (let a = in-flat_map (λ (t : KeyState). flat_map (passed_on (place r)) (pending_of t)) r.states p j in
      each-pending (place r) P (pending_of a.0) (f a.0 a.1) p a.2)

  -- each snapshot is a twin
  twins : (key : List ℕ) (g : RegionId) (s : ServerId) (t : KeyState) → Sent stage (st stage) [] new key g s t → Twin e.script (world e) key g s t
  twins key g s t w = (let a = poster _ w.posted in elim a.posted [
    | inl j ↦ sent-twin stage joinable (st stage) new (λ h k. k) key g s t w a.replica (once-found rs once a.replica a.there) a.installed
        (snap-is (st stage) a.replica _ j)
    | inr (inl j) ↦ absurd (each-sent (λ p. NoSnap p.message) a.replica
        (λ t m u n. each-passed (place a.replica) (λ p. NoSnap p.message) u (λ y n e. tt)) _ j)
    | inr (inr j) ↦ absurd (ready-silent (st stage) a.replica.region _ j)
  ])

  -- the holders once they are sent
  abbrev holds : List ℕ → RegionId → ServerId → KeyState → Type 0
  holds = Holds stage joinable (st stage) new (λ g k. k) twins

  -- how the server acts
  abbrev acts : Acts stage (st stage) [] new holds
  acts = sending-acts stage joinable (st stage) new (λ g k. k) twins refl refl (λ g h. o.home g i (installed-then stage g h))
      (λ key g at. record {
        old = state_in e.script.space at.replica key;
        held = inl (live-now stage key g at);
        moves = [];
        is = refl;
        allowed = tt;
      })

  -- what is posted is true
  fine : (p : Post) → IsIn p new → Posted e asked i (st stage) (world e) p
  fine p j = (let a = poster p j in elim a.posted [
    | inl k ↦ subst (Posted e asked i (st stage) (world e)) (sym (snap-is (st stage) a.replica p k).is) (record { valid = tt; late = tt; says = tt })
    | inr (inl k) ↦ each-sent (Posted e asked i (st stage) (world e)) a.replica (pend a.replica a.there a.installed) p k
    | inr (inr k) ↦ (silent e asked i (st stage) (world e) p.from p.to p.message (ready-silent (st stage) a.replica.region p k)).0
  ])
    where
      pend : (r : Replica) → IsIn r rs → r.installed ≡ true → (t : KeyState) → IsIn t r.states → (u : Update) → IsIn u (pending_of t) → (p : Post)
          → IsIn p (passed_on (place r) u) → Posted e asked i (st stage) (world e) p
      pend r k installed t m u n p z =
          let seated = seated-now stage r.region (record { replica = r; found = once-found rs once r k; installed = installed }) in
          let there = state-there (is_key_region e.script.space r.region) r.states t (replica-ascends e.script.space (st stage) joinable r k) m in
          fine-posted e asked i (st stage) (world e) p (passed-fine seated (st stage) u
          (known-in seated t.base.key u
          (subst (λ (y : KeyState). IsIn u y.accepted) (sym there) (pending-in t.floor t.accepted u n).0)) p z)

  -- the step
  pub tick-served : Served e asked i (st stage) [] new
  tick-served = served-by stage (st stage) [] new holds acts (λ p j. posted-at e asked i (st stage) (world e)
      (turned stage (st stage) [] new holds acts) p (turned-still stage (st stage) [] new holds acts p.from p.to p.message) (fine p j)) (λ key. inl refl)
