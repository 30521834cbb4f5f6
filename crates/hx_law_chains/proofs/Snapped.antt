-- A snapshot of any epoch that a server hears: a replica that isn't installed goes on with what it was sent, and becomes what the snapshot under way was.
use Rattle.std.proofs.Common.{◌≡◌, ℕ, inl, inr, true, false, List, [], ◌++◌, Some, refl, sym, ap, ◌∙◌, subst}
use Rattle.std.specs.List.{flat_map}
use Rattle.std.proofs.lemmas.Bool.{false≢true}
use Rattle.hx_model.specs.Types.{Actor, Epoch, Kept, Post, RegionId, Server, Update}
use Rattle.hx_types.specs.declared.messages.Message.TheVariants as a_message
use Rattle.hx_types.specs.Words.{IsIn, post}
use Rattle.hx_types.specs.Configs.{lists}
use Rattle.hx_model.specs.Holders.{snap_state}
use Rattle.hx_model.specs.ServerSteps.{Replica, ServerState, SlotContext, installed_slots, move_posts, passed_on, ready_post, replica_of, resumed, state_in}
use Rattle.hx_model.specs.ServerSteps.{with_replica}
use Rattle.hx_model.specs.Slots.{KeyState, moved_all, pending_of}
use Rattle.hx_law_lemmas.proofs.Lemmas.{in-append, listed-in, pending-in, replica-here, replica-other, which-region}
use Rattle.hx_law_epochs.specs.Epochs.{order}
use Rattle.hx_law_epochs.proofs.Lemmas.{Installed}
use Rattle.hx_law_chains.proofs.Ending.{resumed-own}
use Rattle.hx_law_chains.proofs.Forgetting.{accepted-resumed}
use Rattle.hx_law_chains.proofs.Holders.{NoSnap}
use Rattle.hx_law_chains.proofs.Keys.{Moved}
use Rattle.hx_law_chains.proofs.Moves.{AllAllowed}
use Rattle.hx_law_chains.proofs.Posts.{Known, Seated}
use Rattle.hx_law_chains.proofs.Saying.{Fine, known-in, moves-fine, passed-fine, resumed-nosnap}
use Rattle.hx_law_chains.proofs.Serving.{Acts, Posted, Served, Stage, fine-posted, installed-now, installed-then, itself, own-grown, quiet-acts, quiet-key}
use Rattle.hx_law_chains.proofs.Serving.{ready-silent, seated-turned, served-by, silent, st, turned, turned-made, world}
use Rattle.hx_law_chains.proofs.SlotPosts.{each-both, each-pending}
use Rattle.hx_law_chains.proofs.Snapshots.{Carries}
use Rattle.hx_law_chains.proofs.SnapshotsTaken.{taken-posts, taken-state}
use Rattle.hx_law_chains.proofs.World.{World, around, context}

module _ (stage : Stage) (r : Replica) (found : replica_of r.region stage.replicas ≡ Some r)
    (from : Actor) (epoch : Epoch) (snapshot : List Kept) (pending : List Update) where
  open stage use {scene as e, asked, valid, ordered as o, keys as ok, server as i, up as here, replicas as rs}

  -- where its slots stand
  abbrev at : SlotContext
  at = context e.script (world e) r.region i

  -- ---- a replica that isn't installed

  module _ (empty : r.installed ≡ false) (lists_it : lists (e.servers i).config r.region i ≡ true)
      (arrived : IsIn (post from (Server i) (a_message.Snap epoch r.region snapshot pending)) e.posts)
      (carries : Carries e.script.space r.region snapshot pending) where
    -- its server's configuration lists it
    home : IsIn i (order (e.servers i).config r.region)
    home = listed-in (e.servers i).config r.region i lists_it

    -- the replica after
    abbrev joined-replica : Replica
    joined-replica = record { region = r.region; installed = true; states = (installed_slots at snapshot pending).states }

    -- the server after
    abbrev q : ServerState
    q = record (st stage) { replicas = with_replica joined-replica rs }

    -- what is posted
    abbrev new : List Post
    new = (installed_slots at snapshot pending).posts ++ ready_post (st stage) r.region

    -- the slot of a key that was sent
    abbrev sent : List ℕ → KeyState
    sent key = snap_state e.script.space r.region key snapshot pending

    -- the replica wasn't installed
    not-installed : Installed (e.servers i) r.region → ⊥
    not-installed h =
        let k = installed-now stage r.region h in
        let z : Some k.replica ≡ Some r = sym k.found ∙ found in
        let y : k.replica ≡ r = cc in
        false≢true (sym empty ∙ ap (λ (x : Replica). x.installed) (sym y) ∙ k.installed)

    -- what was under way is a holder
    under-way-here : (key : List ℕ) → (world e).holds key r.region i (sent key)
    under-way-here key = inr (record {
      up = here;
      listed = (own-grown stage).stays r.region i (o.up i here) home;
      empty = not-installed;
      from = from;
      epoch = epoch;
      snapshot = snapshot;
      pending = pending;
      posted = arrived;
      is = refl;
    })

    -- no snapshot is sent
    nosnap : (p : Post) → IsIn p new → NoSnap p.message
    nosnap p j = elim (in-append (installed_slots at snapshot pending).posts (ready_post (st stage) r.region) p j) [
      | inl k ↦ (let a = taken-posts at snapshot pending carries p k in resumed-nosnap at (pending_of (sent a.0)) (resumed at (sent a.0)) p a.1)
      | inr k ↦ (silent e asked i q (world e) p.from p.to p.message (ready-silent (st stage) r.region p k)).1
    ]

    -- the slot that was sent may go on
    allowed : (key : List ℕ) → AllAllowed (e.line key) r.region (around e.script (world e) key r.region i) (sent key) (resumed at (sent key))
    allowed key = resumed-own e.script valid (world e) o key (ok key) r.region i here home (sent key) (under-way-here key)

    -- the replica is installed after
    abbrev at-after : Installed q r.region
    at-after = record { replica = joined-replica; found = replica-here r.region joined-replica rs r refl found; installed = refl }

    -- its slot of a key
    slot-after : (key : List ℕ) → state_in e.script.space joined-replica key ≡ moved_all (resumed at (sent key)) (sent key)
    slot-after key = taken-state at snapshot pending carries key

    -- it comes from what was under way
    abbrev joiner-moved : (key : List ℕ) → Moved e.script (world e) key (e.line key) r.region i (state_in e.script.space joined-replica key)
    joiner-moved key =
        record { old = sent key; held = under-way-here key; moves = resumed at (sent key); is = slot-after key; allowed = allowed key }

    -- the replica of another region was installed
    abbrev was : (g : RegionId) (k : Installed q g) → (r.region ≡ g → ⊥) → Installed (st stage) g
    was g k d = record { replica = k.replica; found = sym (replica-other g joined-replica rs d) ∙ k.found; installed = k.installed }

    -- how each slot of the server comes to be
    mine : (key : List ℕ) (g : RegionId) (k : Installed q g) → Moved e.script (world e) key (e.line key) g i (state_in e.script.space k.replica key)
    mine key g k = elim (which-region r.region g) [
      | inl z ↦ (let f = subst (λ (x : RegionId). replica_of x rs ≡ Some r) z found in
          let a : Some k.replica ≡ Some joined-replica = sym k.found ∙ replica-here g joined-replica rs r z f in
          let b : k.replica ≡ joined-replica = cc in
          subst (λ (x : Replica). Moved e.script (world e) key (e.line key) g i (state_in e.script.space x key)) (sym b)
          (subst (λ (x : RegionId). Moved e.script (world e) key (e.line key) x i (state_in e.script.space joined-replica key)) z (joiner-moved key)))
      | inr d ↦ itself stage key (e.line key) g (was g k d)
    ]

    -- what was installed stays so
    grows : (g : RegionId) → Installed (st stage) g → Installed q g
    grows g k = elim (which-region r.region g) [
      | inl z ↦ subst (Installed q) z at-after
      | inr d ↦ record { replica = k.replica; found = replica-other g joined-replica rs d ∙ k.found; installed = k.installed }
    ]

    -- its server's configuration lists what is installed
    homes : (g : RegionId) → Installed q g → IsIn i (order q.config g)
    homes g k = elim (which-region r.region g) [
      | inl z ↦ subst (λ (x : RegionId). IsIn i (order (e.servers i).config x)) z home
      | inr d ↦ o.home g i (installed-then stage g (was g k d))
    ]

    -- how the server acts
    abbrev acts : Acts stage q [] new (world e).holds
    acts = quiet-acts stage q [] new nosnap refl refl grows homes (λ key. quiet-key stage q [] new nosnap key refl (mine key))

    -- where all stand after
    abbrev now : World
    now = turned stage q [] new (world e).holds acts

    -- the replica is a seat there
    abbrev seated : Seated
    seated = seated-turned stage q [] new (world e).holds acts r.region at-after

    -- what was pending is known after
    known : (key : List ℕ) (u : Update) → IsIn u (pending_of (sent key)) → Known seated u
    known key u j = known-in seated key u
        (subst (λ (x : KeyState). IsIn u x.accepted) (sym (slot-after key))
        (subst (λ (us : List Update). IsIn u us) (sym (accepted-resumed at (sent key))) (pending-in (sent key).floor (sent key).accepted u j).0))

    -- each post is true
    fine : (p : Post) → IsIn p new → Posted e asked i q now p
    fine p j = elim (in-append (installed_slots at snapshot pending).posts (ready_post (st stage) r.region) p j) [
      | inl k ↦ (let a = taken-posts at snapshot pending carries p k in fine-posted e asked i q now p (slot-fine a.0 p a.1))
      | inr k ↦ (silent e asked i q now p.from p.to p.message (ready-silent (st stage) r.region p k)).0
    ]
      where
        slot-fine : (key : List ℕ) (p : Post)
            → IsIn p (flat_map (passed_on at) (pending_of (sent key)) ++ flat_map (move_posts at) (resumed at (sent key))) → Fine e.script now i q p
        slot-fine key = each-both (Fine e.script now i q) (flat_map (passed_on at) (pending_of (sent key)))
            (flat_map (move_posts at) (resumed at (sent key)))
            (each-pending at (Fine e.script now i q) (pending_of (sent key))
            (λ u m. passed-fine seated q u (known key u m)))
            (moves-fine seated q (resumed at (sent key))
            (turned-made stage q [] new (world e).holds acts r.region at-after key (joiner-moved key)))

    -- what the step keeps
    pub snapped-served : Served e asked i q [] new
    snapped-served = served-by stage q [] new (world e).holds acts fine (λ key. inl refl)
