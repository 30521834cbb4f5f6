-- Snapshots that a server sends: each is the twin of its replica's slots.
use Rattle.std.proofs.Common.{◌≡◌, ℕ, ◌⊎◌, inl, inr, true, false, ◌&&◌, List, [], ◌∷◌, length, Option, None, Some, refl, sym, ap, ◌∙◌, subst, cond}
use Rattle.std.specs.Option.{option_map}
use Rattle.std.proofs.lemmas.Bool.{and_parts, cond-false, cond-true, cond_both}
use Rattle.hx_model.specs.Types.{Actor, Config, Epoch, Kept, Member, Post, RegionId, Server, ServerId, Update}
use Rattle.hx_types.specs.declared.messages.Message.TheVariants as a_message
use Rattle.hx_types.specs.Words.{IsBefore, IsIn, first_of_list, post, same_server}
use Rattle.hx_types.specs.Configs.{any_ready, joiner_for, joiner_in, members_of}
use Rattle.hx_types.specs.Subspaces.{is_key_region}
use Rattle.hx_model.specs.Holders.{snap_state}
use Rattle.hx_model.specs.Neighbours.{member_after}
use Rattle.hx_model.specs.ServerSteps.{Replica, ServerState, replica_of, snap_posts, snap_to, state_in}
use Rattle.hx_model.specs.Slots.{Forget, KeyState, moved, pending_of_all, snapshot_of, state_among}
use Rattle.hx_law_lemmas.proofs.Lemmas.{Differ, after-nobody, after-order, before-in, before-trans, more_same, replica-found, server-other, servers_of}
use Rattle.hx_law_folds.specs.Folding.{IsJoinableServer, IsSlotOf, folded}
use Rattle.hx_law_epochs.specs.Epochs.{order}
use Rattle.hx_law_epochs.proofs.Lemmas.{GrownOut, Installed, Says, server-member}
use Rattle.hx_law_chains.proofs.Holders.{Up, each-server, up-before}
use Rattle.hx_law_chains.proofs.Joining.{Twin, stays_joined}
use Rattle.hx_law_chains.proofs.Keys.{Moved, below-all}
use Rattle.hx_law_chains.proofs.Serving.{Acts, Scene, Sent, Stage, installed-now, installed-then, mid, own-grown, seated-now, st, world}
use Rattle.hx_law_chains.proofs.Snapshots.{SentSlot, replica-sent}
use Rattle.hx_law_chains.proofs.World.{Ordered, Stays}

-- the joiner to which a server sends is the next member
pub joiner-next : (s x : ServerId) (ms : List Member) → Differ ms → joiner_in s ms ≡ Some x → member_after s ms ≡ Some x
joiner-next s x [] d = λ e. absurd (cc)
joiner-next s x (m ∷ rest) d =
    cond_both (any_ready rest) (joiner_in s rest) (cond (same_server m.server s && m.ready) (option_map (λ (y : Member). y.server) (first_of_list rest))
    None) (λ o. o ≡ Some x → member_after s (m ∷ rest) ≡ Some x)
    (λ t e. let n = joiner-next s x rest d.1 e in
    let i = server-member s rest (before-in s x (servers_of rest) (after-order s x rest d.1 n).0).0 in
    cond-false (same_server m.server s) _ (member_after s rest)
    (server-other m.server s (λ q. d.0 i.0 i.1 (i.2 ∙ sym q))) ∙ n)
    (λ t. cond_both (same_server m.server s && m.ready) (option_map (λ (y : Member). y.server) (first_of_list rest)) None
    (λ o. o ≡ Some x → member_after s (m ∷ rest) ≡ Some x)
    (λ u e. cond-true (same_server m.server s) (option_map (λ (y : Member). y.server) (first_of_list rest)) (member_after s rest)
    (and_parts (same_server m.server s) m.ready u).0 ∙ e)
    (λ u e. absurd (cc)))

-- a snapshot went to a member of a known configuration
pub routed : (e : Scene) → Ordered (world e) → (from : Actor) (s : ServerId) (epoch : Epoch) (g : RegionId) (snapshot : List Kept) (pending : List Update)
    → Says e.servers e.known e.config from (Server s) (a_message.Snap epoch g snapshot pending) → (d : Config) × e.known d × IsIn s (order d g)
routed e o (Server k) s epoch g snapshot pending h =
    let x = h.1 in
    let d = o.differ x.config x.known g in
    (x.config, x.known, (before-in k s (order x.config g) (after-order k s (members_of x.config g) d (joiner-next k s (members_of x.config g) d x.sender)).0).1)
routed e o other s epoch g snapshot pending h = absurd h

-- a snapshot of a replica
pub record IsSnap (c : Config) (i : ServerId) (r : Replica) (p : Post) : Type 0 where
  pub to : ServerId
  pub joiner : joiner_for c r.region i ≡ Some to
  pub is : p ≡ post (Server i) (Server to) (a_message.Snap c.epoch r.region (snapshot_of r.region r.states) (pending_of_all r.states))

-- what is posted to a joiner is one
pub snap-is : (st : ServerState) (r : Replica) (p : Post) → IsIn p (snap_posts st r) → IsSnap st.config st.id r p
snap-is st r p = by (joiner_for st.config r.region st.id) refl
  where
    by : (o : Option ServerId) → joiner_for st.config r.region st.id ≡ o → IsIn p (snap_to st r o) → IsSnap st.config st.id r p
    by None e j = absurd j
    by (Some x) e (inl q) = record { to = x; joiner = e; is = q }
    by (Some x) e (inr j) = absurd j

-- no server of a list stands before itself
not-itself : (s : ServerId) (ms : List Member) → Differ ms → IsBefore s s (servers_of ms) → ⊥
not-itself s [] d b = b
not-itself s (m ∷ rest) d (inl p) = (let y = server-member s rest p.1 in d.0 y.0 y.1 (y.2 ∙ p.0))
not-itself s (m ∷ rest) d (inr b) = not-itself s rest d.1 b

-- who stands right after another does so in each later configuration of which both are servers
pub next-stays : (c n : Config) → GrownOut c n → (g : RegionId) (i s : ServerId) → Differ (members_of c g) → Differ (members_of n g) → IsIn i n.servers
    → IsIn s n.servers
    → member_after i (members_of c g) ≡ Some s → member_after i (members_of n g) ≡ Some s
next-stays c n grown g i s dc dn ii is e = by (member_after i (members_of n g)) refl
  where
    by : (o : Option ServerId) → member_after i (members_of n g) ≡ o → member_after i (members_of n g) ≡ Some s
    by None q = absurd (after-nobody i (members_of n g) dn q s (grown.keeps_order g i s ii is (after-order i s (members_of c g) dc e).0))
    by (Some y) q =
        let first = after-order i s (members_of c g) dc e in
        let m = after-order i y (members_of n g) dn q in
        elim (m.2 s (grown.keeps_order g i s ii is first.0)) [
          | inl z ↦ q ∙ ap Some (sym z)
          | inr b ↦ (let between = grown.same_order g y s (before-in i s (order c g) first.0).1 b in
              elim (first.2 y (grown.same_order g i y (before-in y s (order c g) between).0 m.0)) [
                | inl z ↦ q ∙ ap Some z
                | inr a ↦ absurd (not-itself y (members_of c g) dc (before-trans y s y (members_of c g) dc between a))
              ])
        ]

module _ (stage : Stage) (joinable : IsJoinableServer stage.scene.script.space (st stage)) where
  open stage use {scene as e, asked, valid, ordered as o, keys as ok, server as i, up as here, same}

  -- a snapshot of an installed replica, to a replica that isn't installed, is its twin
  twin-of : (key : List ℕ) (g : RegionId) (s : ServerId) (at : Installed (st stage) g) → joiner_for (e.servers i).config g i ≡ Some s
      → (Installed (e.servers s) g → ⊥) → Up e.Real e.servers s
      → Twin e.script (world e) key g s (snap_state e.script.space g key (snapshot_of g at.replica.states) (pending_of_all at.replica.states))
  twin-of key g s at joiner empty up =
      let f = replica-found g stage.replicas at.replica at.found in
      let sent = subst (λ (h : RegionId). SentSlot e.script.space h at.replica.states key) f.1
      (replica-sent e.script.space (st stage) joinable at.replica f.0 key) in
      let own = joiner-next i s (members_of (e.servers i).config g) (o.differ (e.servers i).config (o.own i) g) joiner in
      let seat = (seated-now stage g at).seat in
      record {
        sender = i;
        old = state_in e.script.space at.replica key;
        held = seat.held key;
        only = seat.only key;
        next = next-stays (e.servers i).config e.config (own-grown stage) g i s
            (o.differ (e.servers i).config (o.own i) g) (o.differ e.config o.newest g) (o.up i here) (o.up s up) own;
        by_own = own;
        server = o.up s up;
        installed = installed-then stage g at;
        empty = empty;
        slot = subst (λ (h : RegionId). IsSlotOf g (state_among (is_key_region e.script.space h) key at.replica.states)) (sym f.1) sent.slot;
        state = sent.state ∙ ap (λ (h : RegionId). moved Forget (folded g (state_among (is_key_region e.script.space h) key at.replica.states))) (sym f.1);
      }

  -- a step that sends snapshots
  module _ (q : ServerState) (new : List Post) (grows : (g : RegionId) → Installed (st stage) g → Installed q g) where
    -- each that is of an installed replica is its twin
    pub sent-twin : (key : List ℕ) (g : RegionId) (s : ServerId) (t : KeyState) (w : Sent stage q [] new key g s t)
        (r : Replica) → replica_of r.region stage.replicas ≡ Some r → r.installed ≡ true
        → IsSnap (e.servers i).config i r (post w.from (Server s) (a_message.Snap w.epoch g w.snapshot w.pending)) → Twin e.script (world e) key g s t
    sent-twin key g s t w r found installed k =
        let m = ap (λ (p : Post). p.message) k.is in
        let to = ap (λ (p : Post). p.to) k.is in
        let x : g ≡ r.region = cc in
        let y : w.snapshot ≡ snapshot_of r.region r.states = cc in
        let z : w.pending ≡ pending_of_all r.states = cc in
        let v : s ≡ k.to = cc in
        let at : Installed (st stage) r.region = record { replica = r; found = found; installed = installed } in
        subst (Twin e.script (world e) key g s) (sym (w.is ∙ ap (λ (l : List Kept). snap_state e.script.space g key l w.pending) y
        ∙ ap (λ (l : List Update). snap_state e.script.space g key (snapshot_of r.region r.states) l) z))
        (subst (λ (h : RegionId). (Installed (e.servers s) h → ⊥)
        → Twin e.script (world e) key h s (snap_state e.script.space h key (snapshot_of r.region r.states) (pending_of_all r.states))) (sym x)
        (λ empty. twin-of key r.region s at (k.joiner ∙ ap Some (sym v)) empty (up-before e.Real e.servers i q here s w.up))
        (λ h. w.empty (each-server e.servers i q (λ x st. Installed (e.servers x) g → Installed st g) (λ k. grows g (installed-now stage g k)) (λ x k. k) s h)))

    module _ (twins : (key : List ℕ) (g : RegionId) (s : ServerId) (t : KeyState) → Sent stage q [] new key g s t → Twin e.script (world e) key g s t) where
      -- the holders once they are sent
      abbrev pub Holds : List ℕ → RegionId → ServerId → KeyState → Type 0
      Holds key g s t = (world e).holds key g s t ⊎ Sent stage q [] new key g s t

      -- what is kept then
      abbrev pub sends : Stays e.script (world e) (mid stage q [] new Holds)
      sends = stays_joined e.script valid (world e) o (Sent stage q [] new) twins ok

      -- how the server acts
      abbrev pub sending-acts : q.halted ≡ false → q.config ≡ (e.servers i).config → ((g : RegionId) → Installed q g → IsIn i (order q.config g))
          → ((key : List ℕ) (g : RegionId) (at : Installed q g)
          → Moved e.script (mid stage q [] new Holds) key (e.line key) g i (state_in e.script.space at.replica key)) → Acts stage q [] new Holds
      sending-acts running config home mine = record {
        running = running;
        config = config;
        grows = λ g h. grows g (installed-now stage g h);
        home = home;
        sends = sends;
        old = λ key g s t h. inl h;
        sent = λ key g s t h. inr h;
        keyed = λ key. record {
          number = length (e.line key);
          more = more_same (e.line key);
          lawful = (ok key).lawful;
          below = below-all e.script (mid stage q [] new Holds) key (sends.keys key);
          mine = mine key;
        };
      }
