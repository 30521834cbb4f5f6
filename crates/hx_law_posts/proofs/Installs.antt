-- A configuration is adopted: what a server keeps, posts and makes of its slots is sound.
use Rattle.hx_law_lemmas.proofs.Lemmas.Vocabulary.{[], adopted, adopted_posts, adopted_replica, adopted_state, ap, arith, asking_last, base-moved_all, below}
use Rattle.hx_law_lemmas.proofs.Lemmas.Vocabulary.{Bool, Config, context_of, false, flat_map, Forget, inl, inr, is_active, IsIn, IsRegionOf, IsSoundPost}
use Rattle.hx_law_lemmas.proofs.Lemmas.Vocabulary.{KeyState, leader_doubts, length, List, listed_regions, lists, map, move_posts, moved_all, passed_on}
use Rattle.hx_law_lemmas.proofs.Lemmas.Vocabulary.{pending_of, pending_posts, Post, provided, ready_post, refl, RegionId, Replica, replica_of, replica_or_new}
use Rattle.hx_law_lemmas.proofs.Lemmas.Vocabulary.{replica_tick, resumed, resumed_posts, ServerId, ServerState, SlotContext, snap_posts, Space, subst, sym}
use Rattle.hx_law_lemmas.proofs.Lemmas.Vocabulary.{tail_acks, tick_step, true, with_config, ℕ, ◌++◌, ◌∷◌, ◌≡◌}
use Rattle.hx_law_lemmas.proofs.Lemmas.{each-append, each-flat, each-map, each-provided, in-below, in-filter, in-flat_map, in-map, when_some_both}
use Rattle.hx_law_lemmas.proofs.Lemmas.{AllKnownInLine as AllKnown, KnownInLine as Known, marks-known-in_line as marks-known}
use Rattle.hx_law_lemmas.proofs.Lemmas.{with_commits-known-in_line as with_commits-known, replica-found, state_key}
use Rattle.hx_law_posts.proofs.Bounds.{IsSoundConfig}
use Rattle.hx_law_posts.proofs.Moves.{resumed-rise}
use Rattle.hx_law_posts.proofs.Slots.{IsSoundSlot, held-together, pending-sound, slot-moved, together, together-sound}
use Rattle.hx_law_posts.proofs.SlotPosts.{moves-sound, update_to-sound}
use Rattle.hx_law_posts.proofs.Doubts.{leader-sound}
use Rattle.hx_law_posts.proofs.Servers.{DoesWell, IsSoundReplica, IsSoundServer, Relies, asking-sound, here, saying-good}
use Rattle.hx_law_posts.proofs.Snapshots.{map-ascends, ready-sound, snap-sound}

-- what a slot does when it goes on in another configuration is known
pub resumed-known : (context : SlotContext) (t : KeyState) → AllKnown (together [] t) (resumed context t)
resumed-known context t =
    with_commits-known (together [] t) t (Forget ∷ tail_acks context (pending_of t)) (held-together [] t)
    (λ m i. elim i [ inl e ↦ subst (Known (together [] t)) (sym e) tt | inr j ↦ marks-known (together [] t) context (pending_of t) m j ])

-- an adopted slot has the key that it had
adopted-key : (context : SlotContext) (b : Bool) (t : KeyState) → state_key (adopted_state context b t) ≡ state_key t
adopted-key context true t = ap (λ k. k.key) (base-moved_all (resumed context t) t)
adopted-key context false t = refl

module _ (space : Space) (sessions n : ℕ) (s : ServerId) (st : ServerState) (relies : Relies space sessions n s st) where
  -- a post of the entry that is sound
  abbrev IsSound : Post → Type 0
  IsSound p = IsSoundPost space sessions n p

  module _ (r : Replica) (i : IsIn r st.replicas) where
    -- the context of its slots
    abbrev context : SlotContext
    context = context_of space st r.region

    -- what is pending of a slot is passed on
    passed-sound : (t : KeyState) → IsIn t r.states → (p : Post) → IsIn p (flat_map (passed_on context) (pending_of t)) → IsSound p
    passed-sound t j p k =
        let b = in-flat_map (passed_on context) (pending_of t) p k in
        update_to-sound space sessions n context (here space sessions n s st relies r i) b.0
        (pending-sound space sessions n r.region t ((relies.sound.replicas r i).slots t j) b.0 b.1).sound p b.2

    -- what is posted of an active replica: of its snapshot, of its slots, and that it is ready
    of-all : (ps : List Post) → ((p : Post) → IsIn p ps → IsSound p) → (p : Post)
        → IsIn p (provided (is_active st.config r) (snap_posts st r ++ ps ++ ready_post st r.region)) → IsSound p
    of-all ps f = each-provided IsSound (is_active st.config r) _
        (each-append IsSound (snap_posts st r ++ ps) (ready_post st r.region)
        (each-append IsSound (snap_posts st r) ps (snap-sound space sessions n s st relies r i) f)
        (ready-sound space sessions n s st relies r i))

    -- what is sent again on a tick
    tick-sound : (p : Post) → IsIn p (replica_tick space st r) → IsSound p
    tick-sound = of-all (pending_posts context r.states)
        (each-flat IsSound (λ (t : KeyState). flat_map (passed_on context) (pending_of t)) r.states passed-sound)

    -- a slot goes on
    resumed-sound : (t : KeyState) → IsIn t r.states → IsSoundSlot space sessions n r.region (moved_all (resumed context t) t)
    resumed-sound t j =
        let h = (relies.sound.replicas r i).slots t j in
        slot-moved space sessions n r.region [] (λ u k. absurd k) t h (resumed context t) (resumed-known context t) (resumed-rise context t h.ordered)

    -- what is posted of a slot that goes on
    resumed-posts : (t : KeyState) → IsIn t r.states → (p : Post) → IsIn p (resumed_posts context t) → IsSound p
    resumed-posts t j =
        each-append IsSound (flat_map (passed_on context) (pending_of t)
        ++ flat_map (move_posts context) (resumed context t)) (leader_doubts context (moved_all (resumed context t) t))
        (
        each-append IsSound (flat_map (passed_on context) (pending_of t)) (flat_map (move_posts context) (resumed context t)) (passed-sound t j)
        (
        moves-sound space sessions n context (here space sessions n s st relies r i) (together [] t)
        (λ u x. (together-sound space sessions n r.region [] (λ v y. absurd y) t
        ((relies.sound.replicas r i).slots t j) u x).sound) (resumed context t) (resumed-known context t)
        )
        )
        (leader-sound space sessions n context (here space sessions n s st relies r i) r.region (moved_all (resumed context t) t) (resumed-sound t j))

    -- what is posted of a replica when a configuration is adopted
    adopted-posts : (p : Post) → IsIn p (adopted_posts space st r) → IsSound p
    adopted-posts = of-all (flat_map (resumed_posts context) r.states) (each-flat IsSound (resumed_posts context) r.states resumed-posts)

    -- a slot of an adopted replica
    adopted-slot : (b : Bool) (t : KeyState) → IsIn t r.states → IsSoundSlot space sessions n r.region (adopted_state context b t)
    adopted-slot true t j = resumed-sound t j
    adopted-slot false t j = let h = (relies.sound.replicas r i).slots t j in
        record {
          base = h.base;
          ordered = record { descends = h.ordered.descends; floor = h.ordered.floor };
          floor = h.floor;
          accepted = h.accepted;
          early = λ u k. absurd k;
        }

    -- an adopted replica
    adopted-sound : IsSoundReplica space sessions n (adopted_replica space st r)
    adopted-sound = record {
      region = (relies.sound.replicas r i).region;
      slots = λ t j. (let m = in-map (adopted_state context (is_active st.config r)) r.states t j in
          subst (IsSoundSlot space sessions n r.region) (sym m.2) (adopted-slot (is_active st.config r) m.0 m.1));
      ascend = map-ascends state_key state_key (adopted_state context (is_active st.config r))
          (adopted-key context (is_active st.config r)) r.states (relies.sound.replicas r i).ascend;
    }

  -- a tick
  pub tick-good : DoesWell space sessions n s (tick_step space st)
  tick-good =
      saying-good space sessions n s st relies (asking_last st (flat_map (replica_tick space st) st.replicas))
      (asking-sound space sessions n s st relies (flat_map (replica_tick space st) st.replicas)
      (each-flat IsSound (replica_tick space st) st.replicas tick-sound))

  -- the configuration of a server is adopted
  pub adopted-good : DoesWell space sessions n s (adopted space st)
  adopted-good = record {
    state = record {
      id = relies.sound.id;
      config = relies.sound.config;
      replicas = each-map (IsSoundReplica space sessions n) (adopted_replica space st) st.replicas adopted-sound;
    };
    posts = each-flat IsSound (adopted_posts space st) st.replicas adopted-posts;
  }

  -- another configuration of the space
  with_config-sound : (config : Config) → IsSoundConfig space n config → IsSoundServer space sessions n s (with_config st config)
  with_config-sound config h = record {
    id = relies.sound.id;
    config = h;
    replicas = each-map (IsSoundReplica space sessions n) (replica_or_new st.replicas) (listed_regions config st.id) (λ g i. kept-or-new g (listed g i));
  }
    where
      listed : (g : RegionId) → IsIn g (listed_regions config st.id) → IsRegionOf space g
      listed g i =
          let f = in-filter (λ (h : RegionId). lists config h st.id) (map (λ k. record { 0 = k }) (below (length config.regions))) g i in
          let m = in-map (λ k. record { 0 = k }) (below (length config.regions)) g f.0 in
          let b = in-below (length config.regions) m.0 m.1 in
          let c = h.of_space.count in
          subst (IsRegionOf space) (sym m.2) (omega (arith, b, c))

      kept-or-new : (g : RegionId) → IsRegionOf space g → IsSoundReplica space sessions n (replica_or_new st.replicas g)
      kept-or-new g region =
          when_some_both (replica_of g st.replicas) (record { region = g; installed = false; states = [] })
          (λ (r : Replica). r) (IsSoundReplica space sessions n)
          (λ e. record { region = region; slots = λ t i. absurd i; ascend = tt })
          (λ r e. relies.sound.replicas r (replica-found g st.replicas r e).0)

-- a configuration of an earlier entry
pub install-good : (space : Space) (sessions n : ℕ) (s : ServerId) (st : ServerState) → Relies space sessions n s st
    → (config : Config) → IsSoundConfig space n config → DoesWell space sessions n s (adopted space (with_config st config))
install-good space sessions n s st relies config h =
    adopted-good space sessions n s (with_config st config)
    (record { valid = relies.valid; exists = relies.exists; sound = with_config-sound space sessions n s st relies config h })
