-- Replicas: where whom they name is known, ticks, adopted configurations and snapshots make posts that name known actors alone.
use Rattle.std.proofs.Common.{ℕ, inl, inr, Bool, true, false, List, [], ◌∷◌, ◌++◌, map, Option, Some, None, sym, subst, ltb}
use Rattle.std.specs.List.{filter, flat_map}
use Rattle.hx_model.specs.Types.{Actor, Coordinator, Kept, Mark, RegionId, ServerId, Session, Space, Update}
use Rattle.hx_types.specs.Configs.{joiner_for, lists_joining}
use Rattle.hx_types.specs.Posted.{sessions_marked}
use Rattle.hx_types.specs.Subspaces.{is_key_region}
use Rattle.hx_types.specs.Words.{IsIn, same_text}
use Rattle.hx_model.specs.ServerSteps.{Replica, ServerState, Slots, SlotContext, accepting, adopted_posts}
use Rattle.hx_model.specs.ServerSteps.{installed_slots, is_active, join_keys, join_slot, keys_of, leader_doubts}
use Rattle.hx_model.specs.ServerSteps.{move_posts, offered_all, passed_on, pending_posts, ready_post, replica_tick}
use Rattle.hx_model.specs.ServerSteps.{resumed, resumed_posts, snap_posts, snap_to, context_of, state_from}
use Rattle.hx_model.specs.Slots.{KeyState, kept_of, moved_all, pending_of, pending_of_all, snapshot_of, state_among}
use Rattle.hx_law_lemmas.proofs.Lemmas.{accepting-known-in_line as accepting-known}
use Rattle.hx_law_lemmas.proofs.Lemmas.{in-append, in-filter, in-flat_map}
use Rattle.hx_law_lemmas.proofs.Lemmas.{in-map, in_left, in-with_state}
use Rattle.hx_law_posts.proofs.Lemmas.{offered_all-known, held-together, together, resumed-known}
use Rattle.hx_replica.proofs.NamedMembers.{IsMaybeKnown, KnowsMembers, joiner-known}
use Rattle.hx_replica.proofs.NamedSlots.{AreGood, KnowsCaller, KnowsSlot, among-known, both-good, each-good}
use Rattle.hx_replica.proofs.NamedSlots.{kept-known, moved-known, moves-good, none-good, one-good, pending-good}
use Rattle.hx_replica.proofs.NamedSlots.{pending-known, provided-good, together-known}
use Rattle.hx_replica.proofs.NamedSteps.{leader-good}

module _ (Known : Actor → Type 0) where
  -- whom the state of a server names is known
  pub record Knows (s : ServerState) : Type 0 where
    pub coordinator : Known Coordinator
    pub members : KnowsMembers Known s.config
    pub slots : (r : Replica) → IsIn r s.replicas → (t : KeyState) → IsIn t r.states → KnowsSlot Known t

  -- ---- what a server posts of its replicas

  module _ (space : Space) (s : ServerState) (knows : Knows s) where
    pub ready-good : (g : RegionId) → AreGood Known (ready_post s g)
    ready-good g = provided-good Known (lists_joining s.config g s.id) _ (one-good Known _ (record { to = knows.coordinator; names = λ a i. absurd i }))

    module _ (r : Replica) (i : IsIn r s.replicas) where
      abbrev context : SlotContext
      context = context_of space s r.region

      -- the actors that a snapshot to a joiner names
      snap-names : (a : Actor) → IsIn a (flat_map sessions_marked (snapshot_of r.region r.states)
          ++ map (λ (u : Update). Session u.caller.session) (pending_of_all r.states)) → Known a
      snap-names a j = elim (in-append (flat_map sessions_marked (snapshot_of r.region r.states))
          (map (λ (u : Update). Session u.caller.session) (pending_of_all r.states)) a j) [
            | inl k ↦ (let f = in-flat_map sessions_marked (snapshot_of r.region r.states) a k in
                let m = in-map (λ (m : Mark). Session m.session) f.0.marks a f.2 in
                let t = in-map (kept_of r.region) (filter (λ (t : KeyState). ltb 0 t.floor) r.states) f.0 f.1 in
                let slot = (in-filter (λ (t : KeyState). ltb 0 t.floor) r.states t.0 t.1).0 in
                subst Known (sym m.2) (kept-known Known r.region t.0 (knows.slots r i t.0 slot) m.0 (subst (λ (x : Kept). IsIn m.0 x.marks) t.2 m.1)))
            | inr k ↦ (let m = in-map (λ (u : Update). Session u.caller.session) (pending_of_all r.states) a k in
                let t = in-flat_map pending_of r.states m.0 m.1 in
                subst Known (sym m.2) (pending-known Known t.0 (knows.slots r i t.0 t.1) m.0 t.2))
          ]

      snap-good : AreGood Known (snap_posts s r)
      snap-good = by (joiner_for s.config r.region s.id) (joiner-known Known s.config knows.members r.region s.id)
        where
          by : (o : Option ServerId) → IsMaybeKnown Known o → AreGood Known (snap_to s r o)
          by None to = none-good Known
          by (Some joiner) to = one-good Known _ (record { to = to; names = snap-names })

      pub tick-good : AreGood Known (replica_tick space s r)
      tick-good =
          provided-good Known (is_active s.config r) _
          (both-good Known (snap_posts s r ++ pending_posts context r.states) (ready_post s r.region)
          (both-good Known (snap_posts s r) (pending_posts context r.states) snap-good
          (each-good Known (λ (t : KeyState). flat_map (passed_on context) (pending_of t)) r.states
          (λ t j. pending-good Known context knows.members t (knows.slots r i t j))))
          (ready-good r.region))

      resumed-good : (t : KeyState) → KnowsSlot Known t → AreGood Known (resumed_posts context t)
      resumed-good t h =
          let all = together-known Known [] (λ u j. absurd j) t h in
          both-good Known (flat_map (passed_on context) (pending_of t)
          ++ flat_map (move_posts context) (resumed context t)) (leader_doubts context (moved_all (resumed context t) t))
          (both-good Known (flat_map (passed_on context) (pending_of t))
          (flat_map (move_posts context) (resumed context t)) (pending-good Known context knows.members t h)
          (moves-good Known context knows.members (together [] t) all (resumed context t) (resumed-known context t)))
          (leader-good Known context knows.members (moved_all (resumed context t) t)
          (moved-known Known [] (λ u j. absurd j) t h (resumed context t) (resumed-known context t)))

      pub adopted-good : AreGood Known (adopted_posts space s r)
      adopted-good =
          provided-good Known (is_active s.config r) _
          (both-good Known (snap_posts s r ++ flat_map (resumed_posts context) r.states) (ready_post s r.region)
          (both-good Known (snap_posts s r) (flat_map (resumed_posts context) r.states) snap-good
          (each-good Known (resumed_posts context) r.states (λ t j. resumed-good t (knows.slots r i t j))))
          (ready-good r.region))

  -- ---- what a joiner posts of a snapshot

  record AreGoodSlots (slots : Slots) : Type 0 where
    states : (t : KeyState) → IsIn t slots.states → KnowsSlot Known t
    posts : AreGood Known slots.posts

  module _ (context : SlotContext) (members : KnowsMembers Known context.config) (us : List Update)
      (known : (u : Update) → IsIn u us → KnowsCaller Known u) where
    joined-good : (ws : List Update) → ((u : Update) → IsIn u ws → IsIn u us) → (slots : Slots) → AreGoodSlots slots
        → (t : KeyState) → KnowsSlot Known t → AreGoodSlots (join_slot context ws slots t)
    joined-good ws inside slots h t k =
        let line = together us t in
        let held = held-together us t in
        let offers = offered_all-known line context.region t ws held (λ u i. in_left us (t.accepted ++ t.early) u (inside u i)) in
        let moves = accepting context t (offered_all context.region t ws) in
        let all = accepting-known line context t (offered_all context.region t ws) held offers in
        record {
          states = λ x i. elim (in-with_state (moved_all moves t) slots.states x i) [
            | inl e ↦ subst (KnowsSlot Known) (sym e) (moved-known Known us known t k moves all)
            | inr j ↦ h.states x j
          ];
          posts = both-good Known slots.posts (flat_map (move_posts context) moves) h.posts
              (moves-good Known context members line (together-known Known us known t k) moves all);
        }

    keys-good : (keys : List (List ℕ)) (slots : Slots) → AreGoodSlots slots → AreGoodSlots (join_keys context us slots keys)
    keys-good [] slots h = h
    keys-good (key ∷ rest) slots h =
        let of_key = filter (λ (u : Update). same_text u.key key) us in
        let t = state_among (is_key_region context.space context.region) key slots.states in
        keys-good rest (join_slot context of_key slots t)
        (joined-good of_key (λ u i. (in-filter (λ (w : Update). same_text w.key key) us u i).0) slots h t
        (among-known Known (is_key_region context.space context.region) key slots.states h.states))

    from-known : (marks : Bool) (k : Kept) → ((m : Mark) → IsIn m k.marks → Known (Session m.session)) → KnowsSlot Known (state_from marks k)
    from-known true k h = record { marks = h; accepted = λ u i. absurd i; early = λ u i. absurd i }
    from-known false k h = record { marks = λ m i. absurd i; accepted = λ u i. absurd i; early = λ u i. absurd i }

    pub installed-good : (snapshot : List Kept) → ((k : Kept) → IsIn k snapshot → (m : Mark) → IsIn m k.marks
        → Known (Session m.session)) → AreGood Known (installed_slots context snapshot us).posts
    installed-good snapshot h =
        let marks = is_key_region context.space context.region in
        (keys-good (keys_of us) (record { states = map (state_from marks) snapshot; posts = [] }) (record {
          states = λ t i. (let m = in-map (state_from marks) snapshot t i in subst (KnowsSlot Known) (sym m.2) (from-known marks m.0 (h m.0 m.1)));
          posts = none-good Known;
        })).posts
