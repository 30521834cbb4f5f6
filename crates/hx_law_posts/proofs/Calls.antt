-- Calls, updates, acknowledgements and searches: what a server does on them, in every configuration of the space.
use Rattle.hx_law_lemmas.proofs.Lemmas.Vocabulary.{[], accepting, ack_step, acknowledged, Actor, ActorExists, ap, arith, at_slot, by_moves, by_posts, call_step}
use Rattle.hx_law_lemmas.proofs.Lemmas.Vocabulary.{Caller, cond_both, context_of, decide, decided, Decision, doubt_in, Epoch, Fits, found_in, get_answer}
use Rattle.hx_law_lemmas.proofs.Lemmas.Vocabulary.{get_step, inl, inr, is_session_actor, is_write, IsIn, IsMaybeObjectOf, IsMaybeRowUpTo, IsRowOf, IsSessionOf}
use Rattle.hx_law_lemmas.proofs.Lemmas.Vocabulary.{IsSoundPost, key_region, KeyFits, KeyState, known_to, leb, List, None, object_in, object_of, offered, Op}
use Rattle.hx_law_lemmas.proofs.Lemmas.Vocabulary.{Option, post, Post, refl, RegionId, Replica, replica_of, reply, Row, saying, Server, ServerId, ServerState}
use Rattle.hx_law_lemmas.proofs.Lemmas.Vocabulary.{ServerStep, SlotStep, Some, Space, state_in, stuck_of, subst, sym, Term, top_of, true, Update, update_step}
use Rattle.hx_law_lemmas.proofs.Lemmas.Vocabulary.{waiting_doubt, write_step, ℕ, ◌+◌, ◌<◌, ◌∙◌, ◌∷◌, ◌≡◌, ◌≤◌}
use Rattle.hx_types.specs.declared.outcomes.Decision.TheVariants as a_decision
use Rattle.hx_types.specs.declared.messages.Message.TheVariants as a_message
use Rattle.hx_law_lemmas.proofs.Lemmas.{each-one, all-of, in-provided, accepting-known-in_line as accepting-known}
use Rattle.hx_law_lemmas.proofs.Lemmas.{acknowledged-known-in_line as acknowledged-known, offered-known-in_line as offered-known, replica-found, state-key}
use Rattle.hx_law_lemmas.proofs.Lemmas.{get-sound, found-row}
use Rattle.hx_law_posts.proofs.Bounds.{IsSoundAt, bounds}
use Rattle.hx_law_posts.proofs.Moves.{accepting-rise, acknowledged-rise, offered-rise}
use Rattle.hx_law_posts.proofs.Slots.{IsSoundSlot, after-of, held-together, together, top-small}
use Rattle.hx_law_posts.proofs.Kept.{object-sound}
use Rattle.hx_law_posts.proofs.SlotPosts.{ack_to-sound, reply-sound}
use Rattle.hx_law_posts.proofs.Doubts.{doubt-sound, waiting-sound}
use Rattle.hx_law_posts.proofs.Deciding.{IsSoundDecision, decide-at}
use Rattle.hx_law_posts.proofs.Servers.{DoesWell, IsSoundServer, Relies, here, moves-good, posts-good, saying-good, slot-sound}

module _ (space : Space) (sessions n : ℕ) (s : ServerId) (st : ServerState) (relies : Relies space sessions n s st) where
  -- a step that does well
  abbrev IsGood : ServerStep → Type 0
  IsGood step = DoesWell space sessions n s step

  -- a post of the entry that is sound
  abbrev IsSound : Post → Type 0
  IsSound p = IsSoundPost space sessions n p

  module _ (r : Replica) (i : IsIn r st.replicas) (t : KeyState) (h : IsSoundSlot space sessions n r.region t) where
    -- an update that may be held is accepted
    accept-good : (u : Update) → IsSoundAt space sessions n r.region u
        → IsGood (at_slot st r t (by_moves (context_of space st r.region)
        (accepting (context_of space st r.region) t (offered r.region t u))))
    accept-good u a =
        let held = held-together (u ∷ []) t in
        let known = offered-known (together (u ∷ []) t) r.region t u held (inl refl) in
        moves-good space sessions n s st relies r i (u ∷ [])
        (λ w j. elim j [ inl e ↦ subst (IsSoundAt space sessions n r.region) (sym e) a | inr k ↦ absurd k ]) t h
        (accepting (context_of space st r.region) t (offered r.region t u))
        (accepting-known (together (u ∷ []) t) (context_of space st r.region) t (offered r.region t u) held known)
        (accepting-rise (context_of space st r.region) (offered r.region t u) t h.ordered
        (offered-rise r.region t u (λ w j. after-of space sessions n r.region w (h.early w j))))

    -- a decision
    decided-good : (caller : Caller) → IsSessionOf sessions caller.session → (d : Decision)
        → IsSoundDecision space sessions n r.region t d
        → IsGood (at_slot st r t (decided (context_of space st r.region) t caller d))
    decided-good caller session a_decision.Old k = posts-good space sessions n s st relies r i t h [] (λ p j. absurd j)
    decided-good caller session (a_decision.Again v answer) k =
        posts-good space sessions n s st relies r i t h (reply (context_of space st r.region) caller v answer ∷ [])
        (each-one IsSound (reply (context_of space st r.region) caller v answer)
        (reply-sound space sessions n (context_of space st r.region)
        (here space sessions n s st relies r i) caller v answer session (let l = k.0 in omega (arith, l)) k.1))
    decided-good caller session (a_decision.Wait v) k =
        posts-good space sessions n s st relies r i t h (waiting_doubt (context_of space st r.region) caller v (stuck_of st.config t))
        (waiting-sound space sessions n (context_of space st r.region) (here space sessions n s st relies r i) r.region t h caller session v k)
    decided-good caller session (a_decision.Stuck g) k =
        posts-good space sessions n s st relies r i t h (doubt_in (context_of space st r.region) caller (record { 0 = 0 }) g ∷ [])
        (each-one IsSound (doubt_in (context_of space st r.region) caller (record { 0 = 0 }) g)
        (doubt-sound space sessions n (context_of space st r.region)
        (here space sessions n s st relies r i) caller (record { 0 = 0 }) g session (omega arith) k))
    decided-good caller session (a_decision.Assign u) k = let a = accept-good u k.0 in record { state = a.state; posts = a.posts }

    -- the object of a slot
    slot-object : (o : Option Row) → IsMaybeRowUpTo space t.floor o → IsMaybeObjectOf space (object_in o)
    slot-object None q = tt
    slot-object (Some row) q = q.0.object

    -- a get
    get-good : (caller : Caller) → IsSessionOf sessions caller.session → IsGood (at_slot st r t (get_step (context_of space st r.region) t caller))
    get-good caller session =
        let answer = get_answer (object_in (object_of r.region t)) in
        posts-good space sessions n s st relies r i t h (reply (context_of space st r.region) caller (record { 0 = t.floor }) answer ∷ [])
        (each-one IsSound (reply (context_of space st r.region) caller (record { 0 = t.floor }) answer)
        (reply-sound space sessions n (context_of space st r.region) (here space sessions n s st relies r i) caller
        (record { 0 = t.floor }) answer session (let f = h.floor in omega (arith, f))
        (get-sound (bounds space sessions n) (object_in (object_of r.region t))
        (slot-object (object_of r.region t) (object-sound space sessions n r.region t h)))))

    -- an update of an earlier entry
    update-good : (u : Update) → IsSoundAt space sessions n r.region u → IsGood (at_slot st r t (update_step (context_of space st r.region) t u))
    update-good u a =
        cond_both (leb u.version.0 (top_of t)) (by_posts (known_to (context_of space st r.region) t u))
        (by_moves (context_of space st r.region) (accepting (context_of space st r.region) t (offered r.region t u)))
        (λ (step : SlotStep). IsGood (at_slot st r t step))
        (
        λ b. posts-good space sessions n s st relies r i t h (known_to (context_of space st r.region) t u)
        (λ p j. ack_to-sound space sessions n (context_of space st r.region)
        (here space sessions n s st relies r i) u a.sound p (in-provided (leb u.version.0 t.floor) _ p j).1)
        )
        (λ b. accept-good u a)

    -- an acknowledgement
    ack-good : (v : ℕ) → IsGood (at_slot st r t (ack_step (context_of space st r.region) t v))
    ack-good v =
        moves-good space sessions n s st relies r i [] (λ w j. absurd j) t h (acknowledged t v)
        (acknowledged-known (together [] t) t v (held-together [] t)) (acknowledged-rise t v h.ordered)

  -- an update, where a replica takes it
  pub updated-good : (g : RegionId) (u : Update) → IsSoundAt space sessions n g u → (r : Replica) → replica_of g st.replicas ≡ Some r
      → IsGood (at_slot st r (state_in space r u.key) (update_step (context_of space st r.region) (state_in space r u.key) u))
  updated-good g u a r found =
      let k = replica-found g st.replicas r found in
      update-good r k.0 (state_in space r u.key) (slot-sound space sessions n r (relies.sound.replicas r k.0) u.key a.sound.of_space.key) u
      (subst (λ (h : RegionId). IsSoundAt space sessions n h u) (sym k.1) a)

  -- an acknowledgement, where a replica takes it
  pub acked-good : (g : RegionId) (key : List ℕ) → KeyFits key → (v : ℕ) (r : Replica) → replica_of g st.replicas ≡ Some r
      → IsGood (at_slot st r (state_in space r key) (ack_step (context_of space st r.region) (state_in space r key) v))
  acked-good g key fits v r found =
      let k = replica-found g st.replicas r found in
      ack-good r k.0 (state_in space r key) (slot-sound space sessions n r (relies.sound.replicas r k.0) key fits) v

  -- a row that is found
  row-good : (r : Replica) → IsIn r st.replicas → (terms : List Term) (row : Row)
      → IsIn row (found_in r.region terms r.states) → IsRowOf space row × (row.version.0 ≤ n + 1)
  row-good r i terms row j =
      let k = found-row r.region terms r.states row j in
      let h = (relies.sound.replicas r i).slots k.0 k.1 in
      let a = subst (IsMaybeRowUpTo space k.0.floor) k.2 (object-sound space sessions n r.region k.0 h) in
      (a.0, (let v = a.1 in let f = h.floor in omega (arith, v, f)))

  -- a search, where a replica takes it
  pub asked-good : (from : Actor) → ActorExists (bounds space sessions n) from → is_session_actor from ≡ true → (epoch : Epoch) → epoch.0 ≤ n + 1
      → (number : ℕ) (g : RegionId) (terms : List Term) (r : Replica) → replica_of g st.replicas ≡ Some r
      → IsGood (saying st (post (Server st.id) from (a_message.Found epoch number r.region (found_in r.region terms r.states)) ∷ []))
  asked-good from x session epoch e number g terms r found =
      let k = replica-found g st.replicas r found in
      saying-good space sessions n s st relies _
      (each-one IsSound (post (Server st.id) from (a_message.Found epoch number r.region (found_in r.region terms r.states)))
      (record {
        from = relies.exists;
        to = x;
        between = session;
        message = (
          e,
          (relies.sound.replicas r k.0).region,
          all-of (λ (row : Row). IsRowOf space row × (row.version.0 ≤ n + 1)) (found_in r.region terms r.states)
              (row-good r k.0 terms),
        );
      }))

  module _ (m : ℕ) (before : IsSoundServer space sessions m s st) (less : m < n) where
    -- a write of a key that fits
    write-good : (r : Replica) → IsIn r st.replicas → (key : List ℕ) → KeyFits key → r.region ≡ key_region space key
        → (caller : Caller) → IsSessionOf sessions caller.session → (op : Op) → Fits space op
        → IsGood (at_slot st r (state_in space r key) (write_step (context_of space st r.region) (state_in space r key) caller op))
    write-good r i key key_fits e caller session op fits =
        let t = state_in space r key in
        let h = slot-sound space sessions n r (relies.sound.replicas r i) key key_fits in
        let low = top-small space sessions m r.region t (slot-sound space sessions m r (before.replicas r i) key key_fits) in
        decided-good r i t h caller session (decide space st.config r.region t caller op)
        (decide-at space relies.valid sessions n st.config relies.sound.config r.region t
        (ap (key_region space) (state-key _ key r.states) ∙ sym e) h (omega (arith, low, less)) caller session op fits)

    -- a call at the replica that takes it
    pub called-good : (key : List ℕ) → KeyFits key → (r : Replica) → replica_of (key_region space key) st.replicas ≡ Some r
        → (caller : Caller) → IsSessionOf sessions caller.session → (op : Op) → Fits space op
        → IsGood (at_slot st r (state_in space r key) (call_step (context_of space st r.region) (state_in space r key) caller op))
    called-good key key_fits r found caller session op fits =
        let k = replica-found (key_region space key) st.replicas r found in
        cond_both (is_write op) (write_step (context_of space st r.region) (state_in space r key) caller op)
        (get_step (context_of space st r.region) (state_in space r key) caller)
        (λ (step : SlotStep). IsGood (at_slot st r (state_in space r key) step))
        (λ w. write-good r k.0 key key_fits k.1 caller session op fits)
        (λ w. get-good r k.0 (state_in space r key) (slot-sound space sessions n r (relies.sound.replicas r k.0) key key_fits) caller session)
