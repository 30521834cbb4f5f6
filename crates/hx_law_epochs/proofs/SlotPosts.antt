-- What a server posts and notes of one slot: updates and acknowledgements of its own epoch, replies.
use Rattle.hx_law_lemmas.proofs.Lemmas.Vocabulary.{[], accepting, ack_step, ack_to, Acknowledge, ap, At, Blocked, by_moves, by_posts, call_step, Caller, Commit}
use Rattle.hx_law_lemmas.proofs.Lemmas.Vocabulary.{cond_both, Config, config_noted, decide, decided, Decision, doubt_in, doubts_from, End, Epoch, filter}
use Rattle.hx_law_lemmas.proofs.Lemmas.Vocabulary.{flat_map, Forget, get_step, Hold, Hop, inl, inr, is_key_region, is_write, IsIn, join_keys, join_slot}
use Rattle.hx_law_lemmas.proofs.Lemmas.Vocabulary.{KeyState, known_to, leader_doubts, leads, leb, List, Message, Move, move_posts, moved_all, next_at, None}
use Rattle.hx_law_lemmas.proofs.Lemmas.Vocabulary.{Note, offered, offered_all, Op, Option, passed_on, pending_of, Post, prev_at, refl, resumed, resumed_posts}
use Rattle.hx_law_lemmas.proofs.Lemmas.Vocabulary.{same_text, Server, SlotContext, Slots, SlotStep, Some, state_among, stuck_of, StuckAt, subst, sym, Take}
use Rattle.hx_law_lemmas.proofs.Lemmas.Vocabulary.{told_to, Update, update_step, update_to, Version, waiting_doubt, write_step, ℕ, ⊤, ◌++◌, ◌∷◌, ◌≡◌, ◌⊎◌}
use Rattle.hx_types.specs.declared.messages.Message.TheVariants as a_message
use Rattle.hx_types.specs.declared.outcomes.Decision.TheVariants as a_decision
use Rattle.hx_types.specs.declared.traces.Note.TheVariants as a_note
use Rattle.hx_law_lemmas.proofs.Lemmas.{each-append, each-provided, in-flat_map, in-map, in-provided}

-- a message between replicas is of this epoch, and others are replies
abbrev pub SlotSays : Config → Message → Type 0
SlotSays c (a_message.Update epoch g u) = epoch ≡ c.epoch
SlotSays c (a_message.Ack epoch g by key version) = epoch ≡ c.epoch
SlotSays c (a_message.Reply number version answer) = ⊤
SlotSays c other = ⊥

-- at most one update is assigned
abbrev pub AssignsOne : List Note → Type 0
AssignsOne notes = (notes ≡ []) ⊎ ((u : Update) × (notes ≡ a_note.Assigned u ∷ []))

-- so no configuration is issued
pub assigns-none : (epoch : Epoch) (notes : List Note) → AssignsOne notes → config_noted epoch notes ≡ None
assigns-none epoch notes (inl e) = ap (config_noted epoch) e
assigns-none epoch notes (inr r) = ap (config_noted epoch) r.1

module _ (context : SlotContext) where
  -- a post of a slot
  abbrev pub OfSlot : Post → Type 0
  OfSlot p = (p.from ≡ Server context.server) × SlotSays context.config p.message

  -- one post
  one : (q : Post) → OfSlot q → (p : Post) → IsIn p (q ∷ []) → OfSlot p
  one q h p i = elim i [ inl e ↦ subst OfSlot (sym e) h | inr j ↦ absurd j ]

  -- an update to the next replica
  update-of : (u : Update) (h : Hop) (p : Post) → IsIn p (update_to context u h) → OfSlot p
  update-of u (At s place) p i = one _ (refl, refl) p i
  update-of u End p i = absurd i
  update-of u (Blocked g) p i = absurd i

  pub passed-of : (u : Update) (p : Post) → IsIn p (passed_on context u) → OfSlot p
  passed-of u p i = update-of u (next_at context u) p i

  -- an acknowledgement to the previous one
  ack-of : (u : Update) (h : Hop) (p : Post) → IsIn p (ack_to context u h) → OfSlot p
  ack-of u (At s place) p i = one _ (refl, refl) p i
  ack-of u End p i = absurd i
  ack-of u (Blocked g) p i = absurd i

  -- or a reply where there is none
  told-of : (u : Update) (h : Hop) (p : Post) → IsIn p (told_to context u h) → OfSlot p
  told-of u (At s place) p i = one _ (refl, refl) p i
  told-of u End p i = one _ (refl, tt) p i
  told-of u (Blocked g) p i = absurd i

  -- posts of a move
  pub move-of : (m : Move) (p : Post) → IsIn p (move_posts context m) → OfSlot p
  move-of (Take u) p i = passed-of u p i
  move-of (Hold u) p i = absurd i
  move-of (Acknowledge v) p i = absurd i
  move-of (Commit u) p i = told-of u (prev_at context u) p i
  move-of Forget p i = absurd i

  pub moves-of : (ms : List Move) (p : Post) → IsIn p (flat_map (move_posts context) ms) → OfSlot p
  moves-of ms p i = let r = in-flat_map (move_posts context) ms p i in move-of r.0 p r.2

  -- a doubt of a write that waits
  waiting-of : (caller : Caller) (v : Version) (o : Option StuckAt) (p : Post) → IsIn p (waiting_doubt context caller v o) → OfSlot p
  waiting-of caller v None p i = absurd i
  waiting-of caller v (Some x) p i = one (doubt_in context caller v x.region) (refl, tt) p
      (in-provided (leb x.version.0 v.0) (doubt_in context caller v x.region ∷ []) p i).1

  -- what a step of a slot posts and notes
  pub record SlotTells (step : SlotStep) : Type 0 where
    pub posts : (p : Post) → IsIn p step.posts → OfSlot p
    pub notes : AssignsOne step.notes

  -- moves alone
  pub moving : (ms : List Move) → SlotTells (by_moves context ms)
  moving ms = record { posts = moves-of ms; notes = inl refl }

  -- a call of a write, by the decision
  decided-tells : (s : KeyState) (caller : Caller) (d : Decision) → SlotTells (decided context s caller d)
  decided-tells s caller a_decision.Old = record { posts = λ p i. absurd i; notes = inl refl }
  decided-tells s caller (a_decision.Again v answer) = record { posts = one _ (refl, tt); notes = inl refl }
  decided-tells s caller (a_decision.Wait v) = record { posts = waiting-of caller v (stuck_of context.config s); notes = inl refl }
  decided-tells s caller (a_decision.Stuck g) = record { posts = one _ (refl, tt); notes = inl refl }
  decided-tells s caller (a_decision.Assign u) = record { posts = moves-of (accepting context s (offered context.region s u)); notes = inr (u, refl) }

  -- a call
  pub call-tells : (s : KeyState) (caller : Caller) (op : Op) → SlotTells (call_step context s caller op)
  call-tells s caller op =
      cond_both (is_write op) (write_step context s caller op) (get_step context s caller) SlotTells
      (λ t. decided-tells s caller (decide context.space context.config context.region s caller op))
      (λ t. record { posts = one _ (refl, tt); notes = inl refl })

  -- an update
  pub update-tells : (s : KeyState) (u : Update) → SlotTells (update_step context s u)
  update-tells s u =
      cond_both (leb u.version.0 _) (by_posts (known_to context s u)) _ SlotTells
      (λ t. record { posts = each-provided OfSlot (leb u.version.0 s.floor) _ (ack-of u (prev_at context u)); notes = inl refl })
      (λ t. moving _)

  -- an acknowledgement
  pub ack-tells : (s : KeyState) (v : ℕ) → SlotTells (ack_step context s v)
  ack-tells s v = moving _

  -- slots that take the pending updates post as slots do
  pub joined-of : (us : List Update) (keys : List (List ℕ)) (slots : Slots) → ((p : Post) → IsIn p slots.posts → OfSlot p)
      → (p : Post) → IsIn p (join_keys context us slots keys).posts → OfSlot p
  joined-of us [] slots f = f
  joined-of us (key ∷ keys) slots f =
      let mine : List Update = filter (λ (u : Update). same_text u.key key) us in
      let state : KeyState = state_among (is_key_region context.space context.region) key slots.states in
      joined-of us keys (join_slot context mine slots state)
      (each-append OfSlot slots.posts _ f (moves-of (accepting context state (offered_all context.region state mine))))

  -- what is pending is passed on
  pub pending-of : (us : List Update) (p : Post) → IsIn p (flat_map (passed_on context) us) → OfSlot p
  pending-of us p i = let r = in-flat_map (passed_on context) us p i in passed-of r.0 p r.2

  -- a leader's doubts
  doubts-of : (s : KeyState) (o : Option StuckAt) (p : Post) → IsIn p (doubts_from context s o) → OfSlot p
  doubts-of s None p i = absurd i
  doubts-of s (Some x) p i = let r = in-map (λ (u : Update). doubt_in context u.caller u.version x.region) _ p i in subst OfSlot (sym r.2) (refl, tt)

  -- a slot goes on in a new configuration
  pub resumed-of : (s : KeyState) (p : Post) → IsIn p (resumed_posts context s) → OfSlot p
  resumed-of s =
      each-append OfSlot (flat_map (passed_on context) (pending_of s)
      ++ flat_map (move_posts context) (resumed context s)) (leader_doubts context (moved_all (resumed context s) s))
      (each-append OfSlot (flat_map (passed_on context) (pending_of s))
      (flat_map (move_posts context) (resumed context s)) (pending-of (pending_of s)) (moves-of (resumed context s)))
      (each-provided OfSlot (leads context.space context.config context.server context.region) _
      (doubts-of (moved_all (resumed context s) s) (stuck_of context.config (moved_all (resumed context s) s))))
