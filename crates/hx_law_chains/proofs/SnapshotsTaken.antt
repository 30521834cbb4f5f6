-- What a joiner makes of a snapshot with its pending updates: each of its slots goes on in its
-- place with what it was sent, and it posts what it then posts of each.
use Rattle.std.proofs.Common.{◌≡◌, ℕ, ◌⊎◌, inl, inr, Bool, true, false, List, [], ◌∷◌, ◌++◌, map, refl, sym, ap, ◌∙◌, subst}
use Rattle.std.proofs.lemmas.Bool.{false≢true}
use Rattle.std.specs.List.{AllByRecursion, filter, flat_map}
use Rattle.hx_model.specs.Types.{Kept, Post, Update}
use Rattle.hx_types.specs.Words.{IsIn, same_text}
use Rattle.hx_types.specs.Subspaces.{is_key_region}
use Rattle.hx_model.proofs.Lemmas.{eq_of_same_text, same_text_self}
use Rattle.hx_model.specs.Holders.{kept_among, snap_state}
use Rattle.hx_model.specs.ServerSteps.{SlotContext, Slots, accepting, installed_slots, join_keys, keys_of, move_posts, offered_all, passed_on, resumed}
use Rattle.hx_model.specs.ServerSteps.{state_from}
use Rattle.hx_model.specs.Slots.{Forget, KeyState, kept_of, moved, moved_all, pending_of, snapshot_of, state_among}
use Rattle.hx_law_lemmas.proofs.Lemmas.{in-append}
use Rattle.hx_law_folds.specs.Folding.{CanBeSent, CanJoin, folded}
use Rattle.hx_law_folds.specs.Laws.{over}
use Rattle.hx_law_folds.proofs.Lemmas.{Once, after_join, all-weaker, among-marks, among-slot-turn, ascend-once, from-kept, installed, joining-posts, kept-sent}
use Rattle.hx_law_folds.proofs.Lemmas.{keys-ascend, other, pending-sent, sent, some}
use Rattle.hx_law_chains.proofs.Snapshots.{Carries}

-- forgetting twice is forgetting once
resumed-forget : (context : SlotContext) (s : KeyState) → moved_all (resumed context s) s ≡ moved_all (resumed context (moved Forget s)) (moved Forget s)
resumed-forget context s = refl

-- nor does what is posted change
posts-forget : (context : SlotContext) (s : KeyState) → flat_map (passed_on context) (pending_of s) ++ flat_map (move_posts context) (resumed context s)
    ≡ flat_map (passed_on context) (pending_of (moved Forget s)) ++ flat_map (move_posts context) (resumed context (moved Forget s))
posts-forget context s = refl

-- a post of a join is one of those of some key's slot as it was
join-post : (context : SlotContext) (us : List Update) (p : Post) (ks : List (List ℕ)) (slots : Slots) → Once ks → IsIn p (join_keys context us slots ks).posts
    → IsIn p slots.posts ⊎ ((key : List ℕ) × IsIn key ks
    × (let s = state_among (is_key_region context.space context.region) key slots.states in IsIn p
    (flat_map (move_posts context) (accepting context s (offered_all context.region s (some context us key key))))))
join-post context us p [] slots once i = inl i
join-post context us p (k ∷ ks) slots once i = elim (join-post context us p ks (after_join context us k slots k) once.1 i) [
  | inl j ↦ elim (in-append slots.posts _ p j) [ inl m ↦ inl m | inr m ↦ inr (k, inl refl, m) ]
  | inr j ↦ inr (
    j.0,
    inr j.1,
    subst (λ (s : KeyState). IsIn p
        (flat_map (move_posts context) (accepting context s (offered_all context.region s (some context us j.0 j.0)))))
        (other context us j.0 slots k (differs ks j.0 once.0 j.1)) j.2,
  )
]
  where
    turned : (a b : List ℕ) → same_text b a ≡ false → same_text a b ≡ false
    turned a b e = by (same_text a b) refl
      where
        by : (c : Bool) → same_text a b ≡ c → c ≡ false
        by false q = refl
        by true q = absurd (false≢true (sym e ∙ ap (same_text b) (eq_of_same_text a b q) ∙ same_text_self b))

    differs : (ks : List (List ℕ)) (key : List ℕ) → AllByRecursion (λ (y : List ℕ). same_text y k ≡ false) ks → IsIn key ks → same_text k key ≡ false
    differs [] key h m = absurd m
    differs (y ∷ ys) key h (inl e) = turned k key (ap (λ (z : List ℕ). same_text z k) e ∙ h.0)
    differs (y ∷ ys) key h (inr m) = differs ys key h.1 m

-- ---- a snapshot that carries slots which can join

module _ (context : SlotContext) (snapshot : List Kept) (pending : List Update) (c : Carries context.space context.region snapshot pending) where
  -- whether slots have marks
  abbrev at_key : Bool
  at_key = is_key_region context.space context.region

  -- the sender's slot
  abbrev there : List ℕ → KeyState
  there key = state_among at_key key c.states

  -- what can join can be sent
  can : AllByRecursion (CanBeSent context.region at_key) c.states
  can = all-weaker (CanJoin context.region at_key) (CanBeSent context.region at_key) (λ s k. k.sent) c.states c.sends.slots

  -- it is the sender's without its past
  sent-is : (key : List ℕ) → snap_state context.space context.region key snapshot pending ≡ moved Forget (folded context.region (there key))
  sent-is key =
      ap (λ (ks : List Kept). snap_state context.space context.region key ks pending) c.snapshot_is
      ∙ ap (λ (us : List Update). snap_state context.space context.region key (snapshot_of context.region c.states) us) c.pending_is
      ∙ sent context.space context.region key c.states can c.sends.differ

  -- the slot of each key after the snapshot is installed goes on with what was sent
  pub taken-state : (key : List ℕ) → state_among (is_key_region context.space context.region) key (installed_slots context snapshot pending).states
      ≡ moved_all (resumed context (snap_state context.space context.region key snapshot pending))
      (snap_state context.space context.region key snapshot pending)
  taken-state key =
      ap (λ (ks : List Kept). state_among at_key key (installed_slots context ks pending).states) c.snapshot_is
      ∙ ap (λ (us : List Update). state_among at_key key (installed_slots context (snapshot_of context.region c.states) us).states) c.pending_is
      ∙ installed context c.states c.sends.slots c.sends.differ key
      ∙ resumed-forget context (folded context.region (there key))
      ∙ ap (λ (t : KeyState). moved_all (resumed context t) t) (sym (sent-is key))

  -- what is posted of a key
  abbrev PostsOf : Post → List ℕ → Type 0
  PostsOf p key =
      let t = snap_state context.space context.region key snapshot pending in
      IsIn p (flat_map (passed_on context) (pending_of t) ++ flat_map (move_posts context) (resumed context t))

  -- the slots of the snapshot before the pending updates are taken
  abbrev first : Slots
  first = record { states = map (state_from at_key) snapshot; posts = [] }

  -- each is the sender's committed state
  first-is : (key : List ℕ) → state_among at_key key first.states ≡ over context.region (there key)
  first-is key =
      from-kept at_key key snapshot
      ∙ ap (λ (ks : List Kept). state_from at_key (kept_among key ks)) c.snapshot_is
      ∙ ap (state_from at_key) (kept-sent context.region at_key key c.states can c.sends.differ)
      ∙ ap (λ (b : Bool). state_from b (kept_of context.region (there key))) (sym (among-marks context.region at_key key c.states can))

  -- the pending updates of a key are the sender's
  some-is : (key : List ℕ) → filter (λ (u : Update). same_text u.key key) pending ≡ pending_of (there key)
  some-is key = ap (filter (λ (u : Update). same_text u.key key)) c.pending_is ∙ pending-sent context.region at_key key c.states can c.sends.differ

  -- what is posted of a key is what the sender's slot posts in the joiner's place
  key-posts : (key : List ℕ) → let s = state_among at_key key first.states in
      flat_map (move_posts context) (accepting context s (offered_all context.region s (filter (λ (u : Update). same_text u.key key) pending)))
      ≡ flat_map (passed_on context) (pending_of (snap_state context.space context.region key snapshot pending)) ++ flat_map (move_posts context)
      (resumed context (snap_state context.space context.region key snapshot pending))
  key-posts key =
      ap (λ (s : KeyState). flat_map (move_posts context)
      (accepting context s (offered_all context.region s (filter (λ (u : Update). same_text u.key key) pending)))) (first-is key)
      ∙ ap (λ (us : List Update). flat_map (move_posts context)
      (accepting context (over context.region (there key)) (offered_all context.region (over context.region (there key)) us))) (some-is key)
      ∙ joining-posts context (there key) (among-slot-turn context.region at_key key c.states c.sends.slots).0
      (among-slot-turn context.region at_key key c.states c.sends.slots).1
      ∙ posts-forget context (folded context.region (there key))
      ∙ ap (λ (t : KeyState). flat_map (passed_on context) (pending_of t) ++ flat_map (move_posts context) (resumed context t)) (sym (sent-is key))

  -- each post of the installed slots is of some key
  pub taken-posts : (p : Post) → IsIn p (installed_slots context snapshot pending).posts → (key : List ℕ) × PostsOf p key
  taken-posts p i = elim (join-post context pending p (keys_of pending) first (ascend-once (keys_of pending) (keys-ascend pending)) i) [
    | inl j ↦ absurd j
    | inr j ↦ (j.0, subst (λ (ps : List Post). IsIn p ps) (key-posts j.0) j.2)
  ]
