-- Snapshots: what a server posts to a joiner is sound, and what a joiner makes of it is too.
use Rattle.hx_law_lemmas.proofs.Lemmas.Vocabulary.{[], accepting, All-nil, and_parts, any_ready, ap, arith, Bool, cond, cond_both, context_of, Coordinator}
use Rattle.hx_law_lemmas.proofs.Lemmas.Vocabulary.{false, filter, first_of_list, has_place_in, inl, inr, installed_slots, is_key_region, IsIn, IsServerOf}
use Rattle.hx_law_lemmas.proofs.Lemmas.Vocabulary.{IsSoundKept, IsSoundPost, IsSoundUpdate, join_keys, join_slot, joiner_for, joiner_in, Kept, kept_of, KeyFits}
use Rattle.hx_law_lemmas.proofs.Lemmas.Vocabulary.{keys_ascend, keys_of, KeyState, List, list_all, lists_joining, ltb, map, Member, members_of, moved_all, None}
use Rattle.hx_law_lemmas.proofs.Lemmas.Vocabulary.{offered_all, Option, option_map, pending_of, pending_of_all, post, Post, ready_post, refl, RegionId, Replica}
use Rattle.hx_law_lemmas.proofs.Lemmas.Vocabulary.{replica_of, same_server, same_text, Server, ServerId, ServerState, SlotContext, Slots, snap_posts, snap_to}
use Rattle.hx_law_lemmas.proofs.Lemmas.Vocabulary.{snapshot_of, Some, Space, state_among, state_from, subst, sym, text_below, true, Update, with_key}
use Rattle.hx_law_lemmas.proofs.Lemmas.Vocabulary.{with_slots, ℕ, ◌&&◌, ◌++◌, ◌+◌, ◌∙◌, ◌∷◌, ◌≡◌, ◌≤◌, ◌⊎◌}
use Rattle.hx_law_lemmas.proofs.Lemmas.{each-append, each-flat, each-map, each-one, each-provided, all-of, in-filter, in-map, in_left}
use Rattle.hx_law_lemmas.proofs.Lemmas.{accepting-known-in_line as accepting-known, in-with_state, replica-found, state-from, Ascend, ascend-test, state_key}
use Rattle.hx_types.specs.declared.messages.Message.TheVariants as a_message
use Rattle.hx_law_posts.proofs.Texts.{with_state-ascends}
use Rattle.hx_law_posts.proofs.Bounds.{IsSoundAt, bounds, kept-up, received}
use Rattle.hx_law_posts.proofs.Configs.{member-server}
use Rattle.hx_law_posts.proofs.Moves.{accepting-rise, offered_all-known, offered_all-rise}
use Rattle.hx_law_posts.proofs.Slots.{IsSoundSlot, after-of, base-sound, held-together, new-sound, pending-sound, slot-moved, together, together-sound}
use Rattle.hx_law_posts.proofs.Kept.{kept_of-sound}
use Rattle.hx_law_posts.proofs.SlotPosts.{IsContext, moves-sound}
use Rattle.hx_law_posts.proofs.Servers.{DoesWell, IsSoundReplica, Relies, here, with_replica-sound}

-- ---- what a server posts

-- the server of the first of a list is a member's
first-in : (ms : List Member) (x : ServerId) → option_map (λ (y : Member). y.server) (first_of_list ms) ≡ Some x → (y : Member) × IsIn y ms × (y.server ≡ x)
first-in [] x e = absurd (cc)
first-in (y ∷ rest) x e = let q : y.server ≡ x = cc in (y, inl refl, q)

-- who joins after a server is a member
joiner-in : (s : ServerId) (ms : List Member) (x : ServerId) → joiner_in s ms ≡ Some x → (y : Member) × IsIn y ms × (y.server ≡ x)
joiner-in s [] x = λ e. absurd (cc)
joiner-in s (m ∷ rest) x =
    cond_both (any_ready rest) (joiner_in s rest) (cond (same_server m.server s && m.ready) (next rest) None)
    (λ o. o ≡ Some x → (z : Member) × IsIn z (m ∷ rest) × (z.server ≡ x))
    (λ t e. let r = joiner-in s rest x e in (r.0, inr r.1, r.2))
    (
    λ t. cond_both (same_server m.server s && m.ready) (next rest) None (λ o. o ≡ Some x → (z : Member) × IsIn z (m ∷ rest) × (z.server ≡ x))
    (λ q e. let r = first-in rest x e in (r.0, inr r.1, r.2))
    (λ q e. absurd (cc))
    )
  where
    next : List Member → Option ServerId
    next ms = option_map (λ (y : Member). y.server) (first_of_list ms)

-- what is filtered from a list that ascends by its keys ascends too
filter-ascends : {A : Type 0} (key : A → List ℕ) (test : A → Bool) (xs : List A) → Ascend key xs → Ascend key (filter test xs)
filter-ascends key test [] h = tt
filter-ascends key test (x ∷ xs) h =
    cond_both (test x) (x ∷ filter test xs) (filter test xs) (Ascend key)
    (λ t. ((λ y i. h.0 y (in-filter test xs y i).0), filter-ascends key test xs h.1))
    (λ t. filter-ascends key test xs h.1)

-- a list that is mapped and keeps its keys ascends too
pub map-ascends : {A B : Type 0} (key : A → List ℕ) (other : B → List ℕ) (f : A → B) → ((x : A) → other (f x) ≡ key x)
    → (xs : List A) → Ascend key xs → Ascend other (map f xs)
map-ascends key other f e [] h = tt
map-ascends key other f e (x ∷ xs) h = (
  λ y i. (let m = in-map f xs y i in
      ap (λ k. text_below k (other y)) (e x) ∙ ap (text_below (key x)) (ap other m.2 ∙ e m.0) ∙ h.0 m.0 m.1),
  map-ascends key other f e xs h.1,
)

-- the key of a committed state
abbrev pub kept_key : Kept → List ℕ
kept_key k = k.key

-- keys that pass the test ascend
test-ascends : (ks : List Kept) → keys_ascend (map kept_key ks) ≡ true → Ascend kept_key ks
test-ascends [] e = tt
test-ascends (k ∷ ks) e =
    let a = and_parts (list_all (text_below k.key) (map kept_key ks)) (keys_ascend (map kept_key ks)) e in
    (all ks a.0, test-ascends ks a.1)
  where
    all : (xs : List Kept) → list_all (text_below k.key) (map kept_key xs) ≡ true → (y : Kept) → IsIn y xs → text_below k.key y.key ≡ true
    all [] f y i = absurd i
    all (x ∷ xs) f y i =
        let a = and_parts (text_below k.key x.key) (list_all (text_below k.key) (map kept_key xs)) f in
        elim i [ inl q ↦ ap (λ (z : Kept). text_below k.key z.key) q ∙ a.0 | inr j ↦ all xs a.1 y j ]

module _ (space : Space) (sessions n : ℕ) (s : ServerId) (st : ServerState) (relies : Relies space sessions n s st) where
  -- a post of the entry that is sound
  abbrev IsSound : Post → Type 0
  IsSound p = IsSoundPost space sessions n p

  -- a snapshot to a joiner
  pub snap-sound : (r : Replica) → IsIn r st.replicas → (p : Post) → IsIn p (snap_posts st r) → IsSound p
  snap-sound r i p = by (joiner_for st.config r.region st.id) refl
    where
      h : IsSoundReplica space sessions n r
      h = relies.sound.replicas r i

      kept-sound : (k : Kept) → IsIn k (snapshot_of r.region r.states) → IsSoundKept (bounds space sessions n) k
      kept-sound k j =
          each-map (IsSoundKept (bounds space sessions n)) (kept_of r.region) (filter (λ (t : KeyState). ltb 0 t.floor) r.states)
          (λ t i. kept_of-sound space sessions n r.region t (h.slots t (in-filter (λ (t : KeyState). ltb 0 t.floor) r.states t i).0)) k j

      ascends : keys_ascend (map kept_key (snapshot_of r.region r.states)) ≡ true
      ascends =
          ascend-test kept_key (snapshot_of r.region r.states)
          (map-ascends state_key kept_key (kept_of r.region) (λ t. refl)
          (filter (λ (t : KeyState). ltb 0 t.floor) r.states)
          (filter-ascends state_key (λ (t : KeyState). ltb 0 t.floor) r.states h.ascend))

      pending-of : (u : Update) → IsIn u (pending_of_all r.states) → IsSoundUpdate (bounds space sessions n) u × (has_place_in r.region u.places ≡ true)
      pending-of u j =
          each-flat (λ (u : Update). IsSoundUpdate (bounds space sessions n) u × (has_place_in r.region u.places ≡ true)) pending_of r.states
          (λ t i u k. let a = pending-sound space sessions n r.region t (h.slots t i) u k in (a.sound, a.place)) u j

      by : (o : Option ServerId) → joiner_for st.config r.region st.id ≡ o → IsIn p (snap_to st r o) → IsSound p
      by None e j = absurd j
      by (Some x) e j =
          let m = joiner-in st.id (members_of st.config r.region) x e in
          let exists = subst (IsServerOf space) m.2 (member-server space st.config relies.sound.config.of_space r.region m.0 m.1) in
          each-one IsSound (post (Server st.id) (Server x)
          (a_message.Snap st.config.epoch r.region (snapshot_of r.region r.states) (pending_of_all r.states))) (record {
            from = relies.exists;
            to = exists;
            between = refl;
            message = (
              relies.sound.config.epoch,
              h.region,
              all-of (IsSoundKept (bounds space sessions n)) (snapshot_of r.region r.states) kept-sound,
              ascends,
              all-of (λ (u : Update). IsSoundUpdate (bounds space sessions n) u × (has_place_in r.region u.places ≡ true)) (pending_of_all r.states) pending-of,
            );
          }) p j

  -- a joiner is ready
  pub ready-sound : (r : Replica) → IsIn r st.replicas → (p : Post) → IsIn p (ready_post st r.region) → IsSound p
  ready-sound r i = each-provided IsSound (lists_joining st.config r.region st.id) (ready ∷ [])
      (each-one IsSound ready (record {
        from = relies.exists;
        to = tt;
        between = refl;
        message = (relies.sound.config.epoch, (relies.sound.replicas r i).region);
      }))
    where
      ready : Post
      ready = post (Server st.id) Coordinator (a_message.Ready st.config.epoch r.region)

-- ---- what a joiner makes of it

-- slots of a replica that are sound, with sound posts
record AreSoundSlots (space : Space) (sessions n : ℕ) (g : RegionId) (slots : Slots) : Type 0 where
  each : (t : KeyState) → IsIn t slots.states → IsSoundSlot space sessions n g t
  ascend : Ascend state_key slots.states
  posts : (p : Post) → IsIn p slots.posts → IsSoundPost space sessions n p

-- the keys of updates
in-with_key : (key : List ℕ) (ks : List (List ℕ)) (k : List ℕ) → IsIn k (with_key key ks) → (k ≡ key) ⊎ IsIn k ks
in-with_key key [] k = λ i. elim i [ inl e ↦ inl e | inr j ↦ absurd j ]
in-with_key key (x ∷ ks) k =
    cond_both (same_text key x) (x ∷ ks) (cond (text_below key x) (key ∷ x ∷ ks) (x ∷ with_key key ks)) (λ l. IsIn k l → (k ≡ key) ⊎ IsIn k (x ∷ ks))
    (λ a i. inr i)
    (
    λ a. cond_both (text_below key x) (key ∷ x ∷ ks) (x ∷ with_key key ks) (λ l. IsIn k l → (k ≡ key) ⊎ IsIn k (x ∷ ks))
    (λ b i. elim i [ inl e ↦ inl e | inr j ↦ inr j ])
    (λ b i. elim i [ inl e ↦ inr (inl e) | inr j ↦ elim (in-with_key key ks k j) [ inl e ↦ inl e | inr q ↦ inr (inr q) ] ])
    )

-- the keys of updates with keys that fit
keys-fit : (us : List Update) → ((u : Update) → IsIn u us → KeyFits u.key) → (k : List ℕ) → IsIn k (keys_of us) → KeyFits k
keys-fit [] f k i = absurd i
keys-fit (u ∷ us) f k i = elim (in-with_key u.key (keys_of us) k i) [
  | inl e ↦ subst KeyFits (sym e) (f u (inl refl))
  | inr j ↦ keys-fit us (λ w q. f w (inr q)) k j
]

module _ (space : Space) (sessions n : ℕ) (context : SlotContext) (at : IsContext space n context) (us : List Update)
    (f : (u : Update) → IsIn u us → IsSoundAt space sessions n context.region u) where
  -- one slot takes pending updates
  joined-sound : (ws : List Update) → ((u : Update) → IsIn u ws → IsIn u us) → (slots : Slots)
      → AreSoundSlots space sessions n context.region slots → (t : KeyState) → IsSoundSlot space sessions n context.region t
      → AreSoundSlots space sessions n context.region (join_slot context ws slots t)
  joined-sound ws w slots h t a =
      let held = held-together us t in
      let all = together-sound space sessions n context.region us f t a in
      let inside = λ (u : Update) (i : IsIn u ws). in_left us (t.accepted ++ t.early) u (w u i) in
      let known = accepting-known (together us t) context t (offered_all context.region t ws) held
      (offered_all-known (together us t) context.region t ws held inside) in
      let rise = accepting-rise context (offered_all context.region t ws) t a.ordered
      (offered_all-rise (together us t) (λ u i. after-of space sessions n context.region u (all u i)) context.region t ws held inside) in
      let moves = accepting context t (offered_all context.region t ws) in
      record {
        each = λ x i. elim (in-with_state (moved_all moves t) slots.states x i) [
          | inl e ↦ subst (IsSoundSlot space sessions n context.region) (sym e) (slot-moved space sessions n context.region us f t a moves known rise)
          | inr j ↦ h.each x j
        ];
        ascend = with_state-ascends (moved_all moves t) slots.states h.ascend;
        posts = each-append (λ (p : Post). IsSoundPost space sessions n p) slots.posts _ h.posts
            (moves-sound space sessions n context at (together us t) (λ u k. (all u k).sound) moves known);
      }

  -- each key's slot
  keys-sound : (keys : List (List ℕ)) → ((k : List ℕ) → IsIn k keys → KeyFits k) → (slots : Slots)
      → AreSoundSlots space sessions n context.region slots
      → AreSoundSlots space sessions n context.region (join_keys context us slots keys)
  keys-sound [] fit slots h = h
  keys-sound (key ∷ rest) fit slots h =
      let t = state_among (is_key_region context.space context.region) key slots.states in
      let a : IsSoundSlot space sessions n context.region t = elim (state-from (is_key_region context.space context.region) key slots.states) [
        | inl e ↦ subst (IsSoundSlot space sessions n context.region) (sym e)
            (new-sound space sessions n context.region (is_key_region context.space context.region) key (fit key (inl refl)))
        | inr i ↦ h.each t i
      ] in
      keys-sound rest (λ k i. fit k (inr i)) (join_slot context (filter (λ (u : Update). same_text u.key key) us) slots t)
      (joined-sound (filter (λ (u : Update). same_text u.key key) us) (λ u i. (in-filter (λ (w : Update). same_text w.key key) us u i).0) slots h t a)

-- a slot made of a snapshot
from-sound : (space : Space) (sessions n : ℕ) (g : RegionId) (marks : Bool) (k : Kept)
    → IsSoundKept (bounds space sessions n) k → k.floor.0 ≤ n → IsSoundSlot space sessions n g (state_from marks k)
from-sound space sessions n g true k h l = base-sound space sessions n g true k h l
from-sound space sessions n g false k h l =
    base-sound space sessions n g false (record k { marks = []; touches = [] })
    (record {
      of_space = record { key = h.of_space.key; row = h.of_space.row; marks = All-nil _; touches = All-nil _; sessions_ascend = tt; regions_ascend = tt };
      floor = h.floor;
      sessions = All-nil _;
    })
    l

-- and its key
from-key : (marks : Bool) (k : Kept) → state_key (state_from marks k) ≡ kept_key k
from-key true k = refl
from-key false k = refl

module _ (space : Space) (sessions n : ℕ) (s : ServerId) (st : ServerState) (relies : Relies space sessions n s st) where
  -- a snapshot of an earlier entry, at a replica that isn't installed
  pub snapped-good : (k : ℕ) → k + 1 ≤ n → (g : RegionId) (snapshot : List Kept) → ((x : Kept) → IsIn x snapshot → IsSoundKept (bounds space sessions k) x)
      → keys_ascend (map kept_key snapshot) ≡ true
      → (pending : List Update) → ((u : Update) → IsIn u pending → IsSoundUpdate (bounds space sessions k) u × (has_place_in g u.places ≡ true))
      → (r : Replica) → replica_of g st.replicas ≡ Some r
      → DoesWell space sessions n s (with_slots st r (installed_slots (context_of space st r.region) snapshot pending))
  snapped-good k l g snapshot kept ascends pending updates r found = record {
    state = with_replica-sound space sessions n s st relies _
        (record { region = (relies.sound.replicas r inside).region; slots = all.each; ascend = all.ascend });
    posts = each-append (λ (p : Post). IsSoundPost space sessions n p) _ (ready_post st r.region) all.posts (ready-sound space sessions n s st relies r inside);
  }
    where
      inside : IsIn r st.replicas
      inside = (replica-found g st.replicas r found).0

      may-hold : (u : Update) → IsIn u pending → IsSoundAt space sessions n r.region u
      may-hold u i = let a = updates u i in subst (λ (h : RegionId). IsSoundAt space sessions n h u)
          (sym (replica-found g st.replicas r found).1) (received space sessions k n l g u a.0 a.1)

      each : (t : KeyState) → IsIn t (map (state_from (is_key_region space r.region)) snapshot) → IsSoundSlot space sessions n r.region t
      each t i =
          let m = in-map (state_from (is_key_region space r.region)) snapshot t i in
          let a = kept m.0 m.1 in
          subst (IsSoundSlot space sessions n r.region) (sym m.2)
          (from-sound space sessions n r.region (is_key_region space r.region) m.0
          (kept-up space sessions k n (omega (arith, l)) m.0 a) (let b = a.floor in omega (arith, b, l)))

      all : AreSoundSlots space sessions n r.region (installed_slots (context_of space st r.region) snapshot pending)
      all =
          keys-sound space sessions n (context_of space st r.region) (here space sessions n s st relies r inside) pending may-hold (keys_of pending)
          (keys-fit pending (λ u i. (may-hold u i).sound.of_space.key))
          (record { states = map (state_from (is_key_region space r.region)) snapshot; posts = [] })
          (record {
            each = each;
            ascend = map-ascends kept_key state_key (state_from (is_key_region space r.region))
                (from-key (is_key_region space r.region)) snapshot (test-ascends snapshot ascends);
            posts = λ p i. absurd i;
          })
