-- The states of a server that adopts a configuration: its slots forget acknowledgements and early updates, and then each goes on.
use Rattle.std.proofs.Common.{◌≡◌, ℕ, ◌⊎◌, inl, inr, Bool, true, false, not, List, [], ◌∷◌, ◌++◌, map, Option, None, Some, refl, sym, ap, ◌∙◌, cond, eqb, ltb}
use Rattle.std.specs.List.{AllByRecursion, filter, flat_map, list_any}
use Rattle.std.proofs.lemmas.Bool.{and_parts, cond-false, cond-true, cond_both, false≢true}
use Rattle.hx_model.specs.Types.{Config, Kept, Post, RegionId, ServerId, Space, Update}
use Rattle.hx_types.specs.Words.{IsIn, provided, same_text, text_below, when_some}
use Rattle.hx_types.specs.Configs.{is_lost}
use Rattle.hx_types.specs.Subspaces.{is_key_region}
use Rattle.hx_model.proofs.Lemmas.{base-moved_all}
use Rattle.hx_model.specs.Neighbours.{is_end}
use Rattle.hx_model.specs.ServerSteps.{Replica, ServerState, SlotContext, adopted_posts, adopted_replica, adopted_state, context_of, is_active, listed_regions}
use Rattle.hx_model.specs.ServerSteps.{next_at, ready_post, replica_of, replica_or_new, resumed, resumed_posts, snap_posts, state_in, tail_acks}
use Rattle.hx_model.specs.Slots.{Acknowledge, Commit, Forget, Hold, KeyState, Move, Take, commits, kept_of, moved, moved_all, new_state, pending_of}
use Rattle.hx_model.specs.Slots.{pending_of_all, settled, snapshot_of, state_among, taken}
use Rattle.hx_law_lemmas.proofs.Lemmas.{Once, in-append, in-flat_map, in-provided, listed-apart, made-found, made-in, made-once, mapped-found, mapped-from}
use Rattle.hx_law_lemmas.proofs.Lemmas.{once-found, replica-found, when_some_both}
use Rattle.hx_law_lemmas.specs.Words.{standing}
use Rattle.hx_law_folds.specs.Folding.{IsJoinable, IsJoinableReplica, KeysAscend}
use Rattle.hx_law_epochs.proofs.Lemmas.{Installed}
use Rattle.hx_law_chains.proofs.Snapshots.{each-of}

-- ---- slots

-- what keeps the bases of slots keeps which one is found
states-mapped : (marks : Bool) (key : List ℕ) (f : KeyState → KeyState) → ((t : KeyState) → (f t).base ≡ t.base) → f (new_state marks key) ≡ new_state marks key
    → (states : List KeyState) → state_among marks key (map f states) ≡ f (state_among marks key states)
states-mapped marks key f same new [] = sym new
states-mapped marks key f same new (t ∷ rest) =
    let others = state_among marks key (map f rest) in
    ap (λ k. cond (same_text k key) (f t) others) (ap (λ b. b.key) (same t))
    ∙ cond_both (same_text t.base.key key) t (state_among marks key rest) (λ y. cond (same_text t.base.key key) (f t) others ≡ f y)
    (λ e. cond-true (same_text t.base.key key) (f t) others e)
    (λ e. cond-false (same_text t.base.key key) (f t) others e ∙ states-mapped marks key f same new rest)

-- what goes on accepts nothing
accepted-moves : (ms : List Move) (t : KeyState) → taken ms ≡ [] → (moved_all ms t).accepted ≡ t.accepted
accepted-moves [] t e = refl
accepted-moves (Take u ∷ ms) t e = absurd (cc)
accepted-moves (Hold u ∷ ms) t e = accepted-moves ms (moved (Hold u) t) e
accepted-moves (Acknowledge v ∷ ms) t e = accepted-moves ms (moved (Acknowledge v) t) e
accepted-moves (Commit u ∷ ms) t e = accepted-moves ms (moved (Commit u) t) e
accepted-moves (Forget ∷ ms) t e = accepted-moves ms (moved Forget t) e

-- nor do two such lists
taken-append : (ms ns : List Move) → taken ms ≡ [] → taken ns ≡ [] → taken (ms ++ ns) ≡ []
taken-append [] ns a b = b
taken-append (Take u ∷ ms) ns a b = absurd (cc)
taken-append (Hold u ∷ ms) ns a b = taken-append ms ns a b
taken-append (Acknowledge v ∷ ms) ns a b = taken-append ms ns a b
taken-append (Commit u ∷ ms) ns a b = taken-append ms ns a b
taken-append (Forget ∷ ms) ns a b = taken-append ms ns a b

-- commits accept nothing
taken-commits : (marks : List ℕ) (us : List Update) → taken (commits marks us) ≡ []
taken-commits marks [] = refl
taken-commits marks (u ∷ us) = by (list_any (λ v. eqb v u.version.0) marks) (taken-commits marks us)
  where
    by : (b : Bool) → taken (commits marks us) ≡ [] → taken (provided b (Commit u ∷ commits marks us)) ≡ []
    by true e = e
    by false e = refl

-- nor do acknowledgements
taken-marks : (us : List Update) → taken (map (λ (u : Update). Acknowledge u.version.0) us) ≡ []
taken-marks [] = refl
taken-marks (u ∷ us) = taken-marks us

-- so a slot that goes on has accepted what it had
pub accepted-resumed : (at : SlotContext) (t : KeyState) → (moved_all (resumed at t) t).accepted ≡ t.accepted
accepted-resumed at t =
    let marks = Forget ∷ tail_acks at (pending_of t) in
    accepted-moves (resumed at t) t
    (taken-append marks (settled (moved_all marks t)) (taken-marks (filter (λ (u : Update). is_end (next_at at u)) (pending_of t)))
    (taken-commits (moved_all marks t).acked (pending_of (moved_all marks t))))

-- the base of a slot stays
adopted-base : (at : SlotContext) (active : Bool) (t : KeyState) → (adopted_state at active t).base ≡ t.base
adopted-base at true t = base-moved_all (resumed at t) t
adopted-base at false t = refl

-- an empty slot stays empty
adopted-new : (at : SlotContext) (active : Bool) (marks : Bool) (key : List ℕ) → adopted_state at active (new_state marks key) ≡ new_state marks key
adopted-new at true marks key = refl
adopted-new at false marks key = refl

-- how a slot goes on
abbrev pub adopting : SlotContext → Bool → KeyState → List Move
adopting at active t = cond active (resumed at t) (Forget ∷ [])

-- it doesn't matter if it has forgotten before
adopted-moves : (at : SlotContext) (active : Bool) (t : KeyState)
    → adopted_state at active t ≡ moved_all (adopting at active (moved Forget t)) (moved Forget t)
adopted-moves at true t = refl
adopted-moves at false t = refl

-- ---- a replica that has forgotten

abbrev pub forgotten : Replica → Replica
forgotten r = record r { states = map (moved Forget) r.states }

-- its slots
pub forgotten-state : (space : Space) (r : Replica) (key : List ℕ) → state_in space (forgotten r) key ≡ moved Forget (state_in space r key)
forgotten-state space r key = states-mapped (is_key_region space r.region) key (moved Forget) (λ t. refl) refl r.states

-- its snapshot is the same
pub forgotten-snapshot : (g : RegionId) (states : List KeyState) → snapshot_of g (map (moved Forget) states) ≡ snapshot_of g states
forgotten-snapshot g [] = refl
forgotten-snapshot g (t ∷ rest) =
    let some = λ (l : List KeyState). filter (λ (x : KeyState). ltb 0 x.floor) l in
    let forgets = some (map (moved Forget) rest) in
    let h = forgotten-snapshot g rest in
    cond_both (ltb 0 t.floor) (t ∷ some rest) (some rest)
    (λ (l : List KeyState). map (kept_of g) (cond (ltb 0 t.floor) (moved Forget t ∷ forgets) forgets) ≡ map (kept_of g) l)
    (λ e. ap (map (kept_of g)) (cond-true (ltb 0 t.floor) (moved Forget t ∷ forgets) forgets e) ∙ ap (λ (l : List Kept). kept_of g t ∷ l) h)
    (λ e. ap (map (kept_of g)) (cond-false (ltb 0 t.floor) (moved Forget t ∷ forgets) forgets e) ∙ h)

-- and so are its pending updates
pub forgotten-pending : (states : List KeyState) → pending_of_all (map (moved Forget) states) ≡ pending_of_all states
forgotten-pending [] = refl
forgotten-pending (t ∷ rest) = ap (λ (l : List Update). pending_of t ++ l) (forgotten-pending rest)

-- a slot that can be sent can be sent still
forgotten-slots : (g : RegionId) (b : Bool) (states : List KeyState) → AllByRecursion (IsJoinable g b) states
    → AllByRecursion (IsJoinable g b) (map (moved Forget) states)
forgotten-slots g b [] h = tt
forgotten-slots g b (t ∷ rest) h = (
  record {
    slot = record { descends = h.0.slot.descends; floor = h.0.slot.floor; early = tt };
    turns = h.0.turns;
    marks = h.0.marks;
    keys = h.0.keys;
    early_keys = tt;
    empty = h.0.empty;
  },
  forgotten-slots g b rest h.1,
)

-- keys stay in order
forgotten-above : (key : List ℕ) (states : List KeyState) → AllByRecursion (λ (t : KeyState). text_below key t.base.key ≡ true) states
    → AllByRecursion (λ (t : KeyState). text_below key t.base.key ≡ true) (map (moved Forget) states)
forgotten-above key [] h = tt
forgotten-above key (t ∷ rest) h = (h.0, forgotten-above key rest h.1)

forgotten-ascend : (states : List KeyState) → KeysAscend states → KeysAscend (map (moved Forget) states)
forgotten-ascend [] h = tt
forgotten-ascend (t ∷ rest) h = (forgotten-above t.base.key rest h.0, forgotten-ascend rest h.1)

-- so all replicas can be sent still
pub forgotten-joins : (space : Space) (rs : List Replica) → AllByRecursion (IsJoinableReplica space) rs
    → AllByRecursion (IsJoinableReplica space) (map forgotten rs)
forgotten-joins space [] h = tt
forgotten-joins space (r ∷ rest) h = (
  record { slots = forgotten-slots r.region (is_key_region space r.region) r.states h.0.slots; ascend = forgotten-ascend r.states h.0.ascend },
  forgotten-joins space rest h.1,
)

-- ---- a server goes on, whose configuration lists it for these replicas

module _ (space : Space) (config : Config) (i : ServerId) (ks : List Replica) where
  -- before it goes on
  abbrev pub now-at : ServerState
  now-at = standing config i ks

  -- where its slots stand
  abbrev pub at : RegionId → SlotContext
  at g = context_of space now-at g

  -- and after
  abbrev pub done : ServerState
  done = standing config i (map (adopted_replica space now-at) ks)

  -- what it posts
  abbrev pub new : List Post
  new = flat_map (adopted_posts space now-at) ks

  -- the slot after, by moves
  pub slot-moved : (key : List ℕ) (r : Replica) → state_in space (adopted_replica space now-at r) key
      ≡ moved_all (adopting (at r.region) (is_active config r) (moved Forget (state_in space r key))) (moved Forget (state_in space r key))
  slot-moved key r =
      let a = is_active config r in
      let marks = is_key_region space r.region in
      states-mapped marks key (adopted_state (at r.region) a) (adopted-base (at r.region) a) (adopted-new (at r.region) a marks key) r.states
      ∙ adopted-moves (at r.region) a (state_in space r key)

  -- the slot of an active replica
  pub slot-resumed : (key : List ℕ) (r : Replica) → is_active config r ≡ true
      → state_in space (adopted_replica space now-at r) key ≡ moved_all (resumed (at r.region) (state_in space r key)) (state_in space r key)
  slot-resumed key r active =
      slot-moved key r
      ∙ ap (λ b. moved_all (adopting (at r.region) b (moved Forget (state_in space r key))) (moved Forget (state_in space r key))) active

  -- a replica after comes from one before
  pub record From (g : RegionId) (after : Installed done g) : Type 0 where
    pub replica : Replica
    pub found : replica_of g ks ≡ Some replica
    pub installed : replica.installed ≡ true
    pub region : replica.region ≡ g
    pub is : adopted_replica space now-at replica ≡ after.replica

  pub from : (g : RegionId) (after : Installed done g) → From g after
  from g after =
      let f = mapped-from (adopted_replica space now-at) (λ r. refl) g ks after.replica after.found in
      record {
        replica = f.0;
        found = f.1;
        installed = ap (λ (x : Replica). x.installed) f.2 ∙ after.installed;
        region = (replica-found g ks f.0 f.1).1;
        is = f.2;
      }

  -- each that was found is found after
  pub found-done : (g : RegionId) (r : Replica) → replica_of g ks ≡ Some r → replica_of g done.replicas ≡ Some (adopted_replica space now-at r)
  found-done g r found = mapped-found (adopted_replica space now-at) (λ r. refl) g ks r found

  -- the replica that posts
  pub record Poster (p : Post) : Type 0 where
    pub replica : Replica
    pub there : IsIn replica ks
    pub found : replica_of replica.region ks ≡ Some replica
    pub installed : replica.installed ≡ true
    pub active : is_active config replica ≡ true
    pub posted : IsIn p (snap_posts now-at replica)
        ⊎ (IsIn p (flat_map (resumed_posts (at replica.region)) replica.states) ⊎ IsIn p (ready_post now-at replica.region))

  pub poster : Once ks → (p : Post) → IsIn p new → Poster p
  poster once p j =
      let a = in-flat_map (adopted_posts space now-at) ks p j in
      let resumes = flat_map (resumed_posts (at a.0.region)) a.0.states in
      let b = in-provided (is_active config a.0) (snap_posts now-at a.0 ++ resumes ++ ready_post now-at a.0.region) p a.2 in
      let c = and_parts a.0.installed (not (is_lost config a.0.region)) b.0 in
      record {
        replica = a.0;
        there = a.1;
        found = once-found ks once a.0 a.1;
        installed = c.0;
        active = b.0;
        posted = elim (in-append (snap_posts now-at a.0 ++ resumes) (ready_post now-at a.0.region) p b.1) [
          | inl k ↦ elim (in-append (snap_posts now-at a.0) resumes p k) [ inl m ↦ inl m | inr m ↦ inr (inl m) ]
          | inr k ↦ inr (inr k)
        ];
      }

-- ---- the replicas in a configuration that is adopted

module _ (config : Config) (i : ServerId) (rs : List Replica) where
  -- the replicas of before, and new ones that aren't installed
  abbrev pub kept-ones : List Replica
  kept-ones = map (replica_or_new rs) (listed_regions config i)

  -- each is of its region
  kept-region : (g : RegionId) → (replica_or_new rs g).region ≡ g
  kept-region g =
      when_some_both (replica_of g rs) (record { region = g; installed = false; states = [] }) (λ (r : Replica). r) (λ (r : Replica). r.region ≡ g)
      (λ z. refl)
      (λ r z. (replica-found g rs r z).1)

  -- no region stands twice
  pub kept-once : Once kept-ones
  kept-once = made-once (replica_or_new rs) kept-region (listed_regions config i) (listed-apart config i)

  -- one that is found is that of a region in which the server is listed
  pub kept-listed : (g : RegionId) (r : Replica) → replica_of g kept-ones ≡ Some r → IsIn g (listed_regions config i)
  kept-listed g r found = made-in (replica_or_new rs) kept-region g (listed_regions config i) r found

  -- and if installed it was found before
  pub kept-was : (g : RegionId) (r : Replica) → replica_of g kept-ones ≡ Some r → r.installed ≡ true → replica_of g rs ≡ Some r
  kept-was g r found installed =
      by (replica_of g rs) refl
      (let made = made-found (replica_or_new rs) kept-region g (listed_regions config i) (kept-listed g r found) in
      let h : Some (replica_or_new rs g) ≡ Some r = sym made ∙ found in cc)
    where
      by : (o : Option Replica) → replica_of g rs ≡ o → when_some o (record { region = g; installed = false; states = [] }) (λ (x : Replica). x) ≡ r
          → o ≡ Some r
      by None z q = absurd (false≢true (ap (λ (x : Replica). x.installed) q ∙ installed))
      by (Some x) z q = ap Some q

  -- one of before is found where the server is listed
  pub kept-found : (g : RegionId) (r : Replica) → replica_of g rs ≡ Some r → IsIn g (listed_regions config i) → replica_of g kept-ones ≡ Some r
  kept-found g r found j =
      made-found (replica_or_new rs) kept-region g (listed_regions config i) j
      ∙ ap (λ (o : Option Replica). Some (when_some o (record { region = g; installed = false; states = [] }) (λ (x : Replica). x))) found

  -- they can be sent
  pub kept-joins : (space : Space) → AllByRecursion (IsJoinableReplica space) rs → AllByRecursion (IsJoinableReplica space) kept-ones
  kept-joins space joins = all (listed_regions config i)
    where
      one : (g : RegionId) → IsJoinableReplica space (replica_or_new rs g)
      one g =
          when_some_both (replica_of g rs) (record { region = g; installed = false; states = [] }) (λ (r : Replica). r) (IsJoinableReplica space)
          (λ z. record { slots = tt; ascend = tt })
          (λ r z. each-of (IsJoinableReplica space) rs r joins (replica-found g rs r z).0)

      all : (gs : List RegionId) → AllByRecursion (IsJoinableReplica space) (map (replica_or_new rs) gs)
      all [] = tt
      all (g ∷ gs) = (one g, all gs)
