-- The posts of a server's step are sound where the server and its input are.
use Rattle.std.proofs.Common.{◌≡◌, ℕ, ◌+◌, ◌≤◌, List, [], ◌∷◌, inl, inr, true, refl, ap, sym, ◌∙◌, subst, arith}
use Rattle.std.specs.List.{All, AllByRecursion}
use Rattle.hx_model.specs.Types.{Actor, Deliver, Entry, Input, Message, PostId, RegionId, Server, Space, Update}
use Rattle.hx_types.specs.Posts.{IsSoundPost}
use Rattle.hx_types.specs.Words.{IsIn, post, text_below}
use Rattle.hx_model.specs.ServerSteps.{Replica, ServerState, ServerStep, message_step, server_step}
use Rattle.hx_model.specs.Slots.{KeyState}
use Rattle.hx_law_folds.specs.Folding.{Descends, KeysAscend}
use Rattle.hx_law_lemmas.proofs.Lemmas.{all-of}
use Rattle.hx_law_posts.proofs.Lemmas as law_posts
use Rattle.hx_law_lemmas.proofs.Lemmas as law_lemmas
use Rattle.hx_law_posts.proofs.Lemmas.{server-good}
use Rattle.hx_replica.specs.Plans.{CanHear}
use Rattle.hx_replica.specs.Servers.{ServerValue, server_entry}
use Rattle.hx_replica.specs.Sound.{IsSoundAt, IsSoundInput, IsSoundReplica, IsSoundServer, IsSoundSlot}
use Rattle.hx_replica.proofs.Planning.{running_step}

module _ (space : Space) (sessions n : ℕ) where
  descends : (b : ℕ) (us : List Update) → Descends b us → law_posts.Descends b us
  descends b [] h = tt
  descends b (u ∷ us) h = (h.0, descends b us h.1)

  at : (g : RegionId) (u : Update) → IsSoundAt space sessions n g u → law_posts.IsSoundAt space sessions n g u
  at g u h = record { sound = h.sound; version = h.version; place = h.place }

  slot : (g : RegionId) (t : KeyState) → IsSoundSlot space sessions n g t → law_posts.IsSoundSlot space sessions n g t
  slot g t h = record {
    base = h.base;
    ordered = record { descends = descends t.base.floor.0 t.accepted h.descends; floor = h.from_base };
    floor = h.floor;
    accepted = λ u i. at g u (h.accepted u i);
    early = λ u i. at g u (h.early u i);
  }

  below : (s : KeyState) (xs : List KeyState) → AllByRecursion
      (λ (t : KeyState). text_below s.base.key t.base.key ≡ true) xs → (y : KeyState) → IsIn y xs
      → text_below s.base.key y.base.key ≡ true
  below s [] h y i = absurd i
  below s (x ∷ xs) h y i = elim i [ inl e ↦ ap (λ (t : KeyState). text_below s.base.key t.base.key) e ∙ h.0 | inr j ↦ below s xs h.1 y j ]

  ascends : (xs : List KeyState) → KeysAscend xs → law_lemmas.Ascend law_lemmas.state_key xs
  ascends [] h = tt
  ascends (x ∷ xs) h = (below x xs h.0, ascends xs h.1)

  replica : (r : Replica) → IsSoundReplica space sessions n r → law_posts.IsSoundReplica space sessions n r
  replica r h = record { region = h.region; slots = λ t i. slot r.region t (h.slots t i); ascend = ascends r.states h.ascend }

  pub server : (s : ServerState) → IsSoundServer space sessions n s → law_posts.IsSoundServer space sessions n s.id s
  server s h = record { id = refl; config = record { of_space = h.config; epoch = h.epoch }; replicas = λ r i. replica r (h.replicas r i) }

  pub given : (s : ServerState) (input : Input) → IsSoundInput space sessions n s.id input
      → (id : PostId) (from : Actor) (message : Message) → input ≡ Deliver id from message → (k : ℕ) × (k ≤ n)
      × IsSoundPost space sessions k (post from (Server s.id) message)
  given s input h id from message e = (n, omega arith, subst (IsSoundInput space sessions n s.id) e h)

  -- the posts of the step
  pub posts_sound : (s : ServerState) (input : Input) → IsSoundServer space sessions n s
      → IsSoundInput space sessions n s.id input → All (IsSoundPost space sessions (n + 1)) (server_step space s input).posts
  posts_sound s input h k =
      let now = server s h in
      let later = law_posts.server-up space sessions n (n + 1) (omega arith) s.id s now in
      let relies : law_posts.Relies space sessions (n + 1) s.id s = record { valid = h.valid; exists = h.exists; sound = later } in
      all-of (IsSoundPost space sessions (n + 1)) (server_step space s input).posts
      (server-good space sessions (n + 1) s.id s relies n now (omega arith) input (given s input k)).posts

-- the entry of a plan
pub entry_sound : (v : ServerValue) (input : Input) (entry : Entry) → entry ≡ server_entry v.space v.state entry.input → entry.input ≡ input
    → (sessions n : ℕ) → IsSoundServer v.space sessions n v.state → IsSoundInput v.space sessions n v.state.id input
    → All (IsSoundPost v.space sessions (n + 1)) entry.outputs
entry_sound v input entry e same sessions n h k =
    subst (All (IsSoundPost v.space sessions (n + 1))) (sym (ap (λ (x : Entry). x.outputs) e ∙ ap (λ (i : Input). (server_step v.space v.state i).posts) same))
    (posts_sound v.space sessions n v.state input h k)

-- what is posted on a message
pub message_sound : (v : ServerValue) (from : Actor) (m : Message) → CanHear v.space v.state from m → (id : PostId) (sessions n : ℕ)
    → IsSoundServer v.space sessions n v.state → IsSoundInput v.space sessions n v.state.id (Deliver id from m)
    → All (IsSoundPost v.space sessions (n + 1)) (message_step v.space v.state from m).posts
message_sound v from m hears id sessions n h k =
    subst (λ (t : ServerStep). All (IsSoundPost v.space sessions (n + 1)) t.posts) (running_step v (Deliver id from m) hears.can.running)
    (posts_sound v.space sessions n v.state (Deliver id from m) h k)
