-- In every run what is posted is sound, and versions and epochs stay small.
use Rattle.hx_law_lemmas.proofs.Lemmas.Vocabulary.{[], Actor, and_parts, arith, below, cond_both, Coordinator, coordinator_of, Deliver, Entry, entry_at}
use Rattle.hx_law_lemmas.proofs.Lemmas.Vocabulary.{entry_of, eqb, eqb-true, first_config, Input, is_actor, IsIn, IsRegionOf, IsRun, IsScript, IsServerOf}
use Rattle.hx_law_lemmas.proofs.Lemmas.Vocabulary.{IsSessionOf, IsSoundPost, IsStep, leb, leb-true, length, List, listed_regions, lists, ltb, ltb-true, made_of}
use Rattle.hx_law_lemmas.proofs.Lemmas.Vocabulary.{MayTake, Message, None, Option, Post, post, post_named, PostId, refl, RegionId, Replica, same_server}
use Rattle.hx_law_lemmas.proofs.Lemmas.Vocabulary.{same_session, Script, Server, server_at_start, server_of, server_step, ServerId, Session, session_of}
use Rattle.hx_law_lemmas.proofs.Lemmas.Vocabulary.{session_step, SessionId, Some, subst, sym, true, when_some, ℕ, ⊤, ◌+◌, ◌∷◌, ◌≡◌, ◌≤◌}
use Rattle.std.specs.Prelude.{slice_get}
use Rattle.hx_law_lemmas.proofs.Lemmas.{in-below, in-filter, in-map, in-slice_get}
use Rattle.hx_law_posts.specs.Posts.{EpochsStaySmall, PostsStaySound, VersionsStaySmall}
use Rattle.hx_law_posts.proofs.Bounds.{IsSoundConfig}
use Rattle.hx_law_posts.proofs.Configs.{first-of_space}
use Rattle.hx_law_posts.proofs.Slots.{top-small}
use Rattle.hx_law_posts.proofs.Servers.{IsSoundReplica, IsSoundServer, server-up}
use Rattle.hx_law_posts.proofs.ServerSteps.{server-good}
use Rattle.hx_law_posts.proofs.SessionSteps as session
use Rattle.hx_law_posts.proofs.CoordinatorSteps as coordinator

-- the posts of each entry are sound for its number
abbrev EntriesAreSound : Script → List Entry → Type 0
EntriesAreSound script [] = ⊤
EntriesAreSound script (x ∷ older) = ((p : Post) → IsIn p x.outputs
    → IsSoundPost script.space (length script.sessions) (length older + 1) p) × EntriesAreSound script older

-- what every run of so many entries keeps
pub record KeptSound (script : Script) (n : ℕ) (trace : List Entry) : Type 0 where
  pub servers : (s : ServerId) → IsSoundServer script.space (length script.sessions) n s (server_of script s trace)
  pub own : (u : SessionId) → session.IsOwn script n u (session_of script u trace)
  pub coordinator : coordinator.IsSoundCoordinator script.space (length script.sessions) n (coordinator_of script trace)
  pub posts : EntriesAreSound script trace

-- a post that is named is sound for the number of its entry, and the entry is there
named-sound : (script : Script) (trace : List Entry) → EntriesAreSound script trace → (id : PostId) (p : Post)
    → post_named id trace ≡ Some p → (id.entry ≤ length trace) × IsSoundPost script.space (length script.sessions) id.entry p
named-sound script trace h id p = by (entry_at id.entry trace) refl
  where
    entry-sound : (n : ℕ) (trace : List Entry) (x : Entry) → EntriesAreSound script trace → entry_at n trace ≡ Some x
        → (n ≤ length trace) × ((q : Post) → IsIn q x.outputs → IsSoundPost script.space (length script.sessions) n q)
    entry-sound n [] x h = λ e. absurd (cc)
    entry-sound n (y ∷ older) x h =
        cond_both (eqb n (length older + 1)) (Some y) (entry_at n older)
        (λ o. o ≡ Some x → (n ≤ length (y ∷ older)) × ((q : Post) → IsIn q x.outputs → IsSoundPost script.space (length script.sessions) n q))
        (
        λ t e. let s : x ≡ y = cc in
        let m = eqb-true n (length older + 1) t in (
          omega (arith, m),
          λ q i. subst (λ k. IsSoundPost script.space (length script.sessions) k q) (sym m)
              (h.0 q (subst (λ (z : Entry). IsIn q z.outputs) s i)),
        )
        )
        (λ t e. let r = entry-sound n older x h.1 e in let l = r.0 in (omega (arith, l), r.1))

    by : (o : Option Entry) → entry_at id.entry trace ≡ o
        → when_some o None (λ (x : Entry). slice_get x.outputs id.place) ≡ Some p → (id.entry ≤ length trace)
        × IsSoundPost script.space (length script.sessions) id.entry p
    by None f e = absurd (cc)
    by (Some x) f e = let r = entry-sound id.entry trace x h f in (r.0, r.1 p (in-slice_get x.outputs id.place p e))

-- before the first entry
kept-start : (script : Script) → IsScript script → KeptSound script 0 []
kept-start script valid = record {
  servers = λ s. record { id = refl; config = first; replicas = empty s };
  own = λ u. record { id = refl; config = first; calls = refl };
  coordinator = record { config = first; todo = λ t i. absurd i; newest = λ x i. absurd i; sessions_are = refl };
  posts = tt;
}
  where
    first : IsSoundConfig script.space 0 (first_config script.space)
    first = record { of_space = first-of_space script.space valid.space; epoch = omega arith }

    empty : (s : ServerId) (r : Replica) → IsIn r (server_at_start script.space s).replicas → IsSoundReplica script.space (length script.sessions) 0 r
    empty s r i =
        let m = in-map (λ (g : RegionId). record { region = g; installed = true; states = [] }) (listed_regions (first_config script.space) s) r i in
        let f = in-filter (λ (g : RegionId). lists (first_config script.space) g s) _ m.0 m.1 in
        let k = in-map (λ n. record { 0 = n }) (below (length (first_config script.space).regions)) m.0 f.0 in
        let b = in-below (length (first_config script.space).regions) k.0 k.1 in
        let c = first.of_space.count in
        subst (IsSoundReplica script.space (length script.sessions) 0) (sym m.2)
        (record { region = subst (IsRegionOf script.space) (sym k.2) (omega (arith, b, c)); slots = λ t j. absurd j; ascend = tt })

-- an actor that takes a step is one of the script's
server-exists : (script : Script) (s : ServerId) → is_actor script (Server s) ≡ true → IsServerOf script.space s
server-exists script s e = let a = and_parts (ltb 0 s.0) (leb s.0 script.space.servers) e in (ltb-true 0 s.0 a.0, leb-true s.0 script.space.servers a.1)

-- and so is a session
session-exists : (script : Script) (u : SessionId) → is_actor script (Session u) ≡ true → IsSessionOf (length script.sessions) u
session-exists script u e = let a = and_parts (ltb 0 u.0) (leb u.0 (length script.sessions)) e in
    (ltb-true 0 u.0 a.0, leb-true u.0 (length script.sessions) a.1)

module _ (script : Script) (valid : IsScript script) (older : List Entry) (kept : KeptSound script (length older) older) where
  -- an entry of an actor that takes an input
  abbrev here : Actor → Input → Entry
  here a input = entry_of a input (made_of script older a input)

  -- a post that is delivered is that of an earlier entry, and sound for it
  delivered : (a : Actor) (input : Input) → MayTake older a input → (id : PostId) (from : Actor) (m : Message) → input ≡ Deliver id from m
      → (k : ℕ) × (k ≤ length older) × IsSoundPost script.space (length script.sessions) k (post from a m)
  delivered a input take id from m e =
      let r = named-sound script older kept.posts id (post from a m) (subst (λ (i : Input). MayTake older a i) e take) in
      (id.entry, r.0, r.1)

  -- a server that took no step
  server-stays : (s : ServerId) → IsSoundServer script.space (length script.sessions) (length older + 1) s (server_of script s older)
  server-stays s = server-up script.space (length script.sessions) (length older) (length older + 1) (omega arith) s (server_of script s older) (kept.servers s)

  -- a session that took no step
  session-stays : (u : SessionId) → session.IsOwn script (length older + 1) u (session_of script u older)
  session-stays u = session.own-up script (length older) (length older + 1) (omega arith) u (session_of script u older) (kept.own u)

  -- the coordinator, where it took no step
  coordinator-stays : coordinator.IsSoundCoordinator script.space (length script.sessions) (length older + 1) (coordinator_of script older)
  coordinator-stays = coordinator.coordinator-up script.space (length script.sessions) (length older)
      (length older + 1) (omega arith) (coordinator_of script older) kept.coordinator

  -- an entry of a server
  server-entry : (s : ServerId) → IsServerOf script.space s → (input : Input) → MayTake older (Server s) input
      → KeptSound script (length older + 1) (here (Server s) input ∷ older)
  server-entry s exists input take =
      let sound = server-stays s in
      let well = server-good script.space (length script.sessions) (length older + 1) s (server_of script s older)
      (record { valid = valid.space; exists = subst (IsServerOf script.space) (sym sound.id) exists; sound = sound })
      (length older) (kept.servers s) (omega arith) input (delivered (Server s) input take) in
      record {
        servers = λ x. cond_both (same_server s x) (server_step script.space (server_of script x older) input).state (server_of script x older)
            (IsSoundServer script.space (length script.sessions) (length older + 1) x)
            (
            λ t. let e = eqb-true s.0 x.0 t in
            let q : s ≡ x = λ j. record { 0 = e j } in
            subst (λ (y : ServerId). IsSoundServer script.space (length script.sessions) (length older + 1) y
            (server_step script.space (server_of script y older) input).state) q well.state
            )
            (λ t. server-stays x);
        own = session-stays;
        coordinator = coordinator-stays;
        posts = (well.posts, kept.posts);
      }

  -- an entry of a session
  session-entry : (v : SessionId) → IsSessionOf (length script.sessions) v → (input : Input)
      → MayTake older (Session v) input → KeptSound script (length older + 1) (here (Session v) input ∷ older)
  session-entry v exists input take =
      let well = session.session-good script valid (length older + 1) v exists (session_of script v older) (session-stays v) input
      (λ id from m e. let d = delivered (Session v) input take id from m e in let l = d.1 in (d.0, omega (arith, l), d.2.message)) in
      record {
        servers = server-stays;
        own = λ u. cond_both (same_session v u) (session_step script.space (session_of script u older) input).state
            (session_of script u older) (session.IsOwn script (length older + 1) u)
            (
            λ t. let e = eqb-true v.0 u.0 t in
            let q : v ≡ u = λ j. record { 0 = e j } in
            subst (λ (w : SessionId). session.IsOwn script (length older + 1) w (session_step script.space (session_of script w older) input).state) q well.own
            )
            (λ t. session-stays u);
        coordinator = coordinator-stays;
        posts = (well.posts, kept.posts);
      }

  -- an entry of the coordinator
  coordinator-entry : (input : Input) → MayTake older Coordinator input → KeptSound script (length older + 1) (here Coordinator input ∷ older)
  coordinator-entry input take =
      let well = coordinator.coordinator-good script.space (length script.sessions) (length older + 1) (coordinator_of script older)
      (record { sound = coordinator-stays; low = (let e = kept.coordinator.config.epoch in omega (arith, e)) }) input
      (λ id from m e. let d = delivered Coordinator input take id from m e in (d.0, d.2)) in
      record { servers = server-stays; own = session-stays; coordinator = well.state; posts = (well.posts, kept.posts) }

  -- an entry of any actor
  actor-entry : (a : Actor) → is_actor script a ≡ true → (input : Input) → MayTake older a input → KeptSound script (length older + 1) (here a input ∷ older)
  actor-entry Coordinator exists input take = coordinator-entry input take
  actor-entry (Server s) exists input take = server-entry s (server-exists script s exists) input take
  actor-entry (Session u) exists input take = session-entry u (session-exists script u exists) input take

-- an entry by what its actor makes
entry-is : (script : Script) (older : List Entry) (x : Entry) → IsStep script older x → x ≡ entry_of x.actor x.input (made_of script older x.actor x.input)
entry-is script older x step = λ j. record { actor = x.actor; input = x.input; outputs = (sym step.made j).posts; notes = (sym step.made j).notes }

-- what is kept holds of every run
pub kept-run : (script : Script) → IsScript script → (trace : List Entry) → IsRun script trace → KeptSound script (length trace) trace
kept-run script valid [] run = kept-start script valid
kept-run script valid (x ∷ older) run =
    let e : length older + 1 ≡ length (x ∷ older) = omega arith in
    subst (λ n. KeptSound script n (x ∷ older)) e
    (
    subst (λ (y : Entry). KeptSound script (length older + 1) (y ∷ older)) (sym (entry-is script older x run.0))
    (actor-entry script valid older (kept-run script valid older run.1) x.actor run.0.actor x.input run.0.input)
    )

-- every post is sound
pub posts_stay_sound : (script : Script) → IsScript script → PostsStaySound script
posts_stay_sound script valid trace run id p e = (named-sound script trace (kept-run script valid trace run).posts id p e).1

-- no version is above the number of entries
pub versions_stay_small : (script : Script) → IsScript script → VersionsStaySmall script
versions_stay_small script valid trace run s r i t j =
    top-small script.space (length script.sessions) (length trace) r.region t ((((kept-run script valid trace run).servers s).replicas r i).slots t j)

-- no epoch is above it by more than 1
pub epochs_stay_small : (script : Script) → IsScript script → EpochsStaySmall script
epochs_stay_small script valid trace run =
    let k = kept-run script valid trace run in (
      λ s. let c = (k.servers s).config in (c.of_space, c.epoch),
      λ u. let c = (k.own u).config in (c.of_space, c.epoch),
      (k.coordinator.config.of_space, k.coordinator.config.epoch),
    )
