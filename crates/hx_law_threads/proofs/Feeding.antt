-- An actor by itself keeps what every run keeps of it.
use Rattle.hx_law_lemmas.proofs.Lemmas.Vocabulary.{[], Actor, and_parts, ap, arith, cond-true, Coordinator, coordinator_after, coordinator_of, coordinator_step}
use Rattle.hx_law_lemmas.proofs.Lemmas.Vocabulary.{CoordinatorState, Deliver, eq-eqb, Input, is_actor, IsIn, IsScript, IsServerOf, IsSessionOf, IsSoundPost}
use Rattle.hx_law_lemmas.proofs.Lemmas.Vocabulary.{leb, leb-true, length, List, ltb, ltb-true, Message, Output, Post, post, PostId, refl, same_server}
use Rattle.hx_law_lemmas.proofs.Lemmas.Vocabulary.{same_session, Script, Server, server_after, server_of, server_step, ServerId, ServerState, Session}
use Rattle.hx_law_lemmas.proofs.Lemmas.Vocabulary.{session_after, session_of, session_step, SessionId, SessionState, subst, sym, true, ℕ, ⊎_elim, ◌+◌, ◌∙◌, ◌∷◌}
use Rattle.hx_law_lemmas.proofs.Lemmas.Vocabulary.{◌≡◌, ◌≤◌}
use Rattle.hx_clock.specs.declared.parts.Stamped.{Stamped}
use Rattle.hx_law_threads.specs.Own.{IsOwn}
use Rattle.hx_law_posts.proofs.Lemmas.{kept-run, IsSoundServer, server-up, server-good, top-small}
use Rattle.hx_law_posts.proofs.Lemmas as law_posts
use Rattle.hx_law_threads.specs.Feeding.{entries_in, latest, ActorsStaySound, IsFed, IsFedBy}

server-exists : (script : Script) (s : ServerId) → is_actor script (Server s) ≡ true → IsServerOf script.space s
server-exists script s e = let a = and_parts (ltb 0 s.0) (leb s.0 script.space.servers) e in (ltb-true 0 s.0 a.0, leb-true s.0 script.space.servers a.1)

session-exists : (script : Script) (u : SessionId) → is_actor script (Session u) ≡ true → IsSessionOf (length script.sessions) u
session-exists script u e = let a = and_parts (ltb 0 u.0) (leb u.0 (length script.sessions)) e in
    (ltb-true 0 u.0 a.0, leb-true u.0 (length script.sessions) a.1)

-- what an entry delivers
fed : (script : Script) (n : ℕ) (b a : Actor) (input : Input) → b ≡ a → IsFedBy script n b input
    → (id : PostId) (from : Actor) (m : Message) → input ≡ Deliver id from m
    → (k : ℕ) × (k ≤ n) × IsSoundPost script.space (length script.sessions) k (post from a m)
fed script n b a input same h id from m e =
    let g = subst (λ (x : Actor). IsFedBy script n x (Deliver id from m)) same (subst (IsFedBy script n b) e h) in (id.entry, g.0, g.1)

-- the posts of each entry
abbrev AreSound : Script → List Stamped → Type 0
AreSound script xs = (x : Stamped) → IsIn x xs → (p : Post) → IsIn p x.entry.outputs → IsSoundPost script.space (length script.sessions) (x.stamp.0 + 1) p

more-sound : (script : Script) (x : Stamped) (older : List Stamped) (ps : List Post) → ps ≡ x.entry.outputs
    → ((p : Post) → IsIn p ps → IsSoundPost script.space (length script.sessions) (x.stamp.0 + 1) p) → AreSound script older
    → AreSound script (x ∷ older)
more-sound script x older ps same here before y i p j =
    ⊎_elim
    (λ (e : y ≡ x). subst (λ (z : Stamped). (p : Post) → IsIn p z.entry.outputs
    → IsSoundPost script.space (length script.sessions) (z.stamp.0 + 1) p) (sym e)
    (λ q k. here q (subst (IsIn q) (sym same) k)) p j)
    (λ r. before y r p j)
    i

module _ (script : Script) (valid : IsScript script) where
  -- a server
  module _ (s : ServerId) (exists : is_actor script (Server s) ≡ true) where
    pub server-own : (xs : List Stamped) → IsOwn script (Server s) (entries_in xs) → IsFed script xs
        → IsSoundServer script.space (length script.sessions) (latest xs) s (server_of script s (entries_in xs)) × AreSound script xs
    server-own [] own f = ((kept-run script valid [] tt).servers s, λ x i. absurd i)
    server-own (x ∷ older) own f =
        let before = server-own older own.1 f.2 in
        let st : ServerState = server_of script s (entries_in older) in
        let at = server-up script.space (length script.sessions) (latest older) x.stamp.0 f.0 s st before.0 in
        let up = server-up script.space (length script.sessions) x.stamp.0 (x.stamp.0 + 1) (omega arith) s st at in
        let well = server-good script.space (length script.sessions) (x.stamp.0 + 1) s st
        (record {
          valid = valid.space;
          exists = subst (IsServerOf script.space) (sym up.id)
              (server-exists script s exists);
          sound = up;
        })
        x.stamp.0 at (omega arith) x.entry.input (fed script x.stamp.0 x.entry.actor (Server s) x.entry.input own.0.actor f.1) in
        let self : same_server s s ≡ true = eq-eqb s.0 s.0 refl in
        let after : server_of script s (entries_in (x ∷ older)) ≡ (server_step script.space st x.entry.input).state =
        ap (λ (z : Actor). server_after script.space s z x.entry.input st) own.0.actor
        ∙ cond-true (same_server s s) (server_step script.space st x.entry.input).state st self in (
          subst (IsSoundServer script.space (length script.sessions) (x.stamp.0 + 1) s) (sym after) well.state,
          more-sound script x older _ (ap (λ (m : Output). m.posts) own.0.made) well.posts before.1,
        )

  -- a session
  module _ (u : SessionId) (exists : is_actor script (Session u) ≡ true) where
    pub session-own : (xs : List Stamped) → IsOwn script (Session u) (entries_in xs) → IsFed script xs
        → law_posts.IsOwn script (latest xs) u (session_of script u (entries_in xs)) × AreSound script xs
    session-own [] own f = ((kept-run script valid [] tt).own u, λ x i. absurd i)
    session-own (x ∷ older) own f =
        let before = session-own older own.1 f.2 in
        let st : SessionState = session_of script u (entries_in older) in
        let low = f.0 in
        let up = law_posts.own-up script (latest older) (x.stamp.0 + 1) (omega (arith, low)) u st before.0 in
        let well = law_posts.session-good script valid (x.stamp.0 + 1) u (session-exists script u exists) st up x.entry.input
        (λ id from m e. let d = fed script x.stamp.0 x.entry.actor
        (Session u) x.entry.input own.0.actor f.1 id from m e in let l = d.1 in (d.0, omega (arith, l), d.2.message)) in
        let self : same_session u u ≡ true = eq-eqb u.0 u.0 refl in
        let after : session_of script u (entries_in (x ∷ older)) ≡ (session_step script.space st x.entry.input).state =
        ap (λ (z : Actor). session_after script.space u z x.entry.input st) own.0.actor
        ∙ cond-true (same_session u u) (session_step script.space st x.entry.input).state st self in (
          subst (law_posts.IsOwn script (x.stamp.0 + 1) u) (sym after) well.own,
          more-sound script x older _ (ap (λ (m : Output). m.posts) own.0.made) well.posts before.1,
        )

  -- the coordinator
  pub coordinator-own : (xs : List Stamped) → IsOwn script Coordinator (entries_in xs) → IsFed script xs
      → law_posts.IsSoundCoordinator script.space (length script.sessions) (latest xs) (coordinator_of script (entries_in xs)) × AreSound script xs
  coordinator-own [] own f = ((kept-run script valid [] tt).coordinator, λ x i. absurd i)
  coordinator-own (x ∷ older) own f =
      let before = coordinator-own older own.1 f.2 in
      let c : CoordinatorState = coordinator_of script (entries_in older) in
      let low = f.0 in
      let up = law_posts.coordinator-up script.space (length script.sessions) (latest older) (x.stamp.0 + 1) (omega (arith, low)) c before.0 in
      let epoch = before.0.config.epoch in
      let well = law_posts.coordinator-good script.space (length script.sessions) (x.stamp.0 + 1) c
      (record { sound = up; low = omega (arith, epoch, low) }) x.entry.input
      (λ id from m e. let d = fed script x.stamp.0 x.entry.actor Coordinator x.entry.input own.0.actor f.1 id from m e in (d.0, d.2)) in
      let after : coordinator_of script (entries_in (x ∷ older)) ≡ (coordinator_step c x.entry.input).state =
      ap (λ (z : Actor). coordinator_after z x.entry.input c) own.0.actor in (
        subst (law_posts.IsSoundCoordinator script.space (length script.sessions) (x.stamp.0 + 1)) (sym after) well.state,
        more-sound script x older _ (ap (λ (m : Output). m.posts) own.0.made) well.posts before.1,
      )

pub actors_stay_sound : ActorsStaySound
actors_stay_sound script valid Coordinator exists xs own f =
    let k = coordinator-own script valid xs own f in record { posts = k.1; state = k.0.config.epoch }
actors_stay_sound script valid (Server s) exists xs own f =
    let k = server-own script valid s exists xs own f in
    record {
      posts = k.1;
      state = (k.0.id, λ r i t j. top-small script.space (length script.sessions) (latest xs) r.region t ((k.0.replicas r i).slots t j));
    }
actors_stay_sound script valid (Session u) exists xs own f = let k = session-own script valid u exists xs own f in record { posts = k.1; state = k.0.id }
