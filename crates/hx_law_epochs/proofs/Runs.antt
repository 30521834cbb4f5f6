-- Every run keeps what holds of epochs: by each entry of the coordinator, of a server and of a session.
use Rattle.hx_law_lemmas.proofs.Lemmas.Vocabulary.{[], Actor, and_from, and_parts, ap, arith, below, Bool, cases_lt, cond, cond-false, cond-true, cond_both}
use Rattle.hx_law_lemmas.proofs.Lemmas.Vocabulary.{Config, config_noted, config_of, Coordinator, coordinator_after, coordinator_of, coordinator_step}
use Rattle.hx_law_lemmas.proofs.Lemmas.Vocabulary.{CoordinatorState, Deliver, Entry, Epoch, eq-eqb, eqb, eqb-true, false, first_config, first_some, has_halted}
use Rattle.hx_law_lemmas.proofs.Lemmas.Vocabulary.{inl, Input, inr, is_actor, is_lost, IsIn, IsRun, IsScript, IsServerOf, IsStep, le-leb, leb, leb-true, List}
use Rattle.hx_law_lemmas.proofs.Lemmas.Vocabulary.{lists_ready, lt-ltb, ltb, ltb-true, made_of, MayTake, members_of, Message, ne_eqb, None, Note, Option}
use Rattle.hx_law_lemmas.proofs.Lemmas.Vocabulary.{Output, Post, post, PostId, posts_of, refl, RegionId, same_server, Script, Server, server_after, server_of}
use Rattle.hx_law_lemmas.proofs.Lemmas.Vocabulary.{server_step, ServerId, ServerState, Session, session_after, session_of, session_step, SessionId}
use Rattle.hx_law_lemmas.proofs.Lemmas.Vocabulary.{SessionState, Some, Space, subst, sym, true, ◌++◌, ◌+◌, ◌-◌, ◌<◌, ◌∙◌, ◌∷◌, ◌≡◌, ◌≤◌, ◌⊎◌}
use Rattle.hx_types.specs.declared.messages.Message.TheVariants as a_message
use Rattle.hx_types.specs.declared.traces.Note.TheVariants as a_note
use Rattle.hx_law_lemmas.proofs.Lemmas.{below-in, before-first, in-below, in-map, map-in, all-ready, listed-in, arrived, members-differ}
use Rattle.hx_law_posts.proofs.Lemmas.{first-of_space, member-server}
use Rattle.hx_law_epochs.specs.Epochs.{FollowsOn, RunsOn, WasIssued}
use Rattle.hx_law_epochs.specs.Senders.{IsOf, IsOfServer, IsOfSession}
use Rattle.hx_law_epochs.proofs.Coordinator.{coordinates, coordinating-kept}
use Rattle.hx_law_epochs.proofs.CoordinatorPosts.{Controls}
use Rattle.hx_law_epochs.proofs.Facts.{EpochsKept, Says, others-say}
use Rattle.hx_law_epochs.proofs.Growing.{GrownOut, grown-out-self}
use Rattle.hx_law_epochs.proofs.Next.{IsOrderly}
use Rattle.hx_law_epochs.proofs.Replicas.{Shaped, start-installed, start-shaped}
use Rattle.hx_law_epochs.proofs.Servers.{Does, server-does}
use Rattle.hx_law_epochs.proofs.Senders.{server-posts, session-posts}
use Rattle.hx_law_epochs.proofs.Serving.{leads-installed, ready-listed, serving-kept}
use Rattle.hx_law_epochs.proofs.Sessions.{session-config, session-issues}
use Rattle.hx_law_epochs.proofs.Widening.{Widens, more-kept, same-kept}

-- a server of the script
abbrev pub Real : Script → ServerId → Type 0
Real script s = is_actor script (Server s) ≡ true

-- the configuration is that of epoch 1 or was issued
abbrev pub IsKnown : Script → List Entry → Config → Type 0
IsKnown script t c = config_of script c.epoch t ≡ Some c

-- the configurations that actors have and posts carry are known, and all epochs up to the newest are
pub record Known (script : Script) (t : List Entry) : Type 0 where
  pub newest : IsKnown script t (coordinator_of script t).config
  pub servers : (s : ServerId) → IsKnown script t (server_of script s t).config
  pub sessions : (u : SessionId) → IsKnown script t (session_of script u t).config
  pub installs : (p : Post) (config : Config) → IsIn p (posts_of t) → p.message ≡ a_message.Install config → IsKnown script t config
  pub on : RunsOn script t

-- what every run keeps of epochs
pub record EpochsRun (script : Script) (t : List Entry) : Type 0 where
  pub epochs : EpochsKept (Real script) (λ s. server_of script s t) (IsKnown script t) (coordinator_of script t).config (posts_of t)
  pub shaped : (s : ServerId) → Shaped s (server_of script s t)
  pub known : Known script t

-- ---- at the start

-- the servers of the first configuration are those of the space
first-there : (space : Space) (s : ServerId) → IsServerOf space s → IsIn s (first_config space).servers
first-there space s (a, b) =
    let k : s.0 - 1 < space.servers = omega (arith, a, b) in
    let e : s.0 - 1 + 1 ≡ s.0 = omega (arith, a) in
    subst (λ (x : ServerId). IsIn x (first_config space).servers) (let q : record { 0 = s.0 - 1 + 1 } ≡ s = (λ j. record { 0 = e j }) in q)
    (map-in (λ n. record { 0 = n + 1 }) (below space.servers) (s.0 - 1) (below-in space.servers (s.0 - 1) k))

real-server : (script : Script) (s : ServerId) → Real script s → IsServerOf script.space s
real-server script s e = let a = and_parts (ltb 0 s.0) (leb s.0 script.space.servers) e in (ltb-true 0 s.0 a.0, leb-true s.0 script.space.servers a.1)

-- at the start the first configuration is known alone
first-known : (script : Script) (k : Config) → IsKnown script [] k → k ≡ first_config script.space
first-known script k =
    cond_both (eqb k.epoch.0 1) (Some (first_config script.space)) None (λ o. o ≡ Some k → k ≡ first_config script.space)
    (λ t e. sym (let q : first_config script.space ≡ k = cc in q))
    (λ t e. absurd (cc))

-- no two of an epoch are known
known-one : (script : Script) (t : List Entry) (k m : Config) → IsKnown script t k → IsKnown script t m → k.epoch ≡ m.epoch → k ≡ m
known-one script t k m a b e = let q : Some k ≡ Some m = sym a ∙ ap (λ (x : Epoch). config_of script x t) e ∙ b in cc

start-run : (script : Script) → IsScript script → EpochsRun script []
start-run script valid = record {
  epochs = record {
    newest = refl;
    last = λ k a. (let e = ap (λ (x : Config). x.epoch.0) (first-known script k a) in omega (arith, e));
    one = known-one script [];
    orderly = λ k a. subst IsOrderly (sym (first-known script k a)) orderly;
    grown = λ k n a b l. subst (GrownOut k) (first-known script k a ∙ sym (first-known script n b)) (grown-out-self k);
    own = λ s. refl;
    home = λ g s i. listed-in (first_config script.space) g s ((start-shaped script.space s).only g i.replica i.found);
    listed = λ s r l. first-there script.space s (real-server script s r);
    ready = λ k a g s t. start-installed script.space s g
        (ready-listed (first_config script.space) g s
        (subst (λ (x : Config). lists_ready x g s ≡ true) (first-known script k a) t));
    real = λ k a s i. first-real s (subst (λ (x : Config). IsIn s x.servers) (first-known script k a) i);
    says = λ p i. absurd i;
  };
  shaped = λ s. start-shaped script.space s;
  known = record {
    newest = refl;
    servers = λ s. refl;
    sessions = λ u. refl;
    installs = λ p config i. absurd i;
    on = record {
      each = λ epoch a b. (
        first_config script.space,
        cond-true (eqb epoch.0 1) (Some (first_config script.space)) None (eq-eqb epoch.0 1 (omega (arith, a, b))),
      );
      only = λ epoch c. cond_both (eqb epoch.0 1) (Some (first_config script.space)) None (λ o. o ≡ Some c → (1 ≤ epoch.0) × (epoch.0 ≤ 1) × (c.epoch ≡ epoch))
          (λ t e. (let q = eqb-true epoch.0 1 t in (
            omega (arith, q),
            omega (arith, q),
            (let z : first_config script.space ≡ c = cc in
                ap (λ (x : Config). x.epoch) (sym z) ∙ (λ j. record { 0 = sym q j })),
          )))
          (λ t e. absurd (cc));
    };
  };
}
  where
    orderly : IsOrderly (first_config script.space)
    orderly = record {
      members = λ g m i. first-there script.space m.server
          (member-server script.space (first_config script.space) (first-of_space script.space valid.space) g m i);
      differ = members-differ script.space valid.space;
      joins_last = λ g m x b. all-ready script.space g m (before-first (members_of (first_config script.space) g) m x b);
    }

    first-real : (s : ServerId) → IsIn s (first_config script.space).servers → Real script s
    first-real s i =
        let m = in-map (λ n. record { 0 = n + 1 }) (below script.space.servers) s i in
        let b = in-below script.space.servers m.0 m.1 in
        subst (λ (x : ServerId). Real script x) (sym m.2)
        (and_from (ltb 0 (m.0 + 1)) (leb (m.0 + 1) script.space.servers) (lt-ltb 0 (m.0 + 1) (omega arith))
        (le-leb (m.0 + 1) script.space.servers (omega (arith, b))))

-- ---- an entry

module _ (script : Script) (valid : IsScript script) (older : List Entry) (kept : EpochsRun script older) where
  -- the servers before
  abbrev N : ServerId → ServerState
  N s = server_of script s older

  -- the coordinator before
  abbrev d : CoordinatorState
  d = coordinator_of script older

  -- a configuration is issued, or none is
  pub record IssuesNext (c : Config) (ns : List Note) : Type 0 where
    pub follows : FollowsOn d.config c
    pub orderly : IsOrderly c
    pub departed : (s : ServerId) → IsIn s d.config.servers → IsIn s c.servers ⊎ ((N s).halted ≡ true)
    pub notes : ns ≡ a_note.Issued c ∷ []

  abbrev pub Notes : Config → List Note → Type 0
  Notes c ns = ((c ≡ d.config) × ((epoch : Epoch) → config_noted epoch ns ≡ None)) ⊎ IssuesNext c ns

  -- what is kept by an entry, of what is known after it
  pub record Keeps (a : Actor) (input : Input) (ps : List Post) (ns : List Note) : Type 1 where
    pub epochs : (after : Config → Type 0) → Widens (IsKnown script older) after d.config (coordinator_after a input d).config
        → EpochsKept (Real script) (λ s. server_after script.space s a input (N s)) after (coordinator_after a input d).config (ps ++ posts_of older)
    pub shaped : (s : ServerId) → Shaped s (server_after script.space s a input (N s))
    pub notes : Notes (coordinator_after a input d).config ns
    pub installs : (p : Post) (config : Config) → IsIn p ps → p.message ≡ a_message.Install config → config ≡ (coordinator_after a input d).config

  -- what arrives was posted
  arrives : (a : Actor) (id : PostId) (from : Actor) (m : Message) → MayTake older a (Deliver id from m) → IsIn (post from a m) (posts_of older)
  arrives a id from m h = arrived id older (post from a m) h

  -- and says what posts say
  arrives-says : (a : Actor) (input : Input) → MayTake older a input → (id : PostId) (from : Actor) (m : Message)
      → input ≡ Deliver id from m → Says N (IsKnown script older) d.config from a m
  arrives-says a input may id from m e = kept.epochs.says (post from a m) (arrives a id from m (subst (MayTake older a) e may))

  -- ---- a server

  -- the servers after an entry of one
  server-here : (i : ServerId) (input : Input) → server_after script.space i (Server i) input (N i) ≡ (server_step script.space (N i) input).state
  server-here i input = cond-true (same_server i i) (server_step script.space (N i) input).state (N i) (eq-eqb i.0 i.0 refl)

  server-others : (i : ServerId) (input : Input) (j : ServerId) → (j ≡ i → ⊥) → server_after script.space j (Server i) input (N j) ≡ N j
  server-others i input j n = cond-false (same_server i j) (server_step script.space (N j) input).state (N j)
      (ne_eqb i.0 j.0 (λ e. n (λ k. record { 0 = sym e k })))

  pub server-does-well : (i : ServerId) (input : Input) → Real script i → (N i).halted ≡ false → MayTake older (Server i) input
      → Does i (N i) (IsKnown script older) (server_step script.space (N i) input)
  server-does-well i input real up may =
      server-does script.space i (N i) (kept.shaped i)
      (leads-installed (Real script) N (IsKnown script older) d.config
      (posts_of older) kept.epochs i real up script.space (kept.shaped i).id)
      (IsKnown script older) input (λ id from config e. arrives-says (Server i) input may id from (a_message.Install config) e)

  server-keeps : (i : ServerId) (input : Input) → Real script i → (N i).halted ≡ false → MayTake older (Server i) input
      → let step = server_step script.space (N i) input in Keeps (Server i) input step.posts step.notes
  server-keeps i input real up may =
      let step = server_step script.space (N i) input in
      let does = server-does-well i input real up may in
      let after = serving-kept (Real script) N (IsKnown script older) d.config (posts_of older) kept.epochs i real up step does
      (λ s. server_after script.space s (Server i) input (N s)) (server-here i input) (server-others i input) in
      record {
        epochs = λ known w. same-kept (Real script) (λ s. server_after script.space s (Server i) input (N s))
            (IsKnown script older) d.config (step.posts ++ posts_of older) after known d.config w refl;
        shaped = λ s. cond_both (same_server i s) (server_step script.space (N s) input).state (N s) (Shaped s)
            (λ t. (let e = eqb-true i.0 s.0 t in let q : i ≡ s = (λ k. record { 0 = e k }) in
            subst (λ (x : ServerId). Shaped x (server_step script.space (N x) input).state) q does.shaped))
            (λ t. kept.shaped s);
        notes = inl (refl, does.notes);
        installs = λ p config j e. absurd (subst IsOfServer e (server-posts script.space (N i) input p j));
      }

  -- ---- the coordinator

  coordinator-keeps : (input : Input) → MayTake older Coordinator input → let step = coordinator_step d input in Keeps Coordinator input step.posts step.notes
  coordinator-keeps input may =
      let c = coordinates N d (kept.epochs.orderly d.config kept.epochs.newest) (IsKnown script older) input
      (λ id from m e. arrives-says Coordinator input may id from m e) in
      record {
        epochs = λ known w. coordinating-kept (Real script) N (IsKnown script older) d.config (posts_of older) kept.epochs (coordinator_step d input) c known w;
        shaped = kept.shaped;
        notes = elim c.next [
          | inl (e, n) ↦ inl (e, λ epoch. ap (config_noted epoch) n)
          | inr (i, n) ↦ inr (record { follows = i.follows; orderly = i.orderly; departed = i.departed; notes = n })
        ];
        installs = λ p config j e. subst (Controls (coordinator_step d input).state.config) e (c.controls p j).1;
      }

  -- ---- a session

  session-keeps : (u : SessionId) (input : Input) → let step =
      session_step script.space (session_of script u older) input in Keeps (Session u) input step.posts step.notes
  session-keeps u input =
      let s = session_of script u older in
      let step = session_step script.space s input in
      let of : (p : Post) → IsIn p step.posts → IsOf (Session u) p.message = session-posts script.space s input in
      record {
        epochs = λ known w. same-kept (Real script) N (IsKnown script older) d.config (step.posts ++ posts_of older)
            (more-kept (Real script) N (IsKnown script older) d.config (posts_of older) kept.epochs step.posts
            (λ p j. others-say N (IsKnown script older) d.config (Session u) refl p.from p.to p.message (of p j)
            (λ c e. absurd (subst IsOfSession e (of p j)))))
            known d.config w refl;
        shaped = kept.shaped;
        notes = inl (refl, session-issues script.space input s);
        installs = λ p config j e. absurd (subst IsOfSession e (of p j));
      }

  -- each entry
  keeps : (a : Actor) (input : Input) (ps : List Post) (ns : List Note) → is_actor script a ≡ true
      → has_halted script older a ≡ false → MayTake older a input
      → made_of script older a input ≡ record { posts = ps; notes = ns } → Keeps a input ps ns
  keeps Coordinator input ps ns real up may made = subst (λ (m : Output). Keeps Coordinator input m.posts m.notes) made (coordinator-keeps input may)
  keeps (Server i) input ps ns real up may made = subst (λ (m : Output). Keeps (Server i) input m.posts m.notes) made (server-keeps i input real up may)
  keeps (Session u) input ps ns real up may made = subst (λ (m : Output). Keeps (Session u) input m.posts m.notes) made (session-keeps u input)

  pub keeps-entry : (x : Entry) → IsStep script older x → Keeps x.actor x.input x.outputs x.notes
  keeps-entry x step = keeps x.actor x.input x.outputs x.notes step.actor step.running step.input step.made

-- ---- the configurations that are known

module _ (script : Script) (valid : IsScript script) (older : List Entry) (kept : EpochsRun script older) (x : Entry) (step : IsStep script older x) where
  -- what the entry keeps
  abbrev here : Keeps script valid older kept x.actor x.input x.outputs x.notes
  here = keeps-entry script valid older kept x step

  -- the coordinator's configuration before and after
  abbrev was : Config
  was = (coordinator_of script older).config

  abbrev now : Config
  now = (coordinator_of script (x ∷ older)).config

  -- the configurations of an epoch after the entry
  after-is : (n : Config) → Notes script valid older kept n x.notes → (epoch : Epoch)
      → (config_of script epoch (x ∷ older) ≡ config_of script epoch older)
      ⊎ ((epoch.0 ≡ was.epoch.0 + 1) × (n.epoch.0 ≡ was.epoch.0 + 1) × (config_of script epoch (x ∷ older) ≡ Some n))
  after-is n (inl (e, f)) epoch = inl (ap (λ (o : Option Config). first_some o (config_of script epoch older)) (f epoch))
  after-is n (inr i) epoch =
      let q = i.follows.epoch in
      by (eqb n.epoch.0 epoch.0) refl q (ap (λ (l : List Note). first_some (config_noted epoch l) (config_of script epoch older)) i.notes)
    where
      by : (b : Bool) → eqb n.epoch.0 epoch.0 ≡ b → n.epoch.0 ≡ was.epoch.0 + 1
          → config_of script epoch (x ∷ older) ≡ first_some (cond b (Some n) None) (config_of script epoch older)
          → (config_of script epoch (x ∷ older) ≡ config_of script epoch older)
          ⊎ ((epoch.0 ≡ was.epoch.0 + 1) × (n.epoch.0 ≡ was.epoch.0 + 1) × (config_of script epoch (x ∷ older) ≡ Some n))
      by true t q e = inr (sym (eqb-true n.epoch.0 epoch.0 t) ∙ q, q, e)
      by false t q e = inl e

  -- what was known still is
  pub known-still : (c : Config) → IsKnown script older c → IsKnown script (x ∷ older) c
  known-still c k = elim (after-is now here.notes c.epoch) [
    | inl e ↦ e ∙ k
    | inr (a, b, e) ↦ absurd (let l = (kept.known.on.only c.epoch c k).1 in omega (arith, a, l))
  ]

  -- and so is the newest
  now-known : Notes script valid older kept now x.notes → IsKnown script (x ∷ older) now
  now-known (inl (e, f)) = subst (IsKnown script (x ∷ older)) (sym e) (known-still was kept.known.newest)
  now-known (inr i) = elim (after-is now (inr i) now.epoch) [
    | inr (a, b, e) ↦ e
    | inl e ↦ absurd (old (config_of script now.epoch older) refl e)
  ]
    where
      -- the note itself shows it
      old : (o : Option Config) → config_of script now.epoch older ≡ o → config_of script now.epoch (x ∷ older) ≡ config_of script now.epoch older → ⊥
      old o q e =
          let h : config_of script now.epoch (x ∷ older) ≡ Some now =
          ap (λ (l : List Note). first_some (config_noted now.epoch l) (config_of script now.epoch older)) i.notes
          ∙ ap (λ (o : Option Config). first_some o (config_of script now.epoch older))
          (cond-true (eqb now.epoch.0 now.epoch.0) (Some now) None (eq-eqb now.epoch.0 now.epoch.0 refl)) in
          let k = kept.known.on.only now.epoch now (sym e ∙ h) in
          let l = k.1 in let f = i.follows.epoch in omega (arith, l, f)

  -- no epoch is earlier
  grows : Notes script valid older kept now x.notes → was.epoch.0 ≤ now.epoch.0
  grows (inl (e, f)) = let q = ap (λ (c : Config). c.epoch.0) e in omega (arith, q)
  grows (inr i) = let q = i.follows.epoch in omega (arith, q)

  -- the numbers of the epochs
  now-on : Notes script valid older kept now x.notes → RunsOn script (x ∷ older)
  now-on notes = record {
    each = λ epoch a b. elim (after-is now notes epoch) [
      | inr (p, q, e) ↦ (now, e)
      | inl e ↦ (let r = kept.known.on.each epoch a (low notes epoch b e) in (r.0, e ∙ r.1))
    ];
    only = λ epoch c k. elim (after-is now notes epoch) [
      | inl e ↦ (let r = kept.known.on.only epoch c (sym e ∙ k) in let l = r.1 in let g = grows notes in (r.0, omega (arith, l, g), r.2))
      | inr (p, q, e) ↦ (let z : Some now ≡ Some c = sym e ∙ k in let y : now ≡ c = cc in (
        omega (arith, p),
        omega (arith, p, q),
        ap (λ (w : Config). w.epoch) (sym y)
            ∙ (let r : now.epoch.0 ≡ epoch.0 = omega (arith, p, q) in λ j. record { 0 = r j }),
      ))
    ];
  }
    where
      -- an epoch that isn't the new one is no later than before
      low : Notes script valid older kept now x.notes → (epoch : Epoch) → epoch.0 ≤ now.epoch.0
          → config_of script epoch (x ∷ older) ≡ config_of script epoch older → epoch.0 ≤ was.epoch.0
      low (inl (e, f)) epoch l same = let q = ap (λ (c : Config). c.epoch.0) e in omega (arith, q, l)
      low (inr i) epoch l same = elim (cases_lt epoch.0 now.epoch.0) [
        | inl m ↦ (let q = i.follows.epoch in omega (arith, q, m))
        | inr m ↦ (let r : epoch.0 ≡ now.epoch.0 = omega (arith, l, m) in
            let z : now.epoch ≡ epoch = (λ j. record { 0 = sym r j }) in
            let k = now-known (inr i) in
            let w : config_of script epoch older ≡ Some now = sym same ∙ subst (λ (y : Epoch). config_of script y (x ∷ older) ≡ Some now) z k in
            let o = (kept.known.on.only epoch now w).1 in o)
      ]

  -- one configuration more is known, or none
  pub widens : Widens (IsKnown script older) (IsKnown script (x ∷ older)) was now
  widens = record {
    later = grows here.notes;
    still = known-still;
    newest = now-known here.notes;
    only = λ k h. elim (after-is now here.notes k.epoch) [
      | inl e ↦ inl (sym e ∙ h)
      | inr (a, b, e) ↦ inr (let z : Some k ≡ Some now = sym h ∙ e in cc)
    ];
  }

  -- what is kept of epochs after the entry
  pub epochs-after : EpochsKept (Real script) (λ s. server_of script s (x ∷ older)) (IsKnown script (x ∷ older)) now (posts_of (x ∷ older))
  epochs-after = here.epochs (IsKnown script (x ∷ older)) widens

  -- the configurations of actors and posts
  pub known-after : Known script (x ∷ older)
  known-after = record {
    newest = now-known here.notes;
    servers = epochs-after.own;
    sessions = λ u. session u x.actor x.input (λ id from config e. install x.actor x.input step.input id from config e);
    installs = λ p config i e. subst (Says (λ s. server_of script s (x ∷ older)) (IsKnown script (x ∷ older)) now p.from p.to) e (epochs-after.says p i);
    on = now-on here.notes;
  }
    where
      install : (a : Actor) (input : Input) → MayTake older a input → (id : PostId) (from : Actor) (config : Config)
          → input ≡ Deliver id from (a_message.Install config) → IsKnown script older config
      install a input may id from config e = arrives-says script valid older kept a input may id from (a_message.Install config) e

      session : (u : SessionId) (a : Actor) (input : Input)
          → ((id : PostId) (from : Actor) (config : Config) → input ≡ Deliver id from (a_message.Install config)
          → IsKnown script older config)
          → IsKnown script (x ∷ older) (session_after script.space u a input (session_of script u older)).config
      session u Coordinator input f = known-still _ (kept.known.sessions u)
      session u (Server i) input f = known-still _ (kept.known.sessions u)
      session u (Session v) input f =
          cond_both (eqb v.0 u.0) (session_step script.space (session_of script u older) input).state
          (session_of script u older) (λ (s : SessionState). IsKnown script (x ∷ older) s.config)
          (λ t. elim (session-config script.space (session_of script u older) input) [
            | inl e ↦ subst (IsKnown script (x ∷ older)) (sym e) (known-still _ (kept.known.sessions u))
            | inr (id, from, config, e, q, l) ↦ subst (IsKnown script (x ∷ older)) (sym q) (known-still config (f id from config e))
          ])
          (λ t. known-still _ (kept.known.sessions u))

-- every run keeps what holds of epochs
pub epochs-run : (script : Script) → IsScript script → (t : List Entry) → IsRun script t → EpochsRun script t
epochs-run script valid [] run = start-run script valid
epochs-run script valid (x ∷ older) run =
    let kept = epochs-run script valid older run.1 in
    let k = keeps-entry script valid older kept x run.0 in
    record { epochs = epochs-after script valid older kept x run.0; shaped = k.shaped; known = known-after script valid older kept x run.0 }

-- each configuration is issued as it should be
pub issued-well : (script : Script) → IsScript script → (x : Entry) (older : List Entry) → IsRun script (x ∷ older)
    → (next : Config) → IsIn (a_note.Issued next) x.notes → WasIssued script older next
issued-well script valid x older run next i =
    let kept = epochs-run script valid older run.1 in
    by kept (keeps-entry script valid older kept x run.0).notes
  where
    noted : (ns : List Note) → IsIn (a_note.Issued next) ns → config_noted next.epoch ns ≡ None → ⊥
    noted [] i = absurd i
    noted (n ∷ ns) (inl e) = λ q. none (sym (ap (λ (m : Note). config_noted next.epoch (m ∷ ns)) (sym e)
        ∙ cond-true (eqb next.epoch.0 next.epoch.0) (Some next) (config_noted next.epoch ns)
        (eq-eqb next.epoch.0 next.epoch.0 refl)) ∙ q)
      where
        none : Some next ≡ None → ⊥
        none e = absurd (cc)
    noted (n ∷ ns) (inr i) = λ q. noted ns i (later n q)
      where
        later : (n : Note) → config_noted next.epoch (n ∷ ns) ≡ None → config_noted next.epoch ns ≡ None
        later (a_note.Issued c) = cond_both (eqb c.epoch.0 next.epoch.0) (Some c) (config_noted next.epoch ns)
            (λ o. o ≡ None → config_noted next.epoch ns ≡ None) (λ t e. absurd (cc)) (λ t e. e)
        later other = λ q. q

    by : (kept : EpochsRun script older) → Notes script valid older kept (coordinator_of script (x ∷ older)).config x.notes → WasIssued script older next
    by kept (inl (e, f)) = absurd (noted x.notes i (f next.epoch))
    by kept (inr k) =
        let same : next ≡ (coordinator_of script (x ∷ older)).config = alone (subst (λ (l : List Note). IsIn (a_note.Issued next) l) k.notes i) in
        record {
          before = (coordinator_of script older).config;
          newest = refl;
          known = kept.known.newest;
          follows = subst (FollowsOn (coordinator_of script older).config) (sym same) k.follows;
          departed = λ s j out. elim (k.departed s j) [ inl here ↦ absurd (out (subst (λ (c : Config). IsIn s c.servers) (sym same) here)) | inr h ↦ h ];
        }
      where
        alone : IsIn (a_note.Issued next) (a_note.Issued (coordinator_of script (x ∷ older)).config ∷ []) → next ≡ (coordinator_of script (x ∷ older)).config
        alone (inl e) = cc
        alone (inr j) = absurd j

-- and the epochs are numbered
pub numbered-well : (script : Script) → IsScript script → (t : List Entry) → IsRun script t → RunsOn script t
numbered-well script valid t run = (epochs-run script valid t run).known.on

-- ---- earlier configurations and the newest

-- from one configuration to a later one servers only leave, who is ready stays so, and what is lost stays lost
pub record ComesTo (c n : Config) : Type 0 where
  pub servers : (s : ServerId) → IsIn s n.servers → IsIn s c.servers
  pub ready : (g : RegionId) (s : ServerId) → IsIn s n.servers → lists_ready c g s ≡ true → lists_ready n g s ≡ true
  pub lost : (g : RegionId) → is_lost c g ≡ true → is_lost n g ≡ true

stays : (c : Config) → ComesTo c c
stays c = record { servers = λ s i. i; ready = λ g s i t. t; lost = λ g t. t }

comes-on : (c d n : Config) → ComesTo c d → FollowsOn d n → ComesTo c n
comes-on c d n k f = record {
  servers = λ s i. k.servers s (f.servers s i);
  ready = λ g s i t. f.ready g s i (k.ready g s (f.servers s i) t);
  lost = λ g t. f.lost g (k.lost g t);
}

-- each configuration of a run comes to the newest
pub comes : (script : Script) → IsScript script → (t : List Entry) → IsRun script t → (epoch : Epoch) (c : Config) → config_of script epoch t ≡ Some c
    → ComesTo c (coordinator_of script t).config
comes script valid [] run epoch c e =
    let first = first_config script.space in
    cond_both (eqb epoch.0 1) (Some first) None (λ o. o ≡ Some c → ComesTo c first)
    (λ t q. let same : first ≡ c = cc in subst (λ (y : Config). ComesTo y first) same (stays first))
    (λ t q. absurd (cc))
    e
comes script valid (x ∷ older) run epoch c e = by (λ q. comes script valid older run.1 epoch c q) (keeps-entry script valid older kept x run.0).notes
  where
    kept : EpochsRun script older
    kept = epochs-run script valid older run.1

    before : Config
    before = (coordinator_of script older).config

    now : Config
    now = (coordinator_of script (x ∷ older)).config

    by : (config_of script epoch older ≡ Some c → ComesTo c before) → Notes script valid older kept now x.notes → ComesTo c now
    by earlier (inl (same, f)) =
        subst (ComesTo c) (sym same) (earlier (sym (ap (λ (o : Option Config). first_some o (config_of script epoch older)) (f epoch)) ∙ e))
    by earlier (inr i) = elim (after-is script valid older kept x run.0 now (inr i) epoch) [
      | inl same ↦ comes-on c before now (earlier (sym same ∙ e)) i.follows
      | inr (p, q, r) ↦ (let issued : Some now ≡ Some c = sym r ∙ e in let same : now ≡ c = cc in subst (λ (w : Config). ComesTo w now) same (stays now))
    ]
