-- Where no server is halted and no call asks for another configuration, none is issued: the coordinator stays as it started, and no server halts.
use Rattle.hx_law_lemmas.proofs.Lemmas.Vocabulary.{[], Actor, Add, and_parts, any_joining, any_ready, ap, arith, call_of, Caller, calls_of, cond_both, Config}
use Rattle.hx_law_lemmas.proofs.Lemmas.Vocabulary.{config_of, Coordinator, coordinator_after, coordinator_at_start, coordinator_message, coordinator_of}
use Rattle.hx_law_lemmas.proofs.Lemmas.Vocabulary.{coordinator_step, CoordinatorState, CoordinatorStep, Deliver, Entry, Epoch, false, false≢true, first_config}
use Rattle.hx_law_lemmas.proofs.Lemmas.Vocabulary.{flat_map, Halt, inl, Input, inr, is_actor, is_administrative, is_lost, IsIn, IsRun, IsScript, join_posts}
use Rattle.hx_law_lemmas.proofs.Lemmas.Vocabulary.{last_ready_pair, length, List, lists_joining, ltb, made_of, map, MayTake, Member, members_of, Message, not}
use Rattle.hx_law_lemmas.proofs.Lemmas.Vocabulary.{numbered, Op, Output, Post, post, posts_of, refl, RegionId, resting, same_server, Script, Server}
use Rattle.hx_law_lemmas.proofs.Lemmas.Vocabulary.{server_after, server_of, server_step, ServerId, ServerState, ServerStep, Session, session_of, SessionId}
use Rattle.hx_law_lemmas.proofs.Lemmas.Vocabulary.{SessionState, Some, Space, Stop, subst, sym, telling, Tick, to_server, true, ℕ, ⊤, ◌&&◌, ◌∙◌, ◌∷◌, ◌≡◌, ◌≢◌}
use Rattle.hx_types.specs.declared.messages.Message.TheVariants as a_message
use Rattle.hx_model.proofs.Lemmas.{server-cases}
use Rattle.hx_law_lemmas.proofs.Lemmas.{all-ready, any-in, in-append, in-flat_map, in-map, in-provided, arrived}
use Rattle.hx_law_epochs.proofs.Lemmas.{epochs-run, server-does-well, Tells}
use Rattle.hx_law_chains.proofs.Lemmas.{named}
use Rattle.hx_law_searches.proofs.Lemmas.{step_is}
use Rattle.hx_law_causes.proofs.Lemmas.{Asks, SessionDoes, session-does}
use Rattle.hx_law_soak.specs.Soaks.{NoHalts}

-- no call asks for another configuration
abbrev pub NoneAdministers : Script → Type 0
NoneAdministers script = (c : Caller) (op : Op) → call_of script c ≡ Some op → is_administrative op ≡ false

-- the message asks nobody to halt or for another configuration, and tells of no halt
abbrev pub Calm : Message → Type 0
Calm a_message.Die = ⊥
Calm a_message.Gone = ⊥
Calm (a_message.StopServer number server) = ⊥
Calm (a_message.AddReplica number server g) = ⊥
Calm other = ⊤

-- what stays so in every such run
pub record IsQuiet (script : Script) (t : List Entry) : Type 0 where
  pub rests : coordinator_of script t ≡ coordinator_at_start script.space (length script.sessions)
  pub up : (s : ServerId) → (server_of script s t).halted ≡ false
  pub calm : (p : Post) → IsIn p (posts_of t) → Calm p.message

-- ---- servers

-- an input that halts no server
abbrev pub HaltsNone : Input → Type 0
HaltsNone Tick = ⊤
HaltsNone Halt = ⊥
HaltsNone (Deliver id from m) = Calm m

module _ (space : Space) (s : ServerState) (up : s.halted ≡ false) where
  -- the server goes on
  abbrev Up : ServerStep → Type 0
  Up step = step.state.halted ≡ false

  -- a server that hasn't halted goes on
  pub up-step : (input : Input) → HaltsNone input → Up (server_step space s input)
  up-step input h = server-cases space s input Up (record {
    rests = up;
    met = λ epoch step e. e;
    ticks = up;
    halts = λ e. absurd (subst HaltsNone e h);
    dies = λ id from e. absurd (subst HaltsNone e h);
    call = λ id u epoch number op key r e z q l. up;
    update = λ id from epoch g u r e z t. up;
    ack = λ id from epoch g by key v r u e z q t. up;
    ask = λ id from epoch number g terms r e z t. up;
    ready = λ id from epoch g snapshot pending r e z t i. up;
    installs = λ id from epoch g snapshot pending r e z t i. up;
    adopts = λ id from config e l. up;
  })

-- what a server tells that hasn't halted is calm
calm-told : (s : ServerId) (st : ServerState) → st.halted ≡ false → (to : Actor) (m : Message) → Tells s st to m → Calm m
calm-told s st up to a_message.Gone h = absurd (false≢true (sym up ∙ h))
calm-told s st up to a_message.Die h = absurd h
calm-told s st up to (a_message.StopServer number server) h = absurd h
calm-told s st up to (a_message.AddReplica number server g) h = absurd h
calm-told s st up to other h = tt

-- ---- sessions

-- what a session asks whose calls are all on keys or searches
calm-asked : (script : Script) → NoneAdministers script → (u : SessionId) (s : SessionState) → s.calls ≡ calls_of script u → (m : Message) → Asks s m → Calm m
calm-asked script none u s calls (a_message.Call epoch number op) h = tt
calm-asked script none u s calls (a_message.StopServer number server) h =
    false≢true (sym (none (record { session = u; number = s.begun }) (Stop server) (ap (λ (ops : List Op). numbered ops s.begun) (sym calls) ∙ h.1)))
calm-asked script none u s calls (a_message.AddReplica number server g) h =
    false≢true (sym (none (record { session = u; number = s.begun }) (Add server g) (ap (λ (ops : List Op). numbered ops s.begun) (sym calls) ∙ h.1)))
calm-asked script none u s calls (a_message.Ask epoch number g terms) h = tt
calm-asked script none u s calls (a_message.Poll epoch) h = tt
calm-asked script none u s calls other h = absurd h

-- ---- the coordinator

-- nobody joins a region of the first configuration
none-joins : (space : Space) (g : RegionId) (s : ServerId) → lists_joining (first_config space) g s ≡ true → ⊥
none-joins space g s t =
    let r = any-in (λ (m : Member). same_server m.server s && not m.ready) (members_of (first_config space) g) t in
    let a = and_parts (same_server r.0.server s) (not r.0.ready) r.2 in
    false≢true (sym (ap not (all-ready space g r.0 r.1)) ∙ a.1)

module _ (space : Space) (n : ℕ) where
  abbrev d : CoordinatorState
  d = coordinator_at_start space n

  -- the coordinator stays as it started, and what it posts is calm
  record Rests (step : CoordinatorStep) : Type 0 where
    pub state : step.state ≡ d
    pub calm : (p : Post) → IsIn p step.posts → Calm p.message

  nothing : Rests (resting d)
  nothing = record { state = refl; calm = λ p i. absurd i }

  installs : (to : Actor) → Rests (telling d (post Coordinator to (a_message.Install d.config) ∷ []))
  installs to = record { state = refl; calm = λ p i. elim i [ inl e ↦ subst (λ (q : Post). Calm q.message) (sym e) tt | inr j ↦ absurd j ] }

  rests-message : (from : Actor) (m : Message) → Calm m → Rests (coordinator_message d from m)
  rests-message Coordinator (a_message.Ready epoch g) c = nothing
  rests-message (Session u) (a_message.Ready epoch g) c = nothing
  rests-message (Server s) (a_message.Ready epoch g) c =
      cond_both (not (is_lost d.config g) && lists_joining d.config g s) _ (resting d) Rests
      (λ u. absurd (none-joins space g s (and_parts (not (is_lost d.config g)) (lists_joining d.config g s) u).1)) (λ u. nothing)
  rests-message from (a_message.Poll epoch) c = cond_both (ltb epoch.0 d.config.epoch.0) _ (resting d) Rests (λ t. installs from) (λ t. nothing)
  rests-message from a_message.Die c = absurd c
  rests-message from a_message.Gone c = absurd c
  rests-message from (a_message.StopServer number server) c = absurd c
  rests-message from (a_message.AddReplica number server g) c = absurd c
  rests-message from other c = nothing

  -- what is posted for joiners is calm
  joins-calm : (lists : List (List Member)) (p : Post) → IsIn p (flat_map (join_posts d.config) lists) → Calm p.message
  joins-calm lists p i =
      let r = in-flat_map (join_posts d.config) lists p i in
      let install = to_server (a_message.Install d.config) in
      let m = in-map install (last_ready_pair r.0) p (in-provided (any_ready r.0 && any_joining r.0) (map install (last_ready_pair r.0)) p r.2).1 in
      subst (λ (q : Post). Calm q.message) (sym m.2) tt

  rests-step : (input : Input) → HaltsNone input → Rests (coordinator_step d input)
  rests-step Tick h = record { state = refl; calm = joins-calm d.config.regions }
  rests-step Halt h = absurd h
  rests-step (Deliver id from m) h = rests-message from m h

-- ---- runs

module _ (script : Script) (valid : IsScript script) (none : NoneAdministers script) where
  -- what arrives is calm
  calm-input : (older : List Entry) → IsQuiet script older → (a : Actor) (input : Input) → MayTake older a input → input ≢ Halt → HaltsNone input
  calm-input older q a Tick may unhalted = tt
  calm-input older q a Halt may unhalted = absurd (unhalted refl)
  calm-input older q a (Deliver id from m) may unhalted = q.calm (post from a m) (arrived id older (post from a m) may)

  module _ (older : List Entry) (q : IsQuiet script older) (x : Entry) (run : IsRun script (x ∷ older)) (unhalted : x.input ≢ Halt) where
    abbrev before : CoordinatorState
    before = coordinator_of script older

    calm-all : ((p : Post) → IsIn p x.outputs → Calm p.message) → (p : Post) → IsIn p (posts_of (x ∷ older)) → Calm p.message
    calm-all f p i = elim (in-append x.outputs (posts_of older) p i) [ inl j ↦ f p j | inr j ↦ q.calm p j ]

    of-coordinator : x.actor ≡ Coordinator → IsQuiet script (x ∷ older)
    of-coordinator acts =
        let made : made_of script older Coordinator x.input ≡ record { posts = x.outputs; notes = x.notes } =
        subst (λ (a : Actor). made_of script older a x.input ≡ record { posts = x.outputs; notes = x.notes }) acts
        run.0.made in
        let h = calm-input older q x.actor x.input run.0.input unhalted in
        let r = rests-step script.space (length script.sessions) x.input h in
        record {
          rests = ap (λ (a : Actor). coordinator_after a x.input before) acts
              ∙ ap (λ (c : CoordinatorState). (coordinator_step c x.input).state) q.rests ∙ r.state;
          up = λ s. ap (λ (a : Actor). (server_after script.space s a x.input (server_of script s older)).halted) acts ∙ q.up s;
          calm = calm-all (λ p i. r.calm p (subst (λ (ps : List Post). IsIn p ps)
              (sym (ap (λ (m : Output). m.posts) made) ∙ ap
              (λ (c : CoordinatorState). (coordinator_step c x.input).posts) q.rests) i));
        }

    of-server : (i : ServerId) → x.actor ≡ Server i → IsQuiet script (x ∷ older)
    of-server i acts =
        let made : made_of script older (Server i) x.input ≡ record { posts = x.outputs; notes = x.notes } =
        subst (λ (a : Actor). made_of script older a x.input ≡ record { posts = x.outputs; notes = x.notes }) acts
        run.0.made in
        let may : MayTake older (Server i) x.input = subst (λ (a : Actor). MayTake older a x.input) acts run.0.input in
        let real : is_actor script (Server i) ≡ true = ap (is_actor script) (sym acts) ∙ run.0.actor in
        let h = calm-input older q x.actor x.input run.0.input unhalted in
        let does = server-does-well script valid older (epochs-run script valid older run.1) i x.input real (q.up i) may in
        let still = up-step script.space (server_of script i older) (q.up i) x.input h in
        record {
          rests = ap (λ (a : Actor). coordinator_after a x.input before) acts ∙ q.rests;
          up = λ s. ap (λ (a : Actor). (server_after script.space s a x.input (server_of script s older)).halted) acts
              ∙ cond_both (same_server i s) (server_step script.space (server_of script s older) x.input).state
              (server_of script s older) (λ (w : ServerState). w.halted ≡ false)
              (λ t. up-step script.space (server_of script s older) (q.up s) x.input h) (λ t. q.up s);
          calm = calm-all (λ p j. calm-told i (server_step script.space (server_of script i older) x.input).state still p.to p.message
              (does.posts p (subst (λ (ps : List Post). IsIn p ps) (sym (ap (λ (m : Output). m.posts) made)) j)).1);
        }

    of-session : (u : SessionId) → x.actor ≡ Session u → IsQuiet script (x ∷ older)
    of-session u acts =
        let does = subst (SessionDoes script.space x.input (session_of script u older))
        (step_is script older x u run.0 acts) (session-does script.space (session_of script u older) x.input) in
        record {
          rests = ap (λ (a : Actor). coordinator_after a x.input before) acts ∙ q.rests;
          up = λ s. ap (λ (a : Actor). (server_after script.space s a x.input (server_of script s older)).halted) acts ∙ q.up s;
          calm = calm-all (λ p i. calm-asked script none u does.mid (does.calls ∙ (named script older u).1) p.message (does.goes.posts p i).1);
        }

    pub quiet-entry : IsQuiet script (x ∷ older)
    quiet-entry = by x.actor refl
      where
        by : (a : Actor) → x.actor ≡ a → IsQuiet script (x ∷ older)
        by Coordinator e = of-coordinator e
        by (Server i) e = of-server i e
        by (Session u) e = of-session u e

  -- every such run stays so
  pub quiet : (t : List Entry) → IsRun script t → NoHalts t → IsQuiet script t
  quiet [] run unhalted = record { rests = refl; up = λ s. refl; calm = λ p i. absurd i }
  quiet (x ∷ older) run unhalted = quiet-entry older (quiet older run.1 (λ y i. unhalted y (inr i))) x run (unhalted x (inl refl))

  -- and the first configuration is the only one
  pub only-first : (t : List Entry) → IsRun script t → NoHalts t → (epoch : Epoch) (config : Config)
      → config_of script epoch t ≡ Some config → config ≡ first_config script.space
  only-first t run unhalted epoch config e =
      let q = quiet t run unhalted in
      let known = (epochs-run script valid t run).known in
      let only = known.on.only epoch config e in
      let first : (coordinator_of script t).config ≡ first_config script.space = ap (λ (c : CoordinatorState). c.config) q.rests in
      let newest : config_of script (first_config script.space).epoch t ≡ Some (first_config script.space) =
      subst (λ (c : Config). config_of script c.epoch t ≡ Some c) first known.newest in
      let low = only.0 in
      let high = only.1 in
      let top : (coordinator_of script t).config.epoch.0 ≡ 1 = ap (λ (c : Config). c.epoch.0) first in
      let one : epoch.0 ≡ 1 = omega (arith, low, high, top) in
      let same : epoch ≡ (first_config script.space).epoch = (λ j. record { 0 = one j }) in
      let both : Some config ≡ Some (first_config script.space) = sym e ∙ ap (λ (w : Epoch). config_of script w t) same ∙ newest in
      cc
