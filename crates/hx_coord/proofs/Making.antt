-- What the coordinator posts in a step: to actors that it or the input names, naming such actors alone, with epochs at most 1 above the greatest.
use Rattle.std.proofs.Common.{◌≡◌, ℕ, ◌+◌, ◌≤◌, inl, inr, Bool, true, false, not, ◌&&◌, List, [], ◌∷◌, ◌++◌, map}
use Rattle.std.proofs.Common.{Option, Some, None, refl, sym, subst, arith, cond, eqb, ltb}
use Rattle.std.specs.Prelude.{⊤}
use Rattle.std.specs.List.{All, filter, flat_map, slice_get}
use Rattle.std.specs.Option.{option_map}
use Rattle.std.proofs.lemmas.Bool.{cond_both}
use Rattle.hx_model.specs.Types.{Actor, Answer, Caller, Config, Coordinator, Deliver, Epoch, Halt, Input, Member, Message, Op, Post, RegionId, Server, ServerId}
use Rattle.hx_model.specs.Types.{Session, SessionId, Stop, Tick}
use Rattle.hx_types.specs.declared.calls.Answer.TheVariants as an_answer
use Rattle.hx_types.specs.declared.messages.Message.TheVariants as a_message
use Rattle.hx_types.specs.Configs.{any_joining, any_ready, is_lost, lists_joining, lists_ready, members_of}
use Rattle.hx_types.specs.Posts.{AnswerUpTo}
use Rattle.hx_types.specs.Words.{IsIn, below, first_of_list, list_of, post, same_server, server_in}
use Rattle.hx_model.specs.CoordinatorSteps.{Answered, CoordinatorState, CoordinatorStep, Newest, Task, add_step, adds}
use Rattle.hx_model.specs.CoordinatorSteps.{administers, again, by_number, config_ready, config_with, config_without}
use Rattle.hx_model.specs.CoordinatorSteps.{coordinator_message, coordinator_step, coordinator_tick, die_for}
use Rattle.hx_model.specs.CoordinatorSteps.{gone_step, issue, join_posts, judged, last_ready_pair, members_without}
use Rattle.hx_model.specs.CoordinatorSteps.{newest_of, outcome, poll_step, ready_if, ready_step, resting}
use Rattle.hx_model.specs.CoordinatorSteps.{session_posts, stop_step, stops, stops_answered, stops_left, stops_server}
use Rattle.hx_model.specs.CoordinatorSteps.{telling, to_server, with_number}
use Rattle.hx_law_lemmas.proofs.Lemmas.{all-of, in-append, in-filter, in-flat_map, in-map, in-provided, in-slice_get}
use Rattle.hx_law_lemmas.proofs.Lemmas.{in-slice_set, in-with_newest, newest-in, when_some_both}
use Rattle.hx_law_posts.proofs.Lemmas.{answer-up}
use Rattle.hx_coord.specs.Coordinators.{MaybeAnswerUpTo}
use Rattle.hx_coord.specs.Outcomes.{outcomes}
use Rattle.hx_types.specs.Posted.{MessageUpTo, actors_of_config, actors_of_message, actors_of_op, servers_among}

module _ (Known : Actor → Type 0) (most : ℕ) where
  -- a post to a known actor, which names known actors alone, with small epochs
  pub record IsGood (p : Post) : Type 0 where
    pub to : Known p.to
    pub names : (a : Actor) → IsIn a (actors_of_message p.message) → Known a
    pub small : MessageUpTo (most + 1) p.message

  -- the servers and members of a configuration are known
  pub record IsKnownConfig (config : Config) : Type 0 where
    pub servers : (s : ServerId) → IsIn s config.servers → Known (Server s)
    pub members : (ms : List Member) → IsIn ms config.regions → (m : Member) → IsIn m ms → Known (Server m.server)

  pub record IsKnownTask (t : Task) : Type 0 where
    pub caller : Known (Session t.caller.session)
    pub op : (a : Actor) → IsIn a (actors_of_op t.op) → Known a

  -- what a step relies on
  pub record Knows (c : CoordinatorState) : Type 0 where
    pub config : IsKnownConfig c.config
    pub todo : (t : Task) → IsIn t c.todo → IsKnownTask t
    pub sessions : (k : ℕ) → IsIn k (below c.sessions) → Known (Session (record { 0 = k + 1 }))
    pub low : c.config.epoch.0 ≤ most
    pub newest : (x : Newest) → IsIn x c.newest → MaybeAnswerUpTo most x.answer

  abbrev AreGood : CoordinatorStep → Type 0
  AreGood step = (p : Post) → IsIn p step.posts → IsGood p

  none-good : (p : Post) → IsIn p [] → IsGood p
  none-good p i = absurd i

  one-good : (q : Post) → IsGood q → (p : Post) → IsIn p (q ∷ []) → IsGood p
  one-good q h p (inl e) = subst IsGood (sym e) h
  one-good q h p (inr i) = absurd i

  config-names : (config : Config) → IsKnownConfig config → (a : Actor) → IsIn a (actors_of_config config) → Known a
  config-names config h a i = elim (in-append (map (λ (s : ServerId). Server s) config.servers) (flat_map servers_among config.regions) a i) [
    | inl j ↦ (let f = in-map (λ (s : ServerId). Server s) config.servers a j in subst Known (sym f.2) (h.servers f.0 f.1))
    | inr j ↦ (let f = in-flat_map servers_among config.regions a j in
        let m = in-map (λ (x : Member). Server x.server) f.0 a f.2 in
        subst Known (sym m.2) (h.members f.0 f.1 m.0 m.1))
  ]

  plain-good : (m : Message) (s : ServerId) → Known (Server s) → ((a : Actor) → IsIn a (actors_of_message m) → Known a) → MessageUpTo (most + 1) m
      → IsGood (to_server m s)
  plain-good m s to names small = record { to = to; names = names; small = small }

  outcome-good : (caller : Caller) (answer : Answer) → Known (Session caller.session) → AnswerUpTo (most + 1) answer → IsGood (outcome caller answer)
  outcome-good caller answer known small = record { to = known; names = λ a i. absurd i; small = small }

  install-good : (config : Config) → IsKnownConfig config → config.epoch.0 ≤ most + 1 → (to : Actor) → Known to
      → IsGood (post Coordinator to (a_message.Install config))
  install-good config h small to known = record { to = known; names = config-names config h; small = small }

  -- ---- a configuration is issued

  members-known : (config : Config) → IsKnownConfig config → (g : RegionId) → (m : Member) → IsIn m (members_of config g) → Known (Server m.server)
  members-known config h g =
      when_some_both (slice_get config.regions g.0) [] (λ (ms : List Member). ms) (λ (ms : List Member). (m : Member) → IsIn m ms → Known (Server m.server))
      (λ e m i. absurd i)
      (λ ms e. h.members ms (in-slice_get config.regions g.0 ms e))

  -- a server is out
  without-known : (config : Config) → IsKnownConfig config → (s : ServerId) → IsKnownConfig (config_without config s)
  without-known config h s = record {
    servers = λ x i. h.servers x (in-filter (λ (y : ServerId). not (same_server y s)) config.servers x i).0;
    members = λ ms i m j. (let l = in-map (members_without s) config.regions ms i in
        h.members l.0 l.1 m (in-filter (λ (y : Member). not (same_server y.server s)) l.0 m (subst (λ (k : List Member). IsIn m k) l.2 j)).0);
  }

  -- a server joins
  with-known : (config : Config) → IsKnownConfig config → (s : ServerId) (g : RegionId) → Known (Server s) → IsKnownConfig (config_with config s g)
  with-known config h s g known = record {
    servers = h.servers;
    members = λ ms i. elim (in-slice_set config.regions g.0 _ ms i) [
      | inl e ↦ (λ m j. elim (in-append (members_of config g) (record { server = s; ready = false } ∷ []) m (subst (λ (l : List Member). IsIn m l) e j)) [
        | inl k ↦ members-known config h g m k
        | inr (inl q) ↦ subst (λ (x : Member). Known (Server x.server)) (sym q) known
        | inr (inr k) ↦ absurd k
      ])
      | inr j ↦ h.members ms j
    ];
  }

  -- a joiner is ready
  ready-known : (config : Config) → IsKnownConfig config → (s : ServerId) (g : RegionId) → IsKnownConfig (config_ready config s g)
  ready-known config h s g = record {
    servers = h.servers;
    members = λ ms i. elim (in-slice_set config.regions g.0 _ ms i) [
      | inl e ↦ (λ m j. (let l = in-map (ready_if s) (members_of config g) m (subst (λ (k : List Member). IsIn m k) e j) in
          subst (λ (x : Member). Known (Server x.server)) (sym l.2) (members-known config h g l.0 l.1)))
      | inr j ↦ h.members ms j
    ];
  }

  -- a call that is answered goes to a known caller
  record IsKnownAnswered (a : Answered) : Type 0 where
    caller : Known (Session a.caller.session)
    small : AnswerUpTo (most + 1) a.answer

  abbrev servers_told : Config → List Post
  servers_told config = map (to_server (a_message.Install config)) config.servers

  -- the next epoch is small
  raised : (c : CoordinatorState) → Knows c → c.config.epoch.0 + 1 ≤ most + 1
  raised c h = let l = h.low in omega (arith, l)

  -- a configuration is posted to its servers and to each session, and the answers to their callers
  issue-good : (c : CoordinatorState) → Knows c → (config : Config) → IsKnownConfig config → config.epoch.0 ≤ most + 1 → (answered : List Answered)
      → ((a : Answered) → IsIn a answered → IsKnownAnswered a) → (left : List Task)
      → AreGood (issue c config answered left)
  issue-good c h config k small answered f left =
      λ p j. elim (in-append (servers_told config ++ session_posts c.sessions (a_message.Install config)) (outcomes answered) p j) [
        | inl i ↦ elim (in-append (servers_told config) (session_posts c.sessions (a_message.Install config)) p i) [
          | inl q ↦ (let m = in-map (to_server (a_message.Install config)) config.servers p q in
              subst IsGood (sym m.2) (install-good config k small (Server m.0) (k.servers m.0 m.1)))
          | inr q ↦ (let m = in-map (λ n. post Coordinator (Session (record { 0 = n + 1 })) (a_message.Install config)) (below c.sessions) p q in
              subst IsGood (sym m.2) (install-good config k small (Session (record { 0 = m.0 + 1 })) (h.sessions m.0 m.1)))
        ]
        | inr i ↦ (let m = in-map (λ (x : Answered). outcome x.caller x.answer) answered p i in
            let x = f m.0 m.1 in
            subst IsGood (sym m.2) (outcome-good m.0.caller m.0.answer x.caller x.small))
      ]

  -- ---- calls

  abbrev JudgedSmall : Option Answer → Type 0
  JudgedSmall None = ⊤
  JudgedSmall (Some a) = AnswerUpTo (most + 1) a

  judged-small : (config : Config) (s : ServerId) (g : RegionId) → config.epoch.0 ≤ most + 1 → JudgedSmall (judged config s g)
  judged-small config s g e = by (server_in s config.servers) (is_lost config g) (lists_ready config g s) (any_joining (members_of config g))
    where
      by : (a b c d : Bool)
          → JudgedSmall (cond (not a) (Some (an_answer.Stopped config.epoch))
          (cond b (Some (an_answer.Lost config.epoch))
          (cond c (Some (an_answer.Member config.epoch)) (cond d (Some (an_answer.Joining config.epoch)) None))))
      by false b c d = e
      by true true c d = e
      by true false true d = e
      by true false false true = e
      by true false false false = tt

  stops-good : (c : CoordinatorState) → Knows c → (caller : Caller) → Known (Session caller.session) → (s : ServerId) → Known (Server s)
      → AreGood (stops c caller s)
  stops-good c h caller known s server =
      cond_both (server_in s c.config.servers) _ _ AreGood
      (λ t. one-good (to_server a_message.Die s) (plain-good a_message.Die s server (λ a j. absurd j) tt))
      (λ t. one-good (outcome caller (an_answer.Stopped c.config.epoch))
      (outcome-good caller (an_answer.Stopped c.config.epoch) known (let l = h.low in omega (arith, l))))

  -- a call's number
  number-known : (c : CoordinatorState) → Knows c → (caller : Caller) → Knows (with_number c caller None)
  number-known c h caller = record {
    config = h.config;
    todo = h.todo;
    sessions = h.sessions;
    low = h.low;
    newest = λ x i. elim (in-with_newest (record { session = caller.session; number = caller.number; answer = None }) c.newest x i) [
      | inl e ↦ subst (λ (y : Newest). MaybeAnswerUpTo most y.answer) (sym e) tt
      | inr j ↦ h.newest x j
    ];
  }

  adds-good : (c : CoordinatorState) → Knows c → (caller : Caller) → Known (Session caller.session) → (s : ServerId) (g : RegionId) → Known (Server s)
      → (o : Option Answer) → JudgedSmall o → AreGood (adds c caller s g o)
  adds-good c h caller known s g server (Some answer) small = one-good (outcome caller answer) (outcome-good caller answer known small)
  adds-good c h caller known s g server None small =
      issue-good (with_number c caller None) (number-known c h caller) (config_with c.config s g) (with-known c.config h.config s g server) (raised c h)
      (record { caller = caller; answer = an_answer.Issued (config_with c.config s g).epoch } ∷ [])
      (λ a i. elim i [ inl e ↦ subst IsKnownAnswered (sym e) (record { caller = known; small = raised c h }) | inr j ↦ absurd j ])
      c.todo

  again-good : (c : CoordinatorState) (caller : Caller) → Known (Session caller.session) → (o : Option Answer) → MaybeAnswerUpTo most o
      → AreGood (again c caller o)
  again-good c caller known None small = none-good
  again-good c caller known (Some answer) small =
      one-good (outcome caller answer) (outcome-good caller answer known (answer-up most (most + 1) answer (omega arith) small))

  by_number-good : (c : CoordinatorState) → Knows c → (caller : Caller) → Known (Session caller.session) → (o : Option Newest)
      → newest_of caller.session c.newest ≡ o → (new : CoordinatorStep) → AreGood new → AreGood (by_number c caller o new)
  by_number-good c h caller known None e new a = a
  by_number-good c h caller known (Some x) e new a =
      cond_both (ltb caller.number x.number) (resting c) (cond (eqb caller.number x.number) (again c caller x.answer) new) AreGood
      (λ t. none-good)
      (
      λ t. cond_both (eqb caller.number x.number) (again c caller x.answer) new AreGood
      (λ b. again-good c caller known x.answer (h.newest x (newest-in caller.session c.newest x e).0))
      (λ b. a)
      )

  stop-good : (c : CoordinatorState) → Knows c → (number : ℕ) (s : ServerId) → Known (Server s) → (u : SessionId) → Known (Session u)
      → AreGood (stop_step c number s u)
  stop-good c h number s server u known =
      by_number-good c h (record { session = u; number = number }) known (newest_of u c.newest) refl
      (stops c (record { session = u; number = number }) s)
      (stops-good c h (record { session = u; number = number }) known s server)

  add-good : (c : CoordinatorState) → Knows c → (number : ℕ) (s : ServerId) (g : RegionId) → Known (Server s) → (u : SessionId) → Known (Session u)
      → AreGood (add_step c number s g u)
  add-good c h number s g server u known =
      by_number-good c h (record { session = u; number = number }) known (newest_of u c.newest) refl
      (adds c (record { session = u; number = number }) s g (judged c.config s g))
      (adds-good c h (record { session = u; number = number }) known s g server (judged c.config s g)
      (judged-small c.config s g (let l = h.low in omega (arith, l))))

  -- ---- servers

  -- the stops that an issue answers
  answered-known : (c : CoordinatorState) → Knows c → (s : ServerId) (a : Answered) → IsIn a (stops_answered (config_without c.config s) s c.todo)
      → IsKnownAnswered a
  answered-known c h s a i =
      let epoch = (config_without c.config s).epoch in
      let m = in-map (λ (t : Task). record { caller = t.caller; answer = an_answer.Issued epoch }) (filter (stops_server s) c.todo) a i in
      subst IsKnownAnswered (sym m.2) (record { caller = (h.todo m.0 (in-filter (stops_server s) c.todo m.0 m.1).0).caller; small = raised c h })

  gone-good : (c : CoordinatorState) → Knows c → (from : Actor) → AreGood (gone_step c from)
  gone-good c h Coordinator = none-good
  gone-good c h (Server s) =
      let next = config_without c.config s in
      cond_both (server_in s c.config.servers) (issue c next (stops_answered next s c.todo) (stops_left s c.todo)) (resting c) AreGood
      (λ t. issue-good c h next (without-known c.config h.config s) (raised c h) (stops_answered next s c.todo) (answered-known c h s) (stops_left s c.todo))
      (λ t. none-good)
  gone-good c h (Session u) = none-good

  ready-good : (c : CoordinatorState) → Knows c → (g : RegionId) (from : Actor) → AreGood (ready_step c g from)
  ready-good c h g Coordinator = none-good
  ready-good c h g (Server s) =
      cond_both (not (is_lost c.config g) && lists_joining c.config g s) (issue c (config_ready c.config s g) [] c.todo) (resting c) AreGood
      (λ t. issue-good c h (config_ready c.config s g) (ready-known c.config h.config s g) (raised c h) [] (λ a i. absurd i) c.todo)
      (λ t. none-good)
  ready-good c h g (Session u) = none-good

  -- ---- polls and ticks

  own-good : (c : CoordinatorState) → Knows c → (to : Actor) → Known to → IsGood (post Coordinator to (a_message.Install c.config))
  own-good c h to known = install-good c.config h.config (let l = h.low in omega (arith, l)) to known

  poll-good : (c : CoordinatorState) → Knows c → (epoch : Epoch) (from : Actor) → Known from → AreGood (poll_step c epoch from)
  poll-good c h epoch from x =
      cond_both (ltb epoch.0 c.config.epoch.0) (telling c (post Coordinator from (a_message.Install c.config) ∷ [])) (resting c) AreGood
      (λ t. one-good (post Coordinator from (a_message.Install c.config)) (own-good c h from x))
      (λ t. none-good)

  die-good : (op : Op) → ((a : Actor) → IsIn a (actors_of_op op) → Known a) → (p : Post) → IsIn p (die_for op) → IsGood p
  die-good (Stop s) f = one-good (to_server a_message.Die s) (plain-good a_message.Die s (f (Server s) (inl refl)) (λ a j. absurd j) tt)
  die-good other f = none-good

  -- the last ready member and the one after it are members
  pair-known : (ms : List Member) → ((m : Member) → IsIn m ms → Known (Server m.server)) → (s : ServerId) → IsIn s (last_ready_pair ms) → Known (Server s)
  pair-known [] f s = λ i. absurd i
  pair-known (m ∷ rest) f s =
      cond_both (any_ready rest) (last_ready_pair rest) _ (λ (l : List ServerId). IsIn s l → Known (Server s))
      (λ t. pair-known rest (λ x j. f x (inr j)) s)
      (
      λ t. cond_both m.ready _ [] (λ (l : List ServerId). IsIn s l → Known (Server s))
      (λ b i. elim i [ inl e ↦ subst (λ (x : ServerId). Known (Server x)) (sym e) (f m (inl refl)) | inr j ↦ after rest (λ x k. f x (inr k)) j ])
      (λ b i. absurd i)
      )
    where
      after : (ms : List Member) → ((m : Member) → IsIn m ms → Known (Server m.server))
          → IsIn s (list_of (option_map (λ (x : Member). x.server) (first_of_list ms))) → Known (Server s)
      after [] g i = absurd i
      after (x ∷ xs) g (inl e) = subst (λ (y : ServerId). Known (Server y)) (sym e) (g x (inl refl))
      after (x ∷ xs) g (inr i) = absurd i

  joins-good : (c : CoordinatorState) → Knows c → (ms : List Member) → IsIn ms c.config.regions → (p : Post) → IsIn p (join_posts c.config ms) → IsGood p
  joins-good c h ms i p j =
      let k = in-provided (any_ready ms && any_joining ms) (map (to_server (a_message.Install c.config)) (last_ready_pair ms)) p j in
      let m = in-map (to_server (a_message.Install c.config)) (last_ready_pair ms) p k.1 in
      subst IsGood (sym m.2) (own-good c h (Server m.0) (pair-known ms (h.config.members ms i) m.0 m.1))

  tick-good : (c : CoordinatorState) → Knows c → AreGood (coordinator_tick c)
  tick-good c h = λ p i. elim (in-append (flat_map (λ (t : Task). die_for t.op) c.todo) (flat_map (join_posts c.config) c.config.regions) p i) [
    | inl j ↦ (let m = in-flat_map (λ (t : Task). die_for t.op) c.todo p j in die-good m.0.op (h.todo m.0 m.1).op p m.2)
    | inr j ↦ (let m = in-flat_map (join_posts c.config) c.config.regions p j in joins-good c h m.0 m.1 p m.2)
  ]

  administers-good : (c : CoordinatorState) (from : Actor) → Known from → (act : SessionId → CoordinatorStep)
      → ((u : SessionId) → Known (Session u) → AreGood (act u)) → AreGood (administers c from act)
  administers-good c Coordinator x act f = none-good
  administers-good c (Server s) x act f = none-good
  administers-good c (Session u) x act f = f u x

  message-good : (c : CoordinatorState) → Knows c → (from : Actor) → Known from → (m : Message) → ((a : Actor) → IsIn a (actors_of_message m) → Known a)
      → AreGood (coordinator_message c from m)
  message-good c h from x a_message.Gone f = gone-good c h from
  message-good c h from x (a_message.StopServer number server) f =
      administers-good c from x (stop_step c number server) (stop-good c h number server (f (Server server) (inl refl)))
  message-good c h from x (a_message.AddReplica number server g) f =
      administers-good c from x (add_step c number server g) (add-good c h number server g (f (Server server) (inl refl)))
  message-good c h from x (a_message.Ready epoch g) f = ready-good c h g from
  message-good c h from x (a_message.Poll epoch) f = poll-good c h epoch from x
  message-good c h from x other f = none-good

  -- the actors that an input names are known
  abbrev pub KnowsInput : Input → Type 0
  KnowsInput Tick = ⊤
  KnowsInput Halt = ⊤
  KnowsInput (Deliver id from m) = Known from × ((a : Actor) → IsIn a (actors_of_message m) → Known a)

  pub stepped : (c : CoordinatorState) → Knows c → (input : Input) → KnowsInput input → All IsGood (coordinator_step c input).posts
  stepped c h Tick f = all-of IsGood (coordinator_tick c).posts (tick-good c h)
  stepped c h Halt f = all-of IsGood [] none-good
  stepped c h (Deliver id from m) f = all-of IsGood (coordinator_message c from m).posts (message-good c h from f.0 m f.1)
