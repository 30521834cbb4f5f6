-- Each step of the coordinator posts what is sound, and leaves it with a configuration of the space.
use Rattle.hx_law_lemmas.proofs.Lemmas.Vocabulary.{[], Actor, Answer, Answered, any_joining, any_ready, arith, below, Caller, cond, cond_both, Config}
use Rattle.hx_law_lemmas.proofs.Lemmas.Vocabulary.{config_ready, config_with, config_without, Coordinator, coordinator_step, coordinator_tick, CoordinatorState}
use Rattle.hx_law_lemmas.proofs.Lemmas.Vocabulary.{CoordinatorStep, Deliver, die_for, Epoch, false≢true, first_of_list, Fits, flat_map, goes_between, inl}
use Rattle.hx_law_lemmas.proofs.Lemmas.Vocabulary.{Input, inr, is_newest_call, IsIn, IsListOf, IsServerOf, IsSessionOf, IsSoundAnswer, IsSoundMessage}
use Rattle.hx_law_lemmas.proofs.Lemmas.Vocabulary.{IsSoundPost, issue, join_posts, last_ready_pair, List, list_of, map, Member, Message, Newest}
use Rattle.hx_law_lemmas.proofs.Lemmas.Vocabulary.{newest_answered, None, Op, Option, option_map, outcome, Post, post, PostId, refl, resting, Server, ServerId}
use Rattle.hx_law_lemmas.proofs.Lemmas.Vocabulary.{Session, session_posts, SessionId, Some, Space, Stop, stops_left, subst, sym, Task, telling, to_server, true}
use Rattle.hx_law_lemmas.proofs.Lemmas.Vocabulary.{with_answer, with_newest, with_number, with_task, ℕ, ⊤, ◌&&◌, ◌++◌, ◌+◌, ◌∷◌, ◌≡◌, ◌≤◌}
use Rattle.hx_types.specs.declared.calls.Answer.TheVariants as an_answer
use Rattle.hx_types.specs.declared.messages.Message.TheVariants as a_message
use Rattle.hx_law_lemmas.proofs.Lemmas.{call_by, coordinator-cases, each-append, each-flat, each-map, each-one, each-provided, in-with_newest, all-in, in-below}
use Rattle.hx_law_posts.proofs.Bounds.{IsSoundConfig, bounds, config-up, exists-up, sound_answer-up}
use Rattle.hx_law_posts.proofs.Issuing.{IsSoundAnswered, IsSoundTask, JudgedWell, config_ready-sound, config_with-sound, config_without-sound, judged-sound}
use Rattle.hx_law_posts.proofs.Issuing.{stops-answered, stops-left}

-- an answer that is there, is sound
abbrev pub IsMaybeSound : Space → ℕ → ℕ → Option Answer → Type 0
IsMaybeSound space sessions n None = ⊤
IsMaybeSound space sessions n (Some a) = IsSoundAnswer (bounds space sessions n) a

-- the coordinator after so many entries
pub record IsSoundCoordinator (space : Space) (sessions n : ℕ) (c : CoordinatorState) : Type 0 where
  pub config : IsSoundConfig space n c.config
  pub todo : (t : Task) → IsIn t c.todo → IsSoundTask space sessions n t
  pub newest : (x : Newest) → IsIn x c.newest → IsMaybeSound space sessions n x.answer
  pub sessions_are : c.sessions ≡ sessions

-- what held after fewer entries holds after more
pub coordinator-up : (space : Space) (sessions m n : ℕ) → m ≤ n → (c : CoordinatorState)
    → IsSoundCoordinator space sessions m c → IsSoundCoordinator space sessions n c
coordinator-up space sessions m n l c h = record {
  config = config-up space sessions m n l c.config h.config;
  todo = λ t i. (let a = h.todo t i in record { session = a.session; fits = a.fits });
  newest = λ x i. up x.answer (h.newest x i);
  sessions_are = h.sessions_are;
}
  where
    up : (o : Option Answer) → IsMaybeSound space sessions m o → IsMaybeSound space sessions n o
    up None a = tt
    up (Some x) a = sound_answer-up space sessions m n l x a

module _ (space : Space) (sessions n : ℕ) where
  -- a post of the entry that is sound
  abbrev IsSound : Post → Type 0
  IsSound p = IsSoundPost space sessions n p

  -- what a step does: it leaves the coordinator sound, and its posts are sound
  pub record DoesWell (step : CoordinatorStep) : Type 0 where
    pub state : IsSoundCoordinator space sessions n step.state
    pub posts : (p : Post) → IsIn p step.posts → IsSound p

  -- what a step relies on: the epoch may rise by 1
  pub record Relies (c : CoordinatorState) : Type 0 where
    pub sound : IsSoundCoordinator space sessions n c
    pub low : c.config.epoch.0 ≤ n

  -- posts alone
  telling-good : (c : CoordinatorState) → IsSoundCoordinator space sessions n c → (ps : List Post)
      → ((p : Post) → IsIn p ps → IsSound p) → DoesWell (telling c ps)
  telling-good c h ps f = record { state = h; posts = f }

  -- nothing happens
  resting-good : (c : CoordinatorState) → IsSoundCoordinator space sessions n c → DoesWell (resting c)
  resting-good c h = record { state = h; posts = λ p i. absurd i }

  -- a post to a server
  to_server-sound : (m : Message) (s : ServerId) → IsServerOf space s → goes_between Coordinator (Server s) m ≡ true
      → IsSoundMessage (bounds space sessions n) m → IsSound (to_server m s)
  to_server-sound m s exists b h = record { from = tt; to = exists; between = b; message = h }

  -- an answer to a session
  outcome-sound : (caller : Caller) (answer : Answer) → IsSessionOf sessions caller.session
      → IsSoundAnswer (bounds space sessions n) answer → IsSound (outcome caller answer)
  outcome-sound caller answer session a = record { from = tt; to = session; between = refl; message = a }

  -- ---- a configuration is issued

  -- the newest calls with those that are answered
  answered-newest : (xs : List Answered) → ((a : Answered) → IsIn a xs → IsSoundAnswered space sessions n a)
      → (ns : List Newest) → ((x : Newest) → IsIn x ns → IsMaybeSound space sessions n x.answer)
      → (x : Newest) → IsIn x (newest_answered xs ns) → IsMaybeSound space sessions n x.answer
  answered-newest [] f ns g = g
  answered-newest (a ∷ xs) f ns g =
      answered-newest xs (λ b j. f b (inr j)) (with_answer a ns)
      (
      cond_both (is_newest_call a.caller ns) (with_newest
      (record { session = a.caller.session; number = a.caller.number; answer = Some a.answer }) ns) ns
      (λ l. (x : Newest) → IsIn x l → IsMaybeSound space sessions n x.answer)
      (λ t x i. elim (in-with_newest (record { session = a.caller.session; number = a.caller.number; answer = Some a.answer }) ns x i) [
        | inl e ↦ subst (λ (y : Newest). IsMaybeSound space sessions n y.answer) (sym e) (f a (inl refl)).answer
        | inr j ↦ g x j
      ])
      (λ t. g)
      )

  -- a configuration is posted to its servers and to each session, and the answers to their callers
  issue-good : (c : CoordinatorState) → IsSoundCoordinator space sessions n c → (config : Config) → IsSoundConfig space n config
      → (answered : List Answered) → ((a : Answered) → IsIn a answered → IsSoundAnswered space sessions n a)
      → (left : List Task) → ((t : Task) → IsIn t left → IsSoundTask space sessions n t) → DoesWell (issue c config answered left)
  issue-good c h config of_space answered f left g =
      let servers = map (to_server (a_message.Install config)) config.servers in
      let answers = map (λ (x : Answered). outcome x.caller x.answer) answered in
      record {
        state = record {
          config = of_space;
          todo = g;
          newest = answered-newest answered f c.newest h.newest;
          sessions_are = h.sessions_are;
        };
        posts = each-append IsSound (servers ++ session_posts c.sessions (a_message.Install config)) answers
            (
            each-append IsSound servers (session_posts c.sessions (a_message.Install config))
            (
            each-map IsSound (to_server (a_message.Install config)) config.servers
            (λ s i. to_server-sound (a_message.Install config) s
            (all-in (IsServerOf space) config.servers s of_space.of_space.servers i) refl (of_space.epoch, of_space.of_space))
            )
            (
            each-map IsSound (λ k. post Coordinator (Session (record { 0 = k + 1 })) (a_message.Install config)) (below c.sessions)
            (λ k i. let b = in-below c.sessions k i in let e = h.sessions_are in
            record {
              from = tt;
              to = (omega arith, omega (arith, b, e));
              between = refl;
              message = (of_space.epoch, of_space.of_space);
            })
            )
            )
            (each-map IsSound (λ (x : Answered). outcome x.caller x.answer) answered (λ x i. outcome-sound x.caller x.answer (f x i).session (f x i).answer));
      }

  -- the next epoch isn't above the bound
  next-epoch : (c : CoordinatorState) → Relies c → c.config.epoch.0 + 1 ≤ n + 1
  next-epoch c h = let l = h.low in omega (arith, l)

  -- ---- calls

  -- the number of a call
  with_number-sound : (c : CoordinatorState) → IsSoundCoordinator space sessions n c
      → (caller : Caller) (answer : Option Answer) → IsMaybeSound space sessions n answer
      → IsSoundCoordinator space sessions n (with_number c caller answer)
  with_number-sound c h caller answer a = record {
    config = h.config;
    todo = h.todo;
    newest = λ x i. elim (in-with_newest (record { session = caller.session; number = caller.number; answer = answer }) c.newest x i) [
      | inl e ↦ subst (λ (y : Newest). IsMaybeSound space sessions n y.answer) (sym e) a
      | inr j ↦ h.newest x j
    ];
    sessions_are = h.sessions_are;
  }

  -- a call that is to be done
  with_task-sound : (c : CoordinatorState) → IsSoundCoordinator space sessions n c → (caller : Caller)
      → IsSessionOf sessions caller.session → (op : Op) → Fits space op
      → IsSoundCoordinator space sessions n (with_task c caller op)
  with_task-sound c h caller session op fits =
      let a = with_number-sound c h caller None tt in
      record {
        config = h.config;
        todo = each-append (IsSoundTask space sessions n) c.todo _ h.todo
            (each-one (IsSoundTask space sessions n) (record { caller = caller; op = op })
            (record { session = session; fits = fits }));
        newest = a.newest;
        sessions_are = h.sessions_are;
      }

  -- ---- polls and ticks

  -- the configuration of the coordinator may be posted
  install-sound : (c : CoordinatorState) → Relies c → IsSoundMessage (bounds space sessions n) (a_message.Install c.config)
  install-sound c h = (h.sound.config.epoch, h.sound.config.of_space)

  -- who asks for the configuration may be told it
  back : (epoch : Epoch) (config : Config) (a : Actor) → goes_between a Coordinator (a_message.Poll epoch) ≡ true
      → goes_between Coordinator a (a_message.Install config) ≡ true
  back epoch config Coordinator e = absurd (false≢true e)
  back epoch config (Server s) e = refl
  back epoch config (Session u) e = refl

  -- who is to stop is told again
  die-sound : (op : Op) → Fits space op → (p : Post) → IsIn p (die_for op) → IsSound p
  die-sound (Stop s) f = each-one IsSound (to_server a_message.Die s) (to_server-sound a_message.Die s f refl tt)
  die-sound other f = λ p i. absurd i

  -- the server of the first of a list
  abbrev first_server : List Member → Option ServerId
  first_server ms = option_map (λ (x : Member). x.server) (first_of_list ms)

  -- it is a member's
  first-server : (ms : List Member) → ((m : Member) → IsIn m ms → IsServerOf space m.server) → (s : ServerId)
      → IsIn s (list_of (first_server ms)) → IsServerOf space s
  first-server [] f s i = absurd i
  first-server (x ∷ xs) f s i = elim i [ inl e ↦ subst (IsServerOf space) (sym e) (f x (inl refl)) | inr j ↦ absurd j ]

  -- the last ready member and the one after it are servers of the space
  pair-servers : (ms : List Member) → ((m : Member) → IsIn m ms → IsServerOf space m.server) → (s : ServerId) → IsIn s (last_ready_pair ms) → IsServerOf space s
  pair-servers [] f s = λ i. absurd i
  pair-servers (m ∷ rest) f s =
      cond_both (any_ready rest) (last_ready_pair rest) (cond m.ready (m.server ∷ list_of (first_server rest)) []) (λ l. IsIn s l → IsServerOf space s)
      (λ t i. pair-servers rest (λ x j. f x (inr j)) s i)
      (
      λ t. cond_both m.ready (m.server ∷ list_of (first_server rest)) [] (λ l. IsIn s l → IsServerOf space s)
      (λ r i. elim i [ inl e ↦ subst (IsServerOf space) (sym e) (f m (inl refl)) | inr j ↦ first-server rest (λ x k. f x (inr k)) s j ])
      (λ r i. absurd i)
      )

  -- where a member isn't ready, the configuration is posted to servers of the space
  join-sound : (c : CoordinatorState) → Relies c → (ms : List Member) → IsListOf space ms → (p : Post) → IsIn p (join_posts c.config ms) → IsSound p
  join-sound c h ms list =
      each-provided IsSound (any_ready ms && any_joining ms) _
      (each-map IsSound (to_server (a_message.Install c.config)) (last_ready_pair ms)
      (λ s i. to_server-sound (a_message.Install c.config) s
      (pair-servers ms (λ x j. all-in (λ (y : Member). IsServerOf space y.server) ms x list.each j) s i) refl
      (install-sound c h)))

  -- a tick
  tick-good : (c : CoordinatorState) → Relies c → DoesWell (coordinator_tick c)
  tick-good c h =
      let dies = flat_map (λ (t : Task). die_for t.op) c.todo in
      telling-good c h.sound _
      (
      each-append IsSound dies (flat_map (join_posts c.config) c.config.regions)
      (each-flat IsSound (λ (t : Task). die_for t.op) c.todo (λ t i. die-sound t.op (h.sound.todo t i).fits))
      (each-flat IsSound (join_posts c.config) c.config.regions
      (λ ms i. join-sound c h ms (all-in (IsListOf space) c.config.regions ms h.sound.config.of_space.each i)))
      )

  -- ---- each case

  -- an answer is told and kept
  answers-good : (c : CoordinatorState) → Relies c → (caller : Caller) → IsSessionOf sessions caller.session
      → (a : Answer) → IsSoundAnswer (bounds space sessions n) a
      → DoesWell (telling (with_number c caller (Some a)) (outcome caller a ∷ []))
  answers-good c h caller session a sound = telling-good (with_number c caller (Some a))
      (with_number-sound c h.sound caller (Some a) sound) _
      (each-one IsSound (outcome caller a) (outcome-sound caller a session sound))

  -- each input of the coordinator
  pub coordinator-good : (c : CoordinatorState) → Relies c → (input : Input)
      → ((id : PostId) (from : Actor) (m : Message) → input ≡ Deliver id from m → (j : ℕ) × IsSoundPost space sessions j (post from Coordinator m))
      → DoesWell (coordinator_step c input)
  coordinator-good c h input f = coordinator-cases c input DoesWell (record {
    rests = resting-good c h.sound;
    ticks = tick-good c h;
    polled = λ id from epoch i. (let a = f id from (a_message.Poll epoch) i in
        telling-good c h.sound _ (each-one IsSound (post Coordinator from (a_message.Install c.config))
        (record {
          from = tt;
          to = exists-up space sessions a.0 n from a.1.from;
          between = back epoch c.config from a.1.between;
          message = install-sound c h;
        })));
    gone = λ id s i. issue-good c h.sound (config_without c.config s)
        (record { of_space = config_without-sound space c.config s h.sound.config.of_space; epoch = next-epoch c h })
        _ (stops-answered space sessions n (config_without c.config s) s (next-epoch c h) c.todo h.sound.todo)
        (stops_left s c.todo) (stops-left space sessions n s c.todo h.sound.todo);
    ready = λ id s epoch g i l. issue-good c h.sound (config_ready c.config s g)
        (record { of_space = config_ready-sound space c.config h.sound.config.of_space s g; epoch = next-epoch c h })
        [] (λ a i. absurd i) c.todo h.sound.todo;
    told = λ id u number m x a i j s q e. telling-good c h.sound _
        (each-one IsSound (outcome (call_by u number) a)
        (outcome-sound (call_by u number) a (session id u m i)
        (subst (IsMaybeSound space sessions n) e (h.sound.newest x j))));
    dies = λ id u number s i. telling-good (with_task c (call_by u number) (Stop s))
        (with_task-sound c h.sound (call_by u number) (session id u (a_message.StopServer number s) i) (Stop s)
        (f id (Session u) (a_message.StopServer number s) i).1.message) _
        (each-one IsSound (to_server a_message.Die s) (to_server-sound a_message.Die s (f id (Session u) (a_message.StopServer number s) i).1.message refl tt));
    stopped = λ id u number s i t. answers-good c h (call_by u number)
        (session id u (a_message.StopServer number s) i) (an_answer.Stopped c.config.epoch) (tt, h.sound.config.epoch);
    refused = λ id u number s g a i e. answers-good c h (call_by u number) (session id u (a_message.AddReplica number s g) i) a
        (subst (JudgedWell space sessions n c.config s g) e (judged-sound space sessions n c.config s g h.sound.config.epoch));
    joined = λ id u number s g i e. issue-good (with_number c (call_by u number) None)
        (with_number-sound c h.sound (call_by u number) None tt) (config_with c.config s g)
        (record {
          of_space = config_with-sound space c.config h.sound.config.of_space s g (f id (Session u) (a_message.AddReplica number s g) i).1.message.0
              (subst (JudgedWell space sessions n c.config s g) e (judged-sound space sessions n c.config s g h.sound.config.epoch));
          epoch = next-epoch c h;
        })
        (record { caller = call_by u number; answer = an_answer.Issued (config_with c.config s g).epoch } ∷ [])
        (each-one (IsSoundAnswered space sessions n) (record { caller = call_by u number; answer = an_answer.Issued (config_with c.config s g).epoch })
        (record { session = session id u (a_message.AddReplica number s g) i; answer = (tt, next-epoch c h) })) c.todo h.sound.todo;
  })
    where
      session : (id : PostId) (u : SessionId) (m : Message) → input ≡ Deliver id (Session u) m → IsSessionOf sessions u
      session id u m i = let a = f id (Session u) m i in exists-up space sessions a.0 n (Session u) a.1.from
