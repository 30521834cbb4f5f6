-- What each step of the coordinator posts and notes, whatever it takes: of configurations its own.
use Rattle.hx_law_lemmas.proofs.Lemmas.Vocabulary.{[], Answer, Answered, any_joining, any_ready, below, Caller, Config, config_ready, config_with}
use Rattle.hx_law_lemmas.proofs.Lemmas.Vocabulary.{config_without, Coordinator, coordinator_step, coordinator_tick, CoordinatorState, CoordinatorStep, die_for}
use Rattle.hx_law_lemmas.proofs.Lemmas.Vocabulary.{flat_map, inl, Input, inr, IsIn, issue, join_posts, last_ready_pair, List, map, Message, None, Note, Op}
use Rattle.hx_law_lemmas.proofs.Lemmas.Vocabulary.{outcome, Post, post, refl, ServerId, Session, session_posts, Some, Stop, stops_left, Task, telling}
use Rattle.hx_law_lemmas.proofs.Lemmas.Vocabulary.{to_server, with_number, with_task, ◌&&◌, ◌++◌, ◌+◌, ◌∷◌, ◌≡◌, ◌⊎◌}
use Rattle.hx_types.specs.declared.calls.Answer.TheVariants as an_answer
use Rattle.hx_types.specs.declared.messages.Message.TheVariants as a_message
use Rattle.hx_types.specs.declared.traces.Note.TheVariants as a_note
use Rattle.hx_law_lemmas.proofs.Lemmas.{call_by, coordinator-cases, each-append, each-flat, each-map, each-one, each-provided}
use Rattle.hx_law_epochs.specs.Senders.{IsOfCoordinator}

-- what the coordinator posts where its configuration is this
abbrev pub Controls : Config → Message → Type 0
Controls c (a_message.Install config) = config ≡ c
Controls c other = IsOfCoordinator other

-- it is of the coordinator's kinds
pub controls-of : (c : Config) (m : Message) → Controls c m → IsOfCoordinator m
controls-of c (a_message.Install config) h = tt
controls-of c other h = h

-- what it notes
abbrev pub Issues : List Note → Type 0
Issues notes = (notes ≡ []) ⊎ ((config : Config) × (notes ≡ a_note.Issued config ∷ []))

-- a post of the coordinator
abbrev pub Rules : Config → Post → Type 0
Rules c p = (p.from ≡ Coordinator) × Controls c p.message

-- the same to each of some servers
to-each : (c : Config) (m : Message) → Controls c m → (servers : List ServerId) (p : Post) → IsIn p (map (to_server m) servers) → Rules c p
to-each c m h servers = each-map (Rules c) (to_server m) servers (λ s i. (refl, h))

-- what a step posts and notes
pub record Commands (step : CoordinatorStep) : Type 0 where
  pub posts : (p : Post) → IsIn p step.posts → Rules step.state.config p
  pub notes : Issues step.notes

-- posts alone
tells : (d : CoordinatorState) (new : List Post) → ((p : Post) → IsIn p new → Rules d.config p) → Commands (telling d new)
tells d new f = record { posts = f; notes = inl refl }

-- a call is answered
answers : (d : CoordinatorState) (caller : Caller) (answer : Answer) → Commands (telling d (outcome caller answer ∷ []))
answers d caller answer = tells d _ (each-one (Rules d.config) (outcome caller answer) (refl, tt))

-- a configuration is issued
issues : (d : CoordinatorState) (n : Config) (answered : List Answered) (left : List Task) → Commands (issue d n answered left)
issues d n answered left =
    let install = a_message.Install n in
    let servers = map (to_server install) n.servers in
    let sessions = session_posts d.sessions install in
    record {
      posts = each-append (Rules n) (servers ++ sessions) (map (λ (a : Answered). outcome a.caller a.answer) answered)
          (each-append (Rules n) servers sessions (to-each n install refl n.servers)
          (each-map (Rules n) (λ m. post Coordinator (Session (record { 0 = m + 1 })) install) (below d.sessions) (λ m i. (refl, refl))))
          (each-map (Rules n) (λ (a : Answered). outcome a.caller a.answer) answered (λ a i. (refl, tt)));
      notes = inr (n, refl);
    }

-- what is posted to stop servers
dies : (c : Config) (op : Op) (p : Post) → IsIn p (die_for op) → Rules c p
dies c (Stop s) = each-one (Rules c) (to_server a_message.Die s) (refl, tt)
dies c other = λ p i. absurd i

-- a tick
ticks : (d : CoordinatorState) → Commands (coordinator_tick d)
ticks d =
    let again = flat_map (λ (t : Task). die_for t.op) d.todo in
    tells d (again ++ flat_map (join_posts d.config) d.config.regions)
    (each-append (Rules d.config) again (flat_map (join_posts d.config) d.config.regions)
    (each-flat (Rules d.config) (λ (t : Task). die_for t.op) d.todo (λ t i. dies d.config t.op))
    (each-flat (Rules d.config) (join_posts d.config) d.config.regions
    (λ ms i. each-provided (Rules d.config) (any_ready ms && any_joining ms) _ (to-each d.config (a_message.Install d.config) refl (last_ready_pair ms)))))

-- each step
pub commands : (d : CoordinatorState) (input : Input) → Commands (coordinator_step d input)
commands d input = coordinator-cases d input Commands (record {
  rests = tells d [] (λ p i. absurd i);
  ticks = ticks d;
  polled = λ id from epoch i. tells d _ (each-one (Rules d.config) (post Coordinator from (a_message.Install d.config)) (refl, refl));
  gone = λ id s i. issues d (config_without d.config s) _ (stops_left s d.todo);
  ready = λ id s epoch g i l. issues d (config_ready d.config s g) [] d.todo;
  told = λ id u number m n a i j k l e. answers d (call_by u number) a;
  dies = λ id u number s i. tells (with_task d (call_by u number) (Stop s)) _ (each-one (Rules d.config) (to_server a_message.Die s) (refl, tt));
  stopped = λ id u number s i t. answers (with_number d (call_by u number) (Some (an_answer.Stopped d.config.epoch))) (call_by u number) _;
  refused = λ id u number s g a i e. answers (with_number d (call_by u number) (Some a)) (call_by u number) a;
  joined = λ id u number s g i e. issues (with_number d (call_by u number) None) (config_with d.config s g)
      (record { caller = call_by u number; answer = an_answer.Issued (config_with d.config s g).epoch } ∷ []) d.todo;
})

-- so far as kinds go
pub record Plain (step : CoordinatorStep) : Type 0 where
  pub posts : (p : Post) → IsIn p step.posts → IsOfCoordinator p.message
  pub notes : Issues step.notes

pub coordinator-plain : (d : CoordinatorState) (input : Input) → Plain (coordinator_step d input)
coordinator-plain d input = record {
  posts = λ p i. controls-of (coordinator_step d input).state.config p.message ((commands d input).posts p i).1;
  notes = (commands d input).notes;
}
