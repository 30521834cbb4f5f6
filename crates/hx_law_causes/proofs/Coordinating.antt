-- Each step of the coordinator: what it answers was answered before, or is judged on its configuration or on the one that it issues.
use Rattle.hx_law_lemmas.proofs.Lemmas.Vocabulary.{[], Actor, Add, Answer, Answered, any_joining, any_ready, ap, below, Caller, cond_both, Config, config_ready}
use Rattle.hx_law_lemmas.proofs.Lemmas.Vocabulary.{config_with, config_without, Coordinator, coordinator_step, coordinator_tick, CoordinatorState}
use Rattle.hx_law_lemmas.proofs.Lemmas.Vocabulary.{CoordinatorStep, Deliver, die_for, filter, flat_map, inl, Input, inr, is_newest_call, IsIn, issue}
use Rattle.hx_law_lemmas.proofs.Lemmas.Vocabulary.{join_posts, last_ready_pair, List, map, Member, Message, Newest, newest_answered, None, not, Op, Option}
use Rattle.hx_law_lemmas.proofs.Lemmas.Vocabulary.{outcome, Post, post, refl, resting, Server, ServerId, Session, session_posts, SessionId, Some, Stop}
use Rattle.hx_law_lemmas.proofs.Lemmas.Vocabulary.{stops_answered, stops_left, stops_server, subst, sym, Task, telling, to_server, with_answer, with_newest}
use Rattle.hx_law_lemmas.proofs.Lemmas.Vocabulary.{with_number, with_task, ⊤, ◌&&◌, ◌++◌, ◌+◌, ◌∙◌, ◌∷◌, ◌≡◌, ◌⊎◌}
use Rattle.hx_types.specs.declared.calls.Answer.TheVariants as an_answer
use Rattle.hx_types.specs.declared.messages.Message.TheVariants as a_message
use Rattle.hx_types.specs.declared.traces.Note.TheVariants as a_note
use Rattle.hx_law_lemmas.proofs.Lemmas.{call_by, coordinator-cases, each-append, each-flat, each-map, each-one, each-provided, in-with_newest, in-filter}
use Rattle.hx_law_lemmas.proofs.Lemmas.{in-flat_map, in-map}
use Rattle.hx_law_causes.proofs.Outcomes.{Judged, add-judged, judged-is, stop-judged}

-- what is said of the session that is answered
abbrev pub ToSession : Actor → (SessionId → Type 0) → Type 0
ToSession Coordinator P = ⊤
ToSession (Server s) P = ⊤
ToSession (Session u) P = P u

-- what an outcome tells
abbrev pub Spoken : (Caller → Answer → Type 0) → Actor → Message → Type 0
Spoken G to (a_message.Outcome number a) = ToSession to (λ u. G (record { session = u; number = number }) a)
Spoken G to other = ⊤

pub to-session : (a : Actor) (P Q : SessionId → Type 0) → ((u : SessionId) → P u → Q u) → ToSession a P → ToSession a Q
to-session Coordinator P Q f h = tt
to-session (Server s) P Q f h = tt
to-session (Session u) P Q f h = f u h

pub spoken-map : (G H : Caller → Answer → Type 0) → ((c : Caller) (a : Answer) → G c a → H c a) → (to : Actor) (m : Message) → Spoken G to m → Spoken H to m
spoken-map G H f to (a_message.Outcome number a) h =
    to-session to (λ u. G (record { session = u; number = number }) a)
    (λ u. H (record { session = u; number = number }) a) (λ u. f (record { session = u; number = number }) a) h
spoken-map G H f to other h = tt

-- the caller of a newest call
abbrev pub caller_of : Newest → Caller
caller_of x = record { session = x.session; number = x.number }

module _ (Asked : Caller → Op → Type 0) (Old : Caller → Answer → Type 0) where
  -- what the coordinator has to do was asked, and what it has answered was answered
  pub record Answers (d : CoordinatorState) : Type 0 where
    pub todo : (t : Task) → IsIn t d.todo → Asked t.caller t.op
    pub newest : (x : Newest) → IsIn x d.newest → (a : Answer) → x.answer ≡ Some a → Old (caller_of x) a

  -- answered before, or judged so
  abbrev pub Given : (Op → Answer → Type 0) → Caller → Answer → Type 0
  Given J c a = Old c a ⊎ ((op : Op) × Asked c op × J op a)

  -- judged on the configuration before the step, or on the one issued in it
  abbrev pub ByStep : CoordinatorState → CoordinatorStep → Op → Answer → Type 0
  ByStep d step op a = Judged ⊥ d.config op a ⊎ Judged (step.notes ≡ a_note.Issued step.state.config ∷ []) step.state.config op a

  -- what a step answers
  pub record Coordinated (d : CoordinatorState) (step : CoordinatorStep) : Type 0 where
    pub todo : (t : Task) → IsIn t step.state.todo → Asked t.caller t.op
    pub newest : (x : Newest) → IsIn x step.state.newest → (a : Answer) → x.answer ≡ Some a → Given (ByStep d step) (caller_of x) a
    pub posts : (p : Post) → IsIn p step.posts → Spoken (Given (ByStep d step)) p.to p.message

  -- what is judged on the configuration before
  abbrev Now : CoordinatorState → Caller → Answer → Type 0
  Now d = Given (λ op a. Judged ⊥ d.config op a)

  -- posts alone, with what has been answered
  tells : (d d' : CoordinatorState) → d'.config ≡ d.config → ((t : Task) → IsIn t d'.todo → Asked t.caller t.op)
      → ((x : Newest) → IsIn x d'.newest → (a : Answer) → x.answer ≡ Some a → Now d (caller_of x) a)
      → (new : List Post) → ((p : Post) → IsIn p new → Spoken (Now d) p.to p.message) → Coordinated d (telling d' new)
  tells d d' e todo newest new f = record {
    todo = todo;
    newest = λ x i a q. up (caller_of x) a (newest x i a q);
    posts = λ p i. spoken-map (Now d) (Given (ByStep d (telling d' new))) up p.to p.message (f p i);
  }
    where
      up : (c : Caller) (a : Answer) → Now d c a → Given (ByStep d (telling d' new)) c a
      up c a (inl h) = inl h
      up c a (inr (op, asked, j)) = inr (op, asked, inl j)

  -- with the state as it was
  keeps : (d : CoordinatorState) → Answers d → (new : List Post) → ((p : Post) → IsIn p new → Spoken (Now d) p.to p.message) → Coordinated d (telling d new)
  keeps d h new f = tells d d refl h.todo (λ x i a q. inl (h.newest x i a q)) new f

  rests : (d : CoordinatorState) → Answers d → Coordinated d (resting d)
  rests d h = keeps d h [] (λ p i. absurd i)

  -- posts of one message to each of some servers are no outcomes
  to-each : (G : Caller → Answer → Type 0) (m : Message) (servers : List ServerId) (p : Post) → IsIn p (map (to_server m) servers) → Spoken G p.to p.message
  to-each G m servers p i = let r = in-map (to_server m) servers p i in subst (λ (q : Post). Spoken G q.to q.message) (sym r.2) (at r.0 m)
    where
      at : (s : ServerId) (m : Message) → Spoken G (Server s) m
      at s (a_message.Outcome number answer) = tt
      at s other = tt

  -- one post
  one : (G : Caller → Answer → Type 0) (p : Post) → Spoken G p.to p.message → (q : Post) → IsIn q (p ∷ []) → Spoken G q.to q.message
  one G = each-one (λ (p : Post). Spoken G p.to p.message)

  -- ---- an issue

  -- the answers of those that are answered
  answered-newest : (G : Caller → Answer → Type 0) (xs : List Answered)
      → ((a : Answered) → IsIn a xs → G a.caller a.answer) → (ns : List Newest)
      → ((x : Newest) → IsIn x ns → (a : Answer) → x.answer ≡ Some a → G (caller_of x) a)
      → (x : Newest) → IsIn x (newest_answered xs ns) → (a : Answer) → x.answer ≡ Some a → G (caller_of x) a
  answered-newest G [] f ns h = h
  answered-newest G (y ∷ ys) f ns h =
      answered-newest G ys (λ z j. f z (inr j)) (with_answer y ns)
      (cond_both (is_newest_call y.caller ns) (with_newest (record { session = y.caller.session; number = y.caller.number; answer = Some y.answer }) ns) ns
      (λ (l : List Newest). (x : Newest) → IsIn x l → (a : Answer) → x.answer ≡ Some a → G (caller_of x) a)
      (λ t x i a e. elim (in-with_newest (record { session = y.caller.session; number = y.caller.number; answer = Some y.answer }) ns x i) [
        | inl q ↦ (let z : Some y.answer ≡ Some a = sym (ap (λ (w : Newest). w.answer) q) ∙ e in let k : y.answer ≡ a = cc in
            subst (λ (w : Newest). G (caller_of w) a) (sym q) (subst (G y.caller) k (f y (inl refl))))
        | inr j ↦ h x j a e
      ])
      (λ t. h))

  -- what is judged on a configuration that is issued
  abbrev JudgedOn : Config → Answered → Type 0
  JudgedOn c a = (op : Op) × Asked a.caller op × Judged ⊤ c op a.answer

  -- a configuration is issued
  issues : (d d' : CoordinatorState) (c : Config) (answered : List Answered) (left : List Task)
      → ((t : Task) → IsIn t left → Asked t.caller t.op)
      → ((x : Newest) → IsIn x d'.newest → (a : Answer) → x.answer ≡ Some a → Now d (caller_of x) a)
      → ((a : Answered) → IsIn a answered → JudgedOn c a) → Coordinated d (issue d' c answered left)
  issues d d' c answered left todo newest well = record {
    todo = todo;
    newest = answered-newest (Given (ByStep d (issue d' c answered left))) answered (λ a i. told a (well a i)) d'.newest
        (λ x i a q. up (caller_of x) a (newest x i a q));
    posts = each-append Told (map (to_server (a_message.Install c)) c.servers
        ++ session_posts d'.sessions (a_message.Install c)) (map (λ (a : Answered). outcome a.caller a.answer) answered)
        (
        each-append Told (map (to_server (a_message.Install c)) c.servers)
        (session_posts d'.sessions (a_message.Install c))
        (to-each (Given (ByStep d (issue d' c answered left))) (a_message.Install c) c.servers)
        (each-map Told (λ n. post Coordinator (Session (record { 0 = n + 1 })) (a_message.Install c)) (below d'.sessions) (λ n i. tt))
        )
        (each-map Told (λ (a : Answered). outcome a.caller a.answer) answered (λ a i. told a (well a i)));
  }
    where
      Told : Post → Type 0
      Told p = Spoken (Given (ByStep d (issue d' c answered left))) p.to p.message

      up : (u : Caller) (a : Answer) → Now d u a → Given (ByStep d (issue d' c answered left)) u a
      up u a (inl h) = inl h
      up u a (inr (op, asked, j)) = inr (op, asked, inl j)

      here : (Note : Type 0) → Note → (op : Op) (a : Answer) → Judged ⊤ c op a → Judged Note c op a
      here Note n op (an_answer.Issued epoch) h = (n, h.1, h.2)
      here Note n op other h = h

      told : (a : Answered) → JudgedOn c a → Given (ByStep d (issue d' c answered left)) a.caller a.answer
      told a (op, asked, j) = inr (op, asked, inr (here ((issue d' c answered left).notes ≡ a_note.Issued c ∷ []) refl op a.answer j))

  -- what a state with other parts has answered
  pub record Parts (d d' : CoordinatorState) : Type 0 where
    pub config : d'.config ≡ d.config
    pub todo : (t : Task) → IsIn t d'.todo → Asked t.caller t.op
    pub newest : (x : Newest) → IsIn x d'.newest → (a : Answer) → x.answer ≡ Some a → Now d (caller_of x) a

  -- what has been answered stays so
  before-now : (d : CoordinatorState) → Answers d → (x : Newest) → IsIn x d.newest → (a : Answer) → x.answer ≡ Some a → Now d (caller_of x) a
  before-now d h x i a q = inl (h.newest x i a q)

  -- ---- messages

  -- the Stops of the server that is gone are answered
  stopped : (d : CoordinatorState) (s : ServerId) → Answers d → (a : Answered)
      → IsIn a (stops_answered (config_without d.config s) s d.todo) → JudgedOn (config_without d.config s) a
  stopped d s h =
      each-map (JudgedOn (config_without d.config s))
      (λ (x : Task). record { caller = x.caller; answer = an_answer.Issued (config_without d.config s).epoch })
      (filter (stops_server s) d.todo)
      (λ x i. let r = in-filter (stops_server s) d.todo x i in (x.op, h.todo x r.0, stop-judged ⊤ tt d.config s x.op r.1))

  -- ---- calls

  -- with the number of a call, and its answer if it has one
  numbers : (d : CoordinatorState) → Answers d → (caller : Caller) (o : Option Answer)
      → ((a : Answer) → o ≡ Some a → Now d caller a) → (x : Newest) → IsIn x (with_number d caller o).newest
      → (a : Answer) → x.answer ≡ Some a → Now d (caller_of x) a
  numbers d h caller o f x i a q = elim (in-with_newest (record { session = caller.session; number = caller.number; answer = o }) d.newest x i) [
    | inl e ↦ subst (λ (y : Newest). Now d (caller_of y) a) (sym e) (f a (sym (ap (λ (y : Newest). y.answer) e) ∙ q))
    | inr j ↦ inl (h.newest x j a q)
  ]

  -- one more to do
  more-todo : (d : CoordinatorState) → Answers d → (caller : Caller) (op : Op) → Asked caller op → Parts d (with_task d caller op)
  more-todo d h caller op asked = record {
    config = refl;
    todo = each-append (λ (t : Task). Asked t.caller t.op) d.todo _ h.todo
        (each-one (λ (t : Task). Asked t.caller t.op) (record { caller = caller; op = op }) asked);
    newest = numbers d h caller None (λ a q. absurd (cc));
  }

  -- a call is answered at once
  answers-now : (d : CoordinatorState) → Answers d → (caller : Caller) (op : Op) (answer : Answer) → Asked caller op
      → Judged ⊥ d.config op answer → Coordinated d (telling (with_number d caller (Some answer)) (outcome caller answer ∷ []))
  answers-now d h caller op answer asked j =
      tells d (with_number d caller (Some answer)) refl h.todo
      (numbers d h caller (Some answer) (λ a q. (let z : answer ≡ a = cc in subst (Now d caller) z (inr (op, asked, j)))))
      (outcome caller answer ∷ []) (one (Now d) (outcome caller answer) (inr (op, asked, j)))

  -- what is posted to stop servers
  dies : (G : Caller → Answer → Type 0) (ts : List Task) (p : Post) → IsIn p (flat_map (λ (t : Task). die_for t.op) ts) → Spoken G p.to p.message
  dies G ts p i = let r = in-flat_map (λ (t : Task). die_for t.op) ts p i in by r.0.op r.2
    where
      by : (op : Op) → IsIn p (die_for op) → Spoken G p.to p.message
      by (Stop s) j = to-each G a_message.Die (s ∷ []) p j
      by other j = absurd j

  -- what is posted for joiners
  joins : (G : Caller → Answer → Type 0) (c : Config) (lists : List (List Member)) (p : Post) → IsIn p (flat_map (join_posts c) lists) → Spoken G p.to p.message
  joins G c lists =
      each-flat (λ (p : Post). Spoken G p.to p.message) (join_posts c) lists
      (λ ms i. each-provided (λ (p : Post). Spoken G p.to p.message) (any_ready ms && any_joining ms) _ (to-each G (a_message.Install c) (last_ready_pair ms)))

  ticks : (d : CoordinatorState) → Answers d → Coordinated d (coordinator_tick d)
  ticks d h = keeps d h (flat_map (λ (t : Task). die_for t.op) d.todo ++ flat_map (join_posts d.config) d.config.regions)
      (each-append (λ (p : Post). Spoken (Now d) p.to p.message) (flat_map (λ (t : Task). die_for t.op) d.todo) _
      (dies (Now d) d.todo) (joins (Now d) d.config d.config.regions))

  -- what a message asks of the coordinator
  abbrev pub AsksFor : Actor → Message → Type 0
  AsksFor from (a_message.StopServer number server) = ToSession from (λ u. Asked (record { session = u; number = number }) (Stop server))
  AsksFor from (a_message.AddReplica number server g) = ToSession from (λ u. Asked (record { session = u; number = number }) (Add server g))
  AsksFor from other = ⊤

  -- each step
  pub coordinated : (d : CoordinatorState) (input : Input) → Answers d
      → ((id : _) (from : Actor) (m : Message) → input ≡ Deliver id from m → AsksFor from m)
      → Coordinated d (coordinator_step d input)
  coordinated d input h v = coordinator-cases d input (Coordinated d) (record {
    rests = rests d h;
    ticks = ticks d h;
    polled = λ id from epoch i. keeps d h _ (one (Now d) (post Coordinator from (a_message.Install d.config)) tt);
    gone = λ id s i. issues d d (config_without d.config s) (stops_answered (config_without d.config s) s d.todo) (stops_left s d.todo)
        (λ x j. h.todo x (in-filter (λ (y : Task). not (stops_server s y)) d.todo x j).0) (before-now d h) (stopped d s h);
    ready = λ id s epoch g i l. issues d d (config_ready d.config s g) [] d.todo h.todo (before-now d h) (λ a j. absurd j);
    told = λ id u number m n a i j k l e. keeps d h _
        (one (Now d) (outcome (call_by u number) a) (inl
        (subst (λ (y : Caller). Old y a) (λ x. record { session = k x; number = l x }) (h.newest n j a e))));
    dies = λ id u number s i. (let p = more-todo d h (call_by u number) (Stop s) (v id (Session u) (a_message.StopServer number s) i) in
        tells d (with_task d (call_by u number) (Stop s)) refl p.todo p.newest (to_server a_message.Die s ∷ []) (to-each (Now d) a_message.Die (s ∷ [])));
    stopped = λ id u number s i t. answers-now d h (call_by u number) (Stop s) (an_answer.Stopped d.config.epoch)
        (v id (Session u) (a_message.StopServer number s) i) (refl, ap not t);
    refused = λ id u number s g a i e. answers-now d h (call_by u number) (Add s g) a
        (v id (Session u) (a_message.AddReplica number s g) i) (judged-is ⊥ d.config s g a e);
    joined = λ id u number s g i e. issues d (with_number d (call_by u number) None) (config_with d.config s g)
        (record { caller = call_by u number; answer = an_answer.Issued (config_with d.config s g).epoch } ∷ []) d.todo
        h.todo (numbers d h (call_by u number) None (λ a q. absurd (cc)))
        (each-one (JudgedOn (config_with d.config s g)) (record { caller = call_by u number; answer = an_answer.Issued (config_with d.config s g).epoch })
        (Add s g, v id (Session u) (a_message.AddReplica number s g) i, add-judged ⊤ tt d.config s g e));
  })
