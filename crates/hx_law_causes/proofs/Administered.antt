-- In every run each outcome of an administrative call has its cause in the trace.
use Rattle.hx_law_lemmas.proofs.Lemmas.Vocabulary.{[], Actor, Add, Answer, any_joining, ap, arith, Bool, call_of, Caller, calls_of, cases_eq, cond-false}
use Rattle.hx_law_lemmas.proofs.Lemmas.Vocabulary.{cond-true, Config, config_noted, Coordinator, coordinator_after, coordinator_of, coordinator_step}
use Rattle.hx_law_lemmas.proofs.Lemmas.Vocabulary.{CoordinatorState, CoordinatorStep, Entry, Epoch, eq-eqb, eqb, false, false≢true, first_some, inl, inr}
use Rattle.hx_law_lemmas.proofs.Lemmas.Vocabulary.{is_fulfilled, is_lost, IsIn, IsRun, IsScript, issued_after, length, List, lists_ready, lt-ltb, ltb, made_of}
use Rattle.hx_law_lemmas.proofs.Lemmas.Vocabulary.{MayTake, members_of, Message, ne_eqb, None, Note, numbered, Op, Option, Output, Post, post, posts_of, refl}
use Rattle.hx_law_lemmas.proofs.Lemmas.Vocabulary.{Script, Server, Session, session_after, session_of, SessionId, SessionState, Some, Stop, subst, sym, true}
use Rattle.hx_law_lemmas.proofs.Lemmas.Vocabulary.{true≢false, ℕ, ◌+◌, ◌∙◌, ◌∷◌, ◌≡◌, ◌≤◌}
use Rattle.hx_types.specs.Posts.{is_coordinator, is_session_actor}
use Rattle.hx_types.specs.declared.calls.Answer.TheVariants as an_answer
use Rattle.hx_types.specs.declared.messages.Message.TheVariants as a_message
use Rattle.hx_types.specs.declared.traces.Note.TheVariants as a_note
use Rattle.hx_law_lemmas.proofs.Lemmas.{AsksOf as Asks, SessionDoes, Starts, session-does, in-append, BeganAt, arrived}
use Rattle.hx_law_epochs.specs.Senders.{IsOf}
use Rattle.hx_law_epochs.proofs.Lemmas.{IsKnown, Notes, entry-posts, epochs-run, keeps-entry, known-after, known-still}
use Rattle.hx_law_chains.proofs.Lemmas.{named}
use Rattle.hx_law_searches.proofs.Lemmas.{step_is}
use Rattle.hx_law_causes.proofs.Coordinating.{Answers, AsksFor, ByStep, Given, Spoken, caller_of, coordinated, spoken-map, to-session}
use Rattle.hx_law_causes.proofs.Outcomes.{Judged, administers_to, not_listed}

-- the call is the script's, and has begun
abbrev pub Asked : Script → List Entry → Caller → Op → Type 0
Asked script t c op = (call_of script c ≡ Some op) × ((n : ℕ) × BeganAt t c n)

-- a known configuration of the epoch passes the test of the call's operation
pub record Passes (script : Script) (t : List Entry) (c : Caller) (epoch : Epoch) (test : Op → Config → Bool) : Type 0 where
  pub op : Op
  pub called : call_of script c ≡ Some op
  pub config : Config
  pub known : IsKnown script t config
  pub epoch_is : epoch ≡ config.epoch
  pub holds : test op config ≡ true

-- it was issued after the call began
pub record WasFulfilled (script : Script) (t : List Entry) (c : Caller) (epoch : Epoch) : Type 0 where
  pub passes : Passes script t c epoch is_fulfilled
  pub entry : ℕ
  pub began : BeganAt t c entry
  pub issued : issued_after entry epoch t ≡ Some passes.config

-- the cause of an outcome
abbrev pub OutcomeCause : Script → List Entry → Caller → Answer → Type 0
OutcomeCause script t c (an_answer.Issued epoch) = WasFulfilled script t c epoch
OutcomeCause script t c (an_answer.Stopped epoch) = Passes script t c epoch not_listed
OutcomeCause script t c (an_answer.Member epoch) = Passes script t c epoch (λ op config. administers_to (λ s g. lists_ready config g s) (λ s. false) op)
OutcomeCause script t c (an_answer.Joining epoch) =
    Passes script t c epoch (λ op config. administers_to (λ s g. any_joining (members_of config g)) (λ s. false) op)
OutcomeCause script t c (an_answer.Lost epoch) = Passes script t c epoch (λ op config. administers_to (λ s g. is_lost config g) (λ s. false) op)
OutcomeCause script t c other = ⊥

-- what every run keeps of administrative calls
pub record Administers (script : Script) (t : List Entry) : Type 0 where
  pub running : (u : SessionId) → (session_of script u t).under_way ≡ true → (n : ℕ)
      × BeganAt t (record { session = u; number = (session_of script u t).begun }) n
  pub asks : (p : Post) → IsIn p (posts_of t) → AsksFor (Asked script t) (OutcomeCause script t) p.from p.message
  pub answers : Answers (Asked script t) (OutcomeCause script t) (coordinator_of script t)
  pub outcomes : (p : Post) → IsIn p (posts_of t) → Spoken (OutcomeCause script t) p.to p.message

-- an entry that began a call is one of the trace's
pub began-low : (t : List Entry) (c : Caller) (n : ℕ) → BeganAt t c n → n ≤ length t
began-low [] c n h = absurd h
began-low (x ∷ older) c n (inl h) = (let e = h.2 in omega (arith, e))
began-low (x ∷ older) c n (inr h) = (let l = began-low older c n h in omega (arith, l))

module _ (script : Script) (valid : IsScript script) (older : List Entry) (before : Administers script older) (x : Entry) (run : IsRun script (x ∷ older)) where
  -- what the notes make of them
  notes : Notes script valid older (epochs-run script valid older run.1) (coordinator_of script (x ∷ older)).config x.notes
  notes = (keeps-entry script valid older (epochs-run script valid older run.1) x run.0).notes

  -- a known configuration stays known
  still : (c : Config) → IsKnown script older c → IsKnown script (x ∷ older) c
  still c k = known-still script valid older (epochs-run script valid older run.1) x run.0 c k

  -- no note is of an epoch that was known
  no-note : (c : Config) → IsKnown script older c → config_noted c.epoch x.notes ≡ None
  no-note c k = by notes
    where
      by : Notes script valid older (epochs-run script valid older run.1)
          (coordinator_of script (x ∷ older)).config x.notes → config_noted c.epoch x.notes ≡ None
      by (inl (e, f)) = f c.epoch
      by (inr i) =
          let l = ((epochs-run script valid older run.1).known.on.only c.epoch c k).1 in
          let q = i.follows.epoch in
          ap (config_noted c.epoch) i.notes
          ∙ cond-false (eqb (coordinator_of script (x ∷ older)).config.epoch.0 c.epoch.0) (Some (coordinator_of script (x ∷ older)).config) None
          (ne_eqb (coordinator_of script (x ∷ older)).config.epoch.0 c.epoch.0 (λ e. omega (arith, l, q, e)))

  -- what was issued after an entry still is
  issued-still : (n : ℕ) (epoch : Epoch) (c : Config) → n ≤ length older → IsKnown script older c → epoch ≡ c.epoch
      → issued_after n epoch older ≡ Some c → issued_after n epoch (x ∷ older) ≡ Some c
  issued-still n epoch c l k e i =
      cond-true (ltb n (length older + 1)) (first_some (config_noted epoch x.notes) (issued_after n epoch older)) None
      (lt-ltb n (length older + 1) (omega (arith, l)))
      ∙ ap (λ (o : Option Config). first_some o (issued_after n epoch older)) (subst (λ (y : Epoch). config_noted y x.notes ≡ None) (sym e) (no-note c k))
      ∙ i

  passes-still : (c : Caller) (epoch : Epoch) (test : Op → Config → Bool) → Passes script older c epoch test → Passes script (x ∷ older) c epoch test
  passes-still c epoch test h = record {
    op = h.op;
    called = h.called;
    config = h.config;
    known = still h.config h.known;
    epoch_is = h.epoch_is;
    holds = h.holds;
  }

  -- a cause stays one
  cause-still : (c : Caller) (a : Answer) → OutcomeCause script older c a → OutcomeCause script (x ∷ older) c a
  cause-still c (an_answer.Issued epoch) h = record {
    passes = record {
      op = h.passes.op;
      called = h.passes.called;
      config = h.passes.config;
      known = still h.passes.config h.passes.known;
      epoch_is = h.passes.epoch_is;
      holds = h.passes.holds;
    };
    entry = h.entry;
    began = inr h.began;
    issued = issued-still h.entry epoch h.passes.config (began-low older c h.entry h.began) h.passes.known h.passes.epoch_is h.issued;
  }
  cause-still c (an_answer.Stopped epoch) h = passes-still c epoch _ h
  cause-still c (an_answer.Member epoch) h = passes-still c epoch _ h
  cause-still c (an_answer.Joining epoch) h = passes-still c epoch _ h
  cause-still c (an_answer.Lost epoch) h = passes-still c epoch _ h
  cause-still c other h = absurd h

  -- what was asked stays so
  asked-still : (c : Caller) (op : Op) → Asked script older c op → Asked script (x ∷ older) c op
  asked-still c op h = (h.0, (h.1.0, inr h.1.1))

  asks-still : (from : Actor) (m : Message) → AsksFor (Asked script older) (OutcomeCause script older) from m
      → AsksFor (Asked script (x ∷ older)) (OutcomeCause script (x ∷ older)) from m
  asks-still from (a_message.StopServer number server) h = to-session from _ _ (λ u. asked-still (record { session = u; number = number }) (Stop server)) h
  asks-still from (a_message.AddReplica number server g) h = to-session from _ _ (λ u. asked-still (record { session = u; number = number }) (Add server g)) h
  asks-still from other h = tt

  -- what is judged now has its cause
  now-passes : (c : Caller) (op : Op) → Asked script older c op → (config : Config)
      → IsKnown script (x ∷ older) config → (epoch : Epoch) (test : Op → Config → Bool) → epoch ≡ config.epoch
      → test op config ≡ true → Passes script (x ∷ older) c epoch test
  now-passes c op asked config k epoch test e h = record { op = op; called = asked.0; config = config; known = k; epoch_is = e; holds = h }

  judged-cause : (Now : Type 0) (c : Caller) (op : Op) → Asked script older c op → (config : Config)
      → IsKnown script (x ∷ older) config → (Now → x.notes ≡ a_note.Issued config ∷ []) → (a : Answer)
      → Judged Now config op a → OutcomeCause script (x ∷ older) c a
  judged-cause Now c op asked config k f (an_answer.Issued epoch) h = record {
    passes = record { op = op; called = asked.0; config = config; known = k; epoch_is = h.1; holds = h.2 };
    entry = asked.1.0;
    began = inr asked.1.1;
    issued = cond-true (ltb asked.1.0 (length older + 1))
        (first_some (config_noted epoch x.notes) (issued_after asked.1.0 epoch older)) None
        (let l = began-low older c asked.1.0 asked.1.1 in lt-ltb asked.1.0 (length older + 1) (omega (arith, l)))
        ∙ ap (λ (l : List Note). first_some (config_noted epoch l) (issued_after asked.1.0 epoch older)) (f h.0)
        ∙ ap (λ (o : Option Config). first_some o (issued_after asked.1.0 epoch older))
        (cond-true (eqb config.epoch.0 epoch.0) (Some config) None
        (eq-eqb config.epoch.0 epoch.0 (ap (λ (y : Epoch). y.0) (sym h.1))));
  }
  judged-cause Now c op asked config k f (an_answer.Stopped epoch) h = now-passes c op asked config k epoch not_listed h.0 h.1
  judged-cause Now c op asked config k f (an_answer.Member epoch) h =
      now-passes c op asked config k epoch (λ op config. administers_to (λ s g. lists_ready config g s) (λ s. false) op) h.0 h.1
  judged-cause Now c op asked config k f (an_answer.Joining epoch) h =
      now-passes c op asked config k epoch (λ op config. administers_to (λ s g. any_joining (members_of config g))
      (λ s. false) op) h.0 h.1
  judged-cause Now c op asked config k f (an_answer.Lost epoch) h =
      now-passes c op asked config k epoch (λ op config. administers_to (λ s g. is_lost config g) (λ s. false) op) h.0 h.1
  judged-cause Now c op asked config k f other h = absurd h

  -- what is kept where the coordinator rests and new posts neither ask nor answer
  elsewhere : ((u : SessionId) → (session_of script u (x ∷ older)).under_way ≡ true → (n : ℕ)
      × BeganAt (x ∷ older) (record { session = u; number = (session_of script u (x ∷ older)).begun }) n)
      → coordinator_of script (x ∷ older) ≡ coordinator_of script older
      → ((p : Post) → IsIn p x.outputs → AsksFor (Asked script (x ∷ older))
      (OutcomeCause script (x ∷ older)) p.from p.message
      × Spoken (OutcomeCause script (x ∷ older)) p.to p.message) → Administers script (x ∷ older)
  elsewhere running same new = record {
    running = running;
    asks = λ p i. elim (in-append x.outputs (posts_of older) p i) [ inl j ↦ (new p j).0 | inr j ↦ asks-still p.from p.message (before.asks p j) ];
    answers = subst (Answers (Asked script (x ∷ older)) (OutcomeCause script (x ∷ older))) (sym same) (record {
      todo = λ t i. asked-still t.caller t.op (before.answers.todo t i);
      newest = λ n i a e. cause-still (caller_of n) a (before.answers.newest n i a e);
    });
    outcomes = λ p i. elim (in-append x.outputs (posts_of older) p i) [
      | inl j ↦ (new p j).1
      | inr j ↦ spoken-map (OutcomeCause script older) (OutcomeCause script (x ∷ older)) cause-still p.to p.message
          (before.outcomes p j)
    ];
  }

  -- sessions that rest
  rests : (u : SessionId) → session_of script u (x ∷ older) ≡ session_of script u older → (session_of script u (x ∷ older)).under_way ≡ true
      → (n : ℕ) × BeganAt (x ∷ older) (record { session = u; number = (session_of script u (x ∷ older)).begun }) n
  rests u e w =
      let r = before.running u (sym (ap (λ (s : SessionState). s.under_way) e) ∙ w) in
      (r.0, subst (λ k. BeganAt (x ∷ older) (record { session = u; number = k }) r.0) (sym (ap (λ (s : SessionState). s.begun) e)) (inr r.1))

  -- whoever is no session asks for nothing
  others-ask : (a : Actor) → is_session_actor a ≡ false → (from : Actor) (m : Message) → IsOf a m
      → AsksFor (Asked script (x ∷ older)) (OutcomeCause script (x ∷ older)) from m
  others-ask (Session u) n from m h = absurd (true≢false n)
  others-ask other n from (a_message.StopServer number server) h = absurd h
  others-ask other n from (a_message.AddReplica number server g) h = absurd h
  others-ask other n from m h = tt

  -- whoever isn't the coordinator tells no outcome
  others-tell : (a : Actor) → is_coordinator a ≡ false → (to : Actor) (m : Message) → IsOf a m → Spoken (OutcomeCause script (x ∷ older)) to m
  others-tell Coordinator n to m h = absurd (true≢false n)
  others-tell other n to (a_message.Outcome number answer) h = absurd h
  others-tell other n to m h = tt

  -- ---- an entry of a server
  of-server : (i : _) → x.actor ≡ Server i → Administers script (x ∷ older)
  of-server i acts =
      elsewhere
      (λ u. rests u (ap (λ (a : Actor). session_after script.space u a x.input (session_of script u older)) acts))
      (ap (λ (a : Actor). coordinator_after a x.input (coordinator_of script older)) acts)
      (λ p j. let h = entry-posts script older x run.0 (Server i) acts p j in
      (others-ask (Server i) refl p.from p.message h, others-tell (Server i) refl p.to p.message h))

  -- ---- an entry of a session
  session-asks : (u : SessionId) (s : SessionState) → s.calls ≡ calls_of script u
      → (n : ℕ) × BeganAt (x ∷ older) (record { session = u; number = s.begun }) n → (m : Message) → Asks s m
      → AsksFor (Asked script (x ∷ older)) (OutcomeCause script (x ∷ older)) (Session u) m
  session-asks u s e b (a_message.StopServer number server) h =
      subst (λ k. Asked script (x ∷ older) (record { session = u; number = k }) (Stop server)) (sym h.0) (ap (λ l. numbered l s.begun) (sym e) ∙ h.1, b)
  session-asks u s e b (a_message.AddReplica number server g) h =
      subst (λ k. Asked script (x ∷ older) (record { session = u; number = k }) (Add server g)) (sym h.0) (ap (λ l. numbered l s.begun) (sym e) ∙ h.1, b)
  session-asks u s e b other h = tt

  -- what the step of the session does, with the posts and notes of the entry
  does-here : (u : SessionId) → x.actor ≡ Session u
      → SessionDoes script.space x.input (session_of script u older)
      (record { state = session_of script u (x ∷ older); posts = x.outputs; notes = x.notes })
  does-here u acts = subst (SessionDoes script.space x.input (session_of script u older))
      (step_is script older x u run.0 acts) (session-does script.space (session_of script u older) x.input)

  -- the call under way when the session sends has begun
  mid-began : (u : SessionId) → x.actor ≡ Session u → (mid : SessionState) (rest : List Note)
      → Starts (session_of script u older) mid x.notes rest → mid.under_way ≡ true
      → (n : ℕ) × BeganAt (x ∷ older) (record { session = u; number = mid.begun }) n
  mid-began u acts mid rest (inl h) w =
      let r = before.running u (sym h.1 ∙ w) in (r.0, subst (λ k. BeganAt (x ∷ older) (record { session = u; number = k }) r.0) (sym h.0) (inr r.1))
  mid-began u acts mid rest (inr h) w = (length older + 1, inl (acts, subst (λ (l : List Note). IsIn (a_note.Began mid.begun) l) (sym h.4) (inl refl), refl))

  of-session : (u : SessionId) → x.actor ≡ Session u → Administers script (x ∷ older)
  of-session u acts =
      let does = does-here u acts in
      let name = named script older u in
      elsewhere
      (λ v w. elim (cases_eq u.0 v.0) [
        | inl e ↦ (let q : u ≡ v = λ j. record { 0 = e j } in
            subst (λ (y : SessionId). (session_of script y (x ∷ older)).under_way ≡ true → (n : ℕ)
            × BeganAt (x ∷ older) (record { session = y; number = (session_of script y (x ∷ older)).begun }) n) q
            (λ w. (let r = mid-began u acts does.mid does.rest does.starts (does.goes.under_way w) in
            (r.0, subst (λ k. BeganAt (x ∷ older) (record { session = u; number = k }) r.0) (sym does.goes.begun) r.1))) w)
        | inr n ↦ rests v (ap (λ (a : Actor). session_after script.space v a x.input (session_of script v older)) acts
            ∙ cond-false (eqb u.0 v.0) _ (session_of script v older) (ne_eqb u.0 v.0 n)) w
      ])
      (ap (λ (a : Actor). coordinator_after a x.input (coordinator_of script older)) acts)
      (λ p j. let h = does.goes.posts p j in (
        subst (λ (a : Actor). AsksFor (Asked script (x ∷ older)) (OutcomeCause script (x ∷ older)) a p.message) (sym (h.0 ∙ ap Session (does.id ∙ name.0)))
            (session-asks u does.mid (does.calls ∙ name.1) (mid-began u acts does.mid does.rest does.starts (does.goes.running p j)) p.message h.1),
        others-tell (Session u) refl p.to p.message (entry-posts script older x run.0 (Session u) acts p j),
      ))

  -- ---- an entry of the coordinator
  of-coordinator : x.actor ≡ Coordinator → Administers script (x ∷ older)
  of-coordinator acts =
      let made : made_of script older Coordinator x.input ≡ record { posts = x.outputs; notes = x.notes } =
      subst (λ (a : Actor). made_of script older a x.input ≡ record { posts = x.outputs; notes = x.notes }) acts run.0.made in
      let may : MayTake older Coordinator x.input = subst (λ (a : Actor). MayTake older a x.input) acts run.0.input in
      let step = coordinator_step (coordinator_of script older) x.input in
      let state : coordinator_of script (x ∷ older) ≡ step.state = ap (λ (a : Actor). coordinator_after a x.input (coordinator_of script older)) acts in
      let does = coordinated (Asked script older) (OutcomeCause script older) (coordinator_of script older) x.input before.answers
      (λ id from m e. before.asks (post from Coordinator m) (arrived id older (post from Coordinator m) (subst (MayTake older Coordinator) e may))) in
      let out : (p : Post) → IsIn p x.outputs → IsIn p step.posts = λ p j. subst (λ (ps : List Post). IsIn p ps) (sym (ap (λ (m : Output). m.posts) made)) j in
      let given : (c : Caller) (a : Answer) → Given (Asked script older) (OutcomeCause script older)
      (ByStep (Asked script older) (OutcomeCause script older) (coordinator_of script older) step) c a
      → OutcomeCause script (x ∷ older) c a =
      λ c a. by step state (sym (ap (λ (m : Output). m.notes) made)) c a in
      record {
        running = λ u. rests u (ap (λ (a : Actor). session_after script.space u a x.input (session_of script u older)) acts);
        asks = λ p i. elim (in-append x.outputs (posts_of older) p i) [
          | inl j ↦ others-ask Coordinator refl p.from p.message (entry-posts script older x run.0 Coordinator acts p j)
          | inr j ↦ asks-still p.from p.message (before.asks p j)
        ];
        answers = subst (Answers (Asked script (x ∷ older)) (OutcomeCause script (x ∷ older))) (sym state) (record {
          todo = λ t i. asked-still t.caller t.op (does.todo t i);
          newest = λ n i a e. given (caller_of n) a (does.newest n i a e);
        });
        outcomes = λ p i. elim (in-append x.outputs (posts_of older) p i) [
          | inl j ↦ spoken-map (Given (Asked script older) (OutcomeCause script older)
              (ByStep (Asked script older) (OutcomeCause script older) (coordinator_of script older) step))
              (OutcomeCause script (x ∷ older)) given p.to p.message (does.posts p (out p j))
          | inr j ↦ spoken-map (OutcomeCause script older) (OutcomeCause script (x ∷ older)) cause-still p.to p.message (before.outcomes p j)
        ];
      }
    where
      by : (step : CoordinatorStep) → coordinator_of script (x ∷ older) ≡ step.state → x.notes ≡ step.notes → (c : Caller) (a : Answer)
          → Given (Asked script older) (OutcomeCause script older)
          (ByStep (Asked script older) (OutcomeCause script older) (coordinator_of script older) step) c a
          → OutcomeCause script (x ∷ older) c a
      by step state ns c a (inl h) = cause-still c a h
      by step state ns c a (inr (op, asked, inl j)) =
          judged-cause ⊥ c op asked (coordinator_of script older).config
          (still (coordinator_of script older).config (epochs-run script valid older run.1).known.newest) (λ z. absurd z) a j
      by step state ns c a (inr (op, asked, inr j)) =
          judged-cause (step.notes ≡ a_note.Issued step.state.config ∷ []) c op asked step.state.config
          (subst (λ (d : CoordinatorState). IsKnown script (x ∷ older) d.config) state
          (known-after script valid older (epochs-run script valid older run.1) x run.0).newest) (λ z. ns ∙ z) a j

  -- an entry of whoever
  pub entry-administers : Administers script (x ∷ older)
  entry-administers = by x.actor refl
    where
      by : (a : Actor) → x.actor ≡ a → Administers script (x ∷ older)
      by Coordinator e = of-coordinator e
      by (Server i) e = of-server i e
      by (Session u) e = of-session u e

-- every run keeps it
pub administers-run : (script : Script) → IsScript script → (t : List Entry) → IsRun script t → Administers script t
administers-run script valid [] run = record {
  running = λ u w. absurd (false≢true w);
  asks = λ p i. absurd i;
  answers = record { todo = λ t i. absurd i; newest = λ n i a e. absurd i };
  outcomes = λ p i. absurd i;
}
administers-run script valid (x ∷ older) run = entry-administers script valid older (administers-run script valid older run.1) x run
