-- Each step of a session: what it posts, and how the call under way ends.
use Rattle.hx_law_lemmas.proofs.Lemmas.Vocabulary.{[], Actor, Add, all_parts, Answer, ap, ask_regions, ask_to, Atomic, begin, Bool, call_to, cond_both, Config}
use Rattle.hx_law_lemmas.proofs.Lemmas.Vocabulary.{Coordinator, Cput, Del, Deliver, end_with_parts, ending, Epoch, false, false≢true, Get, head_of, inl, Input}
use Rattle.hx_law_lemmas.proofs.Lemmas.Vocabulary.{inr, is_administrative, is_key_call, is_lost, is_search, IsIn, key_of, key_region, List, lost_answer, map}
use Rattle.hx_law_lemmas.proofs.Lemmas.Vocabulary.{merged_parts, Message, no_version, None, Note, numbered, Op, Option, Part, plan_of, Planned, Post, post}
use Rattle.hx_law_lemmas.proofs.Lemmas.Vocabulary.{PostId, provided, Put, refl, RegionId, Row, Search, send, send_to, Server, ServerId, Session, session_step}
use Rattle.hx_law_lemmas.proofs.Lemmas.Vocabulary.{SessionState, SessionStep, Some, Space, staying, Stop, subst, Term, true, Version, with_part, with_poll, ℕ}
use Rattle.hx_law_lemmas.proofs.Lemmas.Vocabulary.{⊤, ◌++◌, ◌+◌, ◌<◌, ◌∷◌, ◌≡◌, ◌⊎◌}
use Rattle.hx_types.specs.declared.calls.Answer.TheVariants as an_answer
use Rattle.hx_types.specs.declared.messages.Message.TheVariants as a_message
use Rattle.hx_types.specs.declared.traces.Note.TheVariants as a_note
use Rattle.hx_types.specs.declared.outcomes.Planned.TheVariants as a_plan
use Rattle.hx_law_lemmas.proofs.SessionCases.{Called, session-cases}
use Rattle.hx_law_lemmas.proofs.CallEnds.{CallStop, began_notes, end_notes, goes_on, started}
use Rattle.hx_law_lemmas.proofs.FirstMembers.{head-some}
use Rattle.hx_law_lemmas.proofs.Lists.{each-append, each-flat, each-one, each-provided, in_left}

-- a reply to the call on a key under way
pub record Replied (input : Input) (s : SessionState) (v : Version) (a : Answer) : Type 0 where
  pub id : PostId
  pub from : Actor
  pub input_is : input ≡ Deliver id from (a_message.Reply s.begun v a)
  pub op : Op
  pub called : Called s op
  pub on_key : is_key_call op ≡ true

-- the key's region is lost in the session's configuration
pub record KeyLost (space : Space) (s : SessionState) (v : Version) (a : Answer) : Type 0 where
  pub op : Op
  pub key : List ℕ
  pub called : Called s op
  pub on_key : key_of op ≡ Some key
  pub lost : is_lost s.config (key_region space key) ≡ true
  pub version : v ≡ no_version
  pub answer : a ≡ lost_answer s op (key_region space key)

-- the plan of a search is lost in it
pub record PlanLost (space : Space) (s : SessionState) (v : Version) (a : Answer) : Type 0 where
  pub terms : List Term
  pub region : RegionId
  pub called : Called s (Search terms)
  pub plan : plan_of space s.config terms ≡ a_plan.Lost region
  pub version : v ≡ no_version
  pub answer : a ≡ an_answer.Refused region s.config.epoch

-- all parts of a search are there
pub record Shown (s : SessionState) (v : Version) (a : Answer) : Type 0 where
  pub terms : List Term
  pub called : Called s (Search terms)
  pub rows : List Row
  pub version : v ≡ no_version
  pub answer : a ≡ an_answer.Rows rows

-- the outcome of an administrative call
pub record Administered (input : Input) (s : SessionState) (v : Version) (a : Answer) : Type 0 where
  pub id : PostId
  pub from : Actor
  pub input_is : input ≡ Deliver id from (a_message.Outcome s.begun a)
  pub op : Op
  pub called : Called s op
  pub administers : is_administrative op ≡ true
  pub version : v ≡ no_version

-- how a call ends
abbrev pub EndsBy : Space → Input → SessionState → Version → Answer → Type 0
EndsBy space input s v a = Replied input s v a ⊎ (KeyLost space s v a ⊎ (PlanLost space s v a ⊎ (Shown s v a ⊎ Administered input s v a)))

-- what a session posts of the call under way
abbrev pub AsksOf : SessionState → Message → Type 0
AsksOf s (a_message.Call epoch number op) = (number ≡ s.begun) × Called s op
AsksOf s (a_message.StopServer number server) = (number ≡ s.begun) × Called s (Stop server)
AsksOf s (a_message.AddReplica number server g) = (number ≡ s.begun) × Called s (Add server g)
AsksOf s (a_message.Ask epoch number g terms) = ⊤
AsksOf s (a_message.Poll epoch) = ⊤
AsksOf s other = ⊥

-- it is a call
abbrev pub IsCall : Message → Type 0
IsCall (a_message.Call epoch number op) = ⊤
IsCall other = ⊥

-- what a step that begins no call does
pub record Goes (space : Space) (input : Input) (s : SessionState) (step : SessionStep) : Type 0 where
  pub id : step.state.id ≡ s.id
  pub calls : step.state.calls ≡ s.calls
  pub config : step.state.config ≡ s.config
  pub begun : step.state.begun ≡ s.begun
  pub under_way : step.state.under_way ≡ true → s.under_way ≡ true
  pub posts : (p : Post) → IsIn p step.posts → (p.from ≡ Session s.id) × AsksOf s p.message
  pub running : (p : Post) → IsIn p step.posts → s.under_way ≡ true
  pub ends : (k : ℕ) (v : Version) (a : Answer) → IsIn (a_note.Ended k v a) step.notes → (k ≡ s.begun) × EndsBy space input s v a
  pub begins : (k : ℕ) → IsIn (a_note.Began k) step.notes → ⊥
  pub stop : Option CallStop
  pub notes : step.notes ≡ end_notes s.begun stop
  pub way : step.state.under_way ≡ goes_on stop s.under_way
  pub cause : (e : CallStop) → stop ≡ Some e → (s.under_way ≡ true) × EndsBy space input s e.version e.answer
  pub calling : (p : Post) → IsIn p step.posts → IsCall p.message → (step.state.sent ≡ true) × (step.state.under_way ≡ true)
  pub sent_kept : s.sent ≡ true → step.state.sent ≡ true
  pub sent : step.state.sent ≡ true → (s.sent ≡ true)
      ⊎ ((to : Actor) × (epoch : Epoch) × (op : Op) × IsIn (post (Session s.id) to (a_message.Call epoch s.begun op)) step.posts)

module _ (space : Space) (input : Input) where
  -- posts of the call under way, and whether it was sent
  abbrev Tells : SessionState → Bool → Post → Type 0
  Tells s sent p = (s.under_way ≡ true) × (p.from ≡ Session s.id) × AsksOf s p.message × (IsCall p.message → sent ≡ true)

  tells : (s : SessionState) (sent : Bool) (parts : List Part) (ps : List Post) → (s.sent ≡ true → sent ≡ true) → ((p : Post) → IsIn p ps → Tells s sent p)
      → (sent ≡ true → (s.sent ≡ true) ⊎ ((to : Actor) × (epoch : Epoch) × (op : Op) × IsIn (post (Session s.id) to (a_message.Call epoch s.begun op)) ps))
      → Goes space input s (record { state = record s { sent = sent; parts = parts }; posts = ps; notes = [] })
  tells s sent parts ps k f g = record {
    id = refl;
    calls = refl;
    config = refl;
    begun = refl;
    under_way = λ e. e;
    posts = λ p i. (let h = f p i in (h.1, h.2));
    running = λ p i. (f p i).0;
    ends = λ k v a i. absurd i;
    begins = λ k i. absurd i;
    stop = None;
    notes = refl;
    way = refl;
    cause = λ e q. absurd (cc);
    calling = λ p i c. (let h = f p i in (h.3 c, h.0));
    sent_kept = k;
    sent = g;
  }

  -- nothing happens
  stays : (s : SessionState) → Goes space input s (staying s)
  stays s = tells s s.sent s.parts [] (λ e. e) (λ p i. absurd i) (λ e. inl e)

  -- the call ends
  ends-so : (s : SessionState) (version : Version) (answer : Answer) → s.under_way ≡ true → EndsBy space input s version answer
      → Goes space input s (ending s version answer)
  ends-so s version answer running h = record {
    id = refl;
    calls = refl;
    config = refl;
    begun = refl;
    under_way = λ e. absurd (false≢true e);
    posts = λ p i. absurd i;
    running = λ p i. absurd i;
    ends = λ k v a i. elim i [
      | inl e ↦ of k v a e
      | inr j ↦ absurd j
    ];
    begins = λ k i. elim i [ inl e ↦ absurd (no k e) | inr j ↦ absurd j ];
    stop = Some (record { version = version; answer = answer });
    notes = refl;
    way = refl;
    cause = λ e q. (
      running,
      (let r : record { version = version; answer = answer } ≡ e = cc in
          subst (λ (x : CallStop). EndsBy space input s x.version x.answer) r h),
    );
    calling = λ p i. absurd i;
    sent_kept = λ e. e;
    sent = λ e. inl e;
  }
    where
      of : (k : ℕ) (v : Version) (a : Answer) → a_note.Ended k v a ≡ a_note.Ended s.begun version answer → (k ≡ s.begun) × EndsBy space input s v a
      of k v a e =
          let x : k ≡ s.begun = cc in
          let y : version ≡ v = cc in
          let z : answer ≡ a = cc in
          (x, subst (λ (w : Version). EndsBy space input s w a) y (subst (EndsBy space input s version) z h))

      no : (k : ℕ) → a_note.Began k ≡ a_note.Ended s.begun version answer → ⊥
      no k e = absurd (cc)

  -- a call on a key is sent
  sends-key : (s : SessionState) (op : Op) (key : List ℕ) → s.under_way ≡ true → Called s op → key_of op ≡ Some key
      → Goes space input s (send_to s op (key_region space key))
  sends-key s op key way called on_key =
      cond_both (is_lost s.config (key_region space key))
      (ending s no_version (lost_answer s op (key_region space key)))
      (record {
        state = record s { sent = true };
        posts = call_to s op (head_of s.config (key_region space key));
        notes = [];
      }) (Goes space input s)
      (λ t. ends-so s no_version (lost_answer s op (key_region space key)) way
      (inr (inl (record { op = op; key = key; called = called; on_key = on_key; lost = t; version = refl; answer = refl }))))
      (λ t. let h = head-some s.config (key_region space key) t in by (head_of s.config (key_region space key)) h.0 h.1)
    where
      by : (o : Option ServerId) (x : ServerId) → o ≡ Some x
          → Goes space input s (record { state = record s { sent = true }; posts = call_to s op o; notes = [] })
      by None x e = absurd (cc)
      by (Some server) x e = tells s true s.parts (call_to s op (Some server)) (λ e. refl)
          (each-one (Tells s true) _ (way, refl, (refl, called), λ c. refl))
          (λ e. inr (Server server, s.config.epoch, op, inl refl))

  -- a search asks regions
  asks : (s : SessionState) (terms : List Term) → s.under_way ≡ true → Called s (Search terms) → (plan : Planned)
      → plan_of space s.config terms ≡ plan → Goes space input s (ask_regions s terms plan)
  asks s terms way called (a_plan.Lost g) e = ends-so s no_version (an_answer.Refused g s.config.epoch) way
      (inr (inr (inl (record { terms = terms; region = g; called = called; plan = e; version = refl; answer = refl }))))
  asks s terms way called (a_plan.Regions subspace regions) e =
      tells s s.sent (map (λ (g : RegionId). record { region = g; rows = None }) regions) _ (λ e. e)
      (each-flat (Tells s s.sent) (λ (g : RegionId). ask_to s terms g (head_of s.config g)) regions (λ g i. by g (head_of s.config g))) (λ e. inl e)
    where
      by : (g : RegionId) (o : Option ServerId) (p : Post) → IsIn p (ask_to s terms g o) → Tells s s.sent p
      by g None = λ p i. absurd i
      by g (Some server) = each-one (Tells s s.sent) _ (way, refl, tt, λ c. absurd c)

  -- one post
  says : (s : SessionState) (to : Actor) (m : Message) → s.under_way ≡ true → AsksOf s m → (IsCall m → ⊥)
      → Goes space input s (record { state = s; posts = post (Session s.id) to m ∷ []; notes = [] })
  says s to m way h n = tells s s.sent s.parts (post (Session s.id) to m ∷ []) (λ e. e)
      (each-one (Tells s s.sent) _ (way, refl, h, λ c. absurd (n c))) (λ e. inl e)

  -- the call is sent
  pub sends : (s : SessionState) (op : Op) → s.under_way ≡ true → Called s op → Goes space input s (send space s op)
  sends s (Put key sets) way called = sends-key s (Put key sets) key way called refl
  sends s (Get key) way called = sends-key s (Get key) key way called refl
  sends s (Del key) way called = sends-key s (Del key) key way called refl
  sends s (Cput key tests sets) way called = sends-key s (Cput key tests sets) key way called refl
  sends s (Atomic key edits) way called = sends-key s (Atomic key edits) key way called refl
  sends s (Search terms) way called = asks s terms way called (plan_of space s.config terms) refl
  sends s (Stop server) way called = says s Coordinator (a_message.StopServer s.begun server) way (refl, called) (λ c. c)
  sends s (Add server g) way called = says s Coordinator (a_message.AddReplica s.begun server g) way (refl, called) (λ c. c)

  -- and the newest configuration is asked for
  polls : (s : SessionState) (step : SessionStep) → s.under_way ≡ true → Goes space input s step → Goes space input s (with_poll step)
  polls s step way g = record {
    id = g.id;
    calls = g.calls;
    config = g.config;
    begun = g.begun;
    under_way = g.under_way;
    posts = each-append (λ (p : Post). (p.from ≡ Session s.id) × AsksOf s p.message) step.posts _ g.posts
        (each-provided (λ (p : Post). (p.from ≡ Session s.id) × AsksOf s p.message) step.state.under_way _
        (each-one (λ (p : Post). (p.from ≡ Session s.id) × AsksOf s p.message) poll (ap Session g.id, tt)));
    running = λ p i. way;
    ends = g.ends;
    begins = g.begins;
    stop = g.stop;
    notes = g.notes;
    way = g.way;
    cause = g.cause;
    calling = each-append (λ (p : Post). IsCall p.message → (step.state.sent ≡ true) × (step.state.under_way ≡ true)) step.posts _ g.calling
        (each-provided (λ (p : Post). IsCall p.message → (step.state.sent ≡ true) × (step.state.under_way ≡ true)) step.state.under_way _
        (each-one (λ (p : Post). IsCall p.message → (step.state.sent ≡ true) × (step.state.under_way ≡ true)) poll (λ c. absurd c)));
    sent_kept = g.sent_kept;
    sent = λ e. elim (g.sent e) [
      | inl h ↦ inl h
      | inr (to, epoch, op, i) ↦
          inr (to, epoch, op, in_left step.posts (provided step.state.under_way (poll ∷ [])) _ i)
    ];
  }
    where
      poll : Post
      poll = post (Session step.state.id) Coordinator (a_message.Poll step.state.config.epoch)

-- the session before, when it sends or ends: the call under way goes on, or the next one begins
abbrev pub Starts : SessionState → SessionState → (notes rest : List Note) → Type 0
Starts s mid notes rest =
    ((mid.begun ≡ s.begun) × (mid.under_way ≡ s.under_way) × (mid.sent ≡ s.sent) × (notes ≡ rest))
    ⊎ ((s.under_way ≡ false) × (mid.begun ≡ s.begun + 1) × (mid.under_way ≡ true) × (mid.sent ≡ false) × (notes ≡ a_note.Began mid.begun ∷ rest))

-- its configuration is the one before, or one that is delivered
abbrev pub ConfigBy : Input → SessionState → SessionState → Type 0
ConfigBy input before after =
    (after.config ≡ before.config) ⊎ ((id : PostId) × (from : Actor) × (config : Config)
    × (input ≡ Deliver id from (a_message.Install config)) × (after.config ≡ config)
    × (before.config.epoch.0 < config.epoch.0))

-- what a step of a session does
pub record SessionDoes (space : Space) (input : Input) (s : SessionState) (step : SessionStep) : Type 0 where
  pub mid : SessionState
  pub id : mid.id ≡ s.id
  pub calls : mid.calls ≡ s.calls
  pub rest : List Note
  pub config : ConfigBy input s mid
  pub start : Bool
  pub idle : start ≡ true → s.under_way ≡ false
  pub mid_is : mid ≡ record (started start s) { config = mid.config; parts = mid.parts }
  pub notes : step.notes ≡ began_notes start (s.begun + 1) ++ rest
  pub starts : Starts s mid step.notes rest
  pub fresh : (k : ℕ) → IsIn (a_note.Began k) step.notes → (op : Op) × (numbered s.calls k ≡ Some op)
  pub goes : Goes space input mid (record { state = step.state; posts = step.posts; notes = rest })

module _ (space : Space) (s : SessionState) where
  -- the call under way goes on in another state of the session
  same : (input : Input) (config : Config) (parts : List Part) (step : SessionStep) → ConfigBy input s (record s { config = config })
      → Goes space input (record s { config = config; parts = parts }) step → SessionDoes space input s step
  same input config parts step c g =
      record {
        mid = record s { config = config; parts = parts };
        id = refl;
        calls = refl;
        rest = step.notes;
        config = c;
        start = false;
        idle = λ e. absurd (false≢true e);
        mid_is = refl;
        notes = refl;
        starts = inl (refl, refl, refl, refl);
        fresh = λ k i. absurd (g.begins k i);
        goes = g;
      }

  -- in the same one
  on : (input : Input) (step : SessionStep) → Goes space input s step → SessionDoes space input s step
  on input step g = same input s.config s.parts step (inl refl) g

  -- the next call begins
  next : (input : Input) (op : Op) → s.under_way ≡ false → numbered s.calls (s.begun + 1) ≡ Some op → SessionDoes space input s (begin space s op)
  next input op idle called =
      let mid : SessionState = record s { begun = s.begun + 1; under_way = true; sent = false; parts = [] } in
      let goes = sends space input mid op refl called in
      record {
        mid = mid;
        id = refl;
        calls = refl;
        rest = (send space mid op).notes;
        config = inl refl;
        start = true;
        idle = λ q. idle;
        mid_is = refl;
        notes = refl;
        starts = inr (idle, refl, refl, refl, refl);
        fresh = λ k i. elim i [
          | inl q ↦ (let m : s.begun + 1 ≡ k = cc in
              (op, subst (λ n. numbered s.calls n ≡ Some op) m called))
          | inr j ↦ absurd (goes.begins k j)
        ];
        goes = goes;
      }

  -- a part of a search is there, and the search ends where all are
  founds : (input : Input) (parts : List Part) (op : Op) → s.under_way ≡ true → Called s op → is_search op ≡ true
      → SessionDoes space input s (end_with_parts (record s { parts = parts }))
  founds input parts op way called search =
      let mid : SessionState = record s { parts = parts } in
      same input s.config parts (end_with_parts mid) (inl refl)
      (cond_both (all_parts parts) (ending mid no_version (an_answer.Rows (merged_parts parts))) (staying mid) (Goes space input mid)
      (λ u. ends-so space input mid no_version (an_answer.Rows (merged_parts parts)) way (inr (inr (inr (inl (shown mid op called search))))))
      (λ u. stays space input mid))
    where
      shown : (mid : SessionState) (op : Op) → Called mid op → is_search op ≡ true → Shown mid no_version (an_answer.Rows (merged_parts mid.parts))
      shown mid (Search terms) c e = record { terms = terms; called = c; rows = merged_parts mid.parts; version = refl; answer = refl }
      shown mid other c e = absurd (false≢true e)

  -- each step
  pub session-does : (input : Input) → SessionDoes space input s (session_step space s input)
  session-does input = session-cases space s input (SessionDoes space input s) (record {
    rests = on input (staying s) (stays space input s);
    again = λ op i w c. on input (with_poll (send space s op)) (polls space input s (send space s op) w (sends space input s op w c));
    begins = λ op i w c. next input op w c;
    replied = λ id from version answer op i w c q. on input (ending s version answer)
        (ends-so space input s version answer w (inl (record { id = id; from = from; input_is = i; op = op; called = c; on_key = q })));
    judged = λ id from answer op i w c q. on input (ending s no_version answer)
        (ends-so space input s no_version answer w (inr
        (inr (inr (inr (record {
          id = id;
          from = from;
          input_is = i;
          op = op;
          called = c;
          administers = q;
          version = refl;
        }))))));
    found = λ id from epoch g rows op i w c q. founds input (map (with_part g rows) s.parts) op w c q;
    adopts = λ id from config i l n. same input config s.parts (staying (record s { config = config }))
        (inr (id, from, config, i, refl, l)) (stays space input (record s { config = config }));
    renews = λ id from config op i l w c q. same input config s.parts (send space (record s { config = config }) op)
        (inr (id, from, config, i, refl, l)) (sends space input (record s { config = config }) op w c);
  })
