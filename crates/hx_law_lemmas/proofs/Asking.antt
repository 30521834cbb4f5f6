-- A step of a session in whatever configuration: what it asks for a search, what parts it has, and what a search ends with.
use Rattle.hx_law_lemmas.proofs.Lemmas.Vocabulary.{[], Actor, Add, all_parts, Answer, ap, ask_regions, ask_to, Atomic, begin, Bool, call_to, cond, cond_both}
use Rattle.hx_law_lemmas.proofs.Lemmas.Vocabulary.{Config, Coordinator, Cput, Del, Deliver, end_with_parts, ending, Epoch, eqb-true, false, false≢true, Get}
use Rattle.hx_law_lemmas.proofs.Lemmas.Vocabulary.{head_of, inl, Input, inr, is_administrative, is_key_call, is_lost, is_write, IsIn, key_region, List}
use Rattle.hx_law_lemmas.proofs.Lemmas.Vocabulary.{lost_answer, map, merged_parts, Message, no_version, None, numbered, Op, Option, Part, plan_of, Planned}
use Rattle.hx_law_lemmas.proofs.Lemmas.Vocabulary.{Post, post, PostId, provided, Put, refl, RegionId, Row, same_region, Search, send, send_to, ServerId}
use Rattle.hx_law_lemmas.proofs.Lemmas.Vocabulary.{Session, session_step, SessionState, SessionStep, Some, Space, staying, Stop, subst, sym, Term}
use Rattle.hx_law_lemmas.proofs.Lemmas.Vocabulary.{to_coordinator, true, Version, with_part, with_poll, ℕ, ⊤, ◌&&◌, ◌+◌, ◌∙◌, ◌∷◌, ◌≡◌}
use Rattle.hx_types.specs.declared.calls.Answer.TheVariants as an_answer
use Rattle.hx_types.specs.declared.messages.Message.TheVariants as a_message
use Rattle.hx_types.specs.declared.outcomes.Planned.TheVariants as a_plan
use Rattle.hx_types.specs.declared.traces.Note.TheVariants as a_note
use Rattle.hx_law_lemmas.proofs.Lists.{in-append, in-flat_map, in-map, in-provided}
use Rattle.hx_law_lemmas.proofs.SessionCases.{session-cases}

-- the parts of a search: the regions of its plan, each with rows of which something is known
pub record Parted (space : Space) (terms : List Term) (Known : RegionId → List Row → Type 0) (parts : List Part) : Type 0 where
  pub config : Config
  pub subspace : ℕ
  pub regions : List RegionId
  pub plan : plan_of space config terms ≡ a_plan.Regions subspace regions
  pub regions_are : map (λ (p : Part). p.region) parts ≡ regions
  pub each : (p : Part) → IsIn p parts → (rows : List Row) → p.rows ≡ Some rows → Known p.region rows

-- what a finished search was gathered from
pub record Gathered (space : Space) (terms : List Term) (Known : RegionId → List Row → Type 0) (rows : List Row) : Type 0 where
  pub parts : List Part
  pub parted : Parted space terms Known parts
  pub all : all_parts parts ≡ true
  pub rows_are : rows ≡ merged_parts parts

-- what a session posts: calls, polls and the asking of its search under way
abbrev pub Asks : SessionState → Message → Type 0
Asks s (a_message.Call epoch number op) = ⊤
Asks s (a_message.Ask epoch number g terms) = (number ≡ s.begun) × (s.under_way ≡ true) × (numbered s.calls s.begun ≡ Some (Search terms))
Asks s (a_message.StopServer number server) = ⊤
Asks s (a_message.AddReplica number server g) = ⊤
Asks s (a_message.Poll epoch) = ⊤
Asks s other = ⊥

module _ (space : Space) (Known : ℕ → RegionId → List Row → Type 0) where
  -- what the session has of its search under way
  abbrev pub HasParts : SessionState → Type 0
  HasParts s = (terms : List Term) → s.under_way ≡ true → numbered s.calls s.begun ≡ Some (Search terms)
      → (p : Parted space terms (Known s.begun) s.parts) × (p.config ≡ s.config)

  -- what a step keeps
  pub record SearchTurn (s : SessionState) (step : SessionStep) : Type 0 where
    pub posts : (p : Post) → IsIn p step.posts → (p.from ≡ Session s.id) × Asks step.state p.message
    pub parts : HasParts step.state
    pub ends : (n : ℕ) (v : Version) (rows : List Row) (terms : List Term)
        → IsIn (a_note.Ended n v (an_answer.Rows rows)) step.notes → numbered s.calls n ≡ Some (Search terms)
        → (g : Gathered space terms (Known n) rows) × (g.parted.config ≡ step.state.config)

  -- nothing happens
  stays : (s : SessionState) → HasParts s → SearchTurn s (staying s)
  stays s h = record { posts = λ p i. absurd i; parts = h; ends = λ n v rows terms i. absurd i }

  -- a call ends
  ends-with : (s : SessionState) (version : Version) (answer : Answer)
      → ((rows : List Row) (terms : List Term) → answer ≡ an_answer.Rows rows
      → numbered s.calls s.begun ≡ Some (Search terms) → (g : Gathered space terms (Known s.begun) rows)
      × (g.parted.config ≡ s.config))
      → SearchTurn s (ending s version answer)
  ends-with s version answer f = record {
    posts = λ p i. absurd i;
    parts = λ terms w e. absurd (false≢true w);
    ends = λ n v rows terms i e. elim i [
      | inl q ↦ (let a : n ≡ s.begun = cc in
          let b : answer ≡ an_answer.Rows rows = cc in
          subst (λ k. (g : Gathered space terms (Known k) rows) × (g.parted.config ≡ s.config)) (sym a) (f rows terms b (ap (numbered s.calls) (sym a) ∙ e)))
      | inr j ↦ absurd j
    ];
  }

  -- an operation that is no search has no parts to keep
  no_search : (op : Op) (s : SessionState) → numbered s.calls s.begun ≡ Some op → ((terms : List Term) → op ≡ Search terms → ⊥) → HasParts s
  no_search op s e n terms w q = absurd (n terms (let r : op ≡ Search terms = cc in r))

  -- what was sent where a region is lost is no answer of rows
  lost-no_rows : (s : SessionState) (op : Op) (g : RegionId) (rows : List Row) → lost_answer s op g ≡ an_answer.Rows rows → ⊥
  lost-no_rows s op g rows =
      cond_both (is_write op && s.sent) (an_answer.Doubt g s.config.epoch) (an_answer.Refused g s.config.epoch)
      (λ a. a ≡ an_answer.Rows rows → ⊥) (λ t e. absurd (cc)) (λ t e. absurd (cc))

  -- a call on a key is sent
  sends-key : (s : SessionState) (op : Op) (g : RegionId) → numbered s.calls s.begun ≡ Some op
      → ((terms : List Term) → op ≡ Search terms → ⊥) → SearchTurn s (send_to s op g)
  sends-key s op g e n =
      cond_both (is_lost s.config g) (ending s no_version (lost_answer s op g))
      (record { state = record s { sent = true }; posts = call_to s op (head_of s.config g); notes = [] }) (SearchTurn s)
      (λ t. ends-with s no_version (lost_answer s op g) (λ rows terms q w. absurd (lost-no_rows s op g rows q)))
      (λ t. record { posts = by (head_of s.config g); parts = no_search op (record s { sent = true }) e n; ends = λ n v rows terms i. absurd i })
    where
      by : (o : Option ServerId) (p : Post) → IsIn p (call_to s op o) → (p.from ≡ Session s.id) × Asks (record s { sent = true }) p.message
      by None p i = absurd i
      by (Some server) p (inl q) = subst (λ (y : Post). (y.from ≡ Session s.id) × Asks (record s { sent = true }) y.message) (sym q) (refl, tt)
      by (Some server) p (inr i) = absurd i

  -- the regions of new parts
  new-regions : (regions : List RegionId) → map (λ (p : Part). p.region) (map (λ (g : RegionId). record { region = g; rows = None }) regions) ≡ regions
  new-regions [] = refl
  new-regions (g ∷ rest) = ap (λ (l : List RegionId). g ∷ l) (new-regions rest)

  -- a search asks the regions of its plan
  asks-regions : (s : SessionState) (terms : List Term) (plan : Planned) → plan_of space s.config terms ≡ plan
      → s.under_way ≡ true → numbered s.calls s.begun ≡ Some (Search terms)
      → SearchTurn s (ask_regions s terms plan)
  asks-regions s terms (a_plan.Lost g) e w c = ends-with s no_version (an_answer.Refused g s.config.epoch) (λ rows ts q x. absurd (cc))
  asks-regions s terms (a_plan.Regions subspace regions) e w c = record {
    posts = λ p i. (let f = in-flat_map (λ (g : RegionId). ask_to s terms g (head_of s.config g)) regions p i in by f.0 (head_of s.config f.0) p f.2);
    parts = λ ts x q. (let r : Search terms ≡ Search ts = (let u : Some (Search terms) ≡ Some (Search ts) = sym c ∙ q in cc) in let t : terms ≡ ts = cc in
        subst (λ (l : List Term). (p : Parted space l (Known s.begun) new-parts) × (p.config ≡ s.config)) t (
          record {
            config = s.config;
            subspace = subspace;
            regions = regions;
            plan = e;
            regions_are = new-regions regions;
            each = none;
          },
          refl,
        ));
    ends = λ n v rows ts i. absurd i;
  }
    where
      new-parts : List Part
      new-parts = map (λ (g : RegionId). record { region = g; rows = None }) regions

      none : (p : Part) → IsIn p (map (λ (g : RegionId). record { region = g; rows = None }) regions)
          → (rows : List Row) → p.rows ≡ Some rows → Known s.begun p.region rows
      none p i rows q = let m = in-map (λ (g : RegionId). record { region = g; rows = None }) regions p i in
          absurd (let r : None ≡ Some rows = sym (ap (λ (y : Part). y.rows) m.2) ∙ q in cc)

      by : (g : RegionId) (o : Option ServerId) (p : Post) → IsIn p (ask_to s terms g o)
          → (p.from ≡ Session s.id) × Asks (record s { parts = map (λ (g : RegionId). record { region = g; rows = None }) regions }) p.message
      by g None p i = absurd i
      by g (Some server) p (inl q) =
          subst (λ (y : Post). (y.from ≡ Session s.id)
          × Asks (record s { parts = map (λ (g : RegionId). record { region = g; rows = None }) regions })
          y.message) (sym q) (refl, (refl, w, c))
      by g (Some server) p (inr i) = absurd i

  -- what is asked of the coordinator
  sends-coordinator : (s : SessionState) (op : Op) (m : Message) → Asks s m → numbered s.calls s.begun ≡ Some op
      → ((terms : List Term) → op ≡ Search terms → ⊥) → SearchTurn s (to_coordinator s m)
  sends-coordinator s op m a e n = record {
    posts = λ p i. elim i [ inl q ↦ subst (λ (y : Post). (y.from ≡ Session s.id) × Asks s y.message) (sym q) (refl, a) | inr j ↦ absurd j ];
    parts = no_search op s e n;
    ends = λ n v rows terms i. absurd i;
  }

  -- the call under way is sent
  sends : (s : SessionState) → (op : Op) → s.under_way ≡ true → numbered s.calls s.begun ≡ Some op → SearchTurn s (send space s op)
  sends s (Put key sets) w e = sends-key s (Put key sets) (key_region space key) e (λ terms q. absurd (cc))
  sends s (Get key) w e = sends-key s (Get key) (key_region space key) e (λ terms q. absurd (cc))
  sends s (Del key) w e = sends-key s (Del key) (key_region space key) e (λ terms q. absurd (cc))
  sends s (Cput key tests sets) w e = sends-key s (Cput key tests sets) (key_region space key) e (λ terms q. absurd (cc))
  sends s (Atomic key edits) w e = sends-key s (Atomic key edits) (key_region space key) e (λ terms q. absurd (cc))
  sends s (Search terms) w e = asks-regions s terms (plan_of space s.config terms) refl w e
  sends s (Stop server) w e = sends-coordinator s (Stop server) (a_message.StopServer s.begun server) tt e (λ terms q. absurd (cc))
  sends s (Add server g) w e = sends-coordinator s (Add server g) (a_message.AddReplica s.begun server g) tt e (λ terms q. absurd (cc))

  -- a poll after a step
  polls : (s : SessionState) (step : SessionStep) → step.state.id ≡ s.id → SearchTurn s step → SearchTurn s (with_poll step)
  polls s step same t = record {
    posts = λ p i. elim (in-append step.posts (provided step.state.under_way
        (post (Session step.state.id) Coordinator (a_message.Poll step.state.config.epoch) ∷ [])) p i) [
          | inl j ↦ t.posts p j
          | inr j ↦ elim (in-provided step.state.under_way (post (Session step.state.id) Coordinator (a_message.Poll step.state.config.epoch) ∷ []) p j).1 [
            | inl q ↦ subst (λ (y : Post). (y.from ≡ Session s.id) × Asks step.state y.message) (sym q) (ap Session same, tt)
            | inr k ↦ absurd k
          ]
        ];
    parts = t.parts;
    ends = t.ends;
  }

  -- a call that is sent leaves the session's name
  send-id : (s : SessionState) (op : Op) → (send space s op).state.id ≡ s.id
  send-id s op = by op
    where
      key : (op : Op) (g : RegionId) → (send_to s op g).state.id ≡ s.id
      key op g = cond_both (is_lost s.config g) (ending s no_version (lost_answer s op g))
          (record { state = record s { sent = true }; posts = call_to s op (head_of s.config g); notes = [] })
          (λ (step : SessionStep). step.state.id ≡ s.id) (λ t. refl) (λ t. refl)

      plan : (terms : List Term) (p : Planned) → (ask_regions s terms p).state.id ≡ s.id
      plan terms (a_plan.Lost g) = refl
      plan terms (a_plan.Regions n regions) = refl

      by : (op : Op) → (send space s op).state.id ≡ s.id
      by (Put k sets) = key (Put k sets) (key_region space k)
      by (Get k) = key (Get k) (key_region space k)
      by (Del k) = key (Del k) (key_region space k)
      by (Cput k tests sets) = key (Cput k tests sets) (key_region space k)
      by (Atomic k edits) = key (Atomic k edits) (key_region space k)
      by (Search terms) = plan terms (plan_of space s.config terms)
      by (Stop server) = refl
      by (Add server g) = refl

  -- the next call begins
  begins : (s : SessionState) → (op : Op) → numbered s.calls (s.begun + 1) ≡ Some op → SearchTurn s (begin space s op)
  begins s op e =
      let t = sends (record s { begun = s.begun + 1; under_way = true; sent = false; parts = [] }) op refl e in
      record { posts = t.posts; parts = t.parts; ends = λ n v rows terms i c. elim i [ inl q ↦ absurd (cc) | inr j ↦ t.ends n v rows terms j c ] }

  -- no search is a call on a key
  key-no_search : (op : Op) → is_key_call op ≡ true → (terms : List Term) → op ≡ Search terms → ⊥
  key-no_search op e terms q = absurd (false≢true (sym (ap is_key_call q) ∙ e))

  -- rows for a region leave the regions
  with-regions : (g : RegionId) (rows : List Row) (parts : List Part)
      → map (λ (p : Part). p.region) (map (with_part g rows) parts) ≡ map (λ (p : Part). p.region) parts
  with-regions g rows [] = refl
  with-regions g rows (p ∷ rest) =
      ap (λ (h : RegionId). h ∷ map (λ (p : Part). p.region) (map (with_part g rows) rest)) (one p)
      ∙ ap (λ (l : List RegionId). p.region ∷ l) (with-regions g rows rest)
    where
      one : (p : Part) → (with_part g rows p).region ≡ p.region
      one p = cond_both (same_region p.region g) (record { region = g; rows = Some rows }) p
          (λ (q : Part). q.region ≡ p.region) (λ t. (let e = eqb-true p.region.0 g.0 t in
          λ j. record { 0 = sym e j })) (λ t. refl)

  -- and are known, if these are
  with-each : (n : ℕ) (g : RegionId) (rows : List Row) (parts : List Part) → Known n g rows
      → ((p : Part) → IsIn p parts → (rs : List Row) → p.rows ≡ Some rs → Known n p.region rs)
      → (p : Part) → IsIn p (map (with_part g rows) parts) → (rs : List Row) → p.rows ≡ Some rs → Known n p.region rs
  with-each n g rows parts known f p i rs =
      let m = in-map (with_part g rows) parts p i in
      subst (λ (q : Part). q.rows ≡ Some rs → Known n q.region rs) (sym m.2)
      (cond_both (same_region m.0.region g) (record { region = g; rows = Some rows }) m.0 (λ (q : Part). q.rows ≡ Some rs → Known n q.region rs)
      (λ t e. let r : rows ≡ rs = cc in subst (Known n g) r known)
      (λ t e. f m.0 m.1 rs e))

  -- rows are found
  finds : (s : SessionState) → HasParts s → (g : RegionId) (rows : List Row) → Known s.begun g rows → s.under_way ≡ true
      → SearchTurn s (end_with_parts (record s { parts = map (with_part g rows) s.parts }))
  finds s h g rows known w = all (all_parts next.parts) refl
    where
      next : SessionState
      next = record s { parts = map (with_part g rows) s.parts }

      taken : HasParts next
      taken terms way c =
          let old = (h terms way c).0 in (
            record {
              config = old.config;
              subspace = old.subspace;
              regions = old.regions;
              plan = old.plan;
              regions_are = with-regions g rows s.parts ∙ old.regions_are;
              each = with-each s.begun g rows s.parts known old.each;
            },
            (h terms way c).1,
          )

      all : (b : Bool) → all_parts next.parts ≡ b → SearchTurn s (cond b (ending next no_version (an_answer.Rows (merged_parts next.parts))) (staying next))
      all false t = record { posts = λ p i. absurd i; parts = taken; ends = λ n v rows terms i. absurd i }
      all true t =
          let r = ends-with next no_version (an_answer.Rows (merged_parts next.parts))
          (λ rs terms q c. (
            record {
              parts = next.parts;
              parted = (taken terms w c).0;
              all = t;
              rows_are = (let x : rs ≡ merged_parts next.parts = cc in x);
            },
            (taken terms w c).1,
          )) in
          record { posts = r.posts; parts = r.parts; ends = r.ends }

  -- no search is administrative
  office-no_search : (op : Op) → is_administrative op ≡ true → (terms : List Term) → op ≡ Search terms → ⊥
  office-no_search op e terms q = false≢true (sym (ap is_administrative q) ∙ e)

  -- another configuration, where no search is under way
  adopts : (s : SessionState) → (config : Config)
      → ((terms : List Term) → s.under_way ≡ true → numbered s.calls s.begun ≡ Some (Search terms) → ⊥)
      → SearchTurn s (staying (record s { config = config }))
  adopts s config none = record { posts = λ p i. absurd i; parts = λ terms w e. absurd (none terms w e); ends = λ n v rows terms i. absurd i }

  -- each input of a session
  pub search-turn : (s : SessionState) → HasParts s → (input : Input)
      → ((id : PostId) (from : Actor) (m : Message) → input ≡ Deliver id from m
      → (epoch : Epoch) (number : ℕ) (g : RegionId) (rows : List Row) → m ≡ a_message.Found epoch number g rows
      → Known number g rows)
      → SearchTurn s (session_step space s input)
  search-turn s k input f = session-cases space s input (SearchTurn s) (record {
    rests = stays s k;
    again = λ op i w e. polls s (send space s op) (send-id s op) (sends s op w e);
    begins = λ op i w e. begins s op e;
    replied = λ id from version answer op i w e q. ends-with s version answer
        (λ rows terms z x. absurd (key-no_search op q terms (let r : Some op ≡ Some (Search terms) = sym e ∙ x in cc)));
    judged = λ id from answer op i w e q. ends-with s no_version answer
        (λ rows terms z x. absurd (office-no_search op q terms (let r : Some op ≡ Some (Search terms) = sym e ∙ x in cc)));
    found = λ id from epoch g rows op i w e q. finds s k g rows (f id from (a_message.Found epoch s.begun g rows) i epoch s.begun g rows refl) w;
    adopts = λ id from config i l n. adopts s config (λ terms w e. false≢true (n (Search terms) w e));
    renews = λ id from config op i l w e q. (let r = sends (record s { config = config }) op w e in record { posts = r.posts; parts = r.parts; ends = r.ends });
  })
