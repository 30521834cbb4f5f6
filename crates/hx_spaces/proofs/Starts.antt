-- With which entries a session begins its next call.
use Rattle.std.proofs.Common.{◌≡◌, ◌⊎◌, inl, inr, ℕ, zero, suc, ◌+◌, ◌-◌, ◌<◌, Bool, true, false, not, ◌&&◌, List, []}
use Rattle.std.proofs.Common.{◌∷◌, length, map, refl, sym, ap, ◌∙◌, subst, arith, ltb}
use Rattle.std.proofs.lemmas.Bool.{and_parts, cond-true, cond-false, eq-eqb, eqb-true, false≢true, ltb-false, ltb-true, not-true}
use Rattle.std.proofs.lemmas.Option.{slice_get_past}
use Rattle.std.specs.Prelude.{if◌then◌else◌, ◌==◌, nat_lt, slice_get, Option, Some, None, ⊤}
use Rattle.std.specs.List.{list_any}
use Rattle.hx_model.specs.Types.{Actor, Add, Atomic, Config, Coordinator, Cput, Del, Deliver, Entry, Get, Halt, Input, Message, Op, Planned, Put, RegionId}
use Rattle.hx_model.specs.Types.{Script, Search, Server, Session, SessionId, Space, Stop, Term, Tick}
use Rattle.hx_types.specs.declared.messages.Message.TheVariants as a_message
use Rattle.hx_types.specs.declared.outcomes.Planned.TheVariants as a_plan
use Rattle.hx_types.specs.declared.calls.Answer.TheVariants as an_answer
use Rattle.hx_types.specs.Configs.{head_of, is_lost}
use Rattle.hx_types.specs.Fitting.{calls_of, numbered}
use Rattle.hx_types.specs.Words.{same_session, when_some}
use Rattle.hx_model.specs.Planning.{plan_of}
use Rattle.hx_model.specs.Lines.{no_version}
use Rattle.hx_model.specs.Regions.{key_region}
use Rattle.hx_model.specs.Runs.{session_after, session_of}
use Rattle.hx_model.specs.Schedule.{Next, entry_by, is_idle}
use Rattle.hx_model.specs.SessionSteps.{SessionState, SessionStep, all_parts, ask_regions, awaits, begin, call_to}
use Rattle.hx_model.specs.SessionSteps.{call_under_way, end_with_parts, ending, is_administrative, is_key_call}
use Rattle.hx_model.specs.SessionSteps.{is_search, lacks_part, lost_answer, merged_parts, send, with_part, send_to}
use Rattle.hx_model.specs.SessionSteps.{session_install, session_message, session_step, session_tick, staying}
use Rattle.hx_model.specs.SessionSteps.{with_poll}
use Rattle.hx_law_lemmas.proofs.Lemmas.{started, started_same, SessionTurn, session_turn, begins_now}
use Rattle.hx_world.specs.Worlds.{WorldState}
use Rattle.hx_spaces.specs.Begins.{BeginsCallOf}
use Rattle.hx_spaces.specs.Courses.{session_at}
use Rattle.hx_spaces.specs.Stepping.{beginner_of}
use Rattle.hx_spaces.proofs.Places.{none-some, some-same, something}

-- ---- a message begins no call

cond-begun : (b : Bool) (x y : SessionStep) (n : ℕ) → x.state.begun ≡ n → y.state.begun ≡ n → (if b then x else y).state.begun ≡ n
cond-begun true x y n h k = h
cond-begun false x y n h k = k

send_to-begun : (s : SessionState) (op : Op) (g : RegionId) → (send_to s op g).state.begun ≡ s.begun
send_to-begun s op g =
    cond-begun (is_lost s.config g) (ending s no_version (lost_answer s op g))
    (record { state = record s { sent = true }; posts = call_to s op (head_of s.config g); notes = [] }) s.begun refl refl

ask-begun : (s : SessionState) (terms : List Term) (plan : Planned) → (ask_regions s terms plan).state.begun ≡ s.begun
ask-begun s terms (a_plan.Regions subspace regions) = refl
ask-begun s terms (a_plan.Lost g) = refl

send-begun : (space : Space) (s : SessionState) (op : Op) → (send space s op).state.begun ≡ s.begun
send-begun space s (Put key sets) = send_to-begun s (Put key sets) (key_region space key)
send-begun space s (Get key) = send_to-begun s (Get key) (key_region space key)
send-begun space s (Del key) = send_to-begun s (Del key) (key_region space key)
send-begun space s (Cput key tests sets) = send_to-begun s (Cput key tests sets) (key_region space key)
send-begun space s (Atomic key edits) = send_to-begun s (Atomic key edits) (key_region space key)
send-begun space s (Search terms) = ask-begun s terms (plan_of space s.config terms)
send-begun space s (Stop server) = refl
send-begun space s (Add server region) = refl

install-begun : (space : Space) (s : SessionState) (config : Config) → (session_install space s config).state.begun ≡ s.begun
install-begun space s config =
    cond-begun (nat_lt s.config.epoch.0 config.epoch.0)
    (when_some (call_under_way s) (staying (record s { config = config }))
    (λ (op : Op). if is_administrative op then staying (record s { config = config }) else send space
    (record s { config = config }) op))
    (staying s) s.begun (under (call_under_way s)) refl where
      under : (o : Option Op) → (when_some o (staying (record s { config = config }))
          (λ (op : Op). if is_administrative op then staying (record s { config = config }) else send space
          (record s { config = config }) op)).state.begun ≡ s.begun
      under None = refl
      under (Some op) = cond-begun (is_administrative op) (staying (record s { config = config }))
          (send space (record s { config = config }) op) s.begun refl (send-begun space (record s { config = config }) op)

parts-begun : (s : SessionState) → (end_with_parts s).state.begun ≡ s.begun
parts-begun s = cond-begun (all_parts s.parts) (ending s no_version (an_answer.Rows (merged_parts s.parts))) (staying s) s.begun refl refl

message-begun : (space : Space) (s : SessionState) (m : Message) → (session_message space s m).state.begun ≡ s.begun
message-begun space s (a_message.Reply number version answer) = cond-begun (awaits s number is_key_call) (ending s version answer) (staying s) s.begun refl refl
message-begun space s (a_message.Found epoch number g rows) =
    cond-begun (awaits s number is_search && (epoch.0 == s.config.epoch.0) && list_any (lacks_part g) s.parts)
    (end_with_parts (record s { parts = map (with_part g rows) s.parts })) (staying s) s.begun
    (parts-begun (record s { parts = map (with_part g rows) s.parts })) refl
message-begun space s (a_message.Install config) = install-begun space s config
message-begun space s (a_message.Outcome number answer) =
    cond-begun (awaits s number is_administrative) (ending s no_version answer) (staying s) s.begun refl refl
message-begun space s other = refl

-- ---- the tick of an idle session begins its next call, and no other tick does

numbered-next : {A : Type 0} (xs : List A) (n : ℕ) → numbered xs (n + 1) ≡ slice_get xs n
numbered-next xs n = subst (λ m. numbered xs m ≡ slice_get xs n) (let e : suc n ≡ n + 1 = omega arith in e) refl

tick-is : (space : Space) (s : SessionState) → s.under_way ≡ false → session_tick space s ≡ when_some (slice_get s.calls s.begun) (staying s) (begin space s)
tick-is space s free =
    cond-false s.under_way (when_some (numbered s.calls s.begun) (staying s)
    (λ (op : Op). with_poll (send space s op))) (when_some (numbered s.calls (s.begun + 1)) (staying s) (begin space s)) free
    ∙ ap (λ (o : Option Op). when_some o (staying s) (begin space s)) (numbered-next s.calls s.begun)

-- what an idle session is
pub idle-parts : (s : SessionState) → is_idle s ≡ true → (s.under_way ≡ false) × (s.begun < length s.calls)
idle-parts s e = let p = and_parts (not s.under_way) (ltb s.begun (length s.calls)) e in (not-true s.under_way p.0, ltb-true s.begun (length s.calls) p.1)

tick-begins : (space : Space) (s : SessionState) → is_idle s ≡ true → (session_step space s Tick).state.begun ≡ s.begun + 1
tick-begins space s e =
    let p = idle-parts s e in
    let op = something s.calls s.begun p.1 in
    ap (λ (x : SessionStep). x.state.begun) (tick-is space s p.0 ∙ ap (λ (o : Option Op). when_some o (staying s) (begin space s)) op.1)
    ∙ send-begun space (record s { begun = s.begun + 1; under_way = true; sent = false; parts = [] }) op.0

begins-idle : (space : Space) (s : SessionState) → s.under_way ≡ false → (session_step space s Tick).state.begun ≡ s.begun + 1 → is_idle s ≡ true
begins-idle space s free more = by (ltb s.begun (length s.calls)) refl where
  by : (b : Bool) → ltb s.begun (length s.calls) ≡ b → is_idle s ≡ true
  by true e = ap (λ w. not w && ltb s.begun (length s.calls)) free ∙ e
  by false e =
      let past = slice_get_past s.calls s.begun (ltb-false s.begun (length s.calls) e) in
      let stays : (session_step space s Tick).state.begun ≡ s.begun =
      ap (λ (x : SessionStep). x.state.begun) (tick-is space s free ∙ ap (λ (o : Option Op). when_some o (staying s) (begin space s)) past) in
      absurd (omega (arith, more, stays))

-- ---- one entry

abbrev IsOther : Actor → Type 0
IsOther Coordinator = ⊤
IsOther (Server s) = ⊤
IsOther (Session u) = ⊥

no-session : (a : Actor) → IsOther a → {u : SessionId} → a ≡ Session u → ⊥
no-session a h e = subst IsOther e h

abbrev number : Actor → ℕ
number Coordinator = 0
number (Server s) = 0
number (Session u) = u.0

module _ (script : Script) (u : SessionId) (t : List Entry) (next : Next) where
  -- with this entry the session begins no call
  pub record Rests : Type 0 where
    pub begun : (session_of script u (entry_by script t next ∷ t)).begun ≡ (session_of script u t).begun
    pub silent : BeginsCallOf (entry_by script t next) u → ⊥

  -- with this entry it begins its next call
  pub record Starts : Type 0 where
    pub actor : next.actor ≡ Session u
    pub input : next.input ≡ Tick
    pub idle : is_idle (session_of script u t) ≡ true
    pub begun : (session_of script u (entry_by script t next ∷ t)).begun ≡ (session_of script u t).begun + 1

module _ (script : Script) (u : SessionId) (t : List Entry) where
  own-is : (input : Input) → (session_after script.space u (Session u) input (session_of script u t))
      ≡ (session_step script.space (session_of script u t) input).state
  own-is input = cond-true (same_session u u) (session_step script.space (session_of script u t) input).state (session_of script u t) (eq-eqb u.0 u.0 refl)

  own-step : (input : Input) → SessionTurn input (session_of script u t) (session_step script.space (session_of script u t) input)
  own-step input = session_turn script.space input (session_of script u t)

  -- no call begins with this input
  own-rests : (input : Input) → (own-step input).start ≡ false → Rests script u t (record { actor = Session u; input = input })
  own-rests input none = record {
    begun = ap (λ (s : SessionState). s.begun) (own-is input) ∙ (own-step input).turn.begun ∙ ap (λ b. (started b (session_of script u t)).begun) none;
    silent = λ b. let now = begins_now input (session_of script u t)
        (session_step script.space (session_of script u t) input) (own-step input) b.number b.noted in
        false≢true (sym none ∙ now.1);
  }

  own-more : (input : Input) → (own-step input).start ≡ true
      → (session_step script.space (session_of script u t) input).state.begun ≡ (session_of script u t).begun + 1
  own-more input some = (own-step input).turn.begun ∙ ap (λ b. (started b (session_of script u t)).begun) some

  own : (input : Input) → Rests script u t (record { actor = Session u; input = input }) ⊎ Starts script u t (record { actor = Session u; input = input })
  own input = by input (own-step input).start refl where
    by : (i : Input) (b : Bool) → (own-step i).start ≡ b → Rests script u t (record { actor = Session u; input = i })
        ⊎ Starts script u t (record { actor = Session u; input = i })
    by i false e = inl (own-rests i e)
    by Tick true e = inr (record {
      actor = refl;
      input = refl;
      idle = begins-idle script.space (session_of script u t) ((own-step Tick).fresh e) (own-more Tick e);
      begun = ap (λ (s : SessionState). s.begun) (own-is Tick) ∙ own-more Tick e;
    })
    by Halt true e = let more = own-more Halt e in absurd (omega (arith, more))
    by (Deliver id from m) true e =
        let more = own-more (Deliver id from m) e in
        let same = message-begun script.space (session_of script u t) m in
        absurd (omega (arith, more, same))

  -- the turn of an actor begins a call of this session or not
  taken : (a : Actor) (input : Input) → Rests script u t (record { actor = a; input = input }) ⊎ Starts script u t (record { actor = a; input = input })
  taken Coordinator input = inl (record { begun = refl; silent = λ b. no-session Coordinator tt b.actor })
  taken (Server s) input = inl (record { begun = refl; silent = λ b. no-session (Server s) tt b.actor })
  taken (Session x) input = by (same_session x u) refl where
    by : (b : Bool) → same_session x u ≡ b → Rests script u t (record { actor = Session x; input = input })
        ⊎ Starts script u t (record { actor = Session x; input = input })
    by true e =
        let n : x.0 ≡ u.0 = eqb-true x.0 u.0 e in
        let same : u ≡ x = λ i. record { 0 = sym n i } in
        subst (λ (y : SessionId). Rests script u t (record { actor = Session y; input = input })
        ⊎ Starts script u t (record { actor = Session y; input = input })) same (own input)
    by false e = inl (record {
      begun = ap (λ (s : SessionState). s.begun) (cond-false (same_session x u)
          (session_step script.space (session_of script u t) input).state (session_of script u t) e);
      silent = λ b. false≢true (sym e ∙ eq-eqb x.0 u.0 (ap number (b.actor)));
    })

pub session_entry : (script : Script) (u : SessionId) (t : List Entry) (next : Next) → Rests script u t next ⊎ Starts script u t next
session_entry script u t next = taken script u t next.actor next.input

-- ---- which session an entry begins a call of

-- the calls of a session are those of its script
pub calls-kept : (script : Script) (u : SessionId) (t : List Entry) → (session_of script u t).calls ≡ calls_of script u
calls-kept script u [] = refl
calls-kept script u (x ∷ older) = after x.actor ∙ calls-kept script u older where
  after : (a : Actor) → (session_after script.space u a x.input (session_of script u older)).calls ≡ (session_of script u older).calls
  after Coordinator = refl
  after (Server s) = refl
  after (Session v) = by (same_session v u) where
    by : (b : Bool) → (if b then (session_step script.space (session_of script u older) x.input).state else session_of
        script u older).calls ≡ (session_of script u older).calls
    by false = refl
    by true = let turn = session_turn script.space x.input (session_of script u older) in
        turn.turn.calls ∙ (started_same turn.start (session_of script u older)).1

-- an idle session is one of the script's, and these are numbered from 1
pub idle-at : (script : Script) (u : SessionId) (t : List Entry) → is_idle (session_of script u t) ≡ true → u ≡ session_at (u.0 - 1)
idle-at script u t e = by u.0 refl where
  by : (n : ℕ) → u.0 ≡ n → u ≡ session_at (u.0 - 1)
  by zero q =
      let p = idle-parts (session_of script u t) e in
      let none : (session_of script u t).calls ≡ [] =
      calls-kept script u t ∙ ap (λ m. when_some (numbered script.sessions m) [] (λ (calls : List Op). calls)) q in
      let empty : length (session_of script u t).calls ≡ 0 = ap (λ (l : List Op). length l) none in
      let few = p.1 in
      absurd (omega (arith, few, empty))
  by (suc n) q = let same : u.0 ≡ u.0 - 1 + 1 = omega (arith, q) in λ i. record { 0 = same i }

-- the place of the session of which an entry begins the next call
abbrev pub input_begins : WorldState → Actor → Input → Option ℕ
input_begins r a Tick = beginner_of r a
input_begins r a Halt = None
input_begins r a (Deliver id from m) = None

abbrev pub begins_by : WorldState → Next → Option ℕ
begins_by r next = input_begins r next.actor next.input

pub starts-told : (r : WorldState) (u : SessionId) (next : Next) → Starts r.script u r.trace next → begins_by r next ≡ Some (u.0 - 1)
starts-told r u next s =
    ap (λ (a : Actor). input_begins r a next.input) s.actor
    ∙ ap (λ (i : Input). input_begins r (Session u) i) s.input
    ∙ cond-true (is_idle (session_of r.script u r.trace)) (Some (u.0 - 1)) None s.idle

-- and of which place
pub starts-place : (r : WorldState) (place : ℕ) (next : Next) → Starts r.script (session_at place) r.trace next → begins_by r next ≡ Some place
starts-place r place next s = starts-told r (session_at place) next s ∙ ap (λ n. Some n) (let e : place + 1 - 1 ≡ place = omega arith in e)

-- where it is told, the session of that place begins a call
pub told-starts : (r : WorldState) (place : ℕ) (next : Next) → begins_by r next ≡ Some place
    → (session_of r.script (session_at place) (entry_by r.script r.trace next ∷ r.trace)).begun ≡ (session_of r.script (session_at place) r.trace).begun + 1
told-starts r place next h = of next.actor next.input h where
  session : (u : SessionId) (b : Bool) → is_idle (session_of r.script u r.trace) ≡ b → (if b then Some (u.0 - 1) else None) ≡ Some place
      → (session_of r.script (session_at place) (entry_by r.script r.trace
      (record { actor = Session u; input = Tick }) ∷ r.trace)).begun
      ≡ (session_of r.script (session_at place) r.trace).begun + 1
  session u false e q = absurd (none-some place q)
  session u true e q =
      let there : u.0 - 1 ≡ place = some-same q in
      let same : u ≡ session_at place = idle-at r.script u r.trace e ∙ ap (λ n. session_at n) there in
      subst (λ (v : SessionId). (session_of r.script v
      (entry_by r.script r.trace (record { actor = Session u; input = Tick }) ∷ r.trace)).begun
      ≡ (session_of r.script v r.trace).begun + 1) same
      (ap (λ (s : SessionState). s.begun) (own-is r.script u r.trace Tick) ∙ tick-begins r.script.space (session_of r.script u r.trace) e)

  of : (a : Actor) (input : Input) → input_begins r a input ≡ Some place
      → (session_of r.script (session_at place) (entry_by r.script r.trace
      (record { actor = a; input = input }) ∷ r.trace)).begun ≡ (session_of r.script (session_at place) r.trace).begun + 1
  of a Halt q = absurd (none-some place q)
  of a (Deliver id from m) q = absurd (none-some place q)
  of Coordinator Tick q = absurd (none-some place q)
  of (Server s) Tick q = absurd (none-some place q)
  of (Session u) Tick q = session u (is_idle (session_of r.script u r.trace)) refl q
