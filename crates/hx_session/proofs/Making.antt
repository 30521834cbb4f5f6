-- What a session posts in a step: of each post one of five kinds.
use Rattle.std.proofs.Common.{◌≡◌, ℕ, zero, suc, ◌+◌, inl, inr, Bool, true, false, List, [], ◌∷◌, map, Option, None, Some, refl, sym, subst, cond, ltb}
use Rattle.std.specs.List.{All}
use Rattle.std.proofs.lemmas.Bool.{cond_both}
use Rattle.std.proofs.lemmas.List.Elements.{All-nil}
use Rattle.hx_model.specs.Types.{Add, Answer, Atomic, Config, Coordinator, Cput, Del, Deliver, Get, Halt, Input, Message, Op, Planned, Post, Put, RegionId}
use Rattle.hx_model.specs.Types.{Search, Server, ServerId, Session, SessionId, Space, Stop, Term, Tick, Version}
use Rattle.hx_types.specs.declared.messages.Message.TheVariants as a_message
use Rattle.hx_types.specs.declared.outcomes.Planned.TheVariants as a_plan
use Rattle.hx_types.specs.Configs.{head_of, is_lost}
use Rattle.hx_types.specs.Fitting.{numbered}
use Rattle.hx_types.specs.Spaces.{IsRegionOf}
use Rattle.hx_types.specs.Words.{IsIn, post, provided, when_some}
use Rattle.hx_model.specs.Planning.{plan_of}
use Rattle.hx_model.specs.Regions.{key_region}
use Rattle.hx_model.specs.SessionSteps.{Part, SessionState, SessionStep, all_parts, ask_regions, ask_to, awaits, begin}
use Rattle.hx_model.specs.SessionSteps.{call_to, call_under_way, end_with_parts, ending, is_administrative}
use Rattle.hx_model.specs.SessionSteps.{is_key_call, lost_answer, send, send_to, session_install, session_message}
use Rattle.hx_model.specs.SessionSteps.{session_step, session_tick, staying, with_part, with_poll}
use Rattle.hx_law_lemmas.proofs.Lemmas.{all-of, in-append, in-flat_map, in-provided, in-slice_get, when_some_both, NamesRegions, plan-regions}

-- a post may be any of those that a session makes of its calls in a configuration
pub record Allows (space : Space) (id : SessionId) (calls : List Op) (config : Config) (Good : Post → Type 0) : Type 0 where
  pub call : (number : ℕ) (op : Op) → IsIn op calls → (g : RegionId) (x : ServerId) → head_of config g ≡ Some x
      → Good (post (Session id) (Server x) (a_message.Call config.epoch number op))
  pub ask : (number : ℕ) (terms : List Term) → IsIn (Search terms) calls → (g : RegionId) → IsRegionOf space g
      → (x : ServerId) → head_of config g ≡ Some x → Good
      (post (Session id) (Server x) (a_message.Ask config.epoch number g terms))
  pub stop : (number : ℕ) (server : ServerId) → IsIn (Stop server) calls → Good (post (Session id) Coordinator (a_message.StopServer number server))
  pub add : (number : ℕ) (server : ServerId) (g : RegionId) → IsIn (Add server g) calls
      → Good (post (Session id) Coordinator (a_message.AddReplica number server g))
  pub poll : Good (post (Session id) Coordinator (a_message.Poll config.epoch))

-- the configuration is the one that the input brings
abbrev pub GivenBy : Config → Input → Type 0
GivenBy config Tick = ⊥
GivenBy config Halt = ⊥
GivenBy config (Deliver id from m) = m ≡ a_message.Install config

numbered-in : {A : Type 0} (xs : List A) (n : ℕ) (x : A) → numbered xs n ≡ Some x → IsIn x xs
numbered-in xs zero x e = absurd (cc)
numbered-in xs (suc k) x e = in-slice_get xs k x e

module _ (space : Space) (Good : Post → Type 0) where
  -- the session's posts may be any of its own in its configuration
  abbrev pub AllowsOwn : SessionState → Type 0
  AllowsOwn st = Allows space st.id st.calls st.config Good

  abbrev AreGood : SessionStep → Type 0
  AreGood step = (p : Post) → IsIn p step.posts → Good p

  none-good : (p : Post) → IsIn p [] → Good p
  none-good p i = absurd i

  one-good : (q : Post) → Good q → (p : Post) → IsIn p (q ∷ []) → Good p
  one-good q h p (inl e) = subst Good (sym e) h
  one-good q h p (inr i) = absurd i

  called : (st : SessionState) → AllowsOwn st → (op : Op) → IsIn op st.calls → (g : RegionId) (o : Option ServerId)
      → head_of st.config g ≡ o → (p : Post) → IsIn p (call_to st op o) → Good p
  called st h op own g None e = none-good
  called st h op own g (Some x) e = one-good _ (h.call st.begun op own g x e)

  sent_to : (st : SessionState) → AllowsOwn st → (op : Op) → IsIn op st.calls → (g : RegionId) → AreGood (send_to st op g)
  sent_to st h op own g =
      cond_both (is_lost st.config g) (ending st _ (lost_answer st op g))
      (record { state = record st { sent = true }; posts = call_to st op (head_of st.config g); notes = [] }) AreGood
      (λ t. none-good)
      (λ t. called st h op own g (head_of st.config g) refl)

  asked : (st : SessionState) → AllowsOwn st → (terms : List Term) → IsIn (Search terms) st.calls
      → (planned : Planned) → NamesRegions space planned → AreGood (ask_regions st terms planned)
  asked st h terms own (a_plan.Lost g) named = none-good
  asked st h terms own (a_plan.Regions subspace regions) named =
      λ p i. (let f = in-flat_map (λ (g : RegionId). ask_to st terms g (head_of st.config g)) regions p i in
      by f.0 (named f.0 f.1) (head_of st.config f.0) refl p f.2)
    where
      by : (g : RegionId) → IsRegionOf space g → (o : Option ServerId) → head_of st.config g ≡ o → (p : Post) → IsIn p (ask_to st terms g o) → Good p
      by g region None e = none-good
      by g region (Some x) e = one-good _ (h.ask st.begun terms own g region x e)

  sent : (st : SessionState) → AllowsOwn st → (op : Op) → IsIn op st.calls → AreGood (send space st op)
  sent st h (Put key sets) own = sent_to st h (Put key sets) own (key_region space key)
  sent st h (Get key) own = sent_to st h (Get key) own (key_region space key)
  sent st h (Del key) own = sent_to st h (Del key) own (key_region space key)
  sent st h (Cput key tests sets) own = sent_to st h (Cput key tests sets) own (key_region space key)
  sent st h (Atomic key edits) own = sent_to st h (Atomic key edits) own (key_region space key)
  sent st h (Search terms) own = asked st h terms own (plan_of space st.config terms) (plan-regions space st.config terms)
  sent st h (Stop server) own = one-good _ (h.stop st.begun server own)
  sent st h (Add server region) own = one-good _ (h.add st.begun server region own)

  polled : (step : SessionStep) → AllowsOwn step.state → AreGood step → AreGood (with_poll step)
  polled step h f = λ p i. elim (in-append step.posts
      (provided step.state.under_way (post (Session step.state.id) Coordinator
      (a_message.Poll step.state.config.epoch) ∷ [])) p i) [
        | inl j ↦ f p j
        | inr j ↦ one-good _ h.poll p (in-provided step.state.under_way
            (post (Session step.state.id) Coordinator (a_message.Poll step.state.config.epoch) ∷ []) p j).1
      ]

  -- sending a call leaves what allows posts
  sent_allows : (st : SessionState) → AllowsOwn st → (op : Op) → AllowsOwn (send space st op).state
  sent_allows st h (Put key sets) = cond_both (is_lost st.config (key_region space key)) _ _ (λ (step : SessionStep). AllowsOwn step.state) (λ t. h) (λ t. h)
  sent_allows st h (Get key) = cond_both (is_lost st.config (key_region space key)) _ _ (λ (step : SessionStep). AllowsOwn step.state) (λ t. h) (λ t. h)
  sent_allows st h (Del key) = cond_both (is_lost st.config (key_region space key)) _ _ (λ (step : SessionStep). AllowsOwn step.state) (λ t. h) (λ t. h)
  sent_allows st h (Cput key tests sets) = cond_both (is_lost st.config (key_region space key)) _ _
      (λ (step : SessionStep). AllowsOwn step.state) (λ t. h) (λ t. h)
  sent_allows st h (Atomic key edits) = cond_both (is_lost st.config (key_region space key)) _ _
      (λ (step : SessionStep). AllowsOwn step.state) (λ t. h) (λ t. h)
  sent_allows st h (Search terms) = by (plan_of space st.config terms)
    where
      by : (planned : Planned) → AllowsOwn (ask_regions st terms planned).state
      by (a_plan.Regions subspace regions) = h
      by (a_plan.Lost g) = h
  sent_allows st h (Stop server) = h
  sent_allows st h (Add server region) = h

  turned : (st : SessionState) → AllowsOwn st → AreGood (session_tick space st)
  turned st h =
      cond_both st.under_way (when_some (numbered st.calls st.begun) (staying st)
      (λ (op : Op). with_poll (send space st op)))
      (when_some (numbered st.calls (st.begun + 1)) (staying st) (begin space st)) AreGood
      (
      λ t. when_some_both (numbered st.calls st.begun) (staying st) (λ (op : Op). with_poll (send space st op)) AreGood (λ e. none-good)
      (λ (op : Op) e. polled (send space st op) (sent_allows st h op) (sent st h op (numbered-in st.calls st.begun op e)))
      )
      (
      λ t. when_some_both (numbered st.calls (st.begun + 1)) (staying st) (begin space st) AreGood (λ e. none-good)
      (λ (op : Op) e. sent (record st { begun = st.begun + 1; under_way = true; sent = false; parts = [] }) h op (numbered-in st.calls (st.begun + 1) op e))
      )

  installed : (st : SessionState) (config : Config) → Allows space st.id st.calls config Good → AreGood (session_install space st config)
  installed st config h =
      cond_both (ltb st.config.epoch.0 config.epoch.0) _ (staying st) AreGood
      (
      λ t. when_some_both (call_under_way st) (staying (record st { config = config }))
      (λ (op : Op). cond (is_administrative op) (staying (record st { config = config })) (send space (record st { config = config }) op)) AreGood
      (λ e. none-good)
      (
      λ (op : Op) e. cond_both (is_administrative op) (staying (record st { config = config })) (send space (record st { config = config }) op) AreGood
      (λ a. none-good)
      (λ a. sent (record st { config = config }) h op (under st.under_way op e))
      )
      )
      (λ t. none-good)
    where
      under : (b : Bool) (op : Op) → cond b (numbered st.calls st.begun) None ≡ Some op → IsIn op st.calls
      under true op e = numbered-in st.calls st.begun op e
      under false op e = absurd (cc)

  ended_or_not : (b : Bool) (st : SessionState) (version : Version) (answer : Answer) → AreGood (cond b (ending st version answer) (staying st))
  ended_or_not true st version answer = none-good
  ended_or_not false st version answer = none-good

  found_or_not : (b : Bool) (st : SessionState) (parts : List Part) → AreGood (cond b (end_with_parts (record st { parts = parts })) (staying st))
  found_or_not true st parts = ended_or_not (all_parts parts) (record st { parts = parts }) _ _
  found_or_not false st parts = none-good

  heard : (st : SessionState) (m : Message) → ((config : Config) → m ≡ a_message.Install config
      → Allows space st.id st.calls config Good) → AreGood (session_message space st m)
  heard st (a_message.Reply number version answer) f = ended_or_not (awaits st number is_key_call) st version answer
  heard st (a_message.Outcome number answer) f = ended_or_not (awaits st number is_administrative) st _ answer
  heard st (a_message.Found epoch number g rows) f = found_or_not _ st (map (with_part g rows) st.parts)
  heard st (a_message.Install config) f = installed st config (f config refl)
  heard st other f = none-good

  -- each post of a step is one of those that a session makes of its calls, in its configuration or in the one that it is given
  pub stepped : (st : SessionState) → AllowsOwn st → (input : Input)
      → ((config : Config) → GivenBy config input → Allows space st.id st.calls config Good)
      → All Good (session_step space st input).posts
  stepped st h Tick f = all-of Good (session_tick space st).posts (turned st h)
  stepped st h Halt f = All-nil _
  stepped st h (Deliver id from m) f = all-of Good (session_message space st m).posts (heard st m f)
