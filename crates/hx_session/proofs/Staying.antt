-- After every step a session's configuration and calls are of the space.
use Rattle.std.proofs.Common.{◌≡◌, ◌+◌, Bool, true, false, List, [], map, refl, cond, ltb}
use Rattle.std.proofs.lemmas.Bool.{cond_both}
use Rattle.hx_model.specs.Types.{Add, Answer, Atomic, Config, Cput, Del, Deliver, Get, Halt, Input, Message, Op, Planned, Put, RegionId, Search, Space, Stop}
use Rattle.hx_model.specs.Types.{Tick, Version}
use Rattle.hx_types.specs.declared.messages.Message.TheVariants as a_message
use Rattle.hx_types.specs.declared.outcomes.Planned.TheVariants as a_plan
use Rattle.hx_types.specs.Configs.{is_lost}
use Rattle.hx_types.specs.Fitting.{numbered}
use Rattle.hx_types.specs.Spaces.{IsConfigOf}
use Rattle.hx_types.specs.Words.{when_some}
use Rattle.hx_model.specs.Planning.{plan_of}
use Rattle.hx_model.specs.Regions.{key_region}
use Rattle.hx_model.specs.SessionSteps.{Part, SessionState, SessionStep, all_parts, ask_regions, awaits, begin}
use Rattle.hx_model.specs.SessionSteps.{call_under_way, end_with_parts, ending, is_administrative, is_key_call, send}
use Rattle.hx_model.specs.SessionSteps.{send_to, session_install, session_message, session_step, session_tick, staying}
use Rattle.hx_model.specs.SessionSteps.{with_part, with_poll}
use Rattle.hx_law_lemmas.proofs.Lemmas.{when_some_both}
use Rattle.hx_session.specs.Invariant.{IsStateOf}
use Rattle.hx_session.specs.Sessions.{CanTake}
use Rattle.hx_session.proofs.Posted.{given_of_space}

module _ (space : Space) where
  abbrev Stays : SessionStep → Type 0
  Stays step = IsStateOf space step.state

  sent_to_stays : (st : SessionState) → IsStateOf space st → (op : Op) (g : RegionId) → Stays (send_to st op g)
  sent_to_stays st h op g =
      cond_both (is_lost st.config g) _ _ Stays (λ t. record { config = h.config; calls = h.calls }) (λ t. record { config = h.config; calls = h.calls })

  sent_stays : (st : SessionState) → IsStateOf space st → (op : Op) → Stays (send space st op)
  sent_stays st h (Put key sets) = sent_to_stays st h (Put key sets) (key_region space key)
  sent_stays st h (Get key) = sent_to_stays st h (Get key) (key_region space key)
  sent_stays st h (Del key) = sent_to_stays st h (Del key) (key_region space key)
  sent_stays st h (Cput key tests sets) = sent_to_stays st h (Cput key tests sets) (key_region space key)
  sent_stays st h (Atomic key edits) = sent_to_stays st h (Atomic key edits) (key_region space key)
  sent_stays st h (Search terms) = by (plan_of space st.config terms)
    where
      by : (planned : Planned) → Stays (ask_regions st terms planned)
      by (a_plan.Regions subspace regions) = record { config = h.config; calls = h.calls }
      by (a_plan.Lost g) = record { config = h.config; calls = h.calls }
  sent_stays st h (Stop server) = h
  sent_stays st h (Add server region) = h

  turned_stays : (st : SessionState) → IsStateOf space st → Stays (session_tick space st)
  turned_stays st h =
      cond_both st.under_way (when_some (numbered st.calls st.begun) (staying st)
      (λ (op : Op). with_poll (send space st op)))
      (when_some (numbered st.calls (st.begun + 1)) (staying st) (begin space st)) Stays
      (λ t. when_some_both (numbered st.calls st.begun) (staying st) (λ (op : Op). with_poll (send space st op)) Stays
      (λ e. h) (λ (op : Op) e. sent_stays st h op))
      (
      λ t. when_some_both (numbered st.calls (st.begun + 1)) (staying st) (begin space st) Stays (λ e. h)
      (λ (op : Op) e. sent_stays (record st { begun = st.begun + 1; under_way = true; sent = false; parts = [] })
      (record { config = h.config; calls = h.calls }) op)
      )

  installed_stays : (st : SessionState) → IsStateOf space st → (config : Config) → IsConfigOf space config → Stays (session_install space st config)
  installed_stays st h config of_space =
      cond_both (ltb st.config.epoch.0 config.epoch.0) _ (staying st) Stays
      (
      λ t. when_some_both (call_under_way st) (staying (record st { config = config }))
      (λ (op : Op). cond (is_administrative op) (staying (record st { config = config })) (send space (record st { config = config }) op)) Stays
      (λ e. record { config = of_space; calls = h.calls })
      (
      λ (op : Op) e. cond_both (is_administrative op) (staying (record st { config = config })) (send space (record st { config = config }) op) Stays
      (λ a. record { config = of_space; calls = h.calls })
      (λ a. sent_stays (record st { config = config }) (record { config = of_space; calls = h.calls }) op)
      )
      )
      (λ t. h)

  ended_stays : (b : Bool) (st : SessionState) → IsStateOf space st → (version : Version) (answer : Answer)
      → Stays (cond b (ending st version answer) (staying st))
  ended_stays true st h version answer = record { config = h.config; calls = h.calls }
  ended_stays false st h version answer = h

  found_stays : (b : Bool) (st : SessionState) → IsStateOf space st → (parts : List Part)
      → Stays (cond b (end_with_parts (record st { parts = parts })) (staying st))
  found_stays true st h parts = ended_stays (all_parts parts) (record st { parts = parts }) (record { config = h.config; calls = h.calls }) _ _
  found_stays false st h parts = h

  heard_stays : (st : SessionState) → IsStateOf space st → (m : Message)
      → ((config : Config) → m ≡ a_message.Install config → IsConfigOf space config) → Stays (session_message space st m)
  heard_stays st h (a_message.Reply number version answer) f = ended_stays (awaits st number is_key_call) st h version answer
  heard_stays st h (a_message.Outcome number answer) f = ended_stays (awaits st number is_administrative) st h _ answer
  heard_stays st h (a_message.Found epoch number g rows) f = found_stays _ st h (map (with_part g rows) st.parts)
  heard_stays st h (a_message.Install config) f = installed_stays st h config (f config refl)
  heard_stays st h other f = h

  pub step_of_space : (st : SessionState) → IsStateOf space st → (input : Input) → CanTake space st input → Stays (session_step space st input)
  step_of_space st h Tick can = turned_stays st h
  step_of_space st h Halt can = h
  step_of_space st h (Deliver id from m) can = heard_stays st h m (λ config e. given_of_space space st (Deliver id from m) can config e)
