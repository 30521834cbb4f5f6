-- What each step of a session keeps: its calls, and that no more began than there are.
use Rattle.std.proofs.Common.{◌≡◌, refl, ℕ, ◌+◌, ◌≤◌, Bool, true, false, ◌&&◌, List, map, length, cond, eqb, ltb, Option, None, Some, sym, subst, []}
use Rattle.std.specs.List.{list_any}
use Rattle.hx_model.specs.Types.{Add, Answer, Atomic, Config, Cput, Del, Deliver, Get, Halt, Input, Message, Op, Planned, Put, RegionId, Row, Search, Space}
use Rattle.hx_model.specs.Types.{Stop, Tick, Version}
use Rattle.hx_types.specs.declared.messages.Message.TheVariants as a_message
use Rattle.hx_types.specs.declared.calls.Answer.TheVariants as an_answer
use Rattle.hx_types.specs.declared.outcomes.Planned.TheVariants as a_plan
use Rattle.hx_types.specs.Configs.{head_of, is_lost}
use Rattle.hx_types.specs.Fitting.{numbered}
use Rattle.hx_types.specs.Words.{when_some}
use Rattle.hx_model.specs.Planning.{plan_of}
use Rattle.hx_model.specs.Regions.{key_region}
use Rattle.hx_model.specs.SessionSteps.{SessionState, SessionStep, all_parts, ask_regions, awaits, begin, call_to}
use Rattle.hx_model.specs.SessionSteps.{call_under_way, end_with_parts, ending, is_administrative, is_key_call}
use Rattle.hx_model.specs.SessionSteps.{is_search, lacks_part, lost_answer, merged_parts, no_version, send, send_to}
use Rattle.hx_model.specs.SessionSteps.{session_message, session_step, session_tick, staying, with_part, with_poll}
use Rattle.hx_law_growing.proofs.Numbers.{numbered-within}

-- the calls stay, and so many began
pub record Keeps (calls : List Op) (begun : ℕ) (s : SessionState) : Type 0 where
  pub calls_stay : s.calls ≡ calls
  pub begun_is : s.begun ≡ begun

sends-key : (s : SessionState) (op : Op) (g : RegionId) → Keeps s.calls s.begun (send_to s op g).state
sends-key s op g = by (is_lost s.config g)
  where
    called : SessionStep
    called = record { state = record s { sent = true }; posts = call_to s op (head_of s.config g); notes = [] }

    by : (b : Bool) → Keeps s.calls s.begun (cond b (ending s no_version (lost_answer s op g)) called).state
    by true = record { calls_stay = refl; begun_is = refl }
    by false = record { calls_stay = refl; begun_is = refl }

sends : (space : Space) (s : SessionState) (op : Op) → Keeps s.calls s.begun (send space s op).state
sends space s (Put key sets) = sends-key s (Put key sets) (key_region space key)
sends space s (Get key) = sends-key s (Get key) (key_region space key)
sends space s (Del key) = sends-key s (Del key) (key_region space key)
sends space s (Cput key tests sets) = sends-key s (Cput key tests sets) (key_region space key)
sends space s (Atomic key edits) = sends-key s (Atomic key edits) (key_region space key)
sends space s (Search terms) = by (plan_of space s.config terms)
  where
    by : (p : Planned) → Keeps s.calls s.begun (ask_regions s terms p).state
    by (a_plan.Regions subspace regions) = record { calls_stay = refl; begun_is = refl }
    by (a_plan.Lost g) = record { calls_stay = refl; begun_is = refl }
sends space s (Stop server) = record { calls_stay = refl; begun_is = refl }
sends space s (Add server g) = record { calls_stay = refl; begun_is = refl }

-- the calls stay, and no more began than there are
pub record Within (calls : List Op) (s : SessionState) : Type 0 where
  pub calls_stay : s.calls ≡ calls
  pub within : s.begun ≤ length calls

kept : (s : SessionState) (t : SessionState) → s.begun ≤ length s.calls → Keeps s.calls s.begun t → Within s.calls t
kept s t le k = record { calls_stay = k.calls_stay; within = subst (λ n. n ≤ length s.calls) (sym k.begun_is) le }

same : (s : SessionState) → s.begun ≤ length s.calls → Within s.calls s
same s le = record { calls_stay = refl; within = le }

ticks : (space : Space) (s : SessionState) → s.begun ≤ length s.calls → Within s.calls (session_tick space s).state
ticks space s le = by s.under_way (numbered s.calls s.begun) (numbered s.calls (s.begun + 1)) refl
  where
    by : (busy : Bool) (now next : Option Op) → numbered s.calls (s.begun + 1) ≡ next
        → Within s.calls (cond busy (when_some now (staying s) (λ (op : Op). with_poll (send space s op))) (when_some next (staying s) (begin space s))).state
    by true None next f = same s le
    by true (Some op) next f = kept s (send space s op).state le (sends space s op)
    by false now None f = same s le
    by false now (Some op) f =
        let k = sends space (record s { begun = s.begun + 1; under_way = true; sent = false; parts = [] }) op in
        record { calls_stay = k.calls_stay; within = subst (λ n. n ≤ length s.calls) (sym k.begun_is) (numbered-within s.calls (s.begun + 1) op f) }

ends : (s : SessionState) (b : Bool) (version : Version) (answer : Answer) → s.begun ≤ length s.calls
    → Within s.calls (cond b (ending s version answer) (staying s)).state
ends s true version answer le = record { calls_stay = refl; within = le }
ends s false version answer le = same s le

finds : (s : SessionState) (b : Bool) (g : RegionId) (rows : List Row) → s.begun ≤ length s.calls
    → Within s.calls (cond b (end_with_parts (record s { parts = map (with_part g rows) s.parts })) (staying s)).state
finds s false g rows le = same s le
finds s true g rows le = by (all_parts (map (with_part g rows) s.parts))
  where
    found : SessionState
    found = record s { parts = map (with_part g rows) s.parts }

    by : (b : Bool) → Within s.calls (cond b (ending found no_version (an_answer.Rows (merged_parts found.parts))) (staying found)).state
    by true = record { calls_stay = refl; within = le }
    by false = record { calls_stay = refl; within = le }

installs : (space : Space) (s : SessionState) (config : Config) (b : Bool) (o : Option Op) → s.begun ≤ length s.calls
    → let there = record s { config = config } in
    Within s.calls (cond b (when_some o (staying there) (λ (op : Op). cond (is_administrative op) (staying there) (send space there op))) (staying s)).state
installs space s config false o le = same s le
installs space s config true None le = record { calls_stay = refl; within = le }
installs space s config true (Some op) le = by (is_administrative op)
  where
    by : (b : Bool) → Within s.calls (cond b (staying (record s { config = config })) (send space (record s { config = config }) op)).state
    by true = record { calls_stay = refl; within = le }
    by false = kept (record s { config = config }) (send space (record s { config = config }) op).state le (sends space (record s { config = config }) op)

hears : (space : Space) (s : SessionState) (m : Message) → s.begun ≤ length s.calls → Within s.calls (session_message space s m).state
hears space s (a_message.Reply number version answer) le = ends s (awaits s number is_key_call) version answer le
hears space s (a_message.Found epoch number g rows) le =
    finds s (awaits s number is_search && eqb epoch.0 s.config.epoch.0 && list_any (lacks_part g) s.parts) g rows le
hears space s (a_message.Install config) le = installs space s config (ltb s.config.epoch.0 config.epoch.0) (call_under_way s) le
hears space s (a_message.Outcome number answer) le = ends s (awaits s number is_administrative) no_version answer le
hears space s other le = same s le

pub steps : (space : Space) (s : SessionState) (input : Input) → s.begun ≤ length s.calls → Within s.calls (session_step space s input).state
steps space s Tick le = ticks space s le
steps space s Halt le = same s le
steps space s (Deliver id from m) le = hears space s m le
