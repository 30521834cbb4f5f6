-- The step of a session that has further calls: it is the same but for these.
use Rattle.std.proofs.Common.{◌≡◌, refl, ℕ, ◌+◌, ◌≤◌, Bool, true, false, ◌&&◌, List, [], map, length, cond, eqb, ltb, Option, None, Some, ap, ◌∙◌}
use Rattle.std.proofs.lemmas.Bool.{false≢true}
use Rattle.std.specs.List.{list_any}
use mathlib.Core.List.{IsPrefix}
use Rattle.hx_model.specs.Types.{Add, Answer, Atomic, Config, Cput, Del, Deliver, Epoch, Get, Halt, Input, Message, Op, Planned, Put, RegionId, Row, Search}
use Rattle.hx_model.specs.Types.{Space, Stop, Term, Tick, Version}
use Rattle.hx_types.specs.declared.messages.Message.TheVariants as a_message
use Rattle.hx_types.specs.declared.calls.Answer.TheVariants as an_answer
use Rattle.hx_types.specs.declared.outcomes.Planned.TheVariants as a_plan
use Rattle.hx_types.specs.declared.traces.Note.TheVariants as a_note
use Rattle.hx_types.specs.Configs.{head_of, is_lost}
use Rattle.hx_types.specs.Fitting.{numbered}
use Rattle.hx_types.specs.Words.{when_some}
use Rattle.hx_model.specs.Planning.{plan_of}
use Rattle.hx_model.specs.Regions.{key_region}
use Rattle.hx_model.specs.Runs.{does_something}
use Rattle.hx_model.specs.SessionSteps.{SessionState, SessionStep, all_parts, ask_regions, awaits, begin, call_to}
use Rattle.hx_model.specs.SessionSteps.{call_under_way, end_with_parts, ending, found_step, is_administrative}
use Rattle.hx_model.specs.SessionSteps.{is_key_call, is_search, lacks_part, lost_answer, merged_parts, no_version}
use Rattle.hx_model.specs.SessionSteps.{send, send_to, session_install, session_message, session_step, session_tick}
use Rattle.hx_model.specs.SessionSteps.{staying, with_note, with_part, with_poll}
use Rattle.hx_law_growing.specs.Growing.{with_calls}
use Rattle.hx_law_growing.proofs.Numbers.{numbered-grows, numbered-same}

-- a step whose session has these calls
abbrev pub grown : List Op → SessionStep → SessionStep
grown calls step = record { state = with_calls calls step.state; posts = step.posts; notes = step.notes }

-- a call on a key is sent
sends-key : (calls : List Op) (s : SessionState) (op : Op) (g : RegionId) → send_to (with_calls calls s) op g ≡ grown calls (send_to s op g)
sends-key calls s op g = by (is_lost s.config g)
  where
    called : SessionState → SessionStep
    called t = record { state = record t { sent = true }; posts = call_to s op (head_of s.config g); notes = [] }

    by : (b : Bool)
        → cond b (ending (with_calls calls s) no_version (lost_answer s op g)) (called (with_calls calls s))
        ≡ grown calls (cond b (ending s no_version (lost_answer s op g)) (called s))
    by true = refl
    by false = refl

-- a search asks
asks : (calls : List Op) (s : SessionState) (terms : List Term) (p : Planned) → ask_regions (with_calls calls s) terms p ≡ grown calls (ask_regions s terms p)
asks calls s terms (a_plan.Regions subspace regions) = refl
asks calls s terms (a_plan.Lost g) = refl

sends : (space : Space) (calls : List Op) (s : SessionState) (op : Op) → send space (with_calls calls s) op ≡ grown calls (send space s op)
sends space calls s (Put key sets) = sends-key calls s (Put key sets) (key_region space key)
sends space calls s (Get key) = sends-key calls s (Get key) (key_region space key)
sends space calls s (Del key) = sends-key calls s (Del key) (key_region space key)
sends space calls s (Cput key tests sets) = sends-key calls s (Cput key tests sets) (key_region space key)
sends space calls s (Atomic key edits) = sends-key calls s (Atomic key edits) (key_region space key)
sends space calls s (Search terms) = asks calls s terms (plan_of space s.config terms)
sends space calls s (Stop server) = refl
sends space calls s (Add server g) = refl

-- the session has a call under way and a next one, or not
abbrev turn : Space → SessionState → Bool → Option Op → Option Op → SessionStep
turn space s busy now next = cond busy (when_some now (staying s) (λ (op : Op). with_poll (send space s op))) (when_some next (staying s) (begin space s))

-- a tick that does something
pub ticks : (space : Space) (calls : List Op) (s : SessionState) → IsPrefix s.calls calls
    → does_something Tick (record { posts = (session_tick space s).posts; notes = (session_tick space s).notes }) ≡ true
    → session_tick space (with_calls calls s) ≡ grown calls (session_tick space s)
ticks space calls s p does = by s.under_way (numbered s.calls s.begun) (numbered s.calls (s.begun + 1)) refl refl does
  where
    by : (busy : Bool) (now next : Option Op) → numbered s.calls s.begun ≡ now → numbered s.calls (s.begun + 1) ≡ next
        → does_something Tick (record { posts = (turn space s busy now next).posts; notes = (turn space s busy now next).notes }) ≡ true
        → turn space (with_calls calls s) busy (numbered calls s.begun) (numbered calls (s.begun + 1)) ≡ grown calls (turn space s busy now next)
    by true None next e f d = absurd (false≢true d)
    by true (Some op) next e f d =
        ap (λ o. when_some o (staying (with_calls calls s)) (λ (op : Op). with_poll (send space (with_calls calls s) op)))
        (numbered-grows s.calls calls s.begun op p e)
        ∙ ap with_poll (sends space calls s op)
    by false now None e f d = absurd (false≢true d)
    by false now (Some op) e f d =
        ap (λ o. when_some o (staying (with_calls calls s)) (begin space (with_calls calls s))) (numbered-grows s.calls calls (s.begun + 1) op p f)
        ∙ ap (with_note (a_note.Began (s.begun + 1))) (sends space calls (record s { begun = s.begun + 1; under_way = true; sent = false; parts = [] }) op)

-- the call under way is the same
same-call : (calls : List Op) (s : SessionState) → IsPrefix s.calls calls → s.begun ≤ length s.calls → call_under_way (with_calls calls s) ≡ call_under_way s
same-call calls s p le = by s.under_way
  where
    by : (busy : Bool) → cond busy (numbered calls s.begun) None ≡ cond busy (numbered s.calls s.begun) None
    by true = numbered-same s.calls calls s.begun p le
    by false = refl

same-wait : (calls : List Op) (s : SessionState) (number : ℕ) (test : Op → Bool) → IsPrefix s.calls calls → s.begun ≤ length s.calls
    → awaits (with_calls calls s) number test ≡ awaits s number test
same-wait calls s number test p le = ap (λ o. eqb number s.begun && when_some o false test) (same-call calls s p le)

-- where the session waits for it, the call ends
ends : (calls : List Op) (s : SessionState) (number : ℕ) (test : Op → Bool) (version : Version) (answer : Answer) → IsPrefix s.calls calls
    → s.begun ≤ length s.calls
    → cond (awaits (with_calls calls s) number test) (ending (with_calls calls s) version answer) (staying (with_calls calls s))
    ≡ grown calls (cond (awaits s number test) (ending s version answer) (staying s))
ends calls s number test version answer p le =
    ap (λ b. cond b (ending (with_calls calls s) version answer) (staying (with_calls calls s))) (same-wait calls s number test p le)
    ∙ by (awaits s number test)
  where
    by : (b : Bool)
        → cond b (ending (with_calls calls s) version answer) (staying (with_calls calls s)) ≡ grown calls (cond b (ending s version answer) (staying s))
    by true = refl
    by false = refl

-- a search ends with its last part
gathers : (calls : List Op) (s : SessionState) → end_with_parts (with_calls calls s) ≡ grown calls (end_with_parts s)
gathers calls s = by (all_parts s.parts)
  where
    by : (b : Bool) → cond b (ending (with_calls calls s) no_version (an_answer.Rows (merged_parts s.parts))) (staying (with_calls calls s))
        ≡ grown calls (cond b (ending s no_version (an_answer.Rows (merged_parts s.parts))) (staying s))
    by true = refl
    by false = refl

finds : (calls : List Op) (s : SessionState) (epoch : Epoch) (number : ℕ) (g : RegionId) (rows : List Row) → IsPrefix s.calls calls → s.begun ≤ length s.calls
    → found_step (with_calls calls s) epoch number g rows ≡ grown calls (found_step s epoch number g rows)
finds calls s epoch number g rows p le =
    ap (λ b. cond (b && eqb epoch.0 s.config.epoch.0 && list_any (lacks_part g) s.parts)
    (end_with_parts (with_calls calls taken)) (staying (with_calls calls s)))
    (same-wait calls s number is_search p le)
    ∙ by (awaits s number is_search && eqb epoch.0 s.config.epoch.0 && list_any (lacks_part g) s.parts)
  where
    taken : SessionState
    taken = record s { parts = map (with_part g rows) s.parts }

    by : (b : Bool) → cond b (end_with_parts (with_calls calls taken)) (staying (with_calls calls s)) ≡ grown calls (cond b (end_with_parts taken) (staying s))
    by true = gathers calls taken
    by false = refl

-- a configuration comes
installs : (space : Space) (calls : List Op) (s : SessionState) (config : Config) → IsPrefix s.calls calls → s.begun ≤ length s.calls
    → session_install space (with_calls calls s) config ≡ grown calls (session_install space s config)
installs space calls s config p le =
    ap (λ o. cond (ltb s.config.epoch.0 config.epoch.0)
    (when_some o (staying (with_calls calls there)) (again (with_calls calls there))) (staying (with_calls calls s)))
    (same-call calls s p le)
    ∙ by (ltb s.config.epoch.0 config.epoch.0) (call_under_way s)
  where
    there : SessionState
    there = record s { config = config }

    again : SessionState → Op → SessionStep
    again t op = cond (is_administrative op) (staying t) (send space t op)

    sent : (b : Bool) (op : Op)
        → cond b (staying (with_calls calls there)) (send space (with_calls calls there) op) ≡ grown calls (cond b (staying there) (send space there op))
    sent true op = refl
    sent false op = sends space calls there op

    by : (b : Bool) (o : Option Op) → cond b (when_some o (staying (with_calls calls there)) (again (with_calls calls there))) (staying (with_calls calls s))
        ≡ grown calls (cond b (when_some o (staying there) (again there)) (staying s))
    by true None = refl
    by true (Some op) = sent (is_administrative op) op
    by false o = refl

hears : (space : Space) (calls : List Op) (s : SessionState) (m : Message) → IsPrefix s.calls calls → s.begun ≤ length s.calls
    → session_message space (with_calls calls s) m ≡ grown calls (session_message space s m)
hears space calls s (a_message.Reply number version answer) p le = ends calls s number is_key_call version answer p le
hears space calls s (a_message.Found epoch number g rows) p le = finds calls s epoch number g rows p le
hears space calls s (a_message.Install config) p le = installs space calls s config p le
hears space calls s (a_message.Outcome number answer) p le = ends calls s number is_administrative no_version answer p le
hears space calls s other p le = refl

-- a step that does something is the same
pub steps : (space : Space) (calls : List Op) (s : SessionState) (input : Input) → IsPrefix s.calls calls → s.begun ≤ length s.calls
    → does_something input (record { posts = (session_step space s input).posts; notes = (session_step space s input).notes }) ≡ true
    → session_step space (with_calls calls s) input ≡ grown calls (session_step space s input)
steps space calls s Tick p le does = ticks space calls s p does
steps space calls s Halt p le does = refl
steps space calls s (Deliver id from m) p le does = hears space calls s m p le
