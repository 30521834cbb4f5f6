-- What a step makes of a session, and a step that is ready to be made.
use Rattle.std.specs.Prelude.{◌≡◌, ℕ, Bool, false, ◌||◌, is_some, List, [], map, if◌then◌else◌, slice_set, unwrap_or, None, Some}
use Rattle.std.specs.List.{flat_map}
use Rattle.hx_model.specs.Types.{Answer, Config, Input, Op, Post, RegionId, Row, Space, Term, Version}
use Rattle.hx_types.specs.Configs.{head_of}
use Rattle.hx_types.specs.Words.{same_region, when_some}
use Rattle.hx_model.specs.SessionSteps.{Part as PartSeen, SessionState, SessionStep, ask_to, awaits, call_under_way}
use Rattle.hx_model.specs.SessionSteps.{ending, is_administrative, lacks_part, send, session_step, staying, with_part}
use Rattle.hx_session.specs.declared.kinds.CallKind.{CallKind}
use Rattle.hx_session.specs.declared.parts.SearchPart.{SearchPart}
use Rattle.hx_session.specs.declared.parts.PartsChange.{PartsChange}
use Rattle.hx_session.specs.declared.parts.PartsChange.TheVariants.{Stay, Replace, Put}
use Rattle.hx_session.specs.declared.prepared.Change.{Change}
use Rattle.hx_session.specs.declared.prepared.Plan.{Plan}
use Rattle.hx_session.specs.declared.prepared.Progress.{Progress}
use Rattle.hx_session.specs.declared.sending.Sender.{Sender}
use Rattle.hx_session.specs.Kinds.{kind_test}
use Rattle.hx_session.specs.Sessions.{CanTake, SessionValue, session_entry}

-- a part as the definitions say it
abbrev pub part_seen : SearchPart → PartSeen
part_seen p = record { region = p.region; rows = p.rows }

-- the part is the region's and has no rows
abbrev pub lacks_rows : RegionId → SearchPart → Bool
lacks_rows g p = lacks_part g (part_seen p)

-- the part has rows once the region's has
abbrev pub is_found : RegionId → SearchPart → Bool
is_found g p = same_region p.region g || is_some p.rows

-- a region that hasn't answered
abbrev pub asked_part : RegionId → SearchPart
asked_part g = record { region = g; rows = None }

abbrev pub parts_after : List PartSeen → PartsChange → List PartSeen
parts_after parts Stay = parts
parts_after parts (Replace others) = map part_seen others
parts_after parts (Put place part) = slice_set parts place (part_seen part)

-- the same change where there were no parts before
abbrev pub afresh : PartsChange → PartsChange
afresh Stay = Replace []
afresh (Replace others) = Replace others
afresh (Put place part) = Replace []

-- the state after a change
abbrev pub changed : SessionState → Change → SessionState
changed s c =
    record {
      id = s.id;
      calls = s.calls;
      config = unwrap_or c.config s.config;
      begun = c.progress.begun;
      under_way = c.progress.under_way;
      sent = c.progress.sent;
      parts = parts_after s.parts c.parts;
    }

-- the change is that of the step
abbrev pub Makes : SessionState → SessionStep → Change → Type 0
Makes s step change = changed s change ≡ step.state

-- the change is that of the session's step on an input that it can take
pub record IsChangeOn (s : SessionValue) (input : Input) (change : Change) : Type 0 where
  pub takes : CanTake s.space s.state input
  pub makes : Makes s.state (session_step s.space s.state input) change

-- the change is that of some step of the session
abbrev pub IsChange : SessionValue → Change → Type 0
IsChange s change = (input : Input) × IsChangeOn s input change

-- the plan is that of the session's step on an input that it can take
pub record IsPlanOn (s : SessionValue) (plan : Plan) : Type 0 where
  pub takes : CanTake s.space s.state plan.entry.input
  pub entry : plan.entry ≡ session_entry s.space s.state plan.entry.input
  pub change : changed s.state plan.change ≡ (session_step s.space s.state plan.entry.input).state

-- nothing is changed
abbrev pub unmoved_at : Progress → Change
unmoved_at progress = record { config = None; progress = progress; parts = Stay }

-- the call under way ends
abbrev pub ended_as : Progress → Change
ended_as progress = record { config = None; progress = record progress { under_way = false }; parts = Replace [] }

-- the sender as a session that has these calls and parts
abbrev pub sender_seen : Sender → List Op → List PartSeen → SessionState
sender_seen s calls parts =
    record {
      id = s.id;
      calls = calls;
      config = s.config.now;
      begun = s.progress.begun;
      under_way = s.progress.under_way;
      sent = s.progress.sent;
      parts = parts;
    }

-- the first member of each region is asked
abbrev pub asks_posted : Sender → List Term → List RegionId → List Post
asks_posted s terms regions = flat_map (λ (g : RegionId). ask_to (sender_seen s [] []) terms g (head_of s.config.now g)) regions

-- and no region has answered
abbrev pub asked_as : Progress → List RegionId → Change
asked_as progress regions = record { config = None; progress = progress; parts = Replace (map asked_part regions) }

-- a configuration is adopted, too
abbrev pub adopting_as : Config → Change → Change
adopting_as config change = record { config = Some config; progress = change.progress; parts = change.parts }

-- a part is kept
abbrev pub kept_as : Progress → ℕ → SearchPart → Change
kept_as progress place part = record { config = None; progress = progress; parts = Put place part }

-- a call ends with an answer of its number, where it is under way and of the kind
abbrev pub answer_step : SessionState → ℕ → CallKind → Version → Answer → SessionStep
answer_step s number kind version answer = if awaits s number (kind_test kind) then ending s version answer else staying s

-- the parts once a region has rows
abbrev pub with_parts : SessionState → RegionId → List Row → SessionState
with_parts s g rows = record s { parts = map (with_part g rows) s.parts }

abbrev pub in_config : SessionState → Config → SessionState
in_config s config = record s { config = config }

-- a call on a key or a search is sent in another configuration
abbrev pub sent_anew : Space → SessionState → Config → SessionStep
sent_anew space s config =
    when_some (call_under_way s) (staying (in_config s config))
    (λ (op : Op). if is_administrative op then staying (in_config s config) else send space (in_config s config) op)
