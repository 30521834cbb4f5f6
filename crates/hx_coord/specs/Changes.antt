-- What a step makes of a coordinator, and a step that is ready to be made.
use Rattle.std.specs.Prelude.{◌≡◌, ℕ, List, [], ◌∷◌, ◌++◌, map, unwrap_or, Option, None, Some}
use Rattle.hx_model.specs.Types.{Answer, Caller, Config, Post, ServerId, Stop}
use Rattle.hx_types.specs.declared.calls.Answer.TheVariants as an_answer
use Rattle.hx_types.specs.declared.messages.Message.TheVariants as a_message
use Rattle.hx_types.specs.declared.traces.Note.TheVariants as a_note
use Rattle.hx_model.specs.CoordinatorSteps.{Answered, CoordinatorState, CoordinatorStep, Newest, coordinator_step}
use Rattle.hx_model.specs.CoordinatorSteps.{newest_answered, outcome, session_posts, to_server, with_newest}
use Rattle.hx_coord.specs.declared.agendas.Agenda.{Agenda}
use Rattle.hx_coord.specs.declared.outputs.StepOutput.{StepOutput}
use Rattle.hx_coord.specs.declared.prepared.Plan.{Plan}
use Rattle.hx_coord.specs.Coordinators.{coordinator_entry}
use Rattle.hx_coord.specs.Outcomes.{outcomes}

-- nothing is to be done
abbrev pub empty_agenda : ℕ → Agenda
empty_agenda sessions = record { sessions = sessions; todo = []; newest = [] }

abbrev pub newest_as : Caller → Option Answer → Newest
newest_as caller answer = record { session = caller.session; number = caller.number; answer = answer }

-- the call's number is its session's newest
abbrev pub numbered : Agenda → Caller → Option Answer → Agenda
numbered a caller answer = record a { newest = with_newest (newest_as caller answer) a.newest }

-- a new stop is to be done
abbrev pub to_do : Agenda → Caller → ServerId → Agenda
to_do a caller s =
    record a { todo = a.todo ++ record { caller = caller; op = Stop s } ∷ []; newest = with_newest (newest_as caller None) a.newest }

-- the coordinator that has this configuration and agenda
abbrev pub standing : Config → Agenda → CoordinatorState
standing config a = record { config = config; todo = a.todo; newest = a.newest; sessions = a.sessions }

-- these posts are made, this is kept, and nothing is noted
abbrev pub told : Agenda → List Post → StepOutput
told a posts = record { posts = posts; notes = []; config = None; agenda = a }

-- the call that the configuration answers
abbrev pub done_by : Caller → Config → List Answered
done_by caller config = record { caller = caller; answer = an_answer.Issued config.epoch } ∷ []

-- what the issue of a configuration posts, notes and changes
abbrev pub issued_as : Agenda → Config → List Answered → StepOutput
issued_as a config answered =
    record {
      posts = (map (to_server (a_message.Install config)) config.servers ++ session_posts a.sessions (a_message.Install config)) ++ outcomes answered;
      notes = a_note.Issued config ∷ [];
      config = Some config;
      agenda = record a { newest = newest_answered answered a.newest };
    }

-- an answer that is known is told again
abbrev pub known_posts : Caller → Option Answer → List Post
known_posts caller None = []
known_posts caller (Some answer) = outcome caller answer ∷ []

-- what was made in this configuration is the step
pub record IsOutputOf (config : Config) (step : CoordinatorStep) (made : StepOutput) : Type 0 where
  pub posts : made.posts ≡ step.posts
  pub notes : made.notes ≡ step.notes
  pub state : standing (unwrap_or made.config config) made.agenda ≡ step.state

-- the plan is that of the coordinator's step
pub record IsPlanOn (c : CoordinatorState) (plan : Plan) : Type 0 where
  pub entry : plan.entry ≡ coordinator_entry c plan.entry.input
  pub change : standing (unwrap_or plan.config c.config) plan.agenda ≡ (coordinator_step c plan.entry.input).state
