-- The laws on causes, for every run of every valid script.
use Rattle.std.specs.Prelude.{◌≡◌, false, List, Some}
use Rattle.hx_model.specs.Types.{Answer, Caller, Config, Entry, Epoch, RegionId, Script, Session, Version}
use Rattle.hx_types.specs.declared.traces.Note.TheVariants as a_note
use Rattle.hx_types.specs.Configs.{is_lost}
use Rattle.hx_types.specs.Fitting.{IsScript, is_doubt, is_refused}
use Rattle.hx_types.specs.Spaces.{IsRegionOf}
use Rattle.hx_types.specs.Words.{IsIn}
use Rattle.hx_model.specs.Causes.{HasCauses, config_of}
use Rattle.hx_model.specs.Runs.{IsRun}

-- in every run each answer of each call has its cause
abbrev pub RunsHaveCauses : Type 0
RunsHaveCauses = (script : Script) → IsScript script → (trace : List Entry) → IsRun script trace → HasCauses script trace

-- no configuration of the trace has lost a region of the space
abbrev pub LosesNothing : Script → List Entry → Type 0
LosesNothing script trace = (epoch : Epoch) (config : Config) → config_of script epoch trace ≡ Some config
    → (g : RegionId) → IsRegionOf script.space g → is_lost config g ≡ false

-- no call of the script ended in the trace refused or in doubt
abbrev pub AnswersAll : Script → List Entry → Type 0
AnswersAll script trace =
    (x : Entry) → IsIn x trace
    → (c : Caller) (version : Version) (answer : Answer) → x.actor ≡ Session c.session → IsIn (a_note.Ended c.number version answer) x.notes
    → (is_refused answer ≡ false) × (is_doubt answer ≡ false)

-- in every run in whose configurations no region of the space is lost, no call is refused or in doubt
abbrev pub RunsAnswerAll : Type 0
RunsAnswerAll = (script : Script) → IsScript script → (trace : List Entry) → IsRun script trace → LosesNothing script trace → AnswersAll script trace
