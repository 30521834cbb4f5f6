-- The laws on histories and searches, for every run of every valid script.
use Rattle.std.specs.Prelude.{◌≡◌, ℕ, true, List, Some}
use Rattle.hx_model.specs.Types.{Actor, Caller, Entry, Epoch, RegionId, Row, Script, Session, SessionId, Update}
use Rattle.hx_types.specs.declared.messages.Message.TheVariants as a_message
use Rattle.hx_types.specs.Fitting.{IsScript, TraceFits}
use Rattle.hx_types.specs.Words.{IsIn, post}
use Rattle.hx_model.specs.Runs.{IsRun}
use Rattle.hx_model.specs.Histories.{line_of}
use Rattle.hx_model.specs.Linear.{IsLinear}
use Rattle.hx_model.specs.Searching.{FinishedSearch, IsSearchTrue, IsSearchWhole, search_of}
use Rattle.hx_law_lemmas.specs.Words.{posts_of}
use Rattle.hx_law_lemmas.specs.Facts.{Facts}

-- in every run the history of every key is linear
abbrev pub RunsAreLinear : Type 0
RunsAreLinear =
    (script : Script) → IsScript script
    → (trace : List Entry) → IsRun script trace
    → (key : List ℕ) → IsLinear script trace key

-- in every run each finished search is true, and whole for every key
abbrev pub RunsSearchWell : Type 0
RunsSearchWell =
    (script : Script) → IsScript script
    → (trace : List Entry) → IsRun script trace
    → (c : Caller) (s : FinishedSearch) → search_of script trace c ≡ Some s
    → IsSearchTrue script trace s × ((key : List ℕ) → IsSearchWhole script trace key s)

-- every run's notes fit its script
abbrev pub RunsFit : Type 0
RunsFit = (script : Script) → IsScript script → (trace : List Entry) → IsRun script trace → TraceFits script trace

-- the row is of a change that stands in its key's line
pub record IsRowOfLine (trace : List Entry) (r : Row) : Type 0 where
  pub update : Update
  pub stands : IsIn update (line_of r.key trace)
  pub changes : update.changes ≡ true
  pub version : update.version ≡ r.version
  pub object : update.object ≡ Some r.object

-- in every run each row that a session was ever sent is of a change that stands in its key's line
abbrev pub RunsKeepRows : Type 0
RunsKeepRows =
    (script : Script) → IsScript script
    → (trace : List Entry) → IsRun script trace
    → (from : Actor) (u : SessionId) (epoch : Epoch) (number : ℕ) (g : RegionId) (rows : List Row)
    → IsIn (post from (Session u) (a_message.Found epoch number g rows)) (posts_of trace)
    → (r : Row) → IsIn r rows → IsRowOfLine trace r

-- in every run the entries of servers do for lines, calls and searches what the facts say
abbrev pub RunsServeCalls : Type 0
RunsServeCalls = (script : Script) → IsScript script → Facts script
