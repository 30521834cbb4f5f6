-- What every run has; the trace stands newest first.
use Rattle.std.specs.Prelude.{◌≡◌, ℕ, List, Some}
use Rattle.hx_model.specs.Types.{Caller, Entry, Script}
use Rattle.hx_model.specs.Causes.{HasCauses}
use Rattle.hx_model.specs.Linear.{IsLinear}
use Rattle.hx_model.specs.Searching.{FinishedSearch, IsSearchTrue, IsSearchWhole, search_of}
use Rattle.hx_law_epochs.specs.Epochs.{LosesReplicas}
use Rattle.hx_law_order.specs.Order.{HasOneOrder}

-- the finished search holds every match that was committed before it began and not changed
-- meanwhile, and only versions that were committed or under way during it
pub record IsSearchWell (script : Script) (trace : List Entry) (s : FinishedSearch) : Type 0 where
  pub true_rows : IsSearchTrue script trace s
  pub whole : (key : List ℕ) → IsSearchWhole script trace key s

-- each key's history is linear, all of them have one order, each finished search is whole and true,
-- every answer has its cause, and a lost region has lost its replicas
pub record IsLawful (script : Script) (trace : List Entry) : Type 0 where
  pub linear : (key : List ℕ) → IsLinear script trace key
  pub one_order : HasOneOrder script trace
  pub searches : (c : Caller) (s : FinishedSearch) → search_of script trace c ≡ Some s → IsSearchWell script trace s
  pub causes : HasCauses script trace
  pub lost : LosesReplicas script trace
