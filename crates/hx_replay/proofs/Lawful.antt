-- What the laws say of a run, and of the runs of several spaces.
use Rattle.std.proofs.Common.{List, [], ◌∷◌, reverse}
use Rattle.std.specs.List.{AllByRecursion, AllZip}
use Rattle.hx_model.specs.Types.{Entry, Script}
use Rattle.hx_types.specs.Fitting.{IsScript}
use Rattle.hx_model.specs.Runs.{IsRun}
use Rattle.hx_law_searches.specs.Headline.{RunsAreLinear, RunsSearchWell}
use Rattle.hx_law_epochs.specs.Epochs.{RunsLoseReplicas}
use Rattle.hx_law_order.specs.Headline.{RunsHaveOneOrder}
use Rattle.hx_law_causes.specs.Causes.{RunsHaveCauses}
use Rattle.hx_replay.specs.Courses.{IsRunOf}
use Rattle.hx_replay.specs.Runs.{IsLawful}

-- all of the laws
pub record AreLaws : Type 0 where
  pub linear : RunsAreLinear
  pub orders : RunsHaveOneOrder
  pub searches : RunsSearchWell
  pub causes : RunsHaveCauses
  pub losses : RunsLoseReplicas

module _ (laws : AreLaws) where
  pub is_lawful : (script : Script) (trace : List Entry) → IsScript script → IsRun script (reverse trace) → IsLawful script trace
  is_lawful script trace valid run =
      record {
        linear = laws.linear script valid (reverse trace) run;
        one_order = laws.orders script valid (reverse trace) run;
        searches = λ caller s found.
            let well = laws.searches script valid (reverse trace) run caller s found in
            record { true_rows = well.0; whole = well.1 };
        causes = laws.causes script valid (reverse trace) run;
        lost = laws.losses script valid (reverse trace) run;
      }

  pub are_lawful : (scripts : List Script) (traces : List (List Entry)) → AllByRecursion IsScript scripts
      → AllZip IsRunOf scripts traces → AllZip IsLawful scripts traces
  are_lawful [] [] valid runs = tt
  are_lawful [] (t ∷ traces) valid runs = absurd runs
  are_lawful (s ∷ scripts) [] valid runs = absurd runs
  are_lawful (s ∷ scripts) (t ∷ traces) valid runs = (is_lawful s t valid.0 runs.0.run, are_lawful scripts traces valid.1 runs.1)
