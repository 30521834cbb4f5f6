-- The text of the command `plan`: which regions each search asks while no server has failed.
use Rattle.std.specs.Prelude.{ℕ, ◌+◌, List, [], ◌∷◌, ◌++◌, map, codes}
use Rattle.std.specs.Fmt.{decimal}
use Rattle.std.specs.List.{flat_map}
use Rattle.hx_bundle.specs.declared.bundles.Bundle.{Bundle}
use Rattle.hx_model.specs.Types.{Caller, Config, Op, Planned, RegionId, Script, Search, Space}
use Rattle.hx_types.specs.declared.outcomes.Planned.TheVariants as a_plan
use Rattle.hx_types.specs.Configs.{first_config}
use Rattle.hx_model.specs.Planning.{plan_of}
use Rattle.hx_print.specs.Printing.{caller_text, numbers_text}

-- `subspace X regions R,R` or `lost R`, with a blank before it
unfoldable pub planned_text : Planned → List ℕ
planned_text (a_plan.Regions subspace regions) =
    codes " subspace " ++ decimal subspace ++ codes " regions " ++ numbers_text (map (λ (g : RegionId). g.0) regions)
planned_text (a_plan.Lost region) = codes " lost " ++ decimal region.0

-- `uS.N` and the plan behind the words with which the line begins
unfoldable pub plan_line : List ℕ → Caller → Planned → List ℕ
plan_line label caller planned = label ++ caller_text caller ++ planned_text planned ++ codes "\n"

-- a search has a line, another call none
abbrev pub call_lines : List ℕ → Space → Config → Caller → Op → List ℕ
call_lines label space config caller (Search terms) = plan_line label caller (plan_of space config terms)
call_lines label space config caller other = []

-- the calls of a session from a number on
unfoldable pub session_lines : List ℕ → Space → Config → ℕ → ℕ → List Op → List ℕ
session_lines label space config session number [] = []
session_lines label space config session number (op ∷ rest) =
    call_lines label space config (record { session = record { 0 = session }; number = number }) op
    ++ session_lines label space config session (number + 1) rest

-- the sessions from a number on
unfoldable pub sessions_lines : List ℕ → Space → Config → ℕ → List (List Op) → List ℕ
sessions_lines label space config session [] = []
sessions_lines label space config session (calls ∷ rest) =
    session_lines label space config session 1 calls ++ sessions_lines label space config (session + 1) rest

-- a line for each search in the order of the script, in the first configuration
unfoldable pub script_lines : List ℕ → Script → List ℕ
script_lines label script = sessions_lines label script.space (first_config script.space) 1 script.sessions

-- a line `plan uS.N ..` for each search, and the line `end`
unfoldable pub plans_text : Script → List ℕ
plans_text script = script_lines (codes "plan ") script ++ codes "end\n"

-- `plan NAME uS.N ..` for each search of a space
unfoldable pub space_lines : Script → List ℕ
space_lines script = script_lines (codes "plan " ++ script.space.name ++ codes " ") script

-- those of each space in order, and the line `end`
unfoldable pub bundle_plans_text : Bundle → List ℕ
bundle_plans_text bundle = flat_map space_lines bundle.spaces ++ codes "end\n"
