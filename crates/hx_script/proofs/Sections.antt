-- What holds of a draft before each line.
use Rattle.std.proofs.Common.{◌≡◌, ℕ, ◌<◌, ◌≤◌, List, [], ◌∷◌, map, length}
use Rattle.std.specs.Prelude.{sum_by}
use Rattle.std.specs.List.{All}
use Rattle.hx_types.specs.declared.calls.Op.{Op}
use Rattle.hx_types.specs.declared.limits.TheConstants.{MOST_ATTRIBUTES, MOST_AXES, MOST_CALLS, MOST_FAILURES, MOST_REGIONS, MOST_SERVERS, MOST_SESSIONS}
use Rattle.hx_types.specs.declared.limits.TheConstants.{MOST_STEPS, MOST_SUBSPACES}
use Rattle.hx_types.specs.declared.spaces.Attribute.{Attribute}
use Rattle.hx_types.specs.declared.spaces.Axis.{Axis}
use Rattle.hx_types.specs.declared.traces.Step.{Step}
use Rattle.hx_types.specs.Spaces.{IsName, IsKind, NamesDiffer, AllDiffer, ArePart, Fits}
use Rattle.hx_types.specs.Subspaces.{sizes_sum}
use Rattle.hx_script.specs.declared.draft.Draft.{Draft}
use Rattle.hx_script.specs.declared.draft.Section.{Section}
use Rattle.hx_script.specs.declared.draft.Section.TheVariants as sections

-- axes of so many attributes
abbrev pub IsAxisOf : ℕ → Axis → Type 0
IsAxisOf n a = (0 < a.attribute) × (a.attribute ≤ n) × ArePart a.parts

pub record AxesFit (n : ℕ) (axes : List Axis) : Type 0 where
  pub each : All (IsAxisOf n) axes
  pub once : AllDiffer (map (λ (a : Axis). a.attribute) axes)
  pub few : length axes ≤ MOST_AXES

pub record AreAxes (n : ℕ) (axes : List Axis) : Type 0 where
  pub fit : AxesFit n axes
  pub some : 0 < length axes

-- the space so far
pub record Spaced (key_name : List ℕ) (key_parts : ℕ) (attributes : List Attribute) (subspaces : List (List Axis)) (regions : ℕ) : Type 0 where
  pub names : All (λ (a : Attribute). IsName a.name × IsKind a.kind) attributes
  pub differ : NamesDiffer (key_name ∷ map (λ (a : Attribute). a.name) attributes)
  pub few : length attributes ≤ MOST_ATTRIBUTES
  pub axes : All (AreAxes (length attributes)) subspaces
  pub few_subspaces : length subspaces ≤ MOST_SUBSPACES
  pub count : regions ≡ sizes_sum ((record { attribute = 0; parts = key_parts } ∷ []) ∷ subspaces)
  pub few_regions : regions ≤ MOST_REGIONS

abbrev pub SpaceSoFar : Draft → Type 0
SpaceSoFar d = Spaced d.space.key_name d.space.key_parts d.space.attributes d.space.subspaces d.regions

-- the sessions and steps so far
pub record Called (sessions : List (List Op)) (calls : ℕ) (steps : List (ℕ × Step)) : Type 0 where
  pub few_sessions : length sessions ≤ MOST_SESSIONS
  pub counted : sum_by (λ (ops : List Op). length ops) sessions ≤ calls
  pub few_calls : calls ≤ MOST_CALLS
  pub few_steps : length steps ≤ MOST_STEPS

abbrev pub CallsSoFar : Draft → Type 0
CallsSoFar d = Called d.sessions d.calls d.steps

abbrev pub Fresh : Draft → Type 0
Fresh d = (d.space.attributes ≡ []) × (d.space.subspaces ≡ []) × (d.sessions ≡ [])

abbrev pub Headed : Draft → Type 0
Headed d = IsName d.space.name × IsName d.space.key_name × ArePart d.space.key_parts

abbrev pub HasServers : Draft → Type 0
HasServers d = (0 < d.space.servers) × (d.space.servers ≤ MOST_SERVERS)

abbrev pub AllFit : Draft → Type 0
AllFit d = All (λ (ops : List Op). All (Fits d.space) ops) d.sessions

abbrev pub Complete : Draft → Type 0
Complete d = Headed d × HasServers d × ((d.space.tolerate ≤ MOST_FAILURES) × (d.space.tolerate < d.space.servers)) × AllFit d

-- what the section adds
abbrev pub BySection : Section → Draft → Type 0
BySection sections.Start d = Fresh d
BySection sections.Naming d = Fresh d
BySection sections.Keying d = Fresh d × IsName d.space.name
BySection sections.Attributes d = Headed d × (d.space.subspaces ≡ []) × (d.sessions ≡ [])
BySection sections.Subspaces d = Headed d × (d.sessions ≡ [])
BySection sections.Tolerance d = Headed d × (d.sessions ≡ []) × HasServers d
BySection sections.Sessions d = Complete d
BySection sections.Calls d = Complete d
BySection sections.Steps d = Complete d

pub record Sound (d : Draft) : Type 0 where
  pub space : SpaceSoFar d
  pub calls : CallsSoFar d
  pub stage : BySection d.section d
