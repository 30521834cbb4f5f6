-- Bundles within the limits.
use Rattle.std.specs.Prelude.{◌≡◌, ℕ, ◌<◌, ◌≤◌, ◌+◌, List, [], ◌∷◌, map, length, sum_by, slice_get, IfSome, IsSomeAnd, if◌then◌else◌, ◌==◌, ⊤}
use Rattle.std.specs.List.{All, AllZip}
use Rattle.hx_types.specs.declared.calls.Op.{Op}
use Rattle.hx_types.specs.declared.ids.Actor.{Actor}
use Rattle.hx_types.specs.declared.ids.Actor.TheVariants.{Coordinator, Server, Session}
use Rattle.hx_types.specs.declared.limits.TheConstants.{MOST_CALLS, MOST_STEPS}
use Rattle.hx_types.specs.declared.traces.Script.{Script}
use Rattle.hx_types.specs.declared.traces.Step.{Step}
use Rattle.hx_types.specs.declared.traces.Step.TheVariants as a_step
use Rattle.hx_types.specs.Fitting.{IsScript}
use Rattle.hx_types.specs.Posts.{IsSessionOf}
use Rattle.hx_types.specs.Spaces.{IsServerOf, NamesDiffer}
use Rattle.hx_bundle.specs.declared.bundles.Bundle.{Bundle}
use Rattle.hx_bundle.specs.declared.bundles.BundleStep.{BundleStep}
use Rattle.hx_bundle.specs.declared.limits.TheConstants.{MOST_SPACES}

-- how often a space stands among the turns of a session
abbrev pub times : ℕ → List ℕ → ℕ
times space [] = 0
times space (k ∷ rest) = if k == space then times space rest + 1 else times space rest

-- a session's calls to a space are as many as its turns there
abbrev pub AreDealt : ℕ → List Op → List ℕ → Type 0
AreDealt space calls turns = length calls ≡ times space turns

-- two scripts for the same servers, of which as many may fail
pub record AreAlike (a b : Script) : Type 0 where
  pub servers : a.space.servers ≡ b.space.servers
  pub tolerate : a.space.tolerate ≡ b.space.tolerate

-- the coordinator of a script, or one of its servers and sessions
abbrev pub HasActor : Script → Actor → Type 0
HasActor script Coordinator = ⊤
HasActor script (Server s) = IsServerOf script.space s
HasActor script (Session u) = IsSessionOf (length script.sessions) u

-- a delivery, or a tick or a halt of one of the script's actors
abbrev pub HasStep : Script → Step → Type 0
HasStep script (a_step.Deliver id) = ⊤
HasStep script (a_step.Tick a) = HasActor script a
HasStep script (a_step.Halt a) = HasActor script a

-- a step of one of the spaces
abbrev pub IsStepIn : List Script → BundleStep → Type 0
IsStepIn spaces s = IsSomeAnd (slice_get spaces s.space) (λ (script : Script). HasStep script s.step)

-- one to eight spaces of different names on the same servers, and the calls of each session dealt out to them
pub record IsBundle (bundle : Bundle) : Type 0 where
  pub some : 0 < length bundle.spaces
  pub few : length bundle.spaces ≤ MOST_SPACES
  pub scripts : All IsScript bundle.spaces
  pub no_steps : All (λ (s : Script). s.steps ≡ []) bundle.spaces
  pub alike : All (λ (a : Script). All (AreAlike a) bundle.spaces) bundle.spaces
  pub names_differ : NamesDiffer (map (λ (s : Script). s.space.name) bundle.spaces)
  pub dealt : (k : ℕ) → IfSome (slice_get bundle.spaces k) (λ (s : Script). AllZip (AreDealt k) s.sessions bundle.turns)
  pub turns : All (λ (spaces : List ℕ). All (λ (k : ℕ). k < length bundle.spaces) spaces) bundle.turns
  pub few_calls : sum_by (λ (spaces : List ℕ). length spaces) bundle.turns ≤ MOST_CALLS
  pub few_steps : length bundle.steps ≤ MOST_STEPS
  pub steps : All (IsStepIn bundle.spaces) bundle.steps
