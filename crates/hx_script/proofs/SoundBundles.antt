-- What holds of the draft of a bundle before each line.
use Rattle.std.proofs.Common.{◌≡◌, ℕ, zero, suc, ◌<◌, ◌≤◌, List, [], map, length, refl, arith}
use Rattle.std.specs.Prelude.{IfSome, slice_get, sum_by}
use Rattle.std.specs.List.{All, AllZip}
use Rattle.std.proofs.lemmas.List.Elements.{All-nil}
use Rattle.hx_bundle.specs.declared.bundles.BundleStep.{BundleStep}
use Rattle.hx_bundle.specs.declared.limits.TheConstants.{MOST_SPACES}
use Rattle.hx_bundle.specs.Bundles.{AreDealt}
use Rattle.hx_types.specs.declared.ids.Actor.{Actor}
use Rattle.hx_types.specs.declared.ids.Actor.TheVariants.{Coordinator, Server, Session}
use Rattle.hx_types.specs.declared.limits.TheConstants.{MOST_ATTRIBUTES, MOST_CALLS, MOST_FAILURES, MOST_SERVERS, MOST_SESSIONS, MOST_STEPS}
use Rattle.hx_types.specs.declared.traces.Step.{Step}
use Rattle.hx_types.specs.declared.traces.Step.TheVariants.{Deliver, Tick, Halt}
use Rattle.hx_types.specs.Spaces.{NamesDiffer}
use Rattle.hx_script.specs.declared.bundle_draft.BundleDraft.{BundleDraft}
use Rattle.hx_script.specs.declared.bundle_draft.BundleSection.{BundleSection}
use Rattle.hx_script.specs.declared.bundle_draft.BundleSection.TheVariants as stages
use Rattle.hx_script.specs.declared.draft.Draft.{Draft}
use Rattle.hx_script.specs.declared.draft.Section.{Section}
use Rattle.hx_script.specs.declared.draft.Section.TheVariants as sections
use Rattle.hx_script.specs.BundleTexts.{empty_bundle_draft}
use Rattle.hx_script.proofs.Sections.{Complete, Sound}

-- ---- steps

-- a number from 1 to most
abbrev pub IsFromOne : ℕ → ℕ → Type 0
IsFromOne most n = (0 < n) × (n ≤ most)

-- the coordinator, or one of so many servers and sessions
abbrev pub IsOneOf : ℕ → ℕ → Actor → Type 0
IsOneOf servers sessions Coordinator = Unit {0}
IsOneOf servers sessions (Server s) = IsFromOne servers s.0
IsOneOf servers sessions (Session u) = IsFromOne sessions u.0

abbrev pub IsStepBy : ℕ → ℕ → Step → Type 0
IsStepBy servers sessions (Deliver id) = Unit {0}
IsStepBy servers sessions (Tick a) = IsOneOf servers sessions a
IsStepBy servers sessions (Halt a) = IsOneOf servers sessions a

-- of one of so many spaces
abbrev pub IsStepAmong : ℕ → ℕ → ℕ → BundleStep → Type 0
IsStepAmong spaces servers sessions s = (s.space < spaces) × IsStepBy servers sessions s.step

-- ---- drafts

abbrev pub IsHead : Section → Type 0
IsHead sections.Keying = Unit {0}
IsHead sections.Attributes = Unit {0}
IsHead sections.Subspaces = Unit {0}
IsHead other = ⊥

-- a draft of one of the spaces, on these servers
pub record SpaceFits (servers tolerate : ℕ) (d : Draft) : Type 0 where
  pub sound : Sound d
  pub servers_are : d.space.servers ≡ servers
  pub tolerate_is : d.space.tolerate ≡ tolerate
  pub no_steps : d.steps ≡ []

abbrev pub Served : BundleDraft → Type 0
Served b = (0 < b.servers) × (b.servers ≤ MOST_SERVERS)

abbrev pub Tolerated : BundleDraft → Type 0
Tolerated b = Served b × ((b.tolerate ≤ MOST_FAILURES) × (b.tolerate < b.servers))

abbrev pub Empty : BundleDraft → Type 0
Empty b = (b.spaces ≡ []) × (b.turns ≡ []) × (b.steps ≡ [])

-- what the section adds
abbrev pub ByStage : BundleSection → BundleDraft → Type 0
ByStage stages.Start b = Empty b
ByStage stages.Serving b = Empty b
ByStage stages.Tolerance b = Empty b × Served b
ByStage stages.Naming b = Empty b × Tolerated b
ByStage stages.Spaces b = (0 < length b.spaces) × All (λ (d : Draft). IsHead d.section) b.spaces × (b.turns ≡ []) × (b.steps ≡ []) × Tolerated b
ByStage stages.Calls b = (0 < length b.spaces) × All (λ (d : Draft). d.section ≡ sections.Calls) b.spaces × (b.steps ≡ []) × Tolerated b
ByStage stages.Steps b = (0 < length b.spaces) × All Complete b.spaces × Tolerated b

pub record BundleSound (b : BundleDraft) : Type 0 where
  pub few : length b.spaces ≤ MOST_SPACES
  pub spaces : All (SpaceFits b.servers b.tolerate) b.spaces
  pub names : NamesDiffer (map (λ (d : Draft). d.space.name) b.spaces)
  pub dealt : (k : ℕ) → IfSome (slice_get b.spaces k) (λ (d : Draft). AllZip (AreDealt k) d.sessions b.turns)
  pub turns : All (λ (spaces : List ℕ). All (λ (k : ℕ). k < length b.spaces) spaces) b.turns
  pub few_sessions : length b.turns ≤ MOST_SESSIONS
  pub counted : sum_by (λ (spaces : List ℕ). length spaces) b.turns ≤ b.calls
  pub few_calls : b.calls ≤ MOST_CALLS
  pub few_steps : length b.steps ≤ MOST_STEPS
  pub steps : All (IsStepAmong (length b.spaces) b.servers (length b.turns)) b.steps
  pub stage : ByStage b.section b

none_dealt : (k : ℕ) → IfSome (slice_get {X = Draft} [] k) (λ (d : Draft). AllZip (AreDealt k) d.sessions [])
none_dealt zero = tt
none_dealt (suc k) = tt

pub empty_bundle_sound : BundleSound empty_bundle_draft
empty_bundle_sound = record {
  few = omega arith;
  spaces = All-nil (SpaceFits 0 0);
  names = tt;
  dealt = none_dealt;
  turns = All-nil (λ (spaces : List ℕ). All (λ (k : ℕ). k < 0) spaces);
  few_sessions = omega arith;
  counted = omega arith;
  few_calls = omega arith;
  few_steps = omega arith;
  steps = All-nil (IsStepAmong 0 0 0);
  stage = (refl, refl, refl);
}

pub few_spaces : (b : BundleDraft) → BundleSound b → length b.spaces ≤ MOST_SPACES
few_spaces b so = so.few

pub few_sessions : (b : BundleDraft) → BundleSound b → length b.turns ≤ MOST_SESSIONS
few_sessions b so = so.few_sessions

pub few_attributes : (b : BundleDraft) → BundleSound b → All (λ (d : Draft). length d.space.attributes ≤ MOST_ATTRIBUTES) b.spaces
few_attributes b so = λ i d lt. (so.spaces i d lt).sound.space.few
