-- Bundles that the script language can say, and how their own print is read.
use Rattle.std.specs.Prelude.{ℕ, ◌+◌, List, [], ◌∷◌, length, sum_by, ⊤}
use Rattle.std.specs.List.{All}
use Rattle.hx_bundle.specs.declared.bundles.Bundle.{Bundle}
use Rattle.hx_bundle.specs.declared.bundles.BundleStep.{BundleStep}
use Rattle.hx_types.specs.declared.calls.Op.{Op}
use Rattle.hx_types.specs.declared.spaces.Attribute.{Attribute}
use Rattle.hx_types.specs.declared.traces.Script.{Script}
use Rattle.hx_types.specs.declared.traces.Step.{Step}
use Rattle.hx_types.specs.declared.traces.Step.TheVariants as a_step
use Rattle.hx_law_texts.specs.Sayable.{BoundsAreSayable, CallIsSayable, IsPostName}

-- the actor of a step is there in a bundle within the limits, so a post's name alone may be too large
abbrev pub PostIsSayable : Step → Type 0
PostIsSayable (a_step.Deliver id) = IsPostName id
PostIsSayable (a_step.Tick a) = ⊤
PostIsSayable (a_step.Halt a) = ⊤

-- a bundle whose texts, numbers and steps can be said
pub record IsSayableBundle (b : Bundle) : Type 0 where
  pub bounds : All (λ (s : Script). All (λ (a : Attribute). BoundsAreSayable a.kind) s.space.attributes) b.spaces
  pub calls : All (λ (s : Script). All (λ (calls : List Op). All CallIsSayable calls) s.sessions) b.spaces
  pub steps : All (λ (s : BundleStep). PostIsSayable s.step) b.steps

-- the same steps on lines that follow each other, the first on line n
abbrev pub bundle_steps_from : ℕ → List BundleStep → List BundleStep
bundle_steps_from n [] = []
bundle_steps_from n (s ∷ rest) = record s { line = n } ∷ bundle_steps_from (n + 1) rest

-- the lines of a space that are its own: `space`, `key`, and one for each attribute and subspace
abbrev pub lines_of_space : Script → ℕ
lines_of_space s = length s.space.attributes + length s.space.subspaces + 2

-- the first step's line: before it stand `hx`, `servers`, `tolerate` and `steps`, the lines of the spaces, and for each
-- session its own line and those of its calls
abbrev pub first_bundle_step_line : Bundle → ℕ
first_bundle_step_line b = sum_by lines_of_space b.spaces + sum_by (λ (turns : List ℕ). length turns + 1) b.turns + 5

-- the same spaces and calls, and the same steps in order, each on its line of the printed text
abbrev pub on_printed_bundle_lines : Bundle → Bundle
on_printed_bundle_lines b = record b { steps = bundle_steps_from (first_bundle_step_line b) b.steps }
