-- The steps of a script or of a bundle, one after another.
use Rattle.std.proofs.Common.{◌≡◌, ℕ, List, [], sym, ap, ◌∙◌, subst, Option, Some, None}
use Rattle.hx_bundle.specs.declared.bundles.Bundle.{Bundle}
use Rattle.hx_model.specs.Types.{Actor, Entry, Script}
use Rattle.hx_model.specs.Schedule.{Worn as WornFault}
use Rattle.hx_spaces.specs.Courses.{Course, at_start}
use Rattle.hx_spaces.specs.Stepping.{BundleStop, bundle_stop_of}
use Rattle.hx_replay.specs.Courses.{AreAllTaken, IsRefusedIn, IsWornAtBundleStep}
use Rattle.hx_replay.specs.Steps.{AreTaken, IsRefusal, IsRefusedAt, IsWornAtStep, Stop, stop_of}

pub same_some : {A : Type 0} (o : Option A) (a b : A) → o ≡ Some a → o ≡ Some b → a ≡ b
same_some o a b e f = cc

not_none : {A : Type 0} (o : Option A) (a : A) → o ≡ None → o ≡ Some a → ⊥
not_none o a e f = let both : None ≡ Some a = sym e ∙ f in absurd (cc)

-- ---- of a script
refused-differs : (script : Script) (line : ℕ) (trace : List Entry) (stop : Stop)
    → stop_of script [] script.steps ≡ Some stop → (IsRefusal stop.fault → ⊥) → IsRefusedAt script line trace → ⊥
refused-differs script line trace stop stops other refused =
    let same = same_some (stop_of script [] script.steps) _ stop refused.stops stops in
    other (subst IsRefusal (ap (λ (s : Stop). s.fault) same) refused.refused)

-- where all steps were taken none is refused
pub taken-not-refused : (script : Script) → AreTaken script → (line : ℕ) (trace : List Entry) → IsRefusedAt script line trace → ⊥
taken-not-refused script taken line trace refused = not_none (stop_of script [] script.steps) _ taken refused.stops

-- where they stop at a worn actor none is refused
pub worn-not-refused : (script : Script) (worn : List Entry) (a : Actor) → IsWornAtStep script worn a
    → (line : ℕ) (trace : List Entry) → IsRefusedAt script line trace → ⊥
worn-not-refused script worn a h line trace refused = refused-differs script line trace _ h.stops (λ (no : IsRefusal (WornFault a)). absurd no) refused

pub not-taken : (script : Script) (trace : List Entry) (a : Actor) → IsWornAtStep script trace a → AreTaken script → ⊥
not-taken script trace a at taken = not_none (stop_of script [] script.steps) _ taken at.stops

-- ---- of a bundle
pub all-taken-not-refused : (bundle : Bundle) → AreAllTaken bundle → (line : ℕ) (traces : List (List Entry)) → IsRefusedIn bundle line traces → ⊥
all-taken-not-refused bundle taken line traces refused = not_none (bundle_stop_of (at_start bundle) bundle.steps) refused.stop taken refused.stops

pub worn-step-not-refused : (bundle : Bundle) (course : Course) (a : Actor) → IsWornAtBundleStep bundle course a
    → (line : ℕ) (traces : List (List Entry)) → IsRefusedIn bundle line traces → ⊥
worn-step-not-refused bundle course a h line traces refused =
    let same = same_some (bundle_stop_of (at_start bundle) bundle.steps) refused.stop h.stop refused.stops h.stops in
    let fault : refused.stop.fault ≡ WornFault a = ap (λ (s : BundleStop). s.fault) same ∙ h.worn in
    let no : IsRefusal (WornFault a) = subst IsRefusal fault refused.refused in absurd no

pub not-all-taken : (bundle : Bundle) (course : Course) (a : Actor) → IsWornAtBundleStep bundle course a → AreAllTaken bundle → ⊥
not-all-taken bundle course a at taken = not_none (bundle_stop_of (at_start bundle) bundle.steps) at.stop taken at.stops

same_fault : (a b : Actor) → WornFault a ≡ WornFault b → a ≡ b
same_fault a b e = cc

-- two worn actors at which the steps of a bundle stop are one
pub one-worn-step : (bundle : Bundle) (one other : Course) (a b : Actor) → IsWornAtBundleStep bundle one a → IsWornAtBundleStep bundle other b → a ≡ b
one-worn-step bundle one other a b h g =
    let same = same_some (bundle_stop_of (at_start bundle) bundle.steps) h.stop g.stop h.stops g.stops in
    same_fault a b (sym h.worn ∙ ap (λ (s : BundleStop). s.fault) same ∙ g.worn)
