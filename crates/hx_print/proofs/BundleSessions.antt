-- The sessions of a bundle, one after another.
use Rattle.std.proofs.Common.{◌≡◌, ℕ, suc, ◌+◌, ◌<◌, ◌≤◌, List, [], ◌∷◌, ◌++◌, length, refl, ap, subst, arith, append_assoc}
use Rattle.std.specs.Prelude.{IfSome, slice_get}
use Rattle.std.specs.List.{All, AllZip}
use Rattle.std.proofs.lemmas.List.Elements.{All-head}
use Rattle.hx_bundle.specs.declared.bundles.Bundle.{Bundle}
use Rattle.hx_bundle.specs.Bundles.{AreDealt, IsBundle}
use Rattle.hx_types.specs.declared.calls.Op.{Op}
use Rattle.hx_types.specs.declared.traces.Script.{Script}
use Rattle.hx_types.specs.Fitting.{IsScript}
use Rattle.hx_print.specs.BundlePrinting.{bundle_session_text, bundle_sessions_text}

as_long : (sessions : List (List Op)) (turns : List (List ℕ)) → AllZip (AreDealt 0) sessions turns → length sessions ≡ length turns
as_long [] [] h = refl
as_long [] (t ∷ turns) h = absurd h
as_long (s ∷ sessions) [] h = absurd h
as_long (s ∷ sessions) (t ∷ turns) h = ap suc (as_long sessions turns h.1)

-- a bundle has no more sessions than a script
pub few_sessions : (b : Bundle) → IsBundle b → length b.turns ≤ 16
few_sessions b is = by b.spaces refl
  where
    by : (spaces : List Script) → b.spaces ≡ spaces → length b.turns ≤ 16
    by [] e = absurd (let some : 0 < length b.spaces = is.some in omega (arith, some, ap (λ (l : List Script). length l) e))
    by (s ∷ more) e =
        let dealt : AllZip (AreDealt 0) s.sessions b.turns =
        subst (λ (l : List Script). IfSome (slice_get l 0)
        (λ (x : Script). AllZip (AreDealt 0) x.sessions b.turns)) e (is.dealt 0) in
        let valid : IsScript s = All-head IsScript s more (subst (All IsScript) e is.scripts) in
        let few : length s.sessions ≤ 16 = valid.sessions in
        omega (arith, few, as_long s.sessions b.turns dealt)

-- a session, and then those behind it
pub sessions_on : (spaces : List Script) (number : ℕ) (turns : List ℕ) (rest after : List (List ℕ))
    (out more : List ℕ) → rest ≡ turns ∷ after → more ≡ out ++ bundle_session_text spaces number turns
    → more ++ bundle_sessions_text spaces (number + 1) after ≡ out ++ bundle_sessions_text spaces number rest
unfolding bundle_sessions_text
sessions_on spaces number turns rest after out more split text =
    rw (split, text) (append_assoc out (bundle_session_text spaces number turns) (bundle_sessions_text spaces (number + 1) after))
