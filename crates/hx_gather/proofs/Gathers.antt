-- What the merge of all parts is.
use Rattle.std.proofs.Common.{◌≡◌, List, [], ◌∷◌, map, refl, ap, sym, subst}
use Rattle.std.specs.Prelude.{reverse}
use Rattle.hx_model.specs.Types.{Entry, Script}
use Rattle.hx_model.specs.Runs.{IsRun}
use Rattle.hx_clock.specs.declared.parts.Stamped.{Stamped}
use Rattle.hx_law_threads.specs.Merged.{parts_in, AreOwnParts, AreWholeParts, HasOwnParts, HasStampsAsPlaces, IsMerged}
use Rattle.hx_law_threads.specs.Laws.{IsRunOfParts}
use Rattle.hx_law_threads.proofs.Lemmas.{stamps_are_places, merged_run}
use Rattle.hx_gather.specs.declared.gathering.SeatedPart.{SeatedPart}
use Rattle.hx_gather.specs.Gathered.{parts_by, parts_of}

-- what a clause of `gather` says of a trace
pub record IsGathered (seated : List SeatedPart) (trace : List Entry) : Type 0 where
  pub whole : (merged : List Stamped) × IsMerged (parts_of seated) merged × HasStampsAsPlaces merged × (trace ≡ map (λ (x : Stamped). x.entry) merged)
  pub parts : AreWholeParts (parts_of seated)
  pub run : (script : Script) → AreOwnParts script (parts_by seated) → IsRun script (reverse trace)
  pub own : (script : Script) → AreOwnParts script (parts_by seated) → HasOwnParts (parts_by seated) (reverse trace)

same_parts : (seated : List SeatedPart) → parts_in (parts_by seated) ≡ parts_of seated
same_parts [] = refl
same_parts (p ∷ seated) = ap (λ l. p.part ∷ l) (same_parts seated)

pub gathered : (seated : List SeatedPart) (lists : List (List Stamped)) (trace : List Entry) → lists ≡ parts_of seated → AreWholeParts (parts_of seated)
    → (merged : List Stamped) × IsMerged lists merged × (trace ≡ map (λ (x : Stamped). x.entry) merged) → IsGathered seated trace
gathered seated lists trace same whole m =
    let merged : IsMerged (parts_of seated) m.0 = subst (λ l. IsMerged l m.0) same m.1 in
    let run : (script : Script) → AreOwnParts script (parts_by seated) → IsRunOfParts script (parts_by seated) m.0 =
    λ script own.
    merged_run script (parts_by seated) m.0 own (subst AreWholeParts (sym (same_parts seated)) whole)
    (subst (λ l. IsMerged l m.0) (sym (same_parts seated)) merged) in
    record {
      whole = (m.0, merged, stamps_are_places (parts_of seated) m.0 whole merged, m.2);
      parts = whole;
      run = λ script own. subst (λ t. IsRun script (reverse t)) (sym m.2) (run script own).run;
      own = λ script own. subst (λ t. HasOwnParts (parts_by seated) (reverse t)) (sym m.2) (run script own).own;
    }
