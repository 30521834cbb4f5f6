use Rattle.std.specs.Prelude.{IsSome}
use Rattle.hx_model.specs.Histories.{note_of_end}
use Rattle.std.proofs.Common.{sym, subst}
use Rattle.hx_law_threads.specs.Pacing.{IsPaced, IsPacedToEnd}
use Rattle.hx_law_drivers.specs.Crews.{doubled_by, lost_by}
use Rattle.hx_law_drivers.proofs.Ended.{calls_end}
use Rattle.hx_law_drivers.proofs.Paced.{own_parts, paced, paced_to_end}
use Rattle.hx_law_drivers.proofs.runs_of_drivers_are_paced.Goals as goal

pub returns : goal.returns
returns c = record {
  own = own_parts;
  paced = λ script clock boxes w start now run trace t.
      subst (λ l. IsPaced script l (lost_by now) (doubled_by now)) (sym t.trace_is) (paced script clock boxes w start now run t.merged t.whole t.is);
  rested = λ script clock boxes w start now run rest trace t.
      subst (λ l. IsPacedToEnd script l (lost_by now) (doubled_by now)) (sym t.trace_is)
      (paced_to_end script clock boxes w start now run t.merged t.whole t.is rest);
  ended = λ script clock boxes w start now run ended trace t k known.
      subst (λ l. IsSome (note_of_end k l)) (sym t.trace_is) (calls_end script clock boxes w start now run t.merged t.whole t.is ended k known);
}
