use Rattle.std.proofs.Common.{◌≡◌, true, ◌∷◌, sym, subst}
use Rattle.hx_model.specs.Types.{Entry}
use Rattle.hx_law_threads.specs.Pacing.{IsPaced}
use Rattle.hx_law_drivers.specs.Crews.{doubled_by, lost_by}
use Rattle.hx_law_drivers.specs.Laws.{IsDue, MayComeNext}
use Rattle.hx_law_drivers.proofs.Courses.{worn_due}
use Rattle.hx_law_drivers.proofs.Next.{next_entry}
use Rattle.hx_law_drivers.proofs.traces_go_on.Goals as goal

pub returns : goal.returns
returns c = record {
  more = λ script clock boxes w start now run d i retry more trace t.
      subst (λ l. (x : Entry) × MayComeNext script l d x
      × ((retry ≡ true → IsDue run.cuts d) → IsPaced script (x ∷ l) (lost_by now) (doubled_by now))) (sym t.trace_is)
      (next_entry script clock boxes w start now run t.merged t.whole t.is d i retry more);
  worn = λ script clock boxes w start now run crew i a e. worn_due script clock boxes w start run.cuts now run.calm run.course crew i a e;
}
