use Rattle.std.proofs.Common.{sym, subst}
use Rattle.hx_law_drivers.specs.Laws.{ShowsDesks}
use Rattle.hx_law_drivers.proofs.Shown.{shows_desks}
use Rattle.hx_law_drivers.proofs.traces_show_desks.Goals as goal

pub returns : goal.returns
returns c = record {
  shown = λ script clock boxes w start now run trace t. subst (ShowsDesks script now)
      (sym t.trace_is) (shows_desks script clock boxes w start now run t.merged t.whole t.is);
}
