-- What contracts see of what is handed back.
use Rattle.std.specs.Prelude.{length}
use Rattle.hx_run.specs.declared.running.Ran.{Ran}
use Rattle.hx_command.specs.Threads.{Handed, SpaceRun}
use Rattle.hx_command.specs.declared.finished.Finished.{Finished}
use Rattle.hx_command.specs.declared.finished.Threaded.{Threaded}

-- what a call hands back
abbrev pub handed_back : {B : Type 0} {At : B → Type 0} → Finished B At → Handed
handed_back finished =
    record {
      traces = finished.done.traces;
      seats = finished.seats.items;
      totals = finished.totals.items;
      ports = finished.ports.items;
      fates = length finished.fates.items;
    }

-- what a call hands back of spaces that threads ran
abbrev pub handed_of : {B : Type 0} {At : B → Type 0} → Threaded B At → Handed
handed_of made = record {
  traces = made.traces;
  seats = made.seats.items;
  totals = made.totals.items;
  ports = made.ports.items;
  fates = length made.fates.items;
}

-- what threads made of one space
abbrev pub space_run : {B : Type 0} {At : B → Type 0} → Ran B At → SpaceRun
space_run ran = record { trace = ran.trace; seat = ran.seat; totals = ran.totals.items; ports = ran.ports.items; fates = length ran.fates.items }
