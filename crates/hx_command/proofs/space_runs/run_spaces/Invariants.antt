use Rattle.std.proofs.Common.{◌≡◌, ◌*◌, drop, map, take}
use Rattle.hx_fate.specs.States.{tuned}
use Rattle.hx_run.specs.Ran.{HasRisen}
use Rattle.hx_command.specs.Threads.{RanAll}
use Rattle.hx_command.specs.HandedBack.{space_run}
use Rattle.hx_command.proofs.Running.{AllRise}
use Rattle.hx_command.proofs.space_runs.run_spaces.Given as goal

abbrev pub invariant-loop-script : goal.invariant-loop-script
invariant-loop-script g l = record {
  ran : RanAll l.threading.workers (take l.script-index l.scripts) (map space_run l.runs.items);
  left : l.fates.items ≡ drop (l.script-index * l.threading.workers) l.fn.fates.items;
  risen : AllRise space_run (λ r. r.fates.items) l.threading.workers
      (λ s trace j t f b. HasRisen s l.threading.workers trace j t
      (tuned l.threading.tuning ((goal.Fate-dyn g (f.vtable, f.value)).state f.value))
      ((goal.Fate-dyn g (b.vtable, b.value)).state b.value)) l.fn.fates.items l.scripts l.runs.items;
}
