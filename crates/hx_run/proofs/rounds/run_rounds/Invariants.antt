use Rattle.std.proofs.Common.{ℕ, List, map}
use Rattle.std.specs.List.{AllByRecursion}
use Rattle.hx_driver.specs.declared.crews.Crew.{Crew}
use Rattle.hx_driver.specs.Crews.{IsCrew, IsPosted}
use Rattle.hx_law_drivers.specs.Courses.{IsCourse}
use Rattle.hx_outbox.specs.Zipped.{Both}
use Rattle.hx_run.specs.Rounds.{StayCrews}
use Rattle.hx_run.proofs.rounds.run_rounds.Given as goal

abbrev pub invariant-loop-round : goal.invariant-loop-round
invariant-loop-round g l =
    StayCrews l.fn.script l.fn.clock l.fn.boxes (map (λ d. d.crew) l.initial.drivers) (map (λ d. d.crew) l.drivers)
    × ((w : ℕ) → AllByRecursion (IsCrew l.fn.script l.fn.clock l.fn.boxes w) (map (λ d. d.crew) l.initial.drivers)
    → (cuts : List (List Crew)) × IsCourse l.fn.script l.fn.clock l.fn.boxes w (map (λ d. d.crew) l.initial.drivers) cuts (map (λ d. d.crew) l.drivers))
    × Both (λ d d'. IsPosted d.crew d'.crew
    ((goal.Fate-dyn g (d.fate.vtable, d.fate.value)).state d.fate.value)
    ((goal.Fate-dyn g (d'.fate.vtable, d'.fate.value)).state d'.fate.value)) l.initial.drivers l.drivers
