use Rattle.std.proofs.Common.{map, ◌≡◌, length}
use Rattle.hx_outbox.specs.Zipped.{Both}
use Rattle.hx_driver.specs.Crews.{IsPosted}
use Rattle.hx_run.specs.Floors.{StayCrewsOn}
use Rattle.hx_run.proofs.Courses.{RetriedTo}
use Rattle.hx_run.proofs.rounds.retry_all.Given as goal

abbrev pub invariant-loop-at : goal.invariant-loop-at
invariant-loop-at g l =
    (length l.drivers ≡ length l.initial.drivers)
    × StayCrewsOn l.floor (map (λ d. d.crew) l.initial.drivers) (map (λ d. d.crew) l.drivers)
    × RetriedTo l.floor.script.now l.at (map (λ d. d.crew) l.initial.drivers) (map (λ d. d.crew) l.drivers)
    × Both (λ d d'. IsPosted d.crew d'.crew
    ((goal.Fate-dyn g (d.fate.vtable, d.fate.value)).state d.fate.value)
    ((goal.Fate-dyn g (d'.fate.vtable, d'.fate.value)).state d'.fate.value)) l.initial.drivers l.drivers
