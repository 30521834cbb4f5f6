use Rattle.hx_law_drivers.specs.Courses.{IsSliced}
use Rattle.std.proofs.Common.{ℕ}
use Rattle.hx_driver.specs.Crews.{IsPosted}
use Rattle.hx_driver.specs.Floors.{IsCrewOn}
use Rattle.hx_run.specs.Floors.{StaysCrewOn}
use Rattle.hx_run.proofs.Zipped.{both-by, both-each-at, moved, moved-at, moved-by}
use Rattle.hx_run.proofs.rounds.slice_all.Goals as goal

pub returns-clause-crews : goal.returns-clause-crews
returns-clause-crews g c =
    let R = StaysCrewOn c.args.floor.now in
    both-by (λ d. d.crew) R c.args.drivers.now c.for_each_mut.new.s c.for_each_mut.auto.s
    (λ i d lt. let k = (c.for_each_mut.ensures i d lt).1 in moved-at (λ d. d.crew) R k.argument.now k.after_call.now _ _ k.argument_is k.left k.call.0)

pub returns-clause-sliced : goal.returns-clause-sliced
returns-clause-sliced g c =
    both-by (λ d. d.crew) (IsSliced c.args.floor.now.script.now) c.args.drivers.now c.for_each_mut.new.s c.for_each_mut.auto.s
    (λ i d lt. let k = (c.for_each_mut.ensures i d lt).1 in
    moved-at (λ d. d.crew) (IsSliced c.args.floor.now.script.now) k.argument.now k.after_call.now _ _
    k.argument_is k.left k.call.1.0)

pub returns-clause-posted : goal.returns-clause-posted
returns-clause-posted g c =
    both-each-at
    (λ d d'.
    IsPosted d.crew d'.crew
    ((goal.Fate-dyn g (d.fate.vtable, d.fate.value)).state d.fate.value)
    ((goal.Fate-dyn g (d'.fate.vtable, d'.fate.value)).state d'.fate.value))
    c.args.drivers.now c.for_each_mut.new.s c.for_each_mut.auto.s
    (λ i d lt. let k = (c.for_each_mut.ensures i d lt).1 in moved
    (λ d d'.
    IsPosted d.crew d'.crew
    ((goal.Fate-dyn g (d.fate.vtable, d.fate.value)).state d.fate.value)
    ((goal.Fate-dyn g (d'.fate.vtable, d'.fate.value)).state d'.fate.value))
    k.argument.now k.after_call.now _ _ k.argument_is k.left k.call.1.1)

pub for_each_mut-requires-clause-accepts : goal.for_each_mut-requires-clause-accepts
for_each_mut-requires-clause-accepts g c κs within i p lt e =
    moved-by (λ d. d.crew) (λ k. (w : ℕ) × IsCrewOn c.args.floor.now w k) p.now _ e (c.requires.crews i p.now lt)
