use Rattle.std.proofs.Common.{map}
use Rattle.hx_driver.specs.Crews.{IsCrew}
use Rattle.hx_run.proofs.Zipped.{both-refl, each-index}
use Rattle.hx_run.proofs.Courses.{have-machines, posted-refl, stay-refl}
use Rattle.hx_run.proofs.rounds.advance.Goals as goal

pub returns-then-is_some-clause-crews : goal.returns-then-is_some-clause-crews
returns-then-is_some-clause-crews g c = stay-refl c.args.floor.now.script.now c.args.floor.now.clock.now
    c.args.floor.now.boxes.now (map (λ d. d.crew) c.args.drivers.now)

pub returns-then-is_some-clause-posted : goal.returns-then-is_some-clause-posted
returns-then-is_some-clause-posted g c = both-refl _ (λ d. posted-refl d.crew _) c.args.drivers.now

pub at_rest-requires : goal.at_rest-requires
at_rest-requires g c = record {
  machines = have-machines c.args.floor.now.script.now c.args.floor.now.clock.now
      c.args.floor.now.boxes.now c.requires.crews.0 (map (λ d. d.crew) c.args.drivers.now) c.requires.crews.1;
}

pub all_ended-requires : goal.all_ended-requires
all_ended-requires g c = record {
  machines = have-machines c.args.floor.now.script.now c.args.floor.now.clock.now
      c.args.floor.now.boxes.now c.requires.crews.0 (map (λ d. d.crew) c.args.drivers.now) c.requires.crews.1;
}

pub returns-then-all_ended-clause-crews : goal.returns-then-all_ended-clause-crews
returns-then-all_ended-clause-crews g c = stay-refl c.args.floor.now.script.now c.args.floor.now.clock.now
    c.args.floor.now.boxes.now (map (λ d. d.crew) c.args.drivers.now)

pub returns-then-all_ended-clause-posted : goal.returns-then-all_ended-clause-posted
returns-then-all_ended-clause-posted g c = both-refl _ (λ d. posted-refl d.crew _) c.args.drivers.now

pub slice_all-requires-clause-crews : goal.slice_all-requires-clause-crews
slice_all-requires-clause-crews g c κs within k d lt = (
  c.requires.crews.0,
  each-index (λ d. d.crew) (IsCrew c.args.floor.now.script.now c.args.floor.now.clock.now
      c.args.floor.now.boxes.now c.requires.crews.0) c.args.drivers.now k d c.requires.crews.1 lt,
)
