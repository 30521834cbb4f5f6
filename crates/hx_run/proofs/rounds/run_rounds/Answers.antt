use Rattle.std.proofs.Common.{[], map}
use Rattle.hx_run.proofs.Zipped.{both-refl, both-trans}
use Rattle.hx_run.proofs.Courses.{are-sliced-refl, course-on, course-same, posted-refl, posted-trans, stay-each, stay-refl, stay-trans}
use Rattle.hx_run.proofs.rounds.run_rounds.Goals as goal

pub loop-round-init : goal.loop-round-init
loop-round-init g c = (
  stay-refl c.args.script.now c.args.clock.now c.args.boxes.now (map (λ d. d.crew) c.args.drivers.now),
  λ w h. ([], are-sliced-refl c.args.script.now (map (λ d. d.crew) c.args.drivers.now)),
  both-refl _ (λ d. posted-refl d.crew _) c.args.drivers.now,
)

pub advance-requires-clause-crews : goal.advance-requires-clause-crews
advance-requires-clause-crews g c κs within = (
  c.requires.crews.0,
  stay-each c.args.script.now c.args.clock.now c.args.boxes.now c.requires.crews.0
      (map (λ d. d.crew) c.args.drivers.now) (map (λ d. d.crew) c.loop-round.drivers) c.loop-round.invariant.0 c.requires.crews.1,
)

pub loop-round-preserved : goal.loop-round-preserved
loop-round-preserved g c =
    let i = c.loop-round.invariant in (
      stay-trans c.args.script.now c.args.clock.now c.args.boxes.now (map (λ d. d.crew) c.args.drivers.now)
          (map (λ d. d.crew) c.loop-round.drivers) (map (λ d. d.crew) c.advance.new.drivers) i.0 c.advance.ensures.crews,
      λ w h.
          course-on c.args.script.now c.args.clock.now c.args.boxes.now w (map (λ d. d.crew) c.args.drivers.now)
          (map (λ d. d.crew) c.loop-round.drivers) (map (λ d. d.crew) c.advance.new.drivers)
          (stay-each c.args.script.now c.args.clock.now c.args.boxes.now w (map (λ d. d.crew) c.args.drivers.now)
          (map (λ d. d.crew) c.loop-round.drivers) i.0 h) (i.1 w h) c.in-None-advance.ensures.goes,
      both-trans _ (λ x y z a b. posted-trans x.crew y.crew z.crew _ _ _ a b) c.args.drivers.now c.loop-round.drivers
          c.advance.new.drivers i.2 c.advance.ensures.posted,
    )

pub returns-in-Some-advance-clause-course : goal.returns-in-Some-advance-clause-course
returns-in-Some-advance-clause-course g c w h =
    course-same (λ d. d.crew) c.args.script.now c.args.clock.now c.args.boxes.now w
    (map (λ d. d.crew) c.args.drivers.now) c.loop-round.drivers c.advance.new.drivers
    c.in-Some-advance.ensures.goes.0 (c.loop-round.invariant.1 w h)

pub returns-in-Some-advance-clause-posted : goal.returns-in-Some-advance-clause-posted
returns-in-Some-advance-clause-posted g c =
    both-trans _ (λ x y z a b. posted-trans x.crew y.crew z.crew _ _ _ a b) c.args.drivers.now c.loop-round.drivers
    c.advance.new.drivers c.loop-round.invariant.2 c.advance.ensures.posted
