use Rattle.std.proofs.Common.{◌<◌, ◌≤◌, ◌∙◌, length, map, refl, ap, sym, arith, slice_set}
use Rattle.std.specs.Option.{is_some}
use Rattle.hx_outbox.proofs.Lemmas.{map-length}
use Rattle.hx_run.proofs.Zipped.{both-put-at, both-refl, both-trans, each-index, get-set, long-set}
use Rattle.hx_run.proofs.Courses.{all-retried, no-fault, posted-refl, posted-trans, retried-next, retried-none}
use Rattle.hx_run.proofs.Courses.{retried-part, some-fault, stay-each, stay-next, stay-refl}
use Rattle.hx_driver.specs.Crews.{IsCrew}
use Rattle.hx_run.proofs.rounds.retry_all.Goals as goal

pub loop-at-init : goal.loop-at-init
loop-at-init g c = (
  refl,
  stay-refl c.args.floor.now.script.now c.args.floor.now.clock.now c.args.floor.now.boxes.now (map (λ d. d.crew) c.args.drivers.now),
  retried-none c.args.floor.now.script.now (map (λ d. d.crew) c.args.drivers.now),
  both-refl _ (λ d. posted-refl d.crew _) c.args.drivers.now,
)

pub retry-requires-clause-crew : goal.retry-requires-clause-crew
retry-requires-clause-crew g c =
    let lt : c.loop-at.at < length c.loop-at.drivers = omega (arith, c.loop-at-test.true, c.loop-at.auto.drivers) in (
      c.requires.crews.0,
      each-index (λ d. d.crew) (IsCrew c.args.floor.now.script.now c.args.floor.now.clock.now
          c.args.floor.now.boxes.now c.requires.crews.0) c.loop-at.drivers c.loop-at.at c.index-drivers-at.result
          (stay-each c.args.floor.now.script.now c.args.floor.now.clock.now c.args.floor.now.boxes.now
          c.requires.crews.0 (map (λ d. d.crew) c.args.drivers.now)
          (map (λ d. d.crew) c.loop-at.drivers) c.loop-at.invariant.1 c.requires.crews.1) lt,
    )

pub returns-then-is_some-clause-crews : goal.returns-then-is_some-clause-crews
returns-then-is_some-clause-crews g c =
    stay-next (λ d. d.crew) c.args.floor.now.script.now c.args.floor.now.clock.now c.args.floor.now.boxes.now
    (map (λ d. d.crew) c.args.drivers.now) c.loop-at.drivers c.loop-at.at c.index-drivers-at.result
    c.retry.new.self c.loop-at.invariant.1 c.retry.ensures.crew

pub returns-then-is_some-clause-retried : goal.returns-then-is_some-clause-retried
returns-then-is_some-clause-retried g c =
    let lt : c.loop-at.at < length c.loop-at.drivers = omega (arith, c.loop-at-test.true, c.loop-at.auto.drivers) in
    retried-part (λ d. d.crew) c.args.floor.now.script.now c.loop-at.at
    (map (λ d. d.crew) c.args.drivers.now) c.loop-at.drivers c.index-drivers-at.result c.retry.new.self
    c.loop-at.invariant.2 lt c.retry.ensures.later c.retry.ensures.retried
    (some-fault c.retry.new.self.crew.fault (ap (λ d. is_some d.crew.fault)
    (sym (get-set c.loop-at.drivers c.loop-at.at c.index-drivers-at-in-loop-at.result c.retry.new.self lt))
    ∙ sym c.is_some.ensures ∙ c.if-is_some.true))

pub returns-then-is_some-clause-posted : goal.returns-then-is_some-clause-posted
returns-then-is_some-clause-posted g c =
    both-trans _ (λ x y z a b. posted-trans x.crew y.crew z.crew _ _ _ a b) c.args.drivers.now c.loop-at.drivers
    (slice_set c.loop-at.drivers c.loop-at.at c.retry.new.self) c.loop-at.invariant.3
    (both-put-at _ (λ d. posted-refl d.crew _) c.loop-at.drivers c.loop-at.at c.index-drivers-at.result c.retry.new.self c.retry.ensures.posted)

pub loop-at-preserved : goal.loop-at-preserved
loop-at-preserved g c =
    let lt : c.loop-at.at < length c.loop-at.drivers = omega (arith, c.loop-at-test.true, c.loop-at.auto.drivers) in (
      long-set c.loop-at.drivers c.loop-at.at c.retry.new.self ∙ c.loop-at.invariant.0,
      stay-next (λ d. d.crew) c.args.floor.now.script.now c.args.floor.now.clock.now c.args.floor.now.boxes.now
          (map (λ d. d.crew) c.args.drivers.now) c.loop-at.drivers c.loop-at.at c.index-drivers-at.result
          c.retry.new.self c.loop-at.invariant.1 c.retry.ensures.crew,
      retried-next (λ d. d.crew) c.args.floor.now.script.now c.loop-at.at
          (map (λ d. d.crew) c.args.drivers.now) c.loop-at.drivers c.index-drivers-at.result c.retry.new.self
          c.loop-at.invariant.2 lt c.retry.ensures.later c.retry.ensures.retried
          (no-fault c.retry.new.self.crew.fault (ap (λ d. is_some d.crew.fault)
          (sym (get-set c.loop-at.drivers c.loop-at.at c.index-drivers-at-in-loop-at.result c.retry.new.self lt))
          ∙ sym c.is_some.ensures ∙ c.if-is_some.false)),
      both-trans _ (λ x y z a b. posted-trans x.crew y.crew z.crew _ _ _ a b) c.args.drivers.now c.loop-at.drivers
          (slice_set c.loop-at.drivers c.loop-at.at c.retry.new.self) c.loop-at.invariant.3
          (both-put-at _ (λ d. posted-refl d.crew _) c.loop-at.drivers c.loop-at.at c.index-drivers-at.result c.retry.new.self c.retry.ensures.posted),
    )

pub returns-clause-retried : goal.returns-clause-retried
returns-clause-retried g c =
    let le : length (map (λ d. d.crew) c.loop-at.drivers) ≤ c.loop-at.at =
    omega (arith, map-length (λ d. d.crew) c.loop-at.drivers, c.loop-at.auto.drivers, c.loop-at-test.false) in
    all-retried c.args.floor.now.script.now c.loop-at.at (map (λ d. d.crew) c.args.drivers.now) (map (λ d. d.crew) c.loop-at.drivers) le c.loop-at.invariant.2
