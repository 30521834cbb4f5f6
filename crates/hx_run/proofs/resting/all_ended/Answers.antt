use Rattle.std.proofs.Common.{◌≤◌, length, arith, map, subst, sym, append-nil}
use Rattle.std.specs.List.{AllByRecursion}
use Rattle.hx_types.specs.Words.{IsIn}
use Rattle.hx_driver.specs.declared.crews.Crew.{Crew}
use Rattle.hx_law_drivers.specs.Rests.{HasEnded}
use Rattle.hx_run.specs.Rounds.{HaveMachines}
use Rattle.hx_run.proofs.Zipped.{each-all-map, each-flat, each-index, in-flat, map-in}
use Rattle.hx_run.proofs.resting.all_ended.Goals as goal

pub has_crew_ended-requires : goal.has_crew_ended-requires
has_crew_ended-requires g c = record {
  machines = each-index (λ d. d.crew) (HaveMachines c.args.script.now) c.args.drivers.now c.loop-at.at
      c.index-drivers-at.result c.requires.machines c.loop-at-test.true;
}

pub returns-then-not-has_crew_ended-clause-no : goal.returns-then-not-has_crew_ended-clause-no
returns-then-not-has_crew_ended-clause-no g c e =
    let crew = c.index-drivers-at.result.crew in
    let some = c.has_crew_ended.ensures.no c.if-not-has_crew_ended.true in (
      some.0,
      in-flat (λ (k : Crew). k.desks.items) (map (λ d. d.crew) c.args.drivers.now) crew some.0
          (map-in (λ d. d.crew) c.args.drivers.now c.loop-at.at c.index-drivers-at.result c.loop-at-test.true
          c.index-drivers-at.is) (subst (λ r. IsIn some.0 r.crew.desks.items) (sym c.index-drivers-at.is)
          (subst (IsIn some.0) (append-nil _) some.1)),
      some.2,
    )

pub returns-clause-yes : goal.returns-clause-yes
returns-clause-yes g c e =
    let le : length c.args.drivers.now ≤ c.loop-at.at = grind (arith, c.loop-at-test.false) in
    each-flat (λ (k : Crew). k.desks.items) (HasEnded c.args.script.now) (map (λ d. d.crew) c.args.drivers.now)
    (each-all-map (λ d. d.crew) (λ k. AllByRecursion (HasEnded c.args.script.now) k.desks.items) c.args.drivers.now c.loop-at.at le c.loop-at.invariant)
