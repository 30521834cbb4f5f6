use Rattle.std.proofs.Common.{◌≡◌, ◌≤◌, ◌∙◌, length, arith, map, None, slice_index_or, subst, sym}
use Rattle.std.specs.List.{AllByRecursion}
use Rattle.hx_types.specs.Words.{IsIn}
use Rattle.hx_clock.proofs.Lemmas.{each_all, each_in}
use Rattle.hx_driver.specs.declared.crews.Crew.{Crew}
use Rattle.hx_law_drivers.specs.Crews.{desks_of}
use Rattle.hx_law_drivers.specs.Rests.{IsRested}
use Rattle.hx_run.specs.Rounds.{HaveMachines}
use Rattle.hx_run.proofs.Zipped.{each-all-map, each-flat, each-index, in-flat, map-in}
use Rattle.hx_run.proofs.resting.at_rest.Goals as goal

pub is_crew_rested-requires : goal.is_crew_rested-requires
is_crew_rested-requires g c = record {
  machines = each-index (λ d. d.crew) (HaveMachines c.args.script.now) c.args.drivers.now c.loop-at.at
      c.index-drivers-at.result c.requires.machines c.loop-at-test.true;
}

pub returns-clause-yes : goal.returns-clause-yes
returns-clause-yes g c e =
    let le : length c.args.drivers.now ≤ c.loop-at.at = grind (arith, c.loop-at-test.false) in
    record {
      calm = each-all-map (λ d. d.crew) (λ k. k.fault ≡ None) c.args.drivers.now c.loop-at.at le c.loop-at.invariant.0;
      rested =
          each-flat (λ (k : Crew). k.desks.items) (IsRested c.args.script.now (map (λ d. d.crew) c.args.drivers.now)) (map (λ d. d.crew) c.args.drivers.now)
          (each-all-map (λ d. d.crew) (λ k. AllByRecursion
          (IsRested c.args.script.now (map (λ d. d.crew) c.args.drivers.now)) k.desks.items) c.args.drivers.now
          c.loop-at.at le c.loop-at.invariant.1);
    }

pub returns-then-not-is_crew_rested-clause-no : goal.returns-then-not-is_crew_rested-clause-no
returns-then-not-is_crew_rested-clause-no g c rest =
    let drivers = c.args.drivers.now in
    let at = c.loop-at.at in
    let d = c.index-drivers-at.result in
    let crews = map (λ d. d.crew) drivers in
    let P = IsRested c.args.script.now crews in
    let lt = c.loop-at-test.true in
    let here = map-in (λ d. d.crew) drivers at d lt c.index-drivers-at.is in
    sym c.if-not-is_crew_rested.true
    ∙ c.is_crew_rested.ensures.no (each-index (λ d. d.crew) (λ k. k.fault ≡ None) drivers at d rest.calm lt)
    (each_all P (slice_index_or drivers at d).crew.desks.items
    (λ y i. each_in P (desks_of crews) y rest.rested
    (in-flat (λ (k : Crew). k.desks.items) crews d.crew y here
    (subst (λ r. IsIn y r.crew.desks.items) (sym c.index-drivers-at.is) i))))
