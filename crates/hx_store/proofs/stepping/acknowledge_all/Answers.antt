use Rattle.std.proofs.Common.{refl, arith}
use Rattle.hx_store.proofs.Acknowledging.{at_end, at_turn, next, turn_pending}
use Rattle.hx_store.proofs.stepping.acknowledge_all.Goals as goal

pub loop-version-init : goal.loop-version-init
loop-version-init c = record { pending = c.requires; state = refl; region = refl; spare = omega arith }

pub acknowledge-requires : goal.acknowledge-requires
acknowledge-requires c = record {
  pending = turn_pending _ _ _ _ _ (at_turn c.args.versions.now c.loop-version.version-index
      (record { 0 = 0 }) c.args.slot.now c.loop-version.slot c.loop-version-test.true c.loop-version.invariant);
}

pub loop-version-preserved : goal.loop-version-preserved
loop-version-preserved c =
    next _ _ c.args.versions.now c.args.slot.now c.loop-version.slot c.acknowledge.new.self
    (at_turn c.args.versions.now c.loop-version.version-index
    (record { 0 = 0 }) c.args.slot.now c.loop-version.slot c.loop-version-test.true c.loop-version.invariant)
    c.acknowledge.ensures.state c.acknowledge.ensures.region c.acknowledge.ensures.spare

pub returns-clause-state : goal.returns-clause-state
returns-clause-state c = (at_end c.args.versions.now c.loop-version.version-index c.args.slot.now c.loop-version.slot
    c.loop-version-test.false c.loop-version.invariant).state

pub returns-clause-region : goal.returns-clause-region
returns-clause-region c = c.loop-version.invariant.region

pub returns-clause-spare : goal.returns-clause-spare
returns-clause-spare c = c.loop-version.invariant.spare
