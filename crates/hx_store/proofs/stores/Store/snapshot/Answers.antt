use Rattle.std.proofs.Common.{sym, subst, take}
use Rattle.hx_law_folds.specs.Folding.{KeptsAscend}
use Rattle.hx_law_folds.proofs.Lemmas.{sent-ascends}
use Rattle.hx_store.proofs.Reading.{ascend-take, kept-next}
use Rattle.hx_store.proofs.stores.Store.snapshot.Goals as goal

pub loop-i-preserved : goal.loop-i-preserved
loop-i-preserved c =
    let store = c.args.self.now in
    let slot = c.in-Some.ensures in
    let added = c.in_ok-add_kept-in-Some.ensures in
    let states =
    kept-next store.region store.states c.loop-i.i c.in-Some.slot.now c.loop-i.snapshot c.add_kept.new.snapshot (sym slot.state) slot.region
    c.loop-i.invariant.states added.more
    in
    record { states = states; orderly = added.orderly c.loop-i.invariant.orderly }

pub returns-clause-ascend : goal.returns-clause-ascend
returns-clause-ascend c =
    let store = c.args.self.now in
    let ascend = ascend-take c.loop-i.i store.states c.len-i-end.ensures.ascend in
    subst KeptsAscend (sym c.loop-i.invariant.states) (sent-ascends store.region (take c.loop-i.i store.states) ascend)
