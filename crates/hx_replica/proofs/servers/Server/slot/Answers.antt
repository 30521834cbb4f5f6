use Rattle.std.proofs.Common.{Option, ap, false, sym, ◌∙◌}
use Rattle.hx_types.specs.Words.{when_some}
use Rattle.hx_store.specs.Stores.{has_slot}
use Rattle.std.proofs.lemmas.Option.{IfSome_then}
use Rattle.hx_model.specs.ServerSteps.{Replica as ReplicaState, replica_of}
use Rattle.hx_replica.proofs.Invariant.{at_some, if_none_then, if_there, is_here, no_slot}
use Rattle.hx_replica.proofs.servers.Server.slot.Goals as goal

pub returns-clause-state : goal.returns-clause-state
returns-clause-state c =
    let here = is_here c.self.inside c.args.self.now c.args.region c.in_ok-replica.replica c.index.result.now
    c.self.view_is c.self.invariant c.index.ensures (rw c.as_slice.ensures.value at c.in_ok-replica.ensures) in
    IfSome_then c.slot.result c.slot.ensures.state
    (λ slot e. at_some _ (replica_of c.args.region c.args.self.now.state.replicas) _ here.found
    (e ∙ here.state c.args.key.now))

pub returns-clause-region : goal.returns-clause-region
returns-clause-region c =
    let here = is_here c.self.inside c.args.self.now c.args.region c.in_ok-replica.replica c.index.result.now
    c.self.view_is c.self.invariant c.index.ensures (rw c.as_slice.ensures.value at c.in_ok-replica.ensures) in
    IfSome_then c.slot.result c.slot.ensures.region (λ slot e. e ∙ here.region)

pub returns-clause-none : goal.returns-clause-none
returns-clause-none c =
    let here = is_here c.self.inside c.args.self.now c.args.region c.in_ok-replica.replica c.index.result.now
    c.self.view_is c.self.invariant c.index.ensures (rw c.as_slice.ensures.value at c.in_ok-replica.ensures) in
    if_none_then c.slot.result _ c.slot.ensures.found
    (λ e. if_there _ (replica_of c.args.region c.args.self.now.state.replicas) _ here.found
    (sym (here.state c.args.key.now) ∙ no_slot c.index.result.now.store.keeps_marks c.args.key.now
    c.index.result.now.store.states e ∙ here.empty c.args.key.now))

pub returns-clause-found : goal.returns-clause-found
returns-clause-found c =
    let here = is_here c.self.inside c.args.self.now c.args.region c.in_ok-replica.replica c.index.result.now
    c.self.view_is c.self.invariant c.index.ensures (rw c.as_slice.ensures.value at c.in_ok-replica.ensures) in
    c.slot.ensures.found ∙ sym (ap (λ (o : Option ReplicaState). when_some o false (λ (r : ReplicaState). has_slot c.args.key.now r.states)) here.found)
