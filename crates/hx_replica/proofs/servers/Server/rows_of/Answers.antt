use Rattle.std.proofs.Common.{ap}
use Rattle.hx_store.specs.Stores.{StoreState}
use Rattle.hx_replica.proofs.Bareness.{bare_same}
use Rattle.hx_replica.proofs.Changing.{reserved, reserved_rooms, reserved_views}
use Rattle.hx_replica.proofs.Invariant.{within}
use Rattle.hx_replica.proofs.Ordered.{same_value}
use Rattle.hx_replica.proofs.Searching.{if_found, rows_there}
use Rattle.hx_replica.proofs.servers.Server.rows_of.Goals as goal

pub invariant_of-self : goal.invariant_of-self
invariant_of-self c =
    let i = c.self.inside in
    let y = c.index_mut-replica.result.now in
    let here = within i c.args.self.now c.args.place c.self.view_is c.requires in
    let stays = c.find.ensures.stays in
    record {
      valid = c.self.invariant.valid;
      map_is = c.self.invariant.map_is;
      replicas_are =
          reserved i.space i.replicas.items c.args.place y c.find.new.self c.self.invariant.replicas_are here c.index_mut-replica.ensures.value
          (ap (λ (s : StoreState). s.region) stays) (ap (λ (s : StoreState). s.keeps_marks) stays) (ap (λ (s : StoreState). s.states) stays);
      bare =
          bare_same _ _
          (
          reserved_views i.space i.replicas.items c.args.place y c.find.new.self c.self.invariant.replicas_are here c.index_mut-replica.ensures.value
          (ap (λ (s : StoreState). s.states) stays)
          )
          c.self.invariant.bare;
    }

pub returns-clause-rows : goal.returns-clause-rows
returns-clause-rows c =
    if_found c.find.result (λ rows e. rows_there c.self.inside c.args.self.now c.args.place
    c.index_mut-replica.result.now c.args.terms.now rows c.self.view_is c.self.invariant
    (within c.self.inside c.args.self.now c.args.place c.self.view_is c.requires)
    c.index_mut-replica.ensures.value e) c.find.ensures.rows

pub returns-clause-stays : goal.returns-clause-stays
returns-clause-stays c =
    let i = c.self.inside in
    let y = c.index_mut-replica.result.now in
    let here = within i c.args.self.now c.args.place c.self.view_is c.requires in
    let stays = c.find.ensures.stays in
    same_value i c.args.self.now _ c.self.view_is
    (
    reserved_views i.space i.replicas.items c.args.place y c.find.new.self c.self.invariant.replicas_are here c.index_mut-replica.ensures.value
    (ap (λ (s : StoreState). s.states) stays)
    )
    (
    reserved_rooms i.space i.replicas.items c.args.place y c.find.new.self c.self.invariant.replicas_are here c.index_mut-replica.ensures.value
    (ap (λ (s : StoreState). s.rooms) stays)
    )
