use Rattle.std.proofs.Common.{Global, Vec, ap, sym, ◌∙◌}
use Rattle.hx_model.specs.ServerSteps.{ServerState}
use Rattle.hx_replica.specs.declared.replicas.Replica.{Replica}
use Rattle.hx_replica.proofs.Bareness.{adopted_rooms, adopted_views, bare_again}
use Rattle.hx_replica.proofs.servers.Server.adopt.Goals as goal

pub invariant_of-self : goal.invariant_of-self
invariant_of-self c = record {
  valid = c.self.invariant.valid;
  map_is = c.self.invariant.map_is;
  replicas_are = c.keep_all.ensures.are;
  bare = bare_again _ c.requires.bare.0
      (
      c.keep_all.ensures.views
      ∙ adopted_views c.self.inside c.args.self.now c.args.config c.deref.result.now c.replace-old.result.items
      c.self.view_is c.deref.ensures (ap (λ (v : Vec Replica Global). v.items) c.replace-old.ensures.value)
      ∙ sym (ap (λ (s : ServerState). s.replicas) c.requires.bare.1)
      );
}

pub returns-clause-rooms : goal.returns-clause-rooms
returns-clause-rooms c = adopted_rooms c.self.inside c.args.self.now c.replace-old.result.items
    c.keep_all.new.next.items c.self.view_is (ap (λ (v : Vec Replica Global). v.items) c.replace-old.ensures.value)
    c.keep_all.ensures.rooms
