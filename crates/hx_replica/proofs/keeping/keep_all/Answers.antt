use Rattle.hx_replica.specs.Replicas.{views_of}
use Rattle.hx_replica.proofs.Kept.{last_is, more_kept, none_kept}
use Rattle.hx_replica.proofs.Roomy.{kept_first, kept_next}
use Rattle.hx_replica.proofs.keeping.keep_all.Goals as goal

pub replicas-init : goal.replicas-init
replicas-init c = record {
  views = none_kept c.args.space.now c.args.config.now c.args.server c.args.old.items c.args.next.now.items c.requires.old c.requires.next;
  rooms = kept_first c.args.old.items c.args.next.now.items;
}

pub keep-requires-clause-is : goal.keep-requires-clause-is
keep-requires-clause-is c = last_is c.args.space.now c.args.config.now c.args.server c.replicas.old.items
    c.pop.new.self.items c.in-Some.replica c.replicas.invariant.views.each c.in-Some.ensures.items

pub replicas-preserved : goal.replicas-preserved
replicas-preserved c = record {
  views = more_kept c.args.space.now c.args.config.now c.args.server
      (views_of c.args.old.items) c.replicas.old.items c.pop.new.self.items c.replicas.next.items
      c.keep.new.next.items c.in-Some.replica c.replicas.invariant.views c.in-Some.ensures.items c.keep.ensures.views
      c.keep.ensures.are;
  rooms = kept_next c.args.old.items c.replicas.old.items c.pop.new.self.items c.replicas.next.items
      c.keep.new.next.items c.in-Some.replica c.replicas.invariant.rooms c.in-Some.ensures.items c.keep.ensures.rooms;
}
