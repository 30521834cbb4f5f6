use Rattle.std.proofs.Common.{length}
use Rattle.hx_replica.specs.Replicas.{views_of}
use Rattle.hx_replica.proofs.Kept.{IsKeeping}
use Rattle.hx_replica.proofs.Roomy.{AreKeptSoFar}
use Rattle.hx_replica.proofs.keeping.keep_all.Given as goal

abbrev pub invariant-replicas : goal.invariant-replicas
invariant-replicas l = record {
  views : IsKeeping l.space l.config l.server (views_of l.initial.old.items) l.old.items l.next.items;
  rooms : AreKeptSoFar l.initial.old.items l.old.items l.next.items;
}

abbrev pub decreases-replicas : goal.decreases-replicas
decreases-replicas l = length l.old.items
