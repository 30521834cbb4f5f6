use Rattle.std.proofs.Common.{◌≡◌, ◌+◌, length}
use Rattle.hx_spaces.specs.Courses.{scheduled}
use Rattle.hx_spaces.proofs.clusters.Cluster.make_entries.Given as goal

abbrev pub invariant-loop-made : goal.invariant-loop-made
invariant-loop-made l = record {
  bundle : l.self.bundle ≡ l.initial.self.bundle;
  course : l.self ≡ scheduled l.initial.self l._made;
  made : length l.self.order ≡ length l.initial.self.order + l._made;
}
