use Rattle.std.proofs.Common.{◌≡◌, ◌+◌, drop}
use Rattle.hx_gather.specs.Stretches.{following}
use Rattle.hx_gather.proofs.stretches.count_following.Given as goal

abbrev pub invariant-loop-count : goal.invariant-loop-count
invariant-loop-count l = following l.stamp (drop l.at l.part) ≡ l.count + following (l.stamp + l.count) (drop (l.at + l.count) l.part)
