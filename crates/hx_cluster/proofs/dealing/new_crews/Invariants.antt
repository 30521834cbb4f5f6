use Rattle.std.proofs.Common.{◌≡◌, ◌++◌, length, map}
use Rattle.hx_cluster.proofs.Deals.{AreCrewsSoFar}
use Rattle.hx_cluster.proofs.dealing.new_crews.Given as goal

abbrev pub invariant-loop-desks : goal.invariant-loop-desks
invariant-loop-desks l =
    (length l.crews.items ≡ length l.yielded)
    × (map (λ x. x.0) l.yielded ++ l.desks-iterator.a.rest.items ≡ l.fn.desks.items)
    × (map (λ x. x.1) l.yielded ++ l.desks-iterator.b.rest.items ≡ l.fn.outs.items)
    × AreCrewsSoFar l.setup.script.now l.setup.clock.now l.setup.boxes.now l.setup.workers l.crews.items
