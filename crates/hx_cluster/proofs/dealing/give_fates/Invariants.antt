use Rattle.std.proofs.Common.{◌≡◌, ◌++◌, map}
use Rattle.hx_cluster.proofs.dealing.give_fates.Given as goal

abbrev pub invariant-loop-crew : goal.invariant-loop-crew
invariant-loop-crew g l =
    (map (λ d. d.crew) l.drivers.items ++ l.crew-iterator.a.rest.items ≡ l.fn.crews.items)
    × (map (λ d. d.fate) l.drivers.items ++ l.crew-iterator.b.rest.items ≡ l.fn.fates.items)
