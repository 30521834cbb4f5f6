use Rattle.std.proofs.Common.{◌≡◌, length}
use Rattle.hx_store.specs.Indexed.{IsWider}
use Rattle.hx_store.proofs.indexed.Indexed.widen.Given as goal

-- each turn makes one place
abbrev pub invariant-loop : goal.invariant-loop
invariant-loop l =
    IsWider l.fn.self l.self × (length l.self.stale ≡ l.counter) × (length l.self.index.orders ≡ length l.fn.self.index.orders)
