use Rattle.std.proofs.Common.{◌≡◌, ◌+◌, ◌≤◌, length}
use Rattle.hx_store.specs.Indexed.{IsOf, marked_count}
use Rattle.hx_store.proofs.indexed.Indexed.refresh.Given as goal

-- each turn brings one place up to date, and each slot has one
abbrev pub invariant-loop : goal.invariant-loop
invariant-loop l =
    IsOf l.slots l.self × (marked_count l.self.stale + l.counter ≡ l.end) × (length l.slots ≤ length l.self.stale)
    × (length l.self.index.orders ≡ length l.fn.self.index.orders)
