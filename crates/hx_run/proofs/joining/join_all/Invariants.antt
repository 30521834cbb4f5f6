use Rattle.std.proofs.Common.{List, ◌≡◌, ◌+◌, ◌++◌, length}
use Rattle.std.specs.List.{AllByRecursion}
use Rattle.hx_outbox.specs.declared.outboxes.Outbox.{Outbox}
use Rattle.hx_outbox.specs.Outboxes.{IsOutbox}
use Rattle.hx_outbox.specs.Zipped.{Both}
use Rattle.hx_run.specs.Joined.{IsJoined, IsKeptPort}
use Rattle.hx_run.proofs.joining.join_all.Given as goal

abbrev pub invariant-loop-round : goal.invariant-loop-round
invariant-loop-round g l =
    AllByRecursion (IsOutbox l.boxes) l.outs.items × (length l.outs.items + l._round ≡ length l.initial.outs.items)
    × Both IsKeptPort l.initial.owned_ports.items l.owned_ports.items
    × ((done : List Outbox) × (l.outs.items ++ done ≡ l.initial.outs.items)
    × AllByRecursion (IsJoined l.script (length l.initial.outs.items) l.boxes done) l.owned_ports.items)
