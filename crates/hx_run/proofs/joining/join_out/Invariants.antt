use Rattle.std.proofs.Common.{ℕ, List, ◌≡◌, ◌+◌, length}
use Rattle.std.specs.List.{AllByRecursion}
use Rattle.hx_outbox.specs.declared.outboxes.Outbox.{Outbox}
use Rattle.hx_outbox.specs.Zipped.{Both}
use Rattle.hx_run.specs.Joined.{IsJoined, IsKeptPort, IsRestOf, AreJoinedFrom}
use Rattle.hx_run.proofs.joining.join_out.Given as goal

abbrev pub invariant-loop-round : goal.invariant-loop-round
invariant-loop-round g l =
    IsRestOf l.boxes l.out l.initial.out × (length l.out.ports.items + l._round ≡ length l.initial.out.ports.items)
    × Both IsKeptPort l.initial.owned_ports.items l.owned_ports.items
    × ((w : ℕ) (outs : List Outbox) → AllByRecursion (IsJoined l.script w l.boxes outs) l.initial.owned_ports.items
    → AreJoinedFrom l.script w l.boxes outs l.initial.out (length l.out.ports.items) l.owned_ports.items)
