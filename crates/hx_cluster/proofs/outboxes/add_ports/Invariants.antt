use Rattle.std.proofs.Common.{◌≡◌, ◌++◌, List, length}
use Rattle.hx_mail.specs.Boxes.{Boxed}
use Rattle.hx_cluster.specs.Dealt.{AtEach, IsNewOutbox}
use Rattle.hx_cluster.specs.Opened.{AreOutPortsFrom}
use Rattle.hx_cluster.proofs.Deals.{IsPartly}
use Rattle.hx_cluster.proofs.outboxes.add_ports.Given as goal

abbrev pub invariant-loop-port : goal.invariant-loop-port
invariant-loop-port l =
    (length l.outs.items ≡ length l.initial.outs.items)
    × (l.driver ≡ length l.yielded)
    × (l.yielded ++ l.port-iterator.rest.items ≡ l.fn.others.items)
    × ((boxes : List Boxed) (box : Boxed) → AtEach (IsNewOutbox boxes) l.initial.outs.items
    → AreOutPortsFrom 0 box l.fn.others.items → AtEach (IsPartly l.driver boxes box) l.outs.items)
