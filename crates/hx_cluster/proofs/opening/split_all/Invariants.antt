use Rattle.std.proofs.Common.{◌≡◌, length}
use Rattle.hx_mail.specs.Boxes.{IsPortOf}
use Rattle.hx_cluster.specs.Opened.{AreOutPortsFrom}
use Rattle.hx_cluster.proofs.Opens.{split_view}
use Rattle.hx_cluster.proofs.opening.split_all.Given as goal

abbrev pub invariant-loop-driver : goal.invariant-loop-driver
invariant-loop-driver g l =
    IsPortOf l.mailbox l.first
    × (l.first.view ≡ split_view l.mailbox.names l._driver)
    × AreOutPortsFrom 0 l.mailbox l.others.items
    × (length l.others.items ≡ l._driver)
