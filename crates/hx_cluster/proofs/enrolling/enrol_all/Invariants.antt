use Rattle.std.proofs.Common.{◌≡◌, length, [], Some}
use Rattle.hx_clock.specs.Views.{view_of}
use Rattle.hx_cluster.specs.Clusters.{AreNewSeats}
use Rattle.hx_cluster.proofs.enrolling.enrol_all.Given as goal

abbrev pub invariant-loop-number : goal.invariant-loop-number
invariant-loop-number l =
    (l.clock ≡ l.initial.clock)
    × (l.seat.clock ≡ l.clock)
    × (l.seat.view ≡ view_of [] [] (Some l._number))
    × AreNewSeats l.clock l.seats.items
    × (length l.seats.items ≡ l._number)
