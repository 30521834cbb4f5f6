use Rattle.std.proofs.Common.{◌≡◌, ◌≤◌, ◌+◌, ◌-◌, length}
use Rattle.hx_index.specs.Invariant.{is_part}
use Rattle.hx_index.specs.Looks.{digits_of}
use Rattle.hx_index.specs.Sides.{side_at}
use Rattle.hx_index.proofs.Halving.{IsBetween}
use Rattle.hx_index.proofs.searching.end_of_part.Given as goal

abbrev pub invariant-loop-low : goal.invariant-loop-low
invariant-loop-low g l = record {
  rows : g.L.Look.rows l.look ≡ g.L.Look.rows l.initial.look;
  part : IsBetween (λ i. is_part l.past (side_at (g.L.Look.rows l.initial.look) l.term i)) l.order l.low l.high;
  counted : g.L.Look.looks l.initial.look ≤ g.L.Look.looks l.look;
  looks : g.L.Look.looks l.look + digits_of (l.high - l.low) ≤ g.L.Look.looks l.initial.look + digits_of (length l.order);
}

abbrev pub decreases-loop-low : goal.decreases-loop-low
decreases-loop-low g l = l.high - l.low
