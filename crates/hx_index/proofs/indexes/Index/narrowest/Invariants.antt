use Rattle.std.proofs.Common.{◌≡◌, ◌≤◌, ◌+◌, ◌-◌, ◌*◌, drop}
use Rattle.hx_index.specs.Invariant.{IsSpan}
use Rattle.hx_index.specs.Looks.{digits_of}
use Rattle.hx_index.specs.Orders.{count_of}
use Rattle.hx_index.specs.Searches.{indexed_count, least_run}
use Rattle.hx_index.proofs.indexes.Index.narrowest.Given as goal

abbrev pub invariant-loop-number : goal.invariant-loop-number
invariant-loop-number g l = record {
  rows : g.L.Look.rows l.look ≡ g.L.Look.rows l.initial.look;
  span : IsSpan l.self (g.L.Look.rows l.initial.look) l.terms l.best.attribute l.best.first l.best.end;
  least : least_run l.self (g.L.Look.rows l.initial.look) (l.best.end - l.best.first) (drop l.number l.terms)
      ≡ least_run l.self (g.L.Look.rows l.initial.look) (count_of l.self) l.terms;
  counted : g.L.Look.looks l.initial.look ≤ g.L.Look.looks l.look;
  looks : g.L.Look.looks l.look + 2 * indexed_count l.self (drop l.number l.terms) * digits_of (count_of l.self)
      ≤ g.L.Look.looks l.initial.look + 2 * indexed_count l.self l.terms * digits_of (count_of l.self);
}
