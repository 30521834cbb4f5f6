use Rattle.std.proofs.Common.{◌≡◌, ◌≤◌, ◌+◌, take}
use Rattle.std.specs.List.{filter}
use Rattle.hx_index.specs.Looks.{HaveCounted}
use Rattle.hx_index.specs.Sides.{matches_at}
use Rattle.hx_index.proofs.searching.matching.Given as goal

abbrev pub invariant-loop-id : goal.invariant-loop-id
invariant-loop-id g l = record {
  rows : g.L.Look.rows l.look ≡ g.L.Look.rows l.initial.look;
  found : l.found.items ≡ filter (matches_at (g.L.Look.rows l.initial.look) l.terms) (take l.id-index l.numbers);
  counted : g.L.Look.looks l.initial.look ≤ g.L.Look.looks l.look;
  looks : g.L.Look.looks l.look ≤ g.L.Look.looks l.initial.look + l.id-index;
  each : HaveCounted l.id-index (g.L.Look.looks l.initial.look) (g.L.Look.looks l.look);
}
