use Rattle.std.proofs.Common.{◌≡◌, ◌++◌, drop, flat_map, map}
use Rattle.hx_model.specs.SessionSteps.{with_part}
use Rattle.hx_session.specs.Changes.{part_seen}
use Rattle.hx_session.specs.Joined.{rows_in}
use Rattle.hx_session.proofs.merging.gathered.Given as goal

abbrev pub invariant-loop-part : goal.invariant-loop-part
invariant-loop-part l =
    l.rows.items ++ flat_map rows_in (map (with_part l.region l.found) (map part_seen (drop l.part-index l.parts)))
    ≡ flat_map rows_in (map (with_part l.region l.found) (map part_seen l.parts))
