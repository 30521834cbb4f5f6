use Rattle.std.proofs.Common.{map, ap, ◌∙◌}
use Rattle.std.proofs.lemmas.List.{map-set}
use Rattle.hx_session.specs.Changes.{part_seen}
use Rattle.hx_session.proofs.parts.put_part.Goals as goal

pub returns-then-place-len : goal.returns-then-place-len
returns-then-place-len c = ap (map part_seen) c.set.ensures ∙ map-set part_seen c.args.parts.now c.args.place c.args.part
