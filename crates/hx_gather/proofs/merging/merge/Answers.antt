use Rattle.std.proofs.Common.{map, subst, ◌∙◌}
use Rattle.hx_trace.specs.Places.{stamped_at}
use Rattle.hx_gather.specs.Stretches.{ArePlaces}
use Rattle.hx_gather.proofs.Stretched.{placed_entries}
use Rattle.hx_gather.proofs.merging.merge.Goals as goal

pub returns : goal.returns
returns c =
    let places = c.in_ok-places.places.items in
    let made = subst (ArePlaces places) c.as_slice.ensures c.in_ok-places.ensures.places in
    record { merged = (map (stamped_at c.args.parts) places, made.merged, c.of_parts.ensures ∙ placed_entries c.args.parts places) }
