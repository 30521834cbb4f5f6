use Rattle.std.proofs.Common.{arith}
use Rattle.hx_gather.proofs.Stretched.{long_part, sources_more}
use Rattle.hx_gather.proofs.merging.sources_of.Goals as goal

pub new-requires : goal.new-requires
new-requires c =
    let le = long_part c.args.parts.now c.loop-place.place c.index-parts-place.result c.loop-place-test.true c.index-parts-place.is in
    record { few = omega (arith, le, c.requires.few_entries) }

pub loop-place-preserved : goal.loop-place-preserved
loop-place-preserved c =
    sources_more c.args.parts.now c.loop-place.place c.index-parts-place.result c.loop-place.sources.items
    c.push.new.self.items c.new.result c.in_ok-push.ensures.items c.loop-place.invariant
    c.loop-place-test.true c.index-parts-place.is c.new.ensures
