use Rattle.std.proofs.Common.{◌∙◌}
use Rattle.std.proofs.lemmas.List.{length-set}
use Rattle.hx_history.proofs.Places.{filed}
use Rattle.hx_history.proofs.placing.places_of.Goals as goal

pub loop-read-preserved : goal.loop-read-preserved
loop-read-preserved c =
    record {
      len = length-set c.loop-read.places.items c.rank-place.result c.push.new.self ∙ c.loop-read.invariant.len;
      each = filed (λ reads. reads.items) c.loop-read.places.items c.args.writes.now c.args.reads.now
          c.loop-read.read-index c.rank-place.result c.read-item.result
          c.index_mut.result.now c.push.new.self c.loop-read.invariant.len c.loop-read-test.true c.read-item.is
          c.rank-place.ensures.bound c.rank-place.ensures.below c.rank-place.ensures.above
          c.index_mut.ensures.value c.in_ok-push.ensures.items c.loop-read.invariant.each;
    }
