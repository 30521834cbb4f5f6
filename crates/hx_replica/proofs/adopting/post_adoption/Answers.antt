use Rattle.std.proofs.Common.{◌≡◌, ◌++◌, ap, arith, length, sym, ◌∙◌}
use Rattle.std.specs.List.{flat_map}
use Rattle.hx_model.specs.Types.{RegionId}
use Rattle.hx_types.specs.Configs.{lists}
use Rattle.hx_types.specs.Subspaces.{region_count}
use Rattle.hx_replica.specs.Replicas.{views_of}
use Rattle.hx_replica.proofs.Adopted.{no_more, one_more, posts_at}
use Rattle.hx_replica.proofs.Starting.{passing}
use Rattle.hx_replica.proofs.adopting.post_adoption.Goals.{then-lists+in_ok-post_region, else-lists}
use Rattle.hx_replica.proofs.adopting.post_adoption.Goals as goal

pub loop-number-preserved : goal.loop-number-preserved
loop-number-preserved c =
    let space = c.args.space.now in
    let config = c.args.config.now in
    let old = views_of c.args.replicas.now in
    let n = c.loop-number.number in
    elim c.if-lists.branch [
      | then-lists+in_ok-post_region w ↦
          w.posts-is ∙ one_more space config c.args.server old c.args.posts.now n c.loop-number.posts
          w.post_region.new.posts c.loop-number.invariant (sym c.lists.ensures ∙ w.if-lists.true) w.in_ok-post_region.ensures
      | else-lists w ↦
          w.posts-is ∙ no_more space config c.args.server old c.args.posts.now n c.loop-number.posts
          c.loop-number.invariant (sym c.lists.ensures ∙ w.if-lists.false)
    ]

pub returns : goal.returns
returns c =
    let config = c.args.config.now in
    let count = c.regions-number-end.ensures ∙ ap region_count c.requires.regions ∙ sym c.requires.count in
    let all : c.loop-number.number ≡ length config.regions = omega (arith, count, c.loop-number-test.false, c.loop-number.auto.number-end) in
    c.loop-number.invariant
    ∙ ap (λ n. c.args.posts.now ++ flat_map (posts_at c.args.space.now config c.args.server
    (views_of c.args.replicas.now)) (passing (λ (g : RegionId). lists config g c.args.server) n)) all
