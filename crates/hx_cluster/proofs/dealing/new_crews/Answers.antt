use Rattle.std.proofs.Common.{arith, ◌∙◌, sym, refl, ◌∷◌, [], length-append}
use Rattle.hx_cluster.proofs.AtEach.{snoc-long}
use Rattle.hx_cluster.proofs.Deals.{crews-all, crews-more}
use Rattle.hx_cluster.proofs.Zips.{both-ended, ended_of, first-more, first-place, second-more, second-place}
use Rattle.hx_cluster.proofs.dealing.new_crews.Goals as goal

pub loop-desks-preserved : goal.loop-desks-preserved
loop-desks-preserved c =
    let i = c.loop-desks.invariant in
    let s = c.in-Some.ensures.steps in
    let long = length-append c.loop-desks.yielded ((c.in-Some.desks, c.in-Some.out) ∷ []) in
    let desks = first-more c.loop-desks.yielded c.in-Some.desks c.in-Some.out _ _ _ s.0.0 i.1 in
    let outs = second-more c.loop-desks.yielded c.in-Some.desks c.in-Some.out _ _ _ s.1.0 i.2 in (
      omega (arith, snoc-long _ _ _ c.in_ok-push.ensures.items, long, i.0),
      desks.1,
      outs.1,
      crews-more c.args.setup.now.script.now c.args.setup.now.clock.now c.args.setup.now.boxes.now
          c.args.setup.now.workers c.args.setup.now.valid _ c.loop-desks.crews.items _ _ i.3 c.in_ok-push.ensures.items refl
          (c.requires.outs.0 _ _ (second-place c.loop-desks.yielded c.in-Some.out _ _ _ i.0 outs.0))
          (c.requires.desks.0 _ _ (first-place c.loop-desks.yielded c.in-Some.desks _ _ _ i.0 desks.0)) refl refl,
    )

pub returns : goal.returns
returns c =
    let i = c.loop-desks.invariant in
    let done = both-ended c.loop-desks.yielded _ _ _ _ _ _ i.1 i.2 (sym c.loop-desks.desks-iterator.a.rest.ok.0)
    (sym c.loop-desks.desks-iterator.b.rest.ok.0) (c.requires.desks.1 ∙ sym c.requires.outs.1)
    (ended_of c.in-None.ensures.steps) in
    crews-all c.args.setup.now.script.now c.args.setup.now.clock.now c.args.setup.now.boxes.now
    c.args.setup.now.workers c.loop-desks.crews.items i.3 (i.0 ∙ sym done ∙ c.requires.desks.1) c.args.setup.now.some
