use Rattle.std.proofs.Common.{◌∙◌, ap, sym}
use Rattle.hx_model.specs.CoordinatorSteps.{with_answer}
use Rattle.hx_coord.proofs.Lists.{answered_more}
use Rattle.hx_coord.proofs.issuing.answer_all.Goals as goal

pub loop-each-preserved : goal.loop-each-preserved
loop-each-preserved c =
    let a = c.each-item.result in
    c.in_ok-keep_answer.ensures
    ∙ ap (with_answer a) c.loop-each.invariant
    ∙ sym (answered_more c.args.answered.now c.loop-each.each-index a c.args.newest.now c.loop-each-test.true c.each-item.is)
