use Rattle.hx_types.specs.Spaces.{attribute_of}
use Rattle.hx_rules.proofs.Differing.{told_by_first, told_by_rest}
use Rattle.hx_rules.proofs.fitting.+asked_once.Goals as goal

pub returns-then-lacks_term : goal.returns-then-lacks_term
returns-then-lacks_term t c =
    told_by_rest attribute_of c.args.terms.now c.in-Some.first.now c.in-Some.rest.now c.in-Some.ensures.cases.0 c.attribute.result c.attribute.ensures
    c.asked_once.result (c.lacks_term.ensures.0 c.if-lacks_term.true) c.asked_once.ensures

pub returns-else-lacks_term : goal.returns-else-lacks_term
returns-else-lacks_term t c =
    told_by_first attribute_of c.args.terms.now c.in-Some.first.now c.in-Some.rest.now c.in-Some.ensures.cases.0 c.attribute.result c.attribute.ensures
    c.lacks_term.result c.if-lacks_term.false c.lacks_term.ensures.1
