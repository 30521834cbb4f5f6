use Rattle.std.proofs.Common.{refl}
use Rattle.hx_types.specs.declared.values.Assign.{Assign}
use Rattle.hx_rules.proofs.Differing.{told_by_first, told_by_rest}
use Rattle.hx_rules.proofs.fitting.+assigned_once.Goals as goal

pub returns-then-lacks_assign : goal.returns-then-lacks_assign
returns-then-lacks_assign t c =
    told_by_rest (λ (a : Assign). a.attribute) c.args.assigns.now c.in-Some.first.now c.in-Some.rest.now
    c.in-Some.ensures.cases.0 c.in-Some.first.now.attribute refl
    c.assigned_once.result (c.lacks_assign.ensures.0 c.if-lacks_assign.true) c.assigned_once.ensures

pub returns-else-lacks_assign : goal.returns-else-lacks_assign
returns-else-lacks_assign t c =
    told_by_first (λ (a : Assign). a.attribute) c.args.assigns.now c.in-Some.first.now c.in-Some.rest.now
    c.in-Some.ensures.cases.0 c.in-Some.first.now.attribute refl
    c.lacks_assign.result c.if-lacks_assign.false c.lacks_assign.ensures.1
