use Rattle.std.proofs.Common.{refl}
use Rattle.hx_types.specs.declared.values.Edit.{Edit}
use Rattle.hx_rules.proofs.Differing.{told_by_first, told_by_rest}
use Rattle.hx_rules.proofs.fitting.+edited_once.Goals as goal

pub returns-then-lacks_edit : goal.returns-then-lacks_edit
returns-then-lacks_edit t c =
    told_by_rest (λ (e : Edit). e.attribute) c.args.edits.now c.in-Some.first.now c.in-Some.rest.now
    c.in-Some.ensures.cases.0 c.in-Some.first.now.attribute refl
    c.edited_once.result (c.lacks_edit.ensures.0 c.if-lacks_edit.true) c.edited_once.ensures

pub returns-else-lacks_edit : goal.returns-else-lacks_edit
returns-else-lacks_edit t c =
    told_by_first (λ (e : Edit). e.attribute) c.args.edits.now c.in-Some.first.now c.in-Some.rest.now
    c.in-Some.ensures.cases.0 c.in-Some.first.now.attribute refl
    c.lacks_edit.result c.if-lacks_edit.false c.lacks_edit.ensures.1
