use Rattle.std.proofs.Common.{sym, ◌∙◌}
use Rattle.std.specs.BTreeSet.{contains}
use Rattle.std.specs.Ordering.{nat_cmp}
use Rattle.hx_audit.proofs.Placed.{has_item_is}
use Rattle.hx_audit.proofs.missing.has_item.Goals as goal

pub returns-else-is_refused : goal.returns-else-is_refused
returns-else-is_refused c =
    has_item_is c.args.block.now c.requires.ordered c.args.call.now c.requires.stands _ c.in-Some-Some.answer.now
    (sym c.in-Some-Some.ensures) (sym c.in-Some-Some.ensures') (sym c.is_refused.ensures ∙ c.if-is_refused.false)
    (contains nat_cmp c.args.marked.now) c.requires.marked _ c.as_slice.ensures _ c.is_marked.ensures
