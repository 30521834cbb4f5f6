-- One more term leaves the cells that it allows too.
use Rattle.std.proofs.Common.{subst}
use Rattle.hx_model.specs.Types.{Term}
use Rattle.hx_model.specs.Regions.{allows}
use Rattle.hx_region.specs.Ranges.{AreThose}
use Rattle.hx_region.proofs.Meetings.{terms_more}
use Rattle.hx_region.proofs.meeting.allowed_cells.Goals as goal

pub loop-term-preserved : goal.loop-term-preserved
loop-term-preserved c =
    let space = c.args.space.now in
    let axis = c.args.axis in
    let within = c.common-cells.ensures.within axis.parts c.loop-term.invariant.within c.cells_of.ensures.within in
    terms_more space axis c.args.terms.now c.loop-term.term-index c.term-item.result c.loop-term.cells
    c.cells_of.result c.common-cells.result c.loop-term-test.true c.loop-term.invariant
    (subst (λ (t : Term). AreThose axis.parts (λ cell. allows space axis cell t) c.cells_of.result) c.term-item.is
    c.cells_of.ensures) c.common-cells.ensures.each within
