-- A range on the axis allows the cells from that of its lower end to that of its higher end.
use Rattle.std.proofs.Common.{◌≡◌, rules}
use Rattle.hx_types.specs.declared.values.Value.TheVariants as a_value
use Rattle.hx_types.specs.Subspaces.{kind_at}
use Rattle.hx_model.specs.Cells.{cell_of}
use Rattle.hx_region.proofs.Meetings.{range_allows}
use Rattle.hx_region.proofs.meeting.cells_of.Goals as goal

pub returns-in-Range : goal.returns-in-Range
returns-in-Range c =
    let axis = c.args.axis in
    let kind = kind_at c.args.space.now c.in-Range.attribute in
    let first : c.number_cell-first.result ≡ cell_of kind (a_value.Int c.in-Range.lo) axis.parts = search rules in
    let last : c.number_cell-last.result ≡ cell_of kind (a_value.Int c.in-Range.hi) axis.parts = search rules in
    range_allows c.args.space.now axis c.in-Range.attribute c.in-Range.lo c.in-Range.hi c.args.term.now
    c.number_cell-first.result c.number_cell-last.result c.between.result
    c.if-attribute-axis-2.true c.in-Range.is first last c.between.ensures
