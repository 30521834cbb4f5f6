-- The next cell is the next digit, and leaves room for the axes after it.
use Rattle.std.proofs.Common.{arith, ◌∙◌}
use Rattle.hx_region.proofs.Sizes.{parts_at, row_at, row_fits}
use Rattle.hx_region.proofs.rows.row.Goals as goal

pub overflow_mul-row : goal.overflow_mul-row
overflow_mul-row c =
    let parts = parts_at c.args.axes.now c.loop-axis.axis-index c.loop-axis-test.true c.requires.parts in
    let fits = row_fits c.args.axes.now c.loop-axis.axis-index c.loop-axis.row 0 c.loop-axis-test.true c.requires.parts parts.0 c.loop-axis.invariant.1 in
    omega (arith, fits.1, c.requires.few)

pub overflow_add-row : goal.overflow_add-row
overflow_add-row c =
    let fits = row_fits c.args.axes.now c.loop-axis.axis-index c.loop-axis.row c.cell_on.result c.loop-axis-test.true
    c.requires.parts c.cell_on.ensures.within c.loop-axis.invariant.1 in
    omega (arith, fits.1, c.requires.few)

pub loop-axis-preserved : goal.loop-axis-preserved
loop-axis-preserved c =
    let fits = row_fits c.args.axes.now c.loop-axis.axis-index c.loop-axis.row c.cell_on.result c.loop-axis-test.true
    c.requires.parts c.cell_on.ensures.within c.loop-axis.invariant.1 in
    let next = row_at c.args.space.now c.args.key.now c.args.object.now c.loop-axis.row c.args.axes.now
    c.loop-axis.axis-index c.cell_on.result c.loop-axis-test.true c.cell_on.ensures.exact in
    (next ∙ c.loop-axis.invariant.0, fits.0)
