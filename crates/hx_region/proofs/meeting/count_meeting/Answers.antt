-- The next axis takes its factor of the count, and the count stays below the size so far.
use Rattle.std.proofs.Common.{◌≤◌, get_or, length, arith}
use Rattle.hx_region.specs.Ranges.{rows_met}
use Rattle.hx_region.proofs.Meetings.{count_at}
use Rattle.hx_region.proofs.Sizes.{cells_fit, no_axis}
use Rattle.hx_region.proofs.meeting.count_meeting.Goals as goal

pub overflow_mul-count : goal.overflow_mul-count
overflow_mul-count c =
    let cells = c.allowed_cells-count.result in
    let few : cells.count ≤ (get_or c.args.axes.now c.loop-axis.axis-index no_axis).parts =
    (let w = c.allowed_cells-count.ensures.within in omega (arith, w)) in
    let fits = cells_fit c.args.axes.now c.loop-axis.axis-index c.loop-axis.count cells.count c.loop-axis-test.true
    c.requires.parts few c.loop-axis.invariant.1 in
    omega (arith, fits.1, c.requires.few)

pub loop-axis-preserved : goal.loop-axis-preserved
loop-axis-preserved c =
    let cells = c.allowed_cells-count.result in
    let few : cells.count ≤ (get_or c.args.axes.now c.loop-axis.axis-index no_axis).parts =
    (let w = c.allowed_cells-count.ensures.within in omega (arith, w)) in
    let fits = cells_fit c.args.axes.now c.loop-axis.axis-index c.loop-axis.count cells.count c.loop-axis-test.true
    c.requires.parts few c.loop-axis.invariant.1 in
    let next = count_at c.args.space.now c.args.terms.now c.args.axes.now c.loop-axis.axis-index c.loop-axis.count
    (length (rows_met c.args.space.now c.args.terms.now c.args.axes.now)) cells
    c.loop-axis-test.true c.allowed_cells-count.ensures c.loop-axis.invariant.0 in
    (next, fits.0)
