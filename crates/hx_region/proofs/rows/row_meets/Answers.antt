-- The regions left are the size of the axes left, and the row's cell is their quotient.
use Rattle.std.proofs.Common.{◌+◌, ◌<◌, sym, ◌∙◌, subst}
use Rattle.hx_region.proofs.Sizes.{meets_not, meets_rest, regions_after, rest-positive}
use Rattle.hx_region.proofs.rows.row_meets.Goals as goal

pub nonzero_div-row : goal.nonzero_div-row
nonzero_div-row c =
    let left = regions_after c.args.axes.now c.loop-axis.axis-index c.loop-axis.regions c.loop-axis-test.true c.requires.parts c.loop-axis.invariant.1 in
    subst (λ n. 0 < n) (sym left) (rest-positive c.args.axes.now (c.loop-axis.axis-index + 1) c.requires.parts)

pub nonzero_rem-row : goal.nonzero_rem-row
nonzero_rem-row c =
    let left = regions_after c.args.axes.now c.loop-axis.axis-index c.loop-axis.regions c.loop-axis-test.true c.requires.parts c.loop-axis.invariant.1 in
    subst (λ n. 0 < n) (sym left) (rest-positive c.args.axes.now (c.loop-axis.axis-index + 1) c.requires.parts)

pub returns-then-not-all_allow : goal.returns-then-not-all_allow
returns-then-not-all_allow c =
    let left = regions_after c.args.axes.now c.loop-axis.axis-index c.loop-axis.regions c.loop-axis-test.true c.requires.parts c.loop-axis.invariant.1 in
    let not = meets_not c.args.space.now c.args.terms.now c.loop-axis.row c.args.axes.now c.loop-axis.axis-index _
    c.loop-axis-test.true left (sym c.all_allow.ensures ∙ c.if-not-all_allow.true) in
    sym not ∙ c.loop-axis.invariant.0

pub loop-axis-preserved : goal.loop-axis-preserved
loop-axis-preserved c =
    let left = regions_after c.args.axes.now c.loop-axis.axis-index c.loop-axis.regions c.loop-axis-test.true c.requires.parts c.loop-axis.invariant.1 in
    let rest = meets_rest c.args.space.now c.args.terms.now c.loop-axis.row c.args.axes.now c.loop-axis.axis-index _
    c.loop-axis-test.true left (sym c.all_allow.ensures ∙ c.if-not-all_allow.false) in
    (sym rest ∙ c.loop-axis.invariant.0, left)
