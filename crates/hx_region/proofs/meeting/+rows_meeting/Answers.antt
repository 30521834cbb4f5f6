-- The rest of the axes have parts too, and their rows stay within their size.
use Rattle.std.proofs.Common.{ℕ, ◌<◌, List, sym, ◌∙◌, subst, arith}
use Rattle.std.specs.List.{All}
use Rattle.hx_types.specs.Subspaces.{size_of}
use Rattle.hx_types.proofs.Lemmas.{parts_of_rest, small_rest}
use Rattle.hx_region.proofs.Meetings.{no_rows, rows_gathered, rows_met-below}
use Rattle.hx_region.proofs.meeting.+rows_meeting.Goals as goal

pub returns-then-cells-eq0 : goal.returns-then-cells-eq0
returns-then-cells-eq0 t c =
    c.new.ensures.items
    ∙ no_rows c.args.space.now c.args.terms.now c.args.axes.now c.in-Some.axis.now c.in-Some.rest.now
    c.allowed_cells-cells.result c.in-Some.ensures.cases.0 c.allowed_cells-cells.ensures c.if-cells-eq0.true

pub rows_meeting-requires : goal.rows_meeting-requires
rows_meeting-requires t c =
    let p = parts_of_rest c.args.axes.now c.in-Some.axis.now c.in-Some.rest.now c.in-Some.ensures.cases.0 c.requires.parts in (
      omega (arith, c.decreases, c.in-Some.ensures.cases.1),
      (c.requires.space, (p.1, small_rest c.args.axes.now c.in-Some.axis.now c.in-Some.rest.now c.in-Some.ensures.cases.0 p.0 c.requires.few)),
    )

pub size-requires-clause-parts : goal.size-requires-clause-parts
size-requires-clause-parts t c = (parts_of_rest c.args.axes.now c.in-Some.axis.now c.in-Some.rest.now c.in-Some.ensures.cases.0 c.requires.parts).1

pub rows_of_cells-requires-clause-rows : goal.rows_of_cells-requires-clause-rows
rows_of_cells-requires-clause-rows t c =
    subst (λ n. All (λ row. row < n) c.in_ok-rows_of_rest.rows_of_rest.items) (sym c.size.ensures)
    (subst (λ (l : List ℕ). All (λ row. row < size_of c.in-Some.rest.now) l) (sym c.in_ok-rows_of_rest.ensures)
    (rows_met-below c.args.space.now c.args.terms.now c.in-Some.rest.now))

pub returns : goal.returns
returns t c =
    rows_gathered c.args.space.now c.args.terms.now c.args.axes.now c.in-Some.axis.now c.in-Some.rest.now
    c.allowed_cells-cells.result c.size.result c.in_ok-rows_of_rest.rows_of_rest.items
    c.in_ok-rows.rows.items c.in-Some.ensures.cases.0 c.allowed_cells-cells.ensures c.size.ensures c.in_ok-rows_of_rest.ensures c.in_ok-rows.ensures
