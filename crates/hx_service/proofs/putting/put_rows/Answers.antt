-- One row after the other is put and counted.
use Rattle.std.proofs.Common.{◌∙◌, ◌∷◌, ap, refl, sym}
use Rattle.hx_model.specs.Types.{Row}
use Rattle.hx_service.proofs.Made.{on}
use Rattle.hx_service.proofs.Puts.{at-first, further, room, row-here}
use Rattle.hx_service.proofs.putting.put_rows.Goals as goal

pub rows-init : goal.rows-init
rows-init c = at-first c.args.service.now c.args.session c.args.sets.now c.args.rows.now c.requires.may (record { done = 0; left = 0 }) refl refl

pub put_row-requires-clause-row : goal.put_row-requires-clause-row
put_row-requires-clause-row c =
    row-here c.args.service.now c.args.session c.args.sets.now c.args.rows.now c.rows.rest.now c.in-Some.after.now
    c.get.result.now c.rows.service c.rows.grouped
    c.rows.invariant
    (c.in-Some.ensures.cases.0 ∙ ap (λ (r : Row). r ∷ c.in-Some.after.now) (sym c.get.ensures)) c.requires.rows

pub returns-in_err-receipt-clause-grows : goal.returns-in_err-receipt-clause-grows
returns-in_err-receipt-clause-grows c = on c.args.service.now c.rows.service c.put_row.new.service c.rows.invariant.put.made.grows c.put_row.ensures.grows

pub with_put-grouped-requires : goal.with_put-grouped-requires
with_put-grouped-requires c =
    room c.args.service.now c.args.session c.args.sets.now c.args.rows.now c.rows.rest.now c.in-Some.after.now
    c.get.result.now c.rows.service c.put_row.new.service
    c.rows.grouped c.in_ok-receipt.receipt c.rows.invariant
    (c.in-Some.ensures.cases.0 ∙ ap (λ (r : Row). r ∷ c.in-Some.after.now) (sym c.get.ensures))
    c.in_ok-receipt.ensures.made c.in_ok-receipt.ensures.may c.put_row.ensures.valid

pub rows-preserved : goal.rows-preserved
rows-preserved c =
    further c.args.service.now c.args.session c.args.sets.now c.args.rows.now c.rows.rest.now c.in-Some.after.now
    c.get.result.now c.rows.service c.put_row.new.service
    c.rows.grouped c.with_put-grouped.result c.in_ok-receipt.receipt c.rows.invariant
    (c.in-Some.ensures.cases.0 ∙ ap (λ (r : Row). r ∷ c.in-Some.after.now) (sym c.get.ensures)) c.in_ok-receipt.ensures.made c.in_ok-receipt.ensures.may
    c.with_put-grouped.ensures.done c.with_put-grouped.ensures.left
