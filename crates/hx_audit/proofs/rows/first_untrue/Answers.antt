use Rattle.std.proofs.Common.{◌≡◌, None, Some, sym}
use Rattle.hx_audit.specs.Finished.{finished_view}
use Rattle.hx_audit.specs.Told.{search_told}
use Rattle.hx_audit.proofs.Truth.{no_rows, rows_told_true}
use Rattle.hx_audit.proofs.rows.first_untrue.Goals as goal

pub returns-in-Some : goal.returns-in-Some
returns-in-Some c =
    let e : search_told c.args.call.now ≡ Some (finished_view c.in-Some.search) = sym c.in-Some.ensures in
    rows_told_true c.args.block.now c.args.call.now (finished_view c.in-Some.search) _ _ e c.as_slice.ensures c.first_untrue_of.ensures

pub returns-in-None : goal.returns-in-None
returns-in-None c =
    let e : search_told c.args.call.now ≡ None = sym c.in-None.ensures in
    no_rows c.args.block.now c.args.call.now e
