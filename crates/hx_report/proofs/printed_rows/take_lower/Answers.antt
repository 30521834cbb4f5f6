use Rattle.std.proofs.Common.{refl, sym, subst}
use Rattle.std.proofs.lemmas.List.Elements.{All-push}
use Rattle.std.specs.List.{All}
use Rattle.hx_report.specs.PrintedRows.{IsLine}
use Rattle.hx_report.proofs.Ranges.{all_at}
use Rattle.hx_report.proofs.printed_rows.take_lower.Goals as goal

pub lower-preserved : goal.lower-preserved
lower-preserved c =
    λ space lines rows both.
    let other : IsLine space lines c.in-Some.other.now =
    all_at (IsLine space lines) c.args.rows.now c.args.rows.now c.lower.place c.in-Some.other.now refl
    c.in-Some.ensures.lookup.3.0 c.in-Some.ensures.lookup.1 rows in
    subst (All (IsLine space lines)) (sym c.in_ok-push.ensures.items)
    (All-push (IsLine space lines) c.lower.both.items c.in-Some.other.now (c.lower.invariant space lines rows both) other)
