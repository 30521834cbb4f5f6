use Rattle.std.proofs.Common.{sym, subst}
use Rattle.std.proofs.lemmas.List.Elements.{All-nil, All-push}
use Rattle.std.specs.List.{All}
use Rattle.hx_report.specs.PrintedRows.{IsLine}
use Rattle.hx_report.proofs.Ranges.{all_at}
use Rattle.hx_report.proofs.printed_rows.keep_made.Goals as goal

pub made-init : goal.made-init
made-init c =
    record {
      printed = λ space is. record { rows = is.rows; made = is.made };
      both = λ space is.
          let P = IsLine space c.args.printed.now.lines.items in
          subst (All P) (sym c.clear.ensures.items) (All-nil P);
    }

pub made-preserved : goal.made-preserved
made-preserved c =
    record {
      printed = λ space is. let p = c.made.invariant.printed space is in record { rows = p.rows; made = p.made };
      both = λ space is.
          let p = c.made.invariant.printed space is in
          let P = IsLine space c.made.printed.lines.items in
          let made =
          all_at P c.made.printed.made.items c.deref.result.now c.made.next c.in-Some.made.now c.deref.ensures.value
          c.in-Some.ensures.lookup.3.0 c.in-Some.ensures.lookup.1 p.made in
          let rows = subst (All P) (sym c.deref-in-Some.ensures.value) p.rows in
          let both = c.in_ok-place.ensures space c.made.printed.lines.items rows (c.made.invariant.both space is) in
          subst (All P) (sym c.in_ok-push.ensures.items) (All-push P c.take_lower.new.both.items c.in-Some.made.now both made);
    }

pub returns : goal.returns
returns c =
    λ space is.
    let p = c.made.invariant.printed space is in
    let P = IsLine space c.made.printed.lines.items in
    let rows = subst (All P) (sym c.deref-2.ensures.value) p.rows in
    let both = c.in_ok-take_lower.ensures space c.made.printed.lines.items rows (c.made.invariant.both space is) in
    record {
      rows = subst (λ rows. All P rows.items) (sym c.swap.ensures.x_after) both;
      made = subst (All P) (sym c.clear-2.ensures.items) (All-nil P);
    }
