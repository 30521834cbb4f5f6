use Rattle.std.proofs.Common.{◌&&◌, ap, sym, ◌∙◌}
use Rattle.std.specs.Str.{bytes_eq}
use Rattle.std.proofs.lemmas.Bool.{eq-eqb, ne_eqb}
use Rattle.hx_report_lines.proofs.Lengths.{printed_so}
use Rattle.hx_report_lines.proofs.items.is_line.Goals as goal

pub returns-then-ends : goal.returns-then-ends
returns-then-ends c =
    c.is-same.ensures
    ∙ sym
    (printed_so c.args.printed.now c.in-Some.front.now c.args.line.now c.in-Some.last.now c.in-Some.ensures.cases.0
    ∙ ap (λ b. b && bytes_eq c.in-Some.front.now c.args.line.now) (eq-eqb c.in-Some.last.now 10 c.if-ends.true))

pub returns-else-ends : goal.returns-else-ends
returns-else-ends c =
    ne_eqb c.in-Some.last.now 10 c.if-ends.false
    ∙ sym
    (printed_so c.args.printed.now c.in-Some.front.now c.args.line.now c.in-Some.last.now c.in-Some.ensures.cases.0
    ∙ ap (λ b. b && bytes_eq c.in-Some.front.now c.args.line.now) (ne_eqb c.in-Some.last.now 10 c.if-ends.false))
