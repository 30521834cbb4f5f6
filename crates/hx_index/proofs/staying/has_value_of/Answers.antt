use Rattle.std.proofs.Common.{◌≡◌, ◌∙◌, ap, sym, subst}
use Rattle.std.specs.Cmp.Lexicographic.{nat_list_cmp_total, slice_cmp}
use Rattle.std.specs.Option.{option_cmp}
use Rattle.std.specs.Ordering.{nat_cmp}
use Rattle.std.specs.declared.cmp.Ordering.TheVariants.{Equal}
use Rattle.hx_index.specs.Orders.{compare_rows, compare_values, key_of}
use Rattle.hx_index.proofs.Totals.{rows-equal, same-self, value-above}
use Rattle.hx_index.proofs.staying.has_value_of.Goals as goal

pub returns-then-attribute-eq0 : goal.returns-then-attribute-eq0
returns-then-attribute-eq0 c t =
    let one = c.args.one.now in let other = c.args.other.now in
    subst (λ n. compare_rows n one other ≡ Equal) (sym c.if-attribute-eq0.true)
    (rows-equal 0 one other c.requires (ap (slice_cmp nat_cmp (key_of one)) (sym c.requires) ∙ same-self nat_list_cmp_total (key_of one)))

pub returns-in-Equal : goal.returns-in-Equal
returns-in-Equal c t =
    let one = c.args.one.now in let other = c.args.other.now in
    rows-equal c.args.attribute one other c.requires
    ((λ k. option_cmp compare_values ((value-above c.args.attribute one c.if-attribute-eq0.false ∙ sym c.get.ensures)
    k) ((value-above c.args.attribute other c.if-attribute-eq0.false ∙ sym c.get-2.ensures) k))
    ∙ sym c.compare_found.ensures ∙ c.in-Equal.is)
