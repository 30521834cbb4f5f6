use Rattle.std.proofs.Common.{◌≡◌, ◌+◌, ◌-◌, ◌/◌, Bool, ℕ, Option, slice_index_or, ap, sym, ◌∙◌, true, false, arith}
use Rattle.hx_model.specs.Types.{Row}
use Rattle.hx_index.specs.Invariant.{is_part}
use Rattle.hx_index.specs.Sides.{side_at}
use Rattle.hx_index.proofs.Halving.{between-above, between-below, half-digits, raised-least, raised-most}
use Rattle.hx_index.proofs.Siding.{parted}
use Rattle.hx_index.proofs.searching.end_of_part.Goals as goal

pub loop-low-preserved-then-is_part : goal.loop-low-preserved-then-is_part
loop-low-preserved-then-is_part g c =
    let rows = g.L.Look.rows c.args.look.now in
    let test : ℕ → Bool = λ i. is_part c.args.past (side_at rows c.args.term.now i) in
    let low = c.loop-low.low in let high = c.loop-low.high in
    let middle = low + (high - low) / 2 in
    let less = c.loop-low-test.true in
    let id = slice_index_or c.args.order.now middle 0 in
    let passes : test id ≡ true = ap (λ (r : ℕ → Option Row). is_part c.args.past (side_at r c.args.term.now id))
    (sym c.loop-low.invariant.rows) ∙ ap (is_part c.args.past) (sym c.side-side.ensures.side)
    ∙ sym c.is_part.ensures ∙ c.if-is_part.true in
    let up = raised-least (g.L.Look.looks c.loop-low.look) in
    let most = raised-most (g.L.Look.looks c.loop-low.look) in
    let counts = c.side-side.ensures.looks in
    let was = c.loop-low.invariant.counted in
    let few = c.loop-low.invariant.looks in
    let half = half-digits (high - (middle + 1)) (high - low) (omega (arith, less)) (omega (arith, less)) in
    record {
      rows = c.side-side.ensures.rows ∙ c.loop-low.invariant.rows;
      part = between-above test c.args.order.now (parted c.args.past c.args.term.now rows c.args.order.now
          c.requires.order.ascend) low high middle c.loop-low.invariant.part (omega arith) (omega (arith, less)) passes;
      counted = omega (arith, up, counts, was);
      looks = omega (arith, most, counts, few, half);
    }

pub loop-low-preserved : goal.loop-low-preserved
loop-low-preserved g c =
    let rows = g.L.Look.rows c.args.look.now in
    let test : ℕ → Bool = λ i. is_part c.args.past (side_at rows c.args.term.now i) in
    let low = c.loop-low.low in let high = c.loop-low.high in
    let middle = low + (high - low) / 2 in
    let less = c.loop-low-test.true in
    let id = slice_index_or c.args.order.now middle 0 in
    let fails : test id ≡ false = ap (λ (r : ℕ → Option Row). is_part c.args.past (side_at r c.args.term.now id))
    (sym c.loop-low.invariant.rows) ∙ ap (is_part c.args.past) (sym c.side-side.ensures.side)
    ∙ sym c.is_part.ensures ∙ c.if-is_part.false in
    let up = raised-least (g.L.Look.looks c.loop-low.look) in
    let most = raised-most (g.L.Look.looks c.loop-low.look) in
    let counts = c.side-side.ensures.looks in
    let was = c.loop-low.invariant.counted in
    let few = c.loop-low.invariant.looks in
    let half = half-digits (middle - low) (high - low) (omega (arith, less)) (omega (arith, less)) in
    record {
      rows = c.side-side.ensures.rows ∙ c.loop-low.invariant.rows;
      part = between-below test c.args.order.now (parted c.args.past c.args.term.now rows c.args.order.now
          c.requires.order.ascend) low high middle c.loop-low.invariant.part (omega arith) (omega (arith, less)) fails;
      counted = omega (arith, up, counts, was);
      looks = omega (arith, most, counts, few, half);
    }
