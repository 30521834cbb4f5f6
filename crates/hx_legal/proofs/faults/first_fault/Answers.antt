-- The items before the index are legal, and the item at it is no effect.
use Rattle.std.specs.Option.{option_copied}
use Rattle.hx_legal.proofs.Fronts.{fault_at, not_legal}
use Rattle.hx_legal.proofs.faults.first_fault.Goals as goal

pub returns-then-not-is_effect-clause-none : goal.returns-then-not-is_effect-clause-none
returns-then-not-is_effect-clause-none c = (
  λ none. absurd (cc),
  λ legal. absurd (not_legal c.args.space.now c.args.items.now c.loop-place.place c.index-items-place.result
      c.loop-place-test.true c.index-items-place.is (option_copied c.loop-place.before)
      c.loop-place.invariant.0 (λ effect. let no = c.if-not-is_effect.ensures.1 effect in cc) legal),
)

pub returns-then-not-is_effect-clause-first : goal.returns-then-not-is_effect-clause-first
returns-then-not-is_effect-clause-first c =
    fault_at c.args.space.now c.args.items.now c.loop-place.place c.index-items-place.result c.loop-place-test.true
    c.index-items-place.is (option_copied c.loop-place.before)
    c.loop-place.invariant.0 (λ effect. let no = c.if-not-is_effect.ensures.1 effect in cc) c.loop-place.invariant.1
