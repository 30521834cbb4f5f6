-- The places before the index are as after the write, and the lengths are the same.
use Rattle.std.proofs.Common.{arith, refl, sym, ◌∙◌}
use Rattle.std.specs.Option.{option_copied, unwrap_or}
use Rattle.hx_types.specs.Effects.{defaults}
use Rattle.hx_legal.proofs.Written.{length_differs, not_written, places_more, written_from_places}
use Rattle.hx_legal.proofs.writes.has_written.Goals as goal

pub returns-then-values-len_before : goal.returns-then-values-len_before
returns-then-values-len_before c =
    let object = unwrap_or (option_copied c.args.before) (defaults c.args.space.now) in
    (λ h. cc, λ e. absurd (length_differs c.args.values.now object c.args.sets.now (λ same. c.if-values-len_before.true (same ∙ sym c.len_before.ensures)) e))

pub returns-then-not-has_value : goal.returns-then-not-has_value
returns-then-not-has_value c =
    let object = unwrap_or (option_copied c.args.before) (defaults c.args.space.now) in (
      λ h. cc,
      λ e. absurd (not_written c.args.values.now object c.args.sets.now c.loop-place.place c.index-values-place.result
          c.loop-place-test.true c.index-values-place.is
          (λ has. let no = c.if-not-has_value.ensures.1 has in cc) e),
    )

pub loop-place-preserved : goal.loop-place-preserved
loop-place-preserved c =
    places_more c.args.values.now (unwrap_or (option_copied c.args.before) (defaults c.args.space.now))
    c.args.sets.now c.loop-place.place c.index-values-place.result
    c.loop-place-test.true c.index-values-place.is (c.if-not-has_value.ensures.0 refl) c.loop-place.invariant

pub returns : goal.returns
returns c =
    let object = unwrap_or (option_copied c.args.before) (defaults c.args.space.now) in (
      λ h. written_from_places c.args.values.now object c.args.sets.now (c.if-values-len_before.false ∙ c.len_before.ensures)
          (λ p l. c.loop-place.invariant p (let end = c.loop-place-test.false in omega (arith, end, l))),
      λ e. refl,
    )
