-- The places before the index are as after the edits, and the lengths are the same.
use Rattle.std.proofs.Common.{arith, refl, sym, ◌∙◌}
use Rattle.hx_legal.specs.Edited.{results_of}
use Rattle.hx_legal.proofs.Written.{length_differs, not_written, places_more, written_from_places}
use Rattle.hx_legal.proofs.edits.has_results.Goals as goal

pub returns-then-values-len : goal.returns-then-values-len
returns-then-values-len c =
    let sets = results_of c.args.before.now c.args.edits.now in
    (λ h. cc, λ e. absurd (length_differs c.args.values.now c.args.before.now sets (λ same. c.if-values-len.true (same ∙ sym c.len.ensures)) e))

pub returns-then-not-has_result : goal.returns-then-not-has_result
returns-then-not-has_result c =
    let sets = results_of c.args.before.now c.args.edits.now in (
      λ h. cc,
      λ e. absurd (not_written c.args.values.now c.args.before.now sets c.loop-place.place c.index-values-place.result
          c.loop-place-test.true c.index-values-place.is
          (λ has. let no = c.if-not-has_result.ensures.1 has in cc) e),
    )

pub loop-place-preserved : goal.loop-place-preserved
loop-place-preserved c =
    places_more c.args.values.now c.args.before.now (results_of c.args.before.now c.args.edits.now) c.loop-place.place c.index-values-place.result
    c.loop-place-test.true c.index-values-place.is (c.if-not-has_result.ensures.0 refl) c.loop-place.invariant

pub returns : goal.returns
returns c =
    let sets = results_of c.args.before.now c.args.edits.now in (
      λ h. written_from_places c.args.values.now c.args.before.now sets (c.if-values-len.false ∙ c.len.ensures)
          (λ p l. c.loop-place.invariant p (let end = c.loop-place-test.false in omega (arith, end, l))),
      λ e. refl,
    )
