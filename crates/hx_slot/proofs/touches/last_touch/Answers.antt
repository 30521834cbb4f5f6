-- The last update of those that are left has a place there, or leaves it to those before it.
use Rattle.std.proofs.Common.{ℕ, Option, ◌∙◌, ap, sym}
use Rattle.std.specs.Option.{unwrap_or}
use Rattle.hx_model.specs.Types.{Update, Version}
use Rattle.hx_model.specs.Places.{touched_in}
use Rattle.hx_slot.proofs.Regions.{has-read, number-or_zero, touched-among, touched-earlier, touched-here, touched-none}
use Rattle.hx_slot.proofs.touches.last_touch.Goals as goal

pub returns-then-has_place : goal.returns-then-has_place
returns-then-has_place c =
    let has = has-read c.args.region c.in-Some.taken.now _ _ c.has_place.result c.deref.ensures c.as_slice.ensures c.has_place.ensures in
    ap (λ (u : Update). u.version.0) c.deref-then-has_place.ensures
    ∙ touched-here c.args.region (touched_in c.args.region c.args.touches.now) _ _ c.in-Some.taken.now c.in-Some.ensures.cases.0 (sym has ∙ c.if-has_place.true)
    ∙ c.loop-taken.invariant

pub loop-taken-preserved : goal.loop-taken-preserved
loop-taken-preserved c =
    let has = has-read c.args.region c.in-Some.taken.now _ _ c.has_place.result c.deref.ensures c.as_slice.ensures c.has_place.ensures in
    touched-earlier c.args.region (touched_in c.args.region c.args.touches.now) _ _ c.in-Some.taken.now
    c.in-Some.ensures.cases.0 (sym has ∙ c.if-has_place.false)
    ∙ c.loop-taken.invariant

pub returns : goal.returns
returns c =
    ap (λ (v : Version). v.0) c.unwrap_or.ensures
    ∙ number-or_zero c.touch_of.result
    ∙ ap (λ (o : Option ℕ). unwrap_or o 0) c.touch_of.ensures
    ∙ touched-among c.args.region c.args.touches.now
    ∙ touched-none c.args.region (touched_in c.args.region c.args.touches.now) _ (sym c.in_default.ensures.cases)
    ∙ c.loop-taken.invariant
