-- A call that was made is one more; and none can be made for any session where none can for each.
use Rattle.std.proofs.Common.{ap, ◌∙◌, Err, Ok}
use Rattle.hx_share.proofs.Counts.{made_more}
use Rattle.hx_share.proofs.Left.{one_more}
use Rattle.hx_share.proofs.rest.make_one.Goals as goal

pub loop-place-preserved : goal.loop-place-preserved
loop-place-preserved g c =
    let none = ap Ok c.in-Ok-None.field-0-is in
    let same = c.in-Ok-None.ensures.same none ∙ c.loop-place.invariant.0 in
    (same, one_more g.C.Charter.script _ _ c.loop-place.place c.loop-place.invariant.0 c.loop-place.invariant.1 (c.in-Ok-None.ensures.none.0 none))

pub returns-in-Ok-Some-clause-made : goal.returns-in-Ok-Some-clause-made
returns-in-Ok-Some-clause-made g c is =
    made_more c.args.roster.now c.loop-place.roster c.next.new.self _ c.loop-place.invariant.0 c.next.ensures.grows.script
    (c.in-Ok-Some.ensures.made c.in-Ok-Some.field-0-0 (ap Ok c.in-Ok-Some.field-0-is)).2

pub returns-in-Err-Unanswered-clause-made : goal.returns-in-Err-Unanswered-clause-made
returns-in-Err-Unanswered-clause-made g c is =
    made_more c.args.roster.now c.loop-place.roster c.next.new.self _ c.loop-place.invariant.0 c.next.ensures.grows.script
    (c.in-Err-Unanswered.ensures.unanswered c.in-Err-Unanswered.field-0-0 (ap Err c.in-Err-Unanswered.field-0-is)).1
