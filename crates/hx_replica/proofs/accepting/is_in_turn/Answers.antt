use Rattle.std.proofs.Common.{◌==◌, ap, ◌∙◌}
use Rattle.std.specs.Prelude.{slice_get}
use Rattle.hx_model.specs.Slots.{top_of}
use Rattle.hx_replica.proofs.Offers.{follows_there, place_there}
use Rattle.hx_replica.proofs.accepting.is_in_turn.Goals as goal

pub returns-in-Some : goal.returns-in-Some
returns-in-Some c =
    ap (λ top. c.in-Some.place.now.after.0 == top) c.top.ensures.top
    ∙ follows_there c.args.context.now.region (top_of c.args.slot.now.state) c.args.update.now _
    (c.in-Some.ensures ∙ ap (slice_get c.args.update.now.places) c.requires.place ∙ place_there c.args.context.now.region c.args.update.now.places)

pub returns-in-None : goal.returns-in-None
returns-in-None c =
    follows_there c.args.context.now.region (top_of c.args.slot.now.state) c.args.update.now _
    (c.in-None.ensures ∙ ap (slice_get c.args.update.now.places) c.requires.place ∙ place_there c.args.context.now.region c.args.update.now.places)
