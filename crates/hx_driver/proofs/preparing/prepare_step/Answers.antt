use Rattle.std.proofs.Common.{arith, ap, refl, List, ◌++◌, ◌∙◌}
use Rattle.hx_types.specs.declared.messages.Post.{Post}
use Rattle.hx_types.specs.declared.traces.Note.{Note}
use Rattle.hx_model.specs.Runs.{made_of}
use Rattle.hx_driver.specs.declared.desks.Desk.{Desk}
use Rattle.hx_driver.specs.Desks.{entries_before, past_of}
use Rattle.hx_driver.proofs.Results.{ok-from}
use Rattle.hx_driver.proofs.Taken.{can-take, given-view}
use Rattle.hx_driver.proofs.preparing.prepare_step.Goals as goal

pub step-requires : goal.step-requires
step-requires g c =
    let h = c.requires.desk.2 in
    let bound = c.now-drawn.ensures.bound in (
      c.args.floor.now.script.now,
      c.args.desk.now.actor,
      past_of c.args.desk.now.part.items,
      h.machine,
      can-take c.args.floor.now.script.now c.args.floor.now.clock.now _ _ _ c.args.desk.now c.now-drawn.result
          c.args.input.now c.args.floor.now.valid h c.requires.running c.now-drawn.ensures.later
          (omega (arith, bound)) c.requires.given,
    )

pub returns-clause-ready : goal.returns-clause-ready
returns-clause-ready g c =
    let h = c.requires.desk.2 in
    let script = c.args.floor.now.script.now in
    let d = c.args.desk.now in
    let bound = c.now-drawn.ensures.bound in
    let takes = can-take script c.args.floor.now.clock.now _ _ _ d c.now-drawn.result c.args.input.now
    c.args.floor.now.valid h c.requires.running c.now-drawn.ensures.later (omega (arith, bound)) c.requires.given in
    let past = past_of d.part.items in
    let after : Desk = record {
      actor = d.actor;
      machine = c.step.new.self;
      part = d.part;
      seat = c.now-drawn.new.seat;
      inbox = d.inbox;
      kept = d.kept;
      heard = d.heard;
      lent = record { posts = c.step.new.posts; notes = c.step.new.notes; copies = d.lent.copies };
    } in
    let made = made_of script (entries_before d.part.items) d.actor c.args.input.now in
    ok-from _ _ c.step.result c.step.ensures.change c.step.ensures.posts c.step.ensures.notes
    (λ change on posts notes. record {
      change = on script d.actor past h.machine takes;
      posts = posts script d.actor past h.machine takes ∙ ap (λ (l : List Post). l ++ made.posts) c.clear.ensures;
      notes = notes script d.actor past h.machine takes ∙ ap (λ (l : List Note). l ++ made.notes) c.clear-2.ensures;
      takes = takes;
      given = given-view script d after c.args.input.now refl c.now-drawn.ensures.seat c.requires.given;
    })
