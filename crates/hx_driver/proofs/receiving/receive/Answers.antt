use Rattle.std.proofs.Common.{◌≡◌, ◌∙◌, ap, sym, subst, refl, length, slice_index_or}
use mathlib.Core.List.{IsPrefix}
use Rattle.hx_types.specs.Posts.{IsSoundPost}
use Rattle.hx_types.specs.Words.{post}
use Rattle.hx_clock.specs.Views.{Knows}
use Rattle.hx_mail.specs.declared.views.PortView.{PortView}
use Rattle.hx_mail.specs.Ports.{mailed_of, sent_of}
use Rattle.hx_outbox.specs.Places.{place_of}
use Rattle.hx_outbox.proofs.Lemmas.{begins-refl}
use Rattle.hx_driver.specs.Inboxes.{ins_of, IsHeardFrom, taken_first}
use Rattle.hx_driver.proofs.Taking.{actor-below, exists-of, post-to, sound-to, taken-ins, taken-port, told-next}
use Rattle.hx_driver.proofs.receiving.receive.Goals as goal

pub returns-clause-desk : goal.returns-clause-desk
returns-clause-desk g c w rest h =
    let l = c.in_ok-port.field-0 in
    let here = subst (λ k. c.index-boxes-place.result
    ≡ slice_index_or c.args.floor.now.boxes.now k c.index-boxes-place.result) c.place_of-place.ensures
    c.index-boxes-place.is in
    let names = c.args.floor.now.boxed.each c.args.desk.now.actor
    (exists-of c.args.floor.now.script.now c.args.desk.now.actor h.exists) c.index-boxes-place.result here in
    let low = actor-below _ _ _ c.args.desk.now.actor c.args.floor.now.boxed h.exists in
    let ins = taken-ins w c.args.floor.now.boxes.now
    (place_of c.args.floor.now.script.now.space c.args.desk.now.actor) c.index-boxes-place.result
    c.args.desk.now.inbox c.take.new.port (sent_of l) here c.in_ok-port.ensures.port c.in_ok-port.ensures.taken h.inbox in
    record {
      exists = h.exists;
      seat = (c.learn.ensures.clock, c.learn.ensures.own l.envelope.bare _ _ h.seat.1);
      machine = h.machine;
      own = h.own;
      fed = h.fed;
      inbox = taken-port w c.args.floor.now.boxes.now
          (place_of c.args.floor.now.script.now.space c.args.desk.now.actor) c.index-boxes-place.result
          c.args.desk.now.inbox c.take.new.port (sent_of l) low here c.in_ok-port.ensures.port c.in_ok-port.ensures.taken h.inbox;
      heard = (
        c.count_taken.ensures.length ∙ h.heard.0,
        subst (IsHeardFrom 0 c.count_taken.new.heard.items) (sym ins)
            (c.count_taken.ensures.heard (ins_of c.args.desk.now.inbox) (mailed_of l.envelope) h.heard.1),
      );
      told = told-next _ rest _ _ (sent_of l) l.envelope.id l.envelope.post _ h.told ins refl
          (ap (post l.envelope.post.from c.args.desk.now.actor) c.into_message-message.ensures
          ∙ post-to c.args.floor.now.script.now c.args.floor.now.clock.now c.args.desk.now.actor _ l.envelope names
          c.in_ok-port.ensures.addressed);
      kept = h.kept;
      few = h.few;
    }

pub returns-clause-given : goal.returns-clause-given
returns-clause-given g c =
    let l = c.in_ok-port.field-0 in
    let h = c.requires.desk.2 in
    let here = subst (λ k. c.index-boxes-place.result
    ≡ slice_index_or c.args.floor.now.boxes.now k c.index-boxes-place.result) c.place_of-place.ensures
    c.index-boxes-place.is in
    let names = c.args.floor.now.boxed.each c.args.desk.now.actor
    (exists-of c.args.floor.now.script.now c.args.desk.now.actor h.exists) c.index-boxes-place.result here in
    let to = sym (ap (post l.envelope.post.from c.args.desk.now.actor) c.into_message-message.ensures
    ∙ post-to c.args.floor.now.script.now c.args.floor.now.clock.now c.args.desk.now.actor _ l.envelope names
    c.in_ok-port.ensures.addressed) in (
      (
        subst (Knows c.learn.new.seat.view l.envelope.id) to (c.learn.ensures.learned _ _ l.envelope.known),
        subst (IsSoundPost c.args.floor.now.script.now.space
            (length c.args.floor.now.script.now.sessions) l.envelope.id.entry) to
            (sound-to c.args.floor.now.script.now c.args.floor.now.clock.now c.args.desk.now.actor _ l.envelope names
            c.in_ok-port.ensures.addressed),
      ),
      refl,
    )

pub returns-in_err-port-clause-taken : goal.returns-in_err-port-clause-taken
returns-in_err-port-clause-taken g c = record {
  actor = refl;
  machine = refl;
  part = refl;
  kept = refl;
  ins = subst (λ (v : PortView). IsPrefix (ins_of c.args.desk.now.inbox) (taken_first v.lists))
      (sym c.in_err-port.ensures.taken.0) (begins-refl (ins_of c.args.desk.now.inbox));
}
