use Rattle.std.proofs.Common.{arith, ◌≡◌, ◌+◌, ◌∙◌, refl, sym, ap, subst, length, length-append, [], ◌∷◌, ◌++◌, append-nil}
use Rattle.std.specs.List.{AllByRecursion}
use Rattle.hx_types.specs.Posts.{IsSoundPost}
use Rattle.hx_clock.specs.Parts.{stamped}
use Rattle.hx_clock.specs.Seats.{Seated}
use Rattle.hx_clock.specs.Views.{Owns}
use Rattle.hx_law_threads.specs.Feeding.{IsFed, entries_in}
use Rattle.hx_law_threads.specs.Own.{IsOwn}
use Rattle.hx_machine.specs.Machines.{IsMachine}
use Rattle.hx_outbox.specs.Offers.{IsOffered}
use Rattle.hx_outbox.specs.Places.{place_of}
use Rattle.hx_driver.specs.Desks.{entries_before, past_of}
use Rattle.hx_driver.specs.Inboxes.{ins_of}
use Rattle.hx_driver.proofs.Made.{entry_on, made-long, made-one, next-fed, next-meets, next-of, next-own, next-sound, next-told, owns-carries, past-next}
use Rattle.hx_driver.proofs.entering.make_entry.Goals as goal

pub make-requires : goal.make-requires
make-requires g c =
    let d = c.args.desk.now in
    let ready = c.requires.step.0 in
    (c.args.floor.now.script.now, d.actor, past_of d.part.items, c.args.input, c.requires.desk.1.machine, ready.takes, ready.change)

pub act_on-stamp-requires-clause-cause : goal.act_on-stamp-requires-clause-cause
act_on-stamp-requires-clause-cause g c =
    let d = c.args.desk.now in
    let n = next-of c.args.floor.now.script.now d c.args.input c.args.change c.requires.step.0 c.requires.step.1 in
    next-meets c.args.floor.now.script.now d (entry_on d c.args.input) n

pub act_on-stamp-requires-clause-own : goal.act_on-stamp-requires-clause-own
act_on-stamp-requires-clause-own g c = (
  place_of c.args.floor.now.script.now.space c.args.desk.now.actor,
  c.args.desk.now.part.items,
  c.requires.desk.1.seat.1,
  c.requires.places.1,
)

pub offer_all-requires-clause-made : goal.offer_all-requires-clause-made
offer_all-requires-clause-made g c =
    let d = c.args.desk.now in
    let k = place_of c.args.floor.now.script.now.space d.actor in
    let x = stamped c.act_on-stamp.result.0 (entry_on d c.args.input) in (
      x,
      owns-carries c.act_on-stamp.new.seat.view k d.part.items x (c.act_on-stamp.ensures.own k d.part.items c.requires.desk.1.seat.1),
      refl,
      sym c.requires.copies.0,
    )

pub offer_all-requires-clause-sound : goal.offer_all-requires-clause-sound
offer_all-requires-clause-sound g c =
    let d = c.args.desk.now in
    let h = c.requires.desk.1 in
    let script = c.args.floor.now.script.now in
    let n = next-of script d c.args.input c.args.change c.requires.step.0 c.requires.step.1 in
    subst (AllByRecursion (IsSoundPost script.space (length script.sessions) (c.act_on-stamp.result.0 + 1))) (sym c.requires.copies.0)
    (next-sound script d (place_of script.space d.actor) c.act_on-stamp.result.0 (entry_on d c.args.input) h.seat.1 c.act_on-stamp.ensures.later h.own h.fed n)

pub offer_all-requires-clause-length : goal.offer_all-requires-clause-length
offer_all-requires-clause-length g c = omega (arith, ap length c.requires.copies.0, c.requires.copies.1)

pub offer_all-requires-clause-room : goal.offer_all-requires-clause-room
offer_all-requires-clause-room g c =
    let kept = c.requires.places.0.kept in
    omega (arith, ap length c.requires.copies.0, kept)

pub returns-clause-desk : goal.returns-clause-desk
returns-clause-desk g c w h =
    let d = c.args.desk.now in
    let script = c.args.floor.now.script.now in
    let a = d.actor in
    let k = place_of script.space a in
    let part = d.part.items in
    let r = entry_on d c.args.input in
    let x = stamped c.act_on-stamp.result.0 r in
    let is : c.push_reserved.new.self.items ≡ part ++ x ∷ [] = c.push_reserved.ensures.items in
    let ready = c.requires.step.0 in
    let n = next-of script d c.args.input c.args.change ready c.requires.step.1 in
    let past = sym (past-next part c.push_reserved.new.self.items x is) in
    record {
      exists = h.exists;
      seat = (
        ap (λ (s : Seated). s.clock) c.offer_all.ensures.seat ∙ c.act_on-stamp.ensures.clock,
        subst (Owns c.offer_all.new.seat.view k) (sym is)
            (subst (λ (s : Seated). Owns s.view k (part ++ x ∷ [])) (sym c.offer_all.ensures.seat)
            (c.act_on-stamp.ensures.own k part h.seat.1)),
      );
      machine = subst (λ xs. IsMachine script a (entries_in xs) c.make.new.self) past
          (subst (λ y. IsMachine script a (y ∷ entries_before part) c.make.new.self) (sym n.step)
          (c.make.ensures script a (past_of part) c.args.input h.machine ready.takes ready.change));
      own = subst (λ xs. IsOwn script a (entries_in xs)) past (next-own script d r h.own n);
      fed = subst (IsFed script) past (next-fed script d k c.act_on-stamp.result.0 r h.seat.1 c.act_on-stamp.ensures.later h.fed n);
      inbox = h.inbox;
      heard = h.heard;
      told = next-told script d c.act_on-stamp.result.0 r c.push_reserved.new.self.items _ n is h.told;
      kept = c.offer_all.ensures.good h.kept;
      few = omega (arith, ap length is, length-append part (x ∷ []), c.requires.places.1);
    }

pub returns-clause-turn : goal.returns-clause-turn
returns-clause-turn g c =
    let d = c.args.desk.now in
    let part = d.part.items in
    let r = entry_on d c.args.input in
    let x = stamped c.act_on-stamp.result.0 r in
    let is : c.push_reserved.new.self.items ≡ part ++ x ∷ [] = c.push_reserved.ensures.items in
    let n = next-of c.args.floor.now.script.now d c.args.input c.args.change c.requires.step.0 c.requires.step.1 in
    let same = sym c.requires.copies.0 in (
      x,
      n.step,
      record {
        later = record { actor = refl; part = (x ∷ [], sym is); ins = ([], append-nil (ins_of d.inbox)) };
        part = is;
        out = c.offer_all.ensures.out;
        more = c.offer_all.ensures.more;
        offered = subst (IsOffered _ _ _ _ _ _) (made-one c.act_on-stamp.result.0 r d.lent.copies.firsts.items same) c.offer_all.ensures.offered;
        total = c.offer_all.ensures.total;
        one = omega arith;
        few = omega (arith, made-long c.act_on-stamp.result.0 r d.lent.posts refl, c.requires.copies.1);
      },
    )
