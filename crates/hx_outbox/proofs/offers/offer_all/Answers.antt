use Rattle.std.proofs.Common.{List, arith, refl, ap, sym, subst, ◌∙◌, ◌++◌, ◌∷◌, [], length-append, append_assoc, slice_get}
use Rattle.hx_types.specs.declared.messages.Post.{Post}
use Rattle.hx_clock.specs.Views.{Carries}
use Rattle.hx_clock.specs.Seats.{Seated}
use Rattle.hx_outbox.specs.Offers.{IsOffered}
use Rattle.hx_outbox.proofs.Outs.{more-refl, more-trans}
use Rattle.hx_outbox.proofs.Offering.{item-at, item-each, named-next, offered-both, offered-few, offered-long, offered-none, seconds-left}
use Rattle.hx_outbox.proofs.offers.offer_all.Goals as goal

pub loop-place-init : goal.loop-place-init
loop-place-init g c = (
  [],
  refl,
  c.requires.out,
  refl,
  more-refl _,
  (λ k. k),
  refl,
  omega arith,
  omega arith,
  omega arith,
  c.requires.total,
  refl,
  refl,
  c.requires.seconds,
  offered-none _ _ _ _ (λ h. refl),
)

pub offer_one-requires-clause-made : goal.offer_one-requires-clause-made
offer_one-requires-clause-made g c =
    let i = c.loop-place.invariant in
    let m = c.requires.made in
    let all = ap (λ (l : List Post). i.0 ++ l) (sym c.in-Some.ensures.items) ∙ i.12 in (
      m.0,
      subst (λ (s : Seated). Carries s.view m.0) (sym i.1) m.1,
      (
        m.2,
        ap (λ l. slice_get l c.loop-place.place) m.3 ∙ ap (slice_get c.args.copies.now.firsts.items) i.11
            ∙ item-at i.0 c.in-Some.post c.pop_front.new.self.items c.args.copies.now.firsts.items all,
      ),
    )

pub offer_one-requires-clause-second : goal.offer_one-requires-clause-second
offer_one-requires-clause-second g c may = (c.pop_front.new.self.items, c.loop-place.invariant.13 may ∙ c.in-Some.ensures.items)

pub offer_one-requires-clause-sound : goal.offer_one-requires-clause-sound
offer_one-requires-clause-sound g c =
    let i = c.loop-place.invariant in
    let all = ap (λ (l : List Post). i.0 ++ l) (sym c.in-Some.ensures.items) ∙ i.12 in
    item-each _ i.0 c.in-Some.post c.pop_front.new.self.items c.args.copies.now.firsts.items all c.requires.sound

pub loop-place-preserved : goal.loop-place-preserved
loop-place-preserved g c =
    let i = c.loop-place.invariant in
    let n = c.offer_one.ensures in
    let posts = n.offered.posts in
    let named = sym (named-next c.args.entry i.0 c.in-Some.post c.loop-place.place i.11) in
    let offered = subst (IsOffered _ _ _ _ _ _) named (offered-both _ _ _ _ _ _ _ _ _ _ _ i.14 n.offered) in (
      i.0 ++ c.in-Some.post ∷ [],
      n.seat ∙ i.1,
      n.out.0,
      n.out.1 ∙ i.3,
      more-trans _ _ _ i.4 n.more,
      (λ k. n.good (i.5 k)),
      n.capacity.0 ∙ i.6,
      omega (arith, n.capacity.1, i.7),
      omega (arith, offered-few _ _ _ _ _ _ _ n.offered, i.8),
      omega (arith, posts, i.9, offered-long _ _ _ _ _ _ _ n.offered),
      n.total,
      omega (arith, i.11, length-append i.0 (c.in-Some.post ∷ [])),
      append_assoc i.0 (c.in-Some.post ∷ []) c.pop_front.new.self.items ∙ ap (λ (l : List Post). i.0 ++ l) (sym c.in-Some.ensures.items) ∙ i.12,
      seconds-left _ _ _ _ _ _ _ _ _ _ _ _ n.offered i.13 c.in-Some.ensures.items n.seconds,
      offered,
    )
