-- The three answers of an offer, and what becomes of the slot.
use Rattle.std.proofs.Common.{◌≡◌, ◌+◌, List, ◌∙◌, ap, arith, length, refl, subst, suc, sym}
use Rattle.std.specs.List.{AllByRecursion}
use Rattle.std.proofs.lemmas.Bool.{eq-eqb, ne_eqb}
use Rattle.std.proofs.lemmas.List.{length-map}
use Rattle.hx_model.specs.Types.{Update}
use Rattle.hx_types.specs.declared.outcomes.Offer.TheVariants.{Accepted}
use Rattle.hx_model.specs.Slots.{Move, moved_all, taken, turns}
use Rattle.hx_slot.specs.declared.updates.PlacedUpdate.{PlacedUpdate}
use Rattle.hx_slot.specs.States.{IsLater, SlotState}
use Rattle.hx_slot.proofs.Offering.{accepted-turns, follows-read, held-read, offer-early, offer-taken, offered-early, offered-known, offered-taken}
use Rattle.hx_slot.proofs.Standing.{stands-offer}
use Rattle.hx_slot.proofs.Turns.{later-held}
use Rattle.hx_slot.proofs.slots.Slot.offer.Goals as goal

pub hold-requires-clause-held : goal.hold-requires-clause-held
hold-requires-clause-held c = held-read c.args.self.now.region c.args.update c.as_slice.result.now c.args.place _
    c.requires.place c.requires.placed (c.as_slice.ensures ∙ ap (λ (u : Update). u.places) c.deref-2.ensures)
    c.requires.after c.requires.few

pub returns-then-placed-top-clause-answer : goal.returns-then-placed-top-clause-answer
returns-then-placed-top-clause-answer c =
    let s = c.args.self.now in
    let top = c.top-top.ensures.top in
    let same = ap (λ (u : Update). u.version.0) c.deref.ensures in
    let up = c.if-deref-top.false in
    let follows = follows-read s.region c.args.update c.as_slice.result.now c.args.place _ c.top-top.result.0 _
    c.requires.place c.requires.placed (c.as_slice.ensures ∙ ap (λ (u : Update). u.places) c.deref-2.ensures) top
    ∙ ne_eqb _ c.top-top.result.0 c.if-placed-top.true in
    sym (offer-early s.region s.state c.args.update (omega (arith, top, up, same)) follows)

pub returns-then-placed-top-clause-state : goal.returns-then-placed-top-clause-state
returns-then-placed-top-clause-state c =
    let s = c.args.self.now in
    let top = c.top-top.ensures.top in
    let same = ap (λ (u : Update). u.version.0) c.deref.ensures in
    let up = c.if-deref-top.false in
    let follows = follows-read s.region c.args.update c.as_slice.result.now c.args.place _ c.top-top.result.0 _
    c.requires.place c.requires.placed (c.as_slice.ensures ∙ ap (λ (u : Update). u.places) c.deref-2.ensures) top
    ∙ ne_eqb _ c.top-top.result.0 c.if-placed-top.true in
    c.hold.ensures.state ∙ sym (ap (λ (moves : List Move). moved_all moves s.state)
    (offered-early s.region s.state c.args.update (omega (arith, top, up, same)) follows))

pub accept-requires-clause-held : goal.accept-requires-clause-held
accept-requires-clause-held c = held-read c.args.self.now.region c.args.update c.as_slice.result.now c.args.place _
    c.requires.place c.requires.placed (c.as_slice.ensures ∙ ap (λ (u : Update). u.places) c.deref-2.ensures)
    c.requires.after c.requires.few

pub returns-clause-answer : goal.returns-clause-answer
returns-clause-answer c =
    let s = c.args.self.now in
    let u = c.args.update in
    let top = c.top-top.ensures.top in
    let same = ap (λ (u : Update). u.version.0) c.deref.ensures in
    let up = c.if-deref-top.false in
    let follows = follows-read s.region u c.as_slice.result.now c.args.place _ c.top-top.result.0 _ c.requires.place
    c.requires.placed (c.as_slice.ensures ∙ ap (λ (u : Update). u.places) c.deref-2.ensures) top
    ∙ eq-eqb _ c.top-top.result.0 c.if-placed-top.false in
    let later = subst (λ (x : SlotState). AllByRecursion (IsLater x.region) x.state.early) c.self.view_is
    (later-held c.self.inside.region c.self.inside.early.items c.self.invariant.early) in
    let early = ap (λ (x : SlotState). length x.state.early) c.self.view_is in
    let held = length-map c.self.inside.early.items (λ (p : PlacedUpdate). p.update) in
    let most : c.len-most.result ≡ length s.state.early = omega (arith, early, held) in
    let after = accepted-turns s.region c.accept.new.self.region s.state c.accept.new.self.state u c.len-most.result
    c.accept.ensures.state c.accept.ensures.region most later in
    let count = c.accept_early.ensures.count ∙ ap (λ (moves : List Move). length (taken moves)) after in
    let is : 1 + c.accept_early.result ≡ suc (length (taken (turns s.region (length s.state.early) u.version.0 s.state.early))) = omega (arith, count) in
    ap Accepted is ∙ sym (offer-taken s.region s.state u (omega (arith, top, up, same)) follows)

pub returns-clause-state : goal.returns-clause-state
returns-clause-state c =
    let s = c.args.self.now in
    let u = c.args.update in
    let top = c.top-top.ensures.top in
    let same = ap (λ (u : Update). u.version.0) c.deref.ensures in
    let up = c.if-deref-top.false in
    let follows = follows-read s.region u c.as_slice.result.now c.args.place _ c.top-top.result.0 _ c.requires.place
    c.requires.placed (c.as_slice.ensures ∙ ap (λ (u : Update). u.places) c.deref-2.ensures) top
    ∙ eq-eqb _ c.top-top.result.0 c.if-placed-top.false in
    let later = subst (λ (x : SlotState). AllByRecursion (IsLater x.region) x.state.early) c.self.view_is
    (later-held c.self.inside.region c.self.inside.early.items c.self.invariant.early) in
    let early = ap (λ (x : SlotState). length x.state.early) c.self.view_is in
    let held = length-map c.self.inside.early.items (λ (p : PlacedUpdate). p.update) in
    let most : c.len-most.result ≡ length s.state.early = omega (arith, early, held) in
    let after = accepted-turns s.region c.accept.new.self.region s.state c.accept.new.self.state u c.len-most.result
    c.accept.ensures.state c.accept.ensures.region most later in
    c.accept_early.ensures.state
    ∙ ap (λ (moves : List Move). moved_all moves c.accept.new.self.state) after
    ∙ ap (moved_all (turns s.region (length s.state.early) u.version.0 s.state.early)) c.accept.ensures.state
    ∙ sym (ap (λ (moves : List Move). moved_all moves s.state) (offered-taken s.region s.state u (omega (arith, top, up, same)) follows))

pub returns-then-deref-top-clause-stands : goal.returns-then-deref-top-clause-stands
returns-then-deref-top-clause-stands c = λ s h.
    let top = c.top-top.ensures.top in
    let same = ap (λ (u : Update). u.version.0) c.deref.ensures in
    let up = c.if-deref-top.true in
    let v = c.args.self.now.state in
    let known = ap (λ (moves : List Move). moved_all moves v) (sym (offered-known c.args.self.now.region v c.args.update (omega (arith, top, up, same)))) in
    stands-offer c.args.self.now.region c.args.self.now.region v v s c.args.update c.requires.after known refl h

pub returns-then-placed-top-clause-stands : goal.returns-then-placed-top-clause-stands
returns-then-placed-top-clause-stands c = λ s h.
    stands-offer c.args.self.now.region c.hold.new.self.region c.args.self.now.state c.hold.new.self.state s
    c.args.update c.requires.after (returns-then-placed-top-clause-state c) c.hold.ensures.region h

pub returns-clause-stands : goal.returns-clause-stands
returns-clause-stands c = λ s h.
    stands-offer c.args.self.now.region c.accept_early.new.self.region c.args.self.now.state
    c.accept_early.new.self.state s c.args.update c.requires.after (returns-clause-state c)
    (c.accept_early.ensures.region ∙ c.accept.ensures.region) h
