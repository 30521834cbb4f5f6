-- The three answers of an offer.
use Rattle.std.proofs.Common.{◌∙◌, ap, arith, sym}
use Rattle.std.proofs.lemmas.Bool.{eq-eqb, ne_eqb}
use Rattle.hx_slot.specs.States.{accepted_count}
use Rattle.hx_slot.proofs.Offering.{follows-read, offer-early, offer-known, offer-taken}
use Rattle.hx_slot.proofs.slots.Slot.would_accept.Goals as goal

pub returns-then-update-top : goal.returns-then-update-top
returns-then-update-top c =
    let s = c.args.self.now in
    let top = c.top-top.ensures.top in
    let up = c.if-update-top.true in
    sym (ap accepted_count (offer-known s.region s.state c.args.update.now (omega (arith, top, up))))

pub returns-then-as_slice-place : goal.returns-then-as_slice-place
returns-then-as_slice-place c =
    let s = c.args.self.now in
    let u = c.args.update.now in
    let top = c.top-top.ensures.top in
    let up = c.if-update-top.false in
    let follows = follows-read s.region u c.as_slice.result.now c.args.place _ c.top-top.result.0 _ c.requires.place
    c.requires.placed c.as_slice.ensures top ∙ ne_eqb _ c.top-top.result.0 c.if-as_slice-place.true in
    sym (ap accepted_count (offer-early s.region s.state u (omega (arith, top, up)) follows))

pub returns : goal.returns
returns c =
    let s = c.args.self.now in
    let u = c.args.update.now in
    let top = c.top-top.ensures.top in
    let up = c.if-update-top.false in
    let follows = follows-read s.region u c.as_slice.result.now c.args.place _ c.top-top.result.0 _ c.requires.place
    c.requires.placed c.as_slice.ensures top ∙ eq-eqb _ c.top-top.result.0 c.if-as_slice-place.false in
    let count = c.early_count_after.ensures.count in
    let is = ap accepted_count (offer-taken s.region s.state u (omega (arith, top, up)) follows) in
    omega (arith, count, is)
