-- What is booked at a place is that receipt.
use Rattle.std.proofs.Common.{Some, reverse, sym, ap, ◌∙◌}
use Rattle.std.proofs.lemmas.Bool.{ltb-false, ltb-true}
use Rattle.std.proofs.lemmas.Option.{slice_get-get_or}
use Rattle.hx_service.specs.declared.receipts.Receipt.{Receipt}
use Rattle.std.specs.Prelude.{List, slice_get}
use Rattle.hx_service.proofs.Finding.{none-at, noted-at, placed, read-at}
use Rattle.hx_service.proofs.receipts.Receipts.get.Goals as goal

pub receipt_in-requires : goal.receipt_in-requires
receipt_in-requires c =
    noted-at (reverse c.self.inside.trace.now) c.args.place c.in-Some.booked.now
    (placed (reverse c.self.inside.trace.now) c.self.inside.booked.now c.self.invariant c.args.place
    c.in-Some.booked.now (slice_get-get_or c.self.inside.booked.now c.args.place _
    (ltb-true _ _ (sym c.in-Some.ensures.lookup.0)) ∙ ap (λ b. Some b) (sym c.in-Some.ensures.lookup.1)))

pub returns-in-Some : goal.returns-in-Some
returns-in-Some c =
    read-at (reverse c.self.inside.trace.now) c.args.place c.in-Some.booked.now
    (placed (reverse c.self.inside.trace.now) c.self.inside.booked.now c.self.invariant c.args.place
    c.in-Some.booked.now (slice_get-get_or c.self.inside.booked.now c.args.place _
    (ltb-true _ _ (sym c.in-Some.ensures.lookup.0)) ∙ ap (λ b. Some b) (sym c.in-Some.ensures.lookup.1)))
    c.receipt_in.result.caller c.receipt_in.result.begin c.receipt_in.result.end c.receipt_in.result.version c.receipt_in.result.answer.now
    c.receipt_in.ensures.caller c.receipt_in.ensures.begin c.receipt_in.ensures.entry c.receipt_in.ensures.end
    ∙ ap (λ (l : List Receipt). slice_get l c.args.place) c.self.view_is

pub returns-in-None : goal.returns-in-None
returns-in-None c =
    none-at (reverse c.self.inside.trace.now) c.self.inside.booked.now c.self.invariant c.args.place (ltb-false _ _ (sym c.in-None.ensures.lookup.0))
    ∙ ap (λ (l : List Receipt). slice_get l c.args.place) c.self.view_is
