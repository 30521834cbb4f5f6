-- The note of the end lies where the receipt says.
use Rattle.std.proofs.Common.{◌≡◌, None, Some, sym, ◌∙◌, arith}
use Rattle.hx_trace.specs.Entries.{entry_seen}
use Rattle.hx_service.proofs.EndNotes.{end-at, same-notes}
use Rattle.hx_service.proofs.receipts.receipt_in.Goals as goal

pub overflow_sub-booked : goal.overflow_sub-booked
overflow_sub-booked c = let low = (end-at c.args.trace.now c.args.booked.now.caller _ c.requires.ended).0 in omega (arith, low)

pub unreachable-requires : goal.unreachable-requires
unreachable-requires c =
    let at = (end-at c.args.trace.now c.args.booked.now.caller _ c.requires.ended).1 in
    let q : None ≡ Some at.0 = c.in_default.ensures ∙ at.1 in cc

pub unreachable-requires-in_default-ended_in : goal.unreachable-requires-in_default-ended_in
unreachable-requires-in_default-ended_in c =
    let at = (end-at c.args.trace.now c.args.booked.now.caller _ c.requires.ended).1 in
    let noted = same-notes at.0 (entry_seen c.in-Some.entry) c.args.booked.now.end c.args.booked.now.caller.number _ (c.in-Some.ensures ∙ at.1) at.2 in
    let q : None ≡ Some _ = c.in_default-ended_in.ensures c.args.booked.now.end ∙ noted in cc

pub returns-clause-end : goal.returns-clause-end
returns-clause-end c =
    let at = (end-at c.args.trace.now c.args.booked.now.caller _ c.requires.ended).1 in
    let noted = same-notes at.0 (entry_seen c.in-Some.entry) c.args.booked.now.end c.args.booked.now.caller.number _ (c.in-Some.ensures ∙ at.1) at.2 in
    c.requires.ended ∙ sym (c.in-Some-ended_in.ensures c.args.booked.now.end ∙ noted)
