-- How receipts are read: each names the entry that ended its call, and the version and the answer lie in that entry's note.
use Rattle.std.specs.Prelude.{◌≡◌, ℕ, List, map, Some}
use Rattle.hx_model.specs.Types.{Answer, Entry, Version}
use Rattle.std.specs.Borrow.{Bor}
use Rattle.hx_model.specs.Histories.{CallEnd, note_of_end}
use Rattle.hx_service.specs.declared.receipts.Booked.{Booked}
use Rattle.hx_service.specs.declared.receipts.Receipt.{Receipt}
use Rattle.hx_service.specs.declared.receipts.ReceiptRef.{ReceiptRef}
use Rattle.hx_types.specs.Words.{IsIn}
use Rattle.hx_service.specs.Booking.{booked_as}
use Rattle.hx_service.specs.Receipts.{IsReceiptOf, receipts_of}

-- the end that is lent
abbrev pub end_seen : ℕ → Version × Bor Answer → CallEnd
end_seen entry e = record { entry = entry; version = e.0; answer = e.1.now }

-- the receipt that is lent
abbrev pub receipt_seen : ReceiptRef → Receipt
receipt_seen r = record { caller = r.caller; begin = r.begin; end = r.end; version = r.version; answer = r.answer.now }

-- the call ended at the entry that is booked
pub record IsNoted (trace : List Entry) (b : Booked) : Type 0 where
  pub version : Version
  pub answer : Answer
  pub ended : note_of_end b.caller trace ≡ Some (record { entry = b.end; version = version; answer = answer })

-- what is booked are the receipts of the trace, and each is its call's record
pub record AreReceipts (trace : List Entry) (booked : List Booked) : Type 0 where
  pub booked_is : booked ≡ map booked_as (receipts_of trace)
  pub each : (r : Receipt) → IsIn r (receipts_of trace) → IsReceiptOf trace r
