use Rattle.std.proofs.Common.{◌≡◌, ◌+◌, ◌++◌, ◌≤◌, length}
use Rattle.std.specs.Prelude.{vec_capacity}
use Rattle.hx_service.specs.Booking.{booked_among}
use Rattle.hx_service.specs.Progress.{after_notes}
use Rattle.hx_service.proofs.booking.book_notes.Given as goal

abbrev pub invariant-notes : goal.invariant-notes
invariant-notes l = record {
  progress : after_notes l.entry l.notes l.initial.progress ≡ after_notes l.entry l.rest l.progress;
  booked : l.initial.booked.items ++ booked_among l.session l.entry l.notes l.initial.progress ≡ l.booked.items
      ++ booked_among l.session l.entry l.rest l.progress;
  room : length l.booked.items + length l.rest ≤ vec_capacity l.booked;
}

abbrev pub decreases-notes : goal.decreases-notes
decreases-notes l = length l.rest
