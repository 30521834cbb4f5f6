use Rattle.std.proofs.Common.{◌≡◌, length}
use Rattle.std.specs.List.{find}
use Rattle.hx_service.specs.Booking.{is_of}
use Rattle.hx_service.proofs.calling.booked_for.Given as goal

abbrev pub invariant-booked : goal.invariant-booked
invariant-booked l = find (is_of l.caller) l.booked ≡ find (is_of l.caller) l.rest

abbrev pub decreases-booked : goal.decreases-booked
decreases-booked l = length l.rest
