use Rattle.std.proofs.Common.{◌≡◌, ℕ, length}
use Rattle.hx_model.specs.Histories.{ends_in}
use Rattle.hx_service.proofs.receipts.ended_in.Given as goal

abbrev pub invariant-notes : goal.invariant-notes
invariant-notes l = (entry : ℕ) → ends_in entry l.number l.notes ≡ ends_in entry l.number l.rest

abbrev pub decreases-notes : goal.decreases-notes
decreases-notes l = length l.rest
