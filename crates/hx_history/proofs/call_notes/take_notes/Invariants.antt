use Rattle.std.proofs.Common.{◌≡◌, ℕ, length}
use Rattle.std.specs.Option.{option_map}
use Rattle.hx_types.specs.Fitting.{numbered}
use Rattle.hx_history.specs.Calls.{after_notes, span_of}
use Rattle.hx_history.proofs.call_notes.take_notes.Given as goal

abbrev pub invariant-loop-note : goal.invariant-loop-note
invariant-loop-note l =
    record {
      spans : (n : ℕ) → option_map (after_notes l.session l.entry n l.rest) (option_map span_of (numbered l.row.items n))
          ≡ option_map (after_notes l.session l.entry n l.notes) (option_map span_of (numbered l.initial.row.items n));
      len : length l.row.items ≡ length l.initial.row.items;
    }

abbrev pub decreases-loop-note : goal.decreases-loop-note
decreases-loop-note l = length l.rest
