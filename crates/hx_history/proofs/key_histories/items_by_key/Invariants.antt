use Rattle.std.proofs.Common.{◌≡◌, ◌++◌, map}
use Rattle.hx_history.specs.Listed.{history_view}
use Rattle.hx_history.proofs.Listing.{histories_of}
use Rattle.hx_history.proofs.key_histories.items_by_key.Given as goal

abbrev pub invariant-loop-key : goal.invariant-loop-key
invariant-loop-key l =
    map history_view l.listed.items ++ histories_of l.script (λ g. g.items) l.key-iterator ≡ histories_of l.script (λ g. g.items) l.initial.key-iterator
