use Rattle.std.proofs.Common.{◌≡◌, map, take}
use Rattle.hx_history.specs.Listed.{history_view}
use Rattle.hx_history.proofs.key_histories.copies_of.Given as goal

abbrev pub invariant-loop-history : goal.invariant-loop-history
invariant-loop-history l = l.made ≡ map history_view (take l.history-index l.listed)
