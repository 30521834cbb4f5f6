use Rattle.std.proofs.Common.{◌≡◌, ◌++◌, drop}
use Rattle.std.specs.List.{flat_map}
use Rattle.hx_history.specs.Searches.{searches_in}
use Rattle.hx_history.proofs.searched.push_searches.Given as goal

abbrev pub invariant-loop-call : goal.invariant-loop-call
invariant-loop-call l =
    l.searches ++ flat_map (searches_in l.script) (drop l.call-index l.notes) ≡ l.initial.searches ++ flat_map (searches_in l.script) l.notes
