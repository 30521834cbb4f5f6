use Rattle.std.proofs.Common.{◌≡◌, ◌++◌, take, map}
use Rattle.std.specs.List.{flat_map}
use Rattle.hx_print.specs.Printing.{next_number_text}
use Rattle.hx_print.proofs.numbers.put_next_numbers.Given as goal

abbrev pub invariant-loop-item : goal.invariant-loop-item
invariant-loop-item g l = l.out.items ≡ l.fn.out.items ++ flat_map next_number_text (map g.T.Numbered.number (take l.item-index l.items))
