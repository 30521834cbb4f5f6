use Rattle.std.proofs.Common.{◌≡◌, ◌++◌, take}
use Rattle.hx_print.specs.Printing.{terms_text}
use Rattle.hx_print.proofs.calls.put_terms.Given as goal

abbrev pub invariant-loop-term : goal.invariant-loop-term
invariant-loop-term l = l.out.items ≡ l.fn.out.items ++ terms_text l.space (take l.term-index l.terms)
