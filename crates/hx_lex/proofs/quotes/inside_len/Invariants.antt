use Rattle.std.proofs.Common.{◌≡◌, ◌+◌, false, drop}
use Rattle.hx_lex.specs.Quotes.{inside_len}
use Rattle.hx_lex.proofs.quotes.inside_len.Given as goal

abbrev pub invariant-loop-i : goal.invariant-loop-i
invariant-loop-i l = l.i + inside_len l.behind (drop l.i l.bytes) ≡ inside_len false l.bytes
