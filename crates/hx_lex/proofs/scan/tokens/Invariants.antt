use Rattle.std.proofs.Common.{◌≡◌, ◌+◌, length}
use Rattle.hx_lex.specs.Lines.{tokens_from, tokens_of}
use Rattle.hx_lex.proofs.Steps.{with_front}
use Rattle.hx_lex.proofs.scan.tokens.Given as goal

abbrev pub invariant-pieces : goal.invariant-pieces
invariant-pieces l = record {
  room : l.start + length l.rest ≡ length l.line;
  so_far : with_front l.tokens (tokens_from l.start 0 l.rest) ≡ tokens_of l.line;
}

abbrev pub decreases-pieces : goal.decreases-pieces
decreases-pieces l = length l.rest
