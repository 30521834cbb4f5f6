use Rattle.std.proofs.Common.{◌≡◌, ◌+◌, false, length}
use Rattle.hx_lex.specs.Quotes.{content}
use Rattle.hx_lex.proofs.Inside.{with_front}
use Rattle.hx_lex.proofs.quotes.content.Given as goal

abbrev pub invariant-bytes : goal.invariant-bytes
invariant-bytes l = record {
  room : l.place + length l.rest ≡ l.at + length l.bytes;
  so_far : with_front l.out.items (content false l.place l.rest) ≡ content false l.at l.bytes;
}

abbrev pub decreases-bytes : goal.decreases-bytes
decreases-bytes l = length l.rest
