use Rattle.hx_lex.proofs.Words.{word_utf8}
use Rattle.hx_lex.proofs.laws.word_is_utf8.Goals as goal

pub returns : goal.returns
returns c = word_utf8
