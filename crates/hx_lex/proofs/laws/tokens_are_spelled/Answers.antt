use Rattle.hx_lex.proofs.Parts.{tokens_spelled}
use Rattle.hx_lex.proofs.laws.tokens_are_spelled.Goals as goal

pub returns : goal.returns
returns c = tokens_spelled
