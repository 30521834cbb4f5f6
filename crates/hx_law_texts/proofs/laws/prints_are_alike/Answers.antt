use Rattle.hx_law_texts.proofs.Whole.{prints_alike}
use Rattle.hx_law_texts.proofs.laws.prints_are_alike.Goals as goal

pub returns : goal.returns
returns c = prints_alike
