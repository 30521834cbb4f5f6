use Rattle.hx_law_texts.proofs.Vocabulary.{text_sound}
use Rattle.hx_law_texts.proofs.Only.{only_those}
use Rattle.hx_law_texts.proofs.ToldTexts.{text_told}
use Rattle.hx_law_texts.proofs.Whole.{reads_back}
use Rattle.hx_law_texts.proofs.laws.prints_are_read_back.Goals as goal

pub returns-clause-sayable : goal.returns-clause-sayable
returns-clause-sayable c = reads_back

pub returns-clause-no_other : goal.returns-clause-no_other
returns-clause-no_other c = only_those

pub returns-clause-read : goal.returns-clause-read
returns-clause-read c = λ text s e. reads_back s (text_sound text s e) (text_told text s e)

pub returns-clause-said : goal.returns-clause-said
returns-clause-said c = text_told
