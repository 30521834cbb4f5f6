use Rattle.hx_words.proofs.Names.{one_request}
use Rattle.hx_words.proofs.requests.words_say_one_request.Goals as goal

pub returns : goal.returns
returns c words one other first second = one_request words one other first second
