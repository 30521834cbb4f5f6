use Rattle.std.proofs.Common.{rules}
use Rattle.hx_lex.proofs.Plain.{front_is_plain}
use Rattle.hx_lex.proofs.quotes.plain_front.Goals as goal

pub returns-in-Some-eq34 : goal.returns-in-Some-eq34
returns-in-Some-eq34 c =
    front_is_plain c.args.bytes.now c.plain_len-len.result c.plain_len-len.ensures (search rules) (search rules)
