use Rattle.hx_print.proofs.Prefixes.{further, on_err}
use Rattle.hx_print.proofs.numbers.put_next_numbers.Goals as goal

pub returns-in_err-put_number-clause-prefix : goal.returns-in_err-put_number-clause-prefix
returns-in_err-put_number-clause-prefix g c = on_err _ _
    (further _ _ _ _ c.loop-item.invariant (further _ _ _ _ c.in_ok-put_bytes.ensures.appends c.in_err-put_number.ensures.prefix))
