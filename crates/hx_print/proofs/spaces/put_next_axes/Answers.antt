use Rattle.hx_print.proofs.Prefixes.{further, on_err}
use Rattle.hx_print.proofs.spaces.put_next_axes.Goals as goal

pub returns-in_err-put_axis-clause-prefix : goal.returns-in_err-put_axis-clause-prefix
returns-in_err-put_axis-clause-prefix c = on_err _ _
    (further _ _ _ _ c.loop-axis.invariant (further _ _ _ _ c.in_ok-put_bytes.ensures.appends c.in_err-put_axis.ensures.prefix))
