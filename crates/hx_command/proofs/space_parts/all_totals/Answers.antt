-- At the end all lists stand there.
use Rattle.hx_command.proofs.Parts.{flat_all}
use Rattle.hx_command.proofs.space_parts.all_totals.Goals as goal

pub returns : goal.returns
returns c = flat_all (λ totals. totals) c.args.lists.now c.loop-totals.totals-index _ c.loop-totals-test.false c.loop-totals.invariant
