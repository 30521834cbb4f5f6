use Rattle.std.proofs.Common.{List, ◌++◌, ap}
use Rattle.hx_model.specs.Types.{PostId}
use Rattle.hx_world.specs.Filing.{ticked_entry}
use Rattle.hx_world.proofs.Numbering.{names_at_last}
use Rattle.hx_world.proofs.logs.append_tick.Goals as goal

pub returns-clause-waiting : goal.returns-clause-waiting
returns-clause-waiting c =
    rw (c.push.ensures, c.len.ensures, c.append_tick.ensures.entries, c.len-number.ensures)
    (ap (λ (names : List PostId). c.args.waiting.now.items ++ names)
    (names_at_last c.args.trace.now.entries (ticked_entry c.args.actor c.args.posts.now c.args.notes.now)))
