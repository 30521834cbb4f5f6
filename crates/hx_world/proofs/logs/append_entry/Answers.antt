use Rattle.std.proofs.Common.{List, ◌++◌, ap}
use Rattle.hx_model.specs.Types.{PostId}
use Rattle.hx_model.specs.Schedule.{without_delivered}
use Rattle.hx_world.proofs.Numbering.{names_at_last}
use Rattle.hx_world.proofs.logs.append_entry.Goals as goal

pub returns-clause-waiting : goal.returns-clause-waiting
returns-clause-waiting c =
    rw (c.push.ensures, c.drop_delivered.ensures.items, c.len.ensures, c.append.ensures.entries, c.len-posts.ensures)
    (ap (λ (names : List PostId). without_delivered c.args.entry.input c.args.waiting.now.items ++ names) (names_at_last c.args.trace.now.entries c.args.entry))
