use Rattle.std.proofs.Common.{List, ◌++◌, ap}
use Rattle.hx_model.specs.Types.{PostId}
use Rattle.hx_world.specs.Filing.{heard_entry}
use Rattle.hx_world.specs.Names.{names_but}
use Rattle.hx_world.proofs.Heard.{without_heard}
use Rattle.hx_world.proofs.Numbering.{names_at_last}
use Rattle.hx_world.proofs.logs.append_delivery.Goals as goal

pub returns-clause-waiting : goal.returns-clause-waiting
returns-clause-waiting c =
    rw (
      c.push.ensures,
      c.take_out.ensures.items,
      c.len.ensures,
      c.append_delivery.ensures.entries,
      c.len-number.ensures,
      without_heard c.args.trace.now c.args.id c.args.at c.args.waiting.now.items c.requires.lies,
    )
    (
    ap (λ (names : List PostId). names_but c.args.id c.args.waiting.now.items ++ names)
    (names_at_last c.args.trace.now.entries (heard_entry c.args.actor c.args.id c.args.trace.now.entries c.args.posts.now c.args.notes.now))
    )
