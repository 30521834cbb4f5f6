-- Where the entry failed none was made.
use Rattle.hx_service.proofs.Stepped.{none_where_failed}
use Rattle.hx_service.proofs.advancing.make_next.Goals as goal

pub returns-in-Err-clause-err : goal.returns-in-Err-clause-err
returns-in-Err-clause-err c =
    none_where_failed c.args.world.now.script c.args.world.now.trace c.drain.new.self.trace _ c.in-Err.ensures.part c.in-Err.ensures.fails
