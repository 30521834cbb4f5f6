-- The next entry serves, and is booked.
use Rattle.hx_service.proofs.Settled.{next-served}
use Rattle.hx_service.proofs.advancing.advance.Goals as goal

pub returns-clause-serving : goal.returns-clause-serving
returns-clause-serving c =
    record {
      served = next-served c.args.world.now c.has_next.new.world c.make_next.new.world c.has_next.ensures.state
          c.in_ok-make_next.ensures.script c.in_ok-make_next.ensures.ok c.schedules_serve.ensures
          c.book_last.ensures.run c.requires.served;
      progress_is = c.book_last.ensures.progress;
      booked_is = c.book_last.ensures.booked;
    }
