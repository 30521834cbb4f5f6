use Rattle.std.proofs.Common.{◌≡◌, ◌∙◌, ◌+◌, length, ap, sym, subst, arith, Some}
use Rattle.hx_cluster.specs.Clusters.{AreNewSeats}
use Rattle.hx_run.proofs.Leaving.{how-many}
use Rattle.hx_run.proofs.Ends.{left-counts, lowest-of, met-of, ran-of, risen-of}
use Rattle.hx_run.proofs.running.run.Goals as goal

pub run_drivers-requires-clause-seats : goal.run_drivers-requires-clause-seats
run_drivers-requires-clause-seats g c κs within =
    let e = c.in_ok-seats.ensures in
    let n : length c.in_ok-seats.seats.items ≡ 1 + c.args.script.now.space.servers + length
    c.args.script.now.sessions = grind (arith, e.seats.1, c.len.ensures) in
    (subst (λ k. AreNewSeats k c.in_ok-seats.seats.items) (sym e.clock.0) e.seats.0, n ∙ sym (how-many c.args.script.now))

pub gather-requires : goal.gather-requires
gather-requires g c =
    let r = c.in_ok-driven.ensures.closed in
    let e = c.in_ok-seats.ensures in
    let n : length c.in_ok-seats.seats.items ≡ 1 + c.args.script.now.space.servers + length
    c.args.script.now.sessions = grind (arith, e.seats.1, c.len.ensures) in
    record {
      clock = e.clock.1 ∙ sym e.clock.0;
      counting = e.counted.1;
      seats = r.3.seats;
      all = (
        length c.in_ok-seats.seats.items,
        e.counted.0 ∙ ap (λ k. Some k) (sym e.seats.1),
        λ k lt. r.3.numbers k (left-counts c.args.script.now (length c.in_ok-seats.seats.items) k n lt),
      );
    }

pub returns : goal.returns
returns g c =
    let r = c.in_ok-driven.ensures.closed in
    record {
      ran =
          ran-of c.args.script.now c.enrol_all.new.clock c.args.workers r.0 r.1 c.in_ok-driven.driven.fault r.2
          c.runs_of_drivers_are_paced.ensures.own c.runs_of_drivers_are_paced.ensures.paced
          c.runs_of_drivers_are_paced.ensures.rested c.runs_of_drivers_are_paced.ensures.ended
          c.traces_go_on.ensures.more c.traces_go_on.ensures.worn c.puts_are_posts.ensures.posts
          c.in_ok-driven.driven.closed.actors.items c.in_ok-driven.driven.closed.totals.items
          c.in_ok-driven.driven.closed.ports.items r.3 c.in_ok-trace.field-0.trace c.in_ok-trace.ensures.whole
          c.in_ok-trace.ensures.parts c.in_ok-trace.field-0.seat c.in_ok-trace.ensures.clock
          c.in_ok-trace.ensures.drawn c.in_ok-worn.worn c.in_ok-worn.ensures;
      met =
          met-of c.args.script.now c.enrol_all.new.clock c.args.workers r.0 r.1 c.in_ok-driven.driven.fault r.2
          c.runs_of_drivers_are_paced.ensures.own c.runs_of_drivers_are_paced.ensures.paced
          c.runs_of_drivers_are_paced.ensures.rested c.runs_of_drivers_are_paced.ensures.ended
          c.traces_go_on.ensures.more c.traces_go_on.ensures.worn c.puts_are_posts.ensures.posts
          c.in_ok-driven.driven.closed.actors.items c.in_ok-driven.driven.closed.totals.items
          c.in_ok-driven.driven.closed.ports.items r.3 c.in_ok-trace.field-0.trace c.in_ok-trace.ensures.whole
          c.in_ok-trace.ensures.parts c.in_ok-trace.field-0.seat c.in_ok-trace.ensures.clock
          c.in_ok-driven.driven.met_worn.items r.4;
      lowest =
          lowest-of c.args.script.now c.enrol_all.new.clock c.args.workers r.0 r.1 c.in_ok-driven.driven.fault r.2
          c.runs_of_drivers_are_paced.ensures.own c.runs_of_drivers_are_paced.ensures.paced
          c.runs_of_drivers_are_paced.ensures.rested c.runs_of_drivers_are_paced.ensures.ended
          c.traces_go_on.ensures.more c.traces_go_on.ensures.worn c.puts_are_posts.ensures.posts
          c.in_ok-driven.driven.closed.actors.items c.in_ok-driven.driven.closed.totals.items
          c.in_ok-driven.driven.closed.ports.items r.3 c.in_ok-trace.field-0.trace c.in_ok-trace.ensures.whole
          c.in_ok-trace.ensures.parts c.in_ok-worn.worn c.in_ok-worn.ensures c.in_ok-driven.driven.met_worn.items r.4;
      fates = r.5;
      risen = λ i f f' t p q s.
          risen-of c.args.script.now c.enrol_all.new.clock c.args.workers r.0 r.1 c.in_ok-driven.driven.fault r.2
          c.runs_of_drivers_are_paced.ensures.own c.runs_of_drivers_are_paced.ensures.paced
          c.runs_of_drivers_are_paced.ensures.rested c.runs_of_drivers_are_paced.ensures.ended
          c.traces_go_on.ensures.more c.traces_go_on.ensures.worn c.puts_are_posts.ensures.posts
          c.in_ok-driven.driven.closed.actors.items c.in_ok-driven.driven.closed.totals.items
          c.in_ok-driven.driven.closed.ports.items r.3 c.in_ok-trace.field-0.trace c.in_ok-trace.ensures.whole
          c.in_ok-trace.ensures.parts i t _ _ (λ k e. r.6 i f f' k p q e) s;
    }
