-- The laws over every run, at the service's.
use Rattle.std.proofs.Common.{reverse, subst}
use Rattle.hx_service.specs.Lawful.{IsLawful}
use Rattle.hx_service.specs.Services.{ServiceState}
use Rattle.hx_service.proofs.services.Service.trace.Goals as goal

pub returns-clause-lawful : goal.returns-clause-lawful
returns-clause-lawful c =
    subst (λ (w : ServiceState). IsLawful w.script (reverse w.trace)) c.self.view_is
    (record {
      linear = c.histories_are_linear.ensures c.self.inside.world.script c.trace.ensures.valid (reverse c.self.inside.world.trace) c.trace.ensures.run;
      one_order = c.runs_have_one_order.ensures c.self.inside.world.script c.trace.ensures.valid (reverse c.self.inside.world.trace) c.trace.ensures.run;
      searches = λ caller s found.
          let well = c.searches_are_true_and_whole.ensures c.self.inside.world.script c.trace.ensures.valid
          (reverse c.self.inside.world.trace) c.trace.ensures.run caller s found in
          record { true_rows = well.0; whole = well.1 };
      causes = c.answers_have_causes.ensures c.self.inside.world.script c.trace.ensures.valid (reverse c.self.inside.world.trace) c.trace.ensures.run;
      lost = c.lost_regions_have_lost_their_replicas.ensures c.self.inside.world.script c.trace.ensures.valid
          (reverse c.self.inside.world.trace) c.trace.ensures.run;
    })
