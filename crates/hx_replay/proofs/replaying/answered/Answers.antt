-- The laws over every run, at the run that the schedule gave.
use Rattle.std.specs.Prelude.{reverse}
use Rattle.hx_replay.proofs.replaying.answered.Goals as goal

pub returns : goal.returns
returns c =
    record {
      trace = c.args.trace;
      traces_are = c.in_ok-traces.ensures;
      held =
          record {
            run = c.requires.whole.run;
            taken = c.requires.whole.taken;
            scheduled = c.requires.whole.scheduled;
            few = c.requires.whole.few;
            linear = c.histories_are_linear.ensures c.args.script.now c.requires.valid (reverse c.args.trace) c.requires.whole.run;
            one_order = c.runs_have_one_order.ensures c.args.script.now c.requires.valid (reverse c.args.trace) c.requires.whole.run;
            searches = λ caller s found.
                let well = c.searches_are_true_and_whole.ensures c.args.script.now c.requires.valid
                (reverse c.args.trace) c.requires.whole.run caller s found in
                record { true_rows = well.0; whole = well.1 };
            causes = c.answers_have_causes.ensures c.args.script.now c.requires.valid (reverse c.args.trace) c.requires.whole.run;
            lost = c.lost_regions_have_lost_their_replicas.ensures c.args.script.now c.requires.valid (reverse c.args.trace) c.requires.whole.run;
            report_is = c.in_ok-bytes.ensures;
          };
    }
