-- All that the laws say of what callers shared.
use Rattle.std.proofs.Common.{refl}
use Rattle.hx_replay.proofs.Lemmas.{is_lawful}
use Rattle.hx_command.proofs.shared.share_script.Goals as goal

pub returns : goal.returns
returns g c =
    let shared = c.in_ok-shared.ensures in
    record {
      shared = shared;
      lawful =
          is_lawful (record {
            linear = c.histories_are_linear.ensures;
            orders = c.runs_have_one_order.ensures;
            searches = c.searches_are_true_and_whole.ensures;
            causes = c.answers_have_causes.ensures;
            losses = c.lost_regions_have_lost_their_replicas.ensures;
          }) c.args.script.now c.in_ok-shared.shared.trace c.requires.script shared.run;
      alone = refl;
    }
