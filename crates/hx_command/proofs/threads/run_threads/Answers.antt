-- All that the laws say of a run on threads, and how its fates were tuned.
use Rattle.std.proofs.Common.{◌≡◌, get_or, slice_get, Some, arith}
use Rattle.std.proofs.lemmas.Option.{slice_get_within, slice_get-get_or}
use Rattle.hx_replay.proofs.Lemmas.{is_lawful}
use Rattle.hx_command.proofs.Handing.{risen_from}
use Rattle.hx_command.proofs.threads.run_threads.Goals as goal

pub returns-clause-ran : goal.returns-clause-ran
returns-clause-ran g c =
    let e = c.in_ok-ran.ensures in
    record {
      ran = e.ran;
      lawful =
          is_lawful (record {
            linear = c.histories_are_linear.ensures;
            orders = c.runs_have_one_order.ensures;
            searches = c.searches_are_true_and_whole.ensures;
            causes = c.answers_have_causes.ensures;
            losses = c.lost_regions_have_lost_their_replicas.ensures;
          }) c.args.script.now c.in_ok-ran.ran.trace c.requires.script e.ran.run;
      fates = e.fates;
    }

pub returns-clause-risen : goal.returns-clause-risen
returns-clause-risen g c i f h t p q r =
    let tuned = c.tune_first.new.fates.items in
    let within = slice_get_within c.args.fates.items i f p in
    let at : slice_get tuned i ≡ Some (get_or tuned i f) = slice_get-get_or tuned i f (omega (arith, c.tune_first.ensures.count, within)) in
    let few = slice_get_within c.in_ok-ran.ran.fates.items i h q in
    let same = c.tune_first.ensures.tuned i f (get_or tuned i f) (omega (arith, c.in_ok-ran.ensures.fates, few)) p at in
    risen_from c.args.script.now c.args.threading.workers c.in_ok-ran.ran.trace i t _ _ _ same (c.in_ok-ran.ensures.risen i (get_or tuned i f) h t at q r)
