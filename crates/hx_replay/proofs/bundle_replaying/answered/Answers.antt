-- The laws over every run, at the run of each space.
use Rattle.std.proofs.Common.{◌∙◌, List, [], ap, length, map}
use Rattle.std.proofs.lemmas.List.Elements.{recursion_from_All}
use Rattle.hx_model.specs.Types.{Entry, Script, Totals}
use Rattle.hx_types.specs.Fitting.{IsScript}
use Rattle.hx_replay.proofs.Coursing.{reported, traces_count}
use Rattle.hx_replay.proofs.Lawful.{AreLaws, are_lawful}
use Rattle.hx_replay.proofs.bundle_replaying.answered.Goals as goal

abbrev no_totals_of : List Script → List (List Totals)
no_totals_of scripts = map (λ (s : Script). []) scripts

pub returns : goal.returns
returns c =
    let whole = c.requires.whole in
    let laws : AreLaws = record {
      linear = c.histories_are_linear.ensures;
      orders = c.runs_have_one_order.ensures;
      searches = c.searches_are_true_and_whole.ensures;
      causes = c.answers_have_causes.ensures;
      losses = c.lost_regions_have_lost_their_replicas.ensures;
    } in
    record {
      course = whole.0;
      is_whole = whole.1;
      lawful = are_lawful laws c.args.bundle.now.spaces c.args.traces
          (recursion_from_All IsScript c.args.bundle.now.spaces c.requires.valid.scripts) whole.1.of_bundle.runs;
      report_is = reported c.args.with_trace c.args.bundle.now c.as_slice-2.result.now c.args.traces
          c.as_slice-3.result.now c.in_ok-bytes.bytes.items c.as_slice-2.ensures
          (c.as_slice-3.ensures ∙ c.in_ok-totals.ensures ∙ ap (λ (s : List Script). no_totals_of s) c.as_slice.ensures) c.in_ok-bytes.ensures;
    }

pub report_bundle-requires-clause-traced : goal.report_bundle-requires-clause-traced
report_bundle-requires-clause-traced c =
    let counted = traces_count c.args.bundle.now c.requires.whole.0 c.args.traces c.requires.whole.1.of_bundle in
    ap (λ (t : List (List Entry)). length t) c.as_slice-2.ensures ∙ counted
