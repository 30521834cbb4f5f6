-- The parts of all runs, and their report.
use Rattle.std.proofs.Common.{◌∙◌, List, ap, length, map, refl, sym}
use Rattle.std.proofs.lemmas.List.{length-map}
use Rattle.std.proofs.lemmas.List.Folds.{flat_map-map}
use Rattle.std.proofs.lemmas.Simd.{map-map}
use Rattle.std.specs.List.{flat_map}
use Rattle.std.specs.Prelude.{reverse}
use Rattle.hx_report.specs.BundleReporting.{IsBundleReport}
use Rattle.hx_types.specs.declared.totals.Totals.{Totals}
use Rattle.hx_types.specs.declared.traces.Entry.{Entry}
use Rattle.hx_command.specs.HandedBack.{space_run}
use Rattle.hx_command.proofs.Parts.{none_empty, of_both}
use Rattle.hx_command.proofs.Spaced.{handed_back}
use Rattle.hx_command.proofs.space_reports.reported.Goals as goal

pub report_bundle-requires-clause-traced : goal.report_bundle-requires-clause-traced
report_bundle-requires-clause-traced g c = ap length (c.as_slice.ensures ∙ c.in_ok-parts.ensures.traces)
    ∙ length-map c.args.runs.items (λ r. r.trace) ∙ c.requires.all

pub report_bundle-requires-clause-driven : goal.report_bundle-requires-clause-driven
report_bundle-requires-clause-driven g c = ap length (c.as_slice-2.ensures ∙ c.in_ok-parts.ensures.totals)
    ∙ length-map c.args.runs.items (λ r. r.totals.items) ∙ c.requires.all

pub returns-clause-handed : goal.returns-clause-handed
returns-clause-handed g c =
    let p = c.in_ok-parts.ensures in
    let t = c.in_ok-threaded.ensures in
    handed_back space_run (λ r. r.fates.items) (λ r. refl {a = length r.fates.items}) c.args.bundle.now.spaces c.args.runs.items _ _ _ _ _ (record {
      traces = t.traces ∙ p.traces ∙ sym (none_empty c.args.bundle.now.spaces (length c.args.runs.items) _ c.requires.all);
      seats = ap (λ v. v.items) t.seats ∙ p.seats;
      totals = t.totals ∙ ap (flat_map (λ l. l)) p.totals ∙ flat_map-map (λ l. l) (λ r. r.totals.items) c.args.runs.items;
      ports = ap (λ v. v.items) t.ports ∙ p.ports;
      fates = ap (λ v. v.items) t.fates ∙ p.fates;
    })

pub returns-clause-fates : goal.returns-clause-fates
returns-clause-fates g c = ap (λ v. v.items) c.in_ok-threaded.ensures.fates ∙ c.in_ok-parts.ensures.fates

pub returns-clause-report : goal.returns-clause-report
returns-clause-report g c =
    let p = c.in_ok-parts.ensures in
    let traces = ap (map (λ (l : List Entry). reverse l)) (c.as_slice.ensures ∙ p.traces)
    ∙ map-map (λ (l : List Entry). reverse l) (λ r. r.trace) c.args.runs.items in
    let totals = c.as_slice-2.ensures ∙ p.totals in
    of_both (λ (a : List (List Entry)) (d : List (List Totals)). IsBundleReport c.args.bundle.now a d
    c.in_ok-bytes.bytes.items c.args.with_trace) _ _ _ _ traces totals c.in_ok-bytes.ensures
