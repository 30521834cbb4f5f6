-- The parts of the runs, with an empty trace for each space that was not run.
use Rattle.std.proofs.Common.{◌∙◌, ap, length, map, refl}
use Rattle.std.proofs.lemmas.List.Folds.{flat_map-map}
use Rattle.std.specs.List.{flat_map}
use Rattle.hx_command.specs.HandedBack.{space_run}
use Rattle.hx_command.proofs.Parts.{empty_behind, from_place}
use Rattle.hx_command.proofs.Spaced.{handed_back}
use Rattle.hx_command.proofs.space_reports.worn_parts.Goals as goal

pub returns-clause-handed : goal.returns-clause-handed
returns-clause-handed g c =
    let p = c.in_ok-parts.ensures in
    let t = c.in_ok-threaded.ensures in
    handed_back space_run (λ r. r.fates.items) (λ r. refl {a = length r.fates.items}) c.args.bundle.now.spaces c.args.runs.items _ _ _ _ _ (record {
      traces = t.traces ∙ empty_behind c.args.bundle.now.spaces _ (length c.args.runs.items)
          (map (λ r. r.trace) c.args.runs.items) _ _ p.traces
          (from_place _ _ _ _ c.as_slice.ensures (c.len-run.ensures ∙ c.args.runs.ok.0)) c.in_ok-add_empty.ensures;
      seats = ap (λ v. v.items) t.seats ∙ p.seats;
      totals = t.totals ∙ ap (flat_map (λ l. l)) p.totals ∙ flat_map-map (λ l. l) (λ r. r.totals.items) c.args.runs.items;
      ports = ap (λ v. v.items) t.ports ∙ p.ports;
      fates = ap (λ v. v.items) t.fates ∙ p.fates;
    })

pub returns-clause-fates : goal.returns-clause-fates
returns-clause-fates g c = ap (λ v. v.items) c.in_ok-threaded.ensures.fates ∙ c.in_ok-parts.ensures.fates
