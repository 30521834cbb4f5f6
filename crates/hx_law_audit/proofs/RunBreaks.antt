-- The report of a run breaks nothing.
use Rattle.hx_law_lemmas.proofs.Lemmas.Vocabulary.{[], All-cons, All-nil, inl, inr, refl, subst, sym, ◌∙◌}
use Rattle.hx_report_lines.specs.Values.{IsBlock, IsReportValue}
use Rattle.hx_law_audit.specs.Meaning.{IsConsistent}
use Rattle.hx_law_audit.specs.Running.{RunsBreakNothing}
use Rattle.hx_law_audit.proofs.Kept.{consistent_keeps}
use Rattle.hx_law_audit.proofs.RunBlock.{block_good}
use Rattle.hx_law_audit.proofs.RunConsistent.{consistent, fits, told_listed}
use Rattle.hx_law_audit.proofs.RunText.{block_of, report_of, text_same}

pub runs_break : RunsBreakNothing
runs_break script valid said trace run few totals t bytes with_trace is =
    let b = block_of script trace is.listed totals with_trace in
    let good : IsReportValue (report_of script trace is.listed totals with_trace) =
    record {
      count = inl (refl, refl);
      blocks = All-cons IsBlock b []
          (block_good script valid said trace run few is.listed is.histories totals t with_trace) (All-nil IsBlock);
    } in
    record {
      report = report_of script trace is.listed totals with_trace;
      valid = good;
      text = text_same script trace (fits script valid trace run is.listed is.histories) is.listed
          (told_listed script valid trace run is.listed is.histories) totals with_trace ∙ sym is.text;
      verdict = consistent_keeps (report_of script trace is.listed totals with_trace) good
          (λ c i. elim i [
            | inl e ↦ subst IsConsistent (sym e)
                (consistent script valid trace run is.listed is.histories b refl refl refl)
            | inr j ↦ absurd j
          ]);
    }
