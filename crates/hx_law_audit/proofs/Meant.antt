-- Where the verdict is yes, each block is consistent.
use Rattle.hx_law_lemmas.proofs.Lemmas.Vocabulary.{IsIn, suc}
use Rattle.hx_report_lines.specs.declared.blocks.Block.{Block}
use Rattle.hx_report_lines.specs.declared.histories.HistoryLines.{HistoryLines}
use Rattle.hx_audit.specs.declared.verdicts.Clause.TheVariants as clauses
use Rattle.hx_report_lines.specs.Values.{ReportValue}
use Rattle.hx_audit.specs.declared.verdicts.Verdict.TheVariants as verdicts
use Rattle.hx_audit.specs.Verdicts.{IsVerdict}
use Rattle.hx_law_audit.specs.Meaning.{IsConsistent}
use Rattle.hx_law_audit.proofs.Consistent.{LinearLines, answered, at_key, linear_at, no_lines, true_search}
use Rattle.hx_law_audit.proofs.Pieces.{kept_in_calls, kept_in_histories}

pub yes_means : (r : ReportValue) → IsVerdict r verdicts.Yes → (b : Block) → IsIn b r.blocks → IsConsistent b
yes_means r verdict b i =
    let known = kept_in_histories clauses.Foreign r (verdict clauses.Foreign) b i in
    let legal = kept_in_histories clauses.Legal r (verdict clauses.Legal) b i in
    let missing = kept_in_calls clauses.Missing r (verdict clauses.Missing) b i in
    let order = kept_in_histories clauses.Order r (verdict clauses.Order) b i in
    let whole = kept_in_calls clauses.Whole r (verdict clauses.Whole) b i in
    let rows = kept_in_calls clauses.True r (verdict clauses.True) b i in
    let lines = at_key b (LinearLines b) (no_lines b)
    (λ (h : HistoryLines) j. linear_at b h (λ k. known h j (suc k)) (λ k. legal h j (suc k)) (λ k. order h j (suc k))) in
    record {
      linear = λ key. record {
        legal = (lines key).legal;
        answered_once = λ c answer u. answered b (λ l j. missing l j 0) key c answer u;
        honest = record { calls = (lines key).calls; once = (lines key).once };
        in_order = (lines key).in_order;
      };
      whole = λ l s j e key. whole l j 0 key s e;
      true_rows = λ l s j e. true_search b l s e (λ k. rows l j (suc k));
    }
